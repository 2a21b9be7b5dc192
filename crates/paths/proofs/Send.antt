-- A send in the cube: its attempts try permitted paths of it, its answer is as Searches has it, and its scouts are bounded.
-- Assumes nothing.
use mathlib.Core.Path.{◌≡◌, refl}
use mathlib.Core.Logic.{◌⊎◌}
use mathlib.Core.Bool.{Bool, true, false, cond}
use mathlib.Core.List.Memᴰ
use mathlib.Core.List.{List, [], ◌∷◌, map}
use Prim.Native.Nat.{ℕ, ◌+◌, ◌≤◌, ◌<◌}
use native.Mathlib.Omega.{arith}
use lib.Dec.{eqb}
use lib.ListN.{take}
use Rattle.cube.specs.Cube.{largest_dimension}
use Rattle.common.specs.Lists.{◌∈◌, Pairwise}
use Rattle.common.proofs.Lists.{all_cons}
use Rattle.paths.specs.Network.{Network, Path}
use Rattle.paths.specs.Permitted.{Permitted, ComesBefore}
use Rattle.paths.specs.Pass.{PassResult, pass, scouts}
use Rattle.paths.specs.Helix.{helix_path}
use Rattle.paths.specs.Send.{Receive, acknowledged, outcome, Attempt, pass_over, helix_paths, attempted, one_result, send_goes_on, runs}
use Rattle.paths.specs.Sentences.{Free, says_acknowledged, Tries, SearchSays, AttemptSays, AttemptsSay}
use Rattle.paths.specs.CubeNetwork.{Shape, Node, ports, network, send_ports, other_ports, attempts, send}
use Rattle.paths.proofs.CubeNetwork.{port_inside, send_port, other_port, send_ports_rise, cube_nearing, cube_leading, cube_says, scouts_bound}
use Rattle.paths.proofs.FoldedCube.{folded_bound}
use Rattle.paths.proofs.Helix.{helix_permitted, helix_paths_are}
use Rattle.paths.proofs.Tried.{tried_says}
use Rattle.paths.proofs.TriedHelix.{lowest_port, tried_helix, lowest_scouts, vector_scouts, folded_scouts}
use Rattle.paths.proofs.Attempts.{answer_says, runs_stop, runs_on, ports_tried, found_first, runs_say}

-- no more scouts than those of all attempts together
all_scouts : List PassResult → ℕ
all_scouts [] = 0
all_scouts (x ∷ xs) = scouts x + all_scouts xs

runs_most : (r : Receive) (xs : List PassResult) → (runs r xs).scouts ≤ all_scouts xs
unfolding all_scouts
runs_most r [] = unfold runs in omega arith
runs_most r (x ∷ []) = unfold runs in omega arith
runs_most r (x ∷ y ∷ ys) = go (send_goes_on (outcome r x)) refl (runs_most r (y ∷ ys))
  where
    go : (b : Bool) → send_goes_on (outcome r x) ≡ b → (runs r (y ∷ ys)).scouts ≤ all_scouts (y ∷ ys) → (runs r (x ∷ y ∷ ys)).scouts ≤ all_scouts (x ∷ y ∷ ys)
    go true e h = rw (runs_on r x y ys e) (omega (arith, h))
    go false e h = rw (runs_stop r x y ys e) (omega arith)

-- more ports for the first hop, more permitted paths
wider : (N : Network) (s : ℕ) (ps qs : List ℕ) (t : ℕ) (w : Path) → ((p : ℕ) → p ∈ ps → p ∈ qs) → Permitted N s ps t w → Permitted N s qs t w
unfolding Permitted
wider N s ps qs t [] h o = elim o [ ]
wider N s ps qs t (p ∷ w) h o = (h p o.0, o.1)

-- What holds of the attempts of each routing type holds of those of any.
module _ (P : List Attempt → Type 0) (S : Shape) (type vector : ℕ) where
  abbrev given : List ℕ
  given = send_ports S vector

  abbrev others : List ℕ
  others = other_ports S vector

  each_type : P (helix_paths (take 1 given) ∷ []) → P (helix_paths given ∷ []) → P (pass_over given ∷ []) → P (pass_over given ∷ pass_over others ∷ [])
      → P (attempts S type vector)
  unfolding attempts
  each_type fixed helix maze alternate = go (eqb type 3) (eqb type 1) (eqb type 4)
    where
      go : (x y z : Bool)
          → P (cond x (helix_paths (take 1 given) ∷ []) (cond y (helix_paths given ∷ []) (pass_over given ∷ cond z (pass_over others ∷ []) [])))
      go true y z = fixed
      go false true z = helix
      go false false true = alternate
      go false false false = maze

one_rises : (ps : List ℕ) → Pairwise ◌<◌ (take 1 ps)
unfolding Pairwise
one_rises [] = tt
one_rises (p ∷ ps) = ((λ q m. absurd (Memᴰ.not-nil m)), tt)

module _ (S : Shape) where
  -- ports of the cube, rising; and an attempt over such
  CubePorts : List ℕ → Type 0
  CubePorts ps = Pairwise ◌<◌ ps × ((q : ℕ) → q ∈ ps → q ∈ ports S)

  InCube : Attempt → Type 0
  InCube a = CubePorts (ports_tried a)

  -- Every routing type makes such attempts, one at least;
  in_cube : (type vector : ℕ) (a : Attempt) → a ∈ attempts S type vector → InCube a
  unfolding InCube CubePorts ports_tried
  in_cube type vector =
      each_type (λ xs. (a : Attempt) → a ∈ xs → InCube a) S type vector (one lowest) (one given) (one given)
      (all_cons InCube given (one ((send_ports_rise S vector).1, λ q m. ((other_port S vector q).0 m).0)))
    where
      one : {a : Attempt} → InCube a → (b : Attempt) → b ∈ (a ∷ []) → InCube b
      one h = all_cons InCube h (λ b m. absurd (Memᴰ.not-nil m))

      given : CubePorts (send_ports S vector)
      given = ((send_ports_rise S vector).0, λ q m. ((send_port S vector q).0 m).0)

      lowest : CubePorts (take 1 (send_ports S vector))
      lowest = (one_rises (send_ports S vector), λ q m. given.1 q (lowest_port (send_ports S vector) given.0 q m).0)

  -- what they try are permitted paths of the cube;
  pub tries_permitted : (s t type vector : ℕ) (a : Attempt) → a ∈ attempts S type vector → (w : Path) → Tries (network S) s t a w
      → Permitted (network S) s (ports S) t w
  tries_permitted s t type vector a m w h = go a (in_cube type vector a m) h
    where
      go : (a : Attempt) → InCube a → Tries (network S) s t a w → Permitted (network S) s (ports S) t w
      go (pass_over ps) i h = unfold InCube CubePorts ports_tried Tries in wider (network S) s ps (ports S) t w i.1 h
      go (helix_paths ps) i h = unfold InCube CubePorts ports_tried Tries in helix_permitted (network S) s t h.0 h.2 (ports S) (i.1 h.0 h.1)

  -- an acknowledged one takes the first of those that are free, in the order of Order 3;
  pub acknowledged_first : (s t : ℕ) (free : ℕ → ℕ → Bool) (r : Receive) (type vector : ℕ) (a : Attempt) → a ∈ attempts S type vector
      → (w : Path) (k n : ℕ) → AttemptSays (network S) s t free r a (acknowledged w k) n
      → (v : Path) → Tries (network S) s t a v → Free (network S) free s v → (v ≡ w) ⊎ ComesBefore w v
  unfolding InCube CubePorts
  acknowledged_first s t free r type vector a m w k n (says_acknowledged e f) = found_first (network S) s t free a (in_cube type vector a m).0 w n f

  -- and what each comes to is as Searches and Scouts have it.
  search_says : S.dimension ≤ largest_dimension → (free : ℕ → ℕ → Bool) (s t : ℕ) → Node S s → Node S t → (a : Attempt) → InCube a
      → SearchSays (network S) s t free a (attempted (network S) free s t a)
  unfolding SearchSays attempted InCube CubePorts ports_tried
  search_says h free s t i l (pass_over ps) c = cube_says S h free s ps t i l c.0 c.1
  search_says h free s t i l (helix_paths ps) c = (
    map (helix_path (network S) s t) ps,
    helix_paths_are (cube_nearing S t) (cube_leading S h t l) s ps (λ q m. port_inside S s q i (c.1 q m)),
    tried_says (network S) free s _,
  )

  module _ (free : ℕ → ℕ → Bool) (r : Receive) (s vector t : ℕ) where
    -- the pass with the given vector, and the one with the ports that are not in it
    abbrev first : PassResult
    first = pass (network S) free s (send_ports S vector) t

    abbrev second : PassResult
    second = pass (network S) free s (other_ports S vector) t

    -- Routing type 0 answers what its one pass comes to.
    pub maze_answers : send 0 S free r s vector t ≡ one_result r first
    unfolding send attempts attempted runs
    maze_answers = refl

    -- Routing types 1 and 3 answer what trying their helix paths comes to,
    pub helix_answers_lem : send 1 S free r s vector t ≡ one_result r (tried_helix S free s t (send_ports S vector))
    unfolding send attempts attempted runs
    helix_answers_lem = refl

    pub fixed_answers : send 3 S free r s vector t ≡ one_result r (tried_helix S free s t (take 1 (send_ports S vector)))
    unfolding send attempts attempted runs
    fixed_answers = refl

    -- with at most 9 scouts for a path, which makes 72 for the ports of a vector where nothing is folded.
    pub fixed_bounded : S.dimension ≤ largest_dimension → (send 3 S free r s vector t).scouts ≤ 9
    fixed_bounded h = rw fixed_answers (lowest_scouts S free s t h (send_ports S vector))

    pub helix_bounded : S.dimension ≤ largest_dimension → S.fold ≡ 0 → (send 1 S free r s vector t).scouts ≤ 72
    helix_bounded h z = rw helix_answers_lem (vector_scouts S free s t h z vector)

    pub helix_folded : S.dimension ≤ largest_dimension → (send 1 S free r s vector t).scouts ≤ 144
    helix_folded h = rw helix_answers_lem (folded_scouts S free s t h vector)

    -- Routing type 4 stops where the first pass finds a path,
    pub alternate_stops : send_goes_on (outcome r first) ≡ false → send 4 S free r s vector t ≡ one_result r first
    unfolding send attempts attempted
    alternate_stops e = runs_stop r first second [] e

    -- and otherwise answers what the second comes to, with the scouts of both.
    pub alternate_goes_on : send_goes_on (outcome r first) ≡ true
        → send 4 S free r s vector t ≡ record { outcome = outcome r second; scouts = scouts first + scouts second }
    unfolding send attempts attempted runs
    alternate_goes_on e = rw e

    -- what a list of attempts comes to says so of it
    said_of : List Attempt → Type 0
    said_of xs =
        let x = runs r (map (attempted (network S) free s t) xs) in
        AttemptsSay (network S) s t free r xs x.outcome x.scouts

    module _ (type : ℕ) where
      -- A send is as Searches and Scouts have it,
      pub send_says : S.dimension ≤ largest_dimension → Node S s → Node S t
          → AttemptsSay (network S) s t free r (attempts S type vector) (send type S free r s vector t).outcome (send type S free r s vector t).scouts
      unfolding send said_of
      send_says h i l = each_type (λ xs. ((a : Attempt) → a ∈ xs → InCube a) → said_of xs) S type vector all all all all (in_cube type vector)
        where
          all : {a : Attempt} {xs : List Attempt} → ((b : Attempt) → b ∈ (a ∷ xs) → InCube b) → said_of (a ∷ xs)
          all {a} {xs} c = runs_say (network S) s t free r a xs (λ b m. answer_says _ r _ (search_says h free s t i l b (c b m)))

      -- and what bounds the scouts of its attempts bounds those that it reports:
      bounded_by : (most : ℕ) → 9 ≤ most → scouts (tried_helix S free s t (send_ports S vector)) ≤ most → scouts first + scouts second ≤ most → S.dimension ≤ largest_dimension
          → (send type S free r s vector t).scouts ≤ most
      unfolding send attempted all_scouts
      bounded_by most nine helix passes h =
          each_type (λ xs. (runs r (map (attempted (network S) free s t) xs)).scouts ≤ most) S type vector
          (omega (arith, lowest_scouts S free s t h (send_ports S vector), runs_most r (tried_helix S free s t (take 1 (send_ports S vector)) ∷ [])))
          (omega (arith, helix, runs_most r (tried_helix S free s t (send_ports S vector) ∷ [])))
          (omega (arith, passes, runs_most r (first ∷ [])))
          (omega (arith, passes, runs_most r (first ∷ second ∷ [])))

      -- no more than 123,300 where nothing is folded,
      pub send_bounded : S.dimension ≤ largest_dimension → S.fold ≡ 0 → (send type S free r s vector t).scouts ≤ 123300
      send_bounded h z = bounded_by 123300 (omega arith) (omega (arith, vector_scouts S free s t h z vector)) (scouts_bound S h z s t vector free free) h

      -- and whatever is folded, so many that they fit 32 bits.
      pub send_folded : S.dimension ≤ largest_dimension → (send type S free r s vector t).scouts ≤ 35099560
      send_folded h = bounded_by 35099560 (omega arith) (omega (arith, folded_scouts S free s t h vector)) (folded_bound S h s t vector free free) h
