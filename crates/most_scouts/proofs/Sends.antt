-- A send in the cube, of any routing type: route rejected it has sent no more scouts than there are beginnings that have not arrived, and otherwise at most one more.
-- Assumes nothing.
use mathlib.Core.Path.{◌≡◌, refl, ◌∙◌}
use mathlib.Core.Logic.{◌≢◌}
use mathlib.Core.Bool.{Bool, true, false, cond, not}
use mathlib.Core.List.{List, [], ◌∷◌, map}
use Prim.Native.Nat.{ℕ, suc, ◌+◌, ◌≤◌}
use native.Mathlib.Omega.{arith}
use lib.Dec.{eqb}
use lib.ListN.{length, take}
use Rattle.std.specs.List.{sum_by}
use Rattle.std.proofs.lemmas.List.Sums.{sum_by-take-le}
use Rattle.common.specs.Lists.{◌∈◌, keep}
use Rattle.common.proofs.Tests.{clash}
use Rattle.cube.specs.Bits.{has}
use Rattle.cube.specs.Cube.{largest_dimension, next}
use Rattle.cube.specs.Axes.{axis}
use Rattle.paths.specs.Network.{Path, free_path}
use Rattle.paths.specs.Pass.{PassResult, none, found, whole, beginnings, pass, scouts}
use Rattle.paths.specs.Send.{Receive, lowest_available, none_available, route_rejected, outcome_of_path, outcome, pass_over, helix_paths, attempted, SendResult, one_result, send_goes_on, runs}
use Rattle.paths.specs.CubeNetwork.{Shape, Node, ports, network, send_ports, other_ports, attempts, send}
use Rattle.paths.proofs.CubeNetwork.{port_inside, send_port, other_port, cube_nearing, cube_leading}
use Rattle.paths.proofs.Attempts.{goes_on_after}
use Rattle.most_scouts.proofs.Sums.{sum_parts}
use Rattle.most_scouts.specs.Unarrived.{most_sent}
use Rattle.most_scouts.proofs.Walks.{short_beginnings}
use Rattle.most_scouts.proofs.Weight.{weight, weight_least, weight_counts, all_ports}
use Rattle.most_scouts.proofs.Within.{AtMost, within_more, scan_within, tried_within}

-- what a send comes to is within n: route rejected it has sent n scouts at most, and otherwise n + 1
abbrev pub Bounds : ℕ → SendResult → Type 0
Bounds n x = (x.outcome ≡ route_rejected → x.scouts ≤ n) × (x.scouts ≤ suc n)

path_found : (w : Path) (r : Receive) → outcome_of_path w r ≢ route_rejected
unfolding outcome_of_path send_goes_on
path_found w (lowest_available c) e = clash ((goes_on_after _).1 e) refl
path_found w none_available e = clash ((goes_on_after _).1 e) refl

one_bound : (r : Receive) (n : ℕ) (x : PassResult) → AtMost n x → Bounds n (one_result r x)
unfolding AtMost outcome scouts
one_bound r n (none c) h = ((λ e. h), omega arith)
one_bound r n (found w c) h = ((λ e. absurd (path_found w r e)), h)

two_bound : (r : Receive) (m n : ℕ) (x y : PassResult) → AtMost m x → AtMost n y → Bounds (m + n) (runs r (x ∷ y ∷ []))
unfolding runs
two_bound r m n (none c) y h i =
    let k = one_bound r n y i in
    unfold AtMost outcome send_goes_on scouts in ((λ e. let l = k.0 e in omega arith), (let l = k.1 in omega arith))
two_bound (lowest_available k) m n (found w c) y h i = unfold AtMost outcome outcome_of_path send_goes_on scouts in ((λ e. absurd (path_found w (lowest_available k) (unfold outcome_of_path in e))), omega arith)
two_bound none_available m n (found w c) y h i = unfold AtMost outcome outcome_of_path send_goes_on scouts in ((λ e. absurd (path_found w none_available (unfold outcome_of_path in e))), omega arith)

bounds_more : (m n : ℕ) (x : SendResult) → m ≤ n → Bounds m x → Bounds n x
bounds_more m n x h i = ((λ e. let k = i.0 e in omega arith), (let k = i.1 in omega arith))

module _ (S : Shape) (h : S.dimension ≤ largest_dimension) (free : ℕ → ℕ → Bool) (s t : ℕ) (source : Node S s) (target : Node S t) where
  -- the beginnings behind a port of the source that have not arrived
  behind : ℕ → ℕ
  behind q = weight S t (next s q)

  InCube : List ℕ → Type 0
  InCube ps = (q : ℕ) → q ∈ ps → q ∈ ports S

  pass_within : (ps : List ℕ) → InCube ps → AtMost (sum_by behind ps) (pass (network S) free s ps t)
  unfolding network pass InCube behind
  pass_within ps there =
      let count : length (keep (λ w. not (whole (network S) t s w)) (beginnings (network S) s ps t)) ≡ sum_by (λ q. weight S t ((network S).next s q)) ps =
      short_beginnings (network S) t (cube_nearing S t) (cube_leading S h t target) (weight_counts S t h target) s ps (λ q m. port_inside S s q source (there q m)) in
      let few : 0 + length (keep (λ w. not (whole (network S) t s w)) (beginnings (network S) s ps t)) ≤ sum_by (λ q. weight S t (next s q)) ps = omega (arith, count) in
      within_more _ _ _ few (scan_within (free_path (network S) free s) (whole (network S) t s) (beginnings (network S) s ps t) 0)

  helix_within : (ps : List ℕ) → AtMost (sum_by behind ps) (attempted (network S) free s t (helix_paths ps))
  unfolding attempted behind
  helix_within ps =
      let none_before : 0 + sum_by (λ q. weight S t (next s q)) ps ≤ sum_by (λ q. weight S t (next s q)) ps = omega arith in
      within_more _ _ _ none_before (tried_within (network S) free s t (λ q. weight S t (next s q)) ps 0 (λ q m. unfold network in weight_least S t (next s q)))

  shared : (vector : ℕ) → sum_by behind (send_ports S vector) + sum_by behind (other_ports S vector) ≡ most_sent S s t
  unfolding behind send_ports other_ports
  shared vector = sum_parts (λ q. weight S t (next s q)) (λ q. has vector (axis q)) (ports S) ∙ all_ports S t h s

  pub send_bounds : (r : Receive) (type vector : ℕ) → Bounds (most_sent S s t) (send type S free r s vector t)
  unfolding send attempts attempted
  send_bounds r type vector = go (eqb type 3) (eqb type 1) (eqb type 4)
    where
      given : List ℕ
      given = send_ports S vector

      others : List ℕ
      others = other_ports S vector

      all : sum_by behind given + sum_by behind others ≡ most_sent S s t
      all = shared vector

      maze : AtMost (sum_by behind given) (pass (network S) free s given t)
      maze = pass_within given (unfold InCube in λ q m. ((send_port S vector q).0 m).0)

      alternate : AtMost (sum_by behind others) (pass (network S) free s others t)
      alternate = pass_within others (unfold InCube in λ q m. ((other_port S vector q).0 m).0)

      go : (x y z : Bool)
          → Bounds (most_sent S s t) (runs r (map (attempted (network S) free s t) (cond x (helix_paths (take 1 given) ∷ []) (cond y (helix_paths given ∷ []) (pass_over given ∷ cond z (pass_over others ∷ []) [])))))
      go true y z = unfold runs in bounds_more _ _ _ (omega (arith, all, sum_by-take-le behind given 1)) (one_bound r _ _ (helix_within (take 1 given)))
      go false true z = unfold runs in bounds_more _ _ _ (omega (arith, all)) (one_bound r _ _ (helix_within given))
      go false false true = bounds_more _ _ _ (omega (arith, all)) (two_bound r _ _ _ _ maze alternate)
      go false false false = unfold runs in bounds_more _ _ _ (omega (arith, all)) (one_bound r _ _ maze)
