-- The helix paths of a list of ports, tried in turn: which of them is found, and how many scouts they send.
-- Assumes nothing.
use mathlib.Core.Path.{◌≡◌, refl, ap}
use mathlib.Core.Logic.{◌⊎◌, inl, inr, ⊎_elim}
use mathlib.Core.Bool.{Bool}
use mathlib.Core.List.Memᴰ
use mathlib.Core.List.{List, [], ◌∷◌, ◌++◌, map}
use Prim.Native.Nat.{ℕ, suc, ◌*◌, ◌≤◌, ◌<◌}
use native.Mathlib.Omega.{arith}
use native.Mathlib.Nat.{le_refl, le_trans, mul-le-mul}
use lib.ListN.{length, take, length-map}
use Rattle.cube.specs.Cube.{largest_dimension}
use Rattle.common.specs.Lists.{◌∈◌, Pairwise}
use Rattle.common.proofs.Lists.{all_cons, all_map, pairwise_at}
use Rattle.cube.proofs.Order.{length_ports}
use Rattle.paths.specs.Network.{Network, Path}
use Rattle.paths.specs.Permitted.{Before, ComesBefore}
use Rattle.paths.specs.Pass.{PassResult, scouts}
use Rattle.paths.specs.Helix.{helix_path, try_paths, IsHelix, HelixPaths, no_path, path_more, TriedFound, TriedNone}
use Rattle.paths.specs.Sentences.{Free}
use Rattle.paths.specs.CubeNetwork.{Shape, network, send_ports}
use Rattle.paths.proofs.CubeNetwork.{distance_within, unfolded_send_ports}
use Rattle.paths.proofs.FoldedCube.{send_ports_few}
use Rattle.paths.proofs.Helix.{helix_only, helix_short}
use Rattle.paths.proofs.Tried.{tried_sends}

-- the helix paths of a list of ports: each belongs to a port, and each port has one
module _ (N : Network) (s t : ℕ) where
  port_of : {ps : List ℕ} {ws : List Path} {w : Path} → HelixPaths N s t ps ws → w ∈ ws → (p : ℕ) × (p ∈ ps) × IsHelix N s t p w
  port_of no_path m = absurd (Memᴰ.not-nil m)
  port_of (path_more {p} h hs) (Memᴰ.head e) = (p, Memᴰ.head refl, rw e h)
  port_of (path_more h hs) (Memᴰ.tail m) = let r = port_of hs m in (r.0, Memᴰ.tail r.1, r.2)

  path_of_lem : {ps : List ℕ} {ws : List Path} {p : ℕ} → HelixPaths N s t ps ws → p ∈ ps → (w : Path) × (w ∈ ws) × IsHelix N s t p w
  path_of_lem no_path m = absurd (Memᴰ.not-nil m)
  path_of_lem (path_more {w = x} h hs) (Memᴰ.head e) = (x, Memᴰ.head refl, rw e h)
  path_of_lem (path_more h hs) (Memᴰ.tail m) = let r = path_of_lem hs m in (r.0, Memᴰ.tail r.1, r.2)

  -- at a place among the paths stands the path of the port at that place
  pub record Placed (ps : List ℕ) (before : List Path) (w : Path) : Type 0 where
    pub port : ℕ
    pub earlier : List ℕ
    pub later : List ℕ
    pub place : ps ≡ earlier ++ port ∷ later
    pub is_helix : IsHelix N s t port w
    pub paths : HelixPaths N s t earlier before

  placed : (ps : List ℕ) (before : List Path) (w : Path) (after : List Path) → HelixPaths N s t ps (before ++ w ∷ after) → Placed ps before w
  placed _ [] w after (path_more {p} {ps = ps} h hs) = record { port = p; earlier = []; later = ps; place = refl; is_helix = h; paths = no_path }
  placed _ (x ∷ before) w after (path_more {p} {ps = ps} h hs) =
      let r = placed ps before w after hs in
      record {
        port = r.port;
        earlier = p ∷ r.earlier;
        later = r.later;
        place = ap (p ∷◌) r.place;
        is_helix = r.is_helix;
        paths = path_more h r.paths;
      }

  -- the path of a lower port comes first
  lower_first : {p q : ℕ} {w v : Path} → p < q → IsHelix N s t p w → IsHelix N s t q v → ComesBefore w v
  unfolding Before
  lower_first l h k = rw (h.first.1, k.first.1) (inl l)

  module _ (free : ℕ → ℕ → Bool) (ps : List ℕ) {ws : List Path} (paths : HelixPaths N s t ps ws) where
    -- What is found is the helix path of one of the ports, and free;
    pub tried_helix_lem : {w : Path} {c : ℕ} → TriedFound N free s ws w c → (p : ℕ) × (p ∈ ps) × IsHelix N s t p w
    tried_helix_lem {w} f = port_of paths (rw f.place (Memᴰ.append_right f.before (Memᴰ.head refl)))

    -- where the ports rise, it is the first of those that are free, in the order of Order 3;
    pub tried_first : Pairwise ◌<◌ ps → {w : Path} {c : ℕ} → TriedFound N free s ws w c
        → (q : ℕ) → q ∈ ps → (v : Path) → IsHelix N s t q v → Free N free s v → (v ≡ w) ⊎ ComesBefore w v
    tried_first rise {w} f q m v k i = ⊎_elim earlier (⊎_elim same later) (where_is r.earlier (rw r.place at m))
      where
        r : Placed ps f.before w
        r = placed ps f.before w f.after (rw f.place at paths)

        order : ((x : ℕ) → x ∈ r.later → r.port < x)
        order = (pairwise_at ◌<◌ r.earlier r.port r.later (rw r.place at rise)).2

        where_is : (xs : List ℕ) → q ∈ (xs ++ r.port ∷ r.later) → (q ∈ xs) ⊎ ((q ≡ r.port) ⊎ (q ∈ r.later))
        where_is xs m = ⊎_elim inl (λ k. inr (Memᴰ.cases_cons k)) (Memᴰ.append_cases xs m)

        earlier : q ∈ r.earlier → (v ≡ w) ⊎ ComesBefore w v
        earlier m = let x = path_of_lem r.paths m in absurd (f.first x.0 x.1 (rw (helix_only N s t q x.2 k) i))

        same : q ≡ r.port → (v ≡ w) ⊎ ComesBefore w v
        same e = inl (helix_only N s t q k (rw e r.is_helix))

        later : q ∈ r.later → (v ≡ w) ⊎ ComesBefore w v
        later m = inr (lower_first (order q m) r.is_helix k)

    -- and where nothing is found, none of them is free.
    pub tried_nothing : {c : ℕ} → TriedNone N free s ws c → (p : ℕ) → p ∈ ps → (w : Path) → IsHelix N s t p w → Free N free s w → ⊥
    tried_nothing f p m w h i = let x = path_of_lem paths m in f.nothing x.0 x.1 (rw (helix_only N s t p x.2 h) i)

-- the first of a list of ports that rise is the lowest of them
pub lowest_port : (ps : List ℕ) → Pairwise ◌<◌ ps → (p : ℕ) → p ∈ take 1 ps → (p ∈ ps) × ((q : ℕ) → q ∈ ps → p ≤ q)
unfolding Pairwise
lowest_port [] rise p m = absurd (Memᴰ.not-nil m)
lowest_port (x ∷ ps) rise p m =
    let e : p ≡ x = Memᴰ.eq_of_singleton m in
    rw e (Memᴰ.head refl, all_cons (λ q. x ≤ q) (le_refl x) (λ q k. omega (arith, rise.0 q k)))

module _ (S : Shape) (free : ℕ → ℕ → Bool) (s t : ℕ) where
  -- In the cube the helix paths of some ports, tried in turn, send at most D + 1 scouts each,
  abbrev pub tried_helix : List ℕ → PassResult
  tried_helix ps = try_paths (network S) free s 0 (map (helix_path (network S) s t) ps)

  pub helix_scouts : (ps : List ℕ) → scouts (tried_helix ps) ≤ length ps * suc S.dimension
  helix_scouts ps =
      let sent = tried_sends (network S) free s (suc S.dimension) (map (helix_path (network S) s t) ps) 0 short in
      omega (arith, rw (length-map ps (helix_path (network S) s t)) at sent)
    where
      short : (w : Path) → w ∈ map (helix_path (network S) s t) ps → length w ≤ suc S.dimension
      short =
          all_map (λ w. length w ≤ suc S.dimension) (helix_path (network S) s t) ps
          (λ p m. omega (arith, helix_short (network S) s t p, distance_within S t ((network S).next s p)))

  -- which is 9 for one port
  pub lowest_scouts : S.dimension ≤ largest_dimension → (ps : List ℕ) → scouts (tried_helix (take 1 ps)) ≤ 9
  lowest_scouts h [] = omega (arith, helix_scouts [])
  lowest_scouts h (p ∷ ps) = omega (arith, helix_scouts (p ∷ []))

  -- and 72 for those of any vector, where nothing is folded.
  pub vector_scouts : S.dimension ≤ largest_dimension → S.fold ≡ 0 → (v : ℕ) → scouts (tried_helix (send_ports S v)) ≤ 72
  vector_scouts h z v =
      let most : suc S.dimension ≤ 9 = omega arith in le_trans (helix_scouts (send_ports S v)) (mul-le-mul few most)
    where
      few : length (send_ports S v) ≤ 8
      few = rw (unfolded_send_ports S h z v) (omega (arith, length_ports S.dimension v))

  -- Whatever is folded, a vector has at most 16 ports, which makes 144.
  pub folded_scouts : S.dimension ≤ largest_dimension → (v : ℕ) → scouts (tried_helix (send_ports S v)) ≤ 144
  folded_scouts h v = let most : suc S.dimension ≤ 9 = omega arith in le_trans (helix_scouts (send_ports S v)) (mul-le-mul (send_ports_few S h v) most)
