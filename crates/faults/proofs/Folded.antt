-- A folded cube contains the unfolded one: twice where every dimension is folded, by its own ports and by their partners. So what few failing links cannot do there,
-- they cannot do here.
-- Assumes nothing.
use mathlib.Core.Path.{◌≡◌, refl, ap, ◌∙◌}
use mathlib.Core.Logic.{⊎_elim}
use mathlib.Core.Bool.{Bool, false, not}
use mathlib.Core.List.Memᴰ
use mathlib.Core.List.{List, [], ◌∷◌, map}
use Prim.Native.Nat.{ℕ, ◌*◌, ◌≤◌, ◌<◌}
use native.Mathlib.Omega.{arith}
use lib.Dec.{ltb}
use lib.ListN.{length}
use borrow.Author.Tests.{lt-ltb, le-ltb}
use Rattle.common.specs.Lists.{◌∈◌, keep}
use Rattle.common.proofs.Tests.{below_or}
use Rattle.common.proofs.Lists.{mem_keep, length_parts}
use Rattle.cube.specs.Bits.{flip}
use Rattle.cube.specs.Axes.{axis, partner}
use Rattle.cube.specs.Cube.{largest_dimension, uphill}
use Rattle.cube.proofs.Axes.{axis_low, present_low}
use Rattle.cube.proofs.PartnerPorts.{axis_partner, present_partner, partner_back}
use Rattle.paths.specs.Network.{Path, Link, links}
use Rattle.paths.specs.Permitted.{Onward, Permitted}
use Rattle.paths.specs.Helix.{helix_path}
use Rattle.paths.specs.Waiting.{AllEnabled, SomePathEnabled}
use Rattle.paths.specs.CubeNetwork.{Shape, unfolded, Node, network, ports, send_ports, attempts}
use Rattle.paths.proofs.Links.{On}
use Rattle.paths.proofs.Apart.{permitted_ports, permitted_inside}
use Rattle.paths.proofs.Helix.{helix_permitted, cube_helix}
use Rattle.paths.proofs.FoldedCube.{port_listed}
use Rattle.paths.proofs.CubeNetwork.{offered_port, port_offered, unfolded_port}
use Rattle.faults.specs.Faults.{failing, full_vector, MazeType, AllFolded}
use Rattle.faults.specs.Theorems.{FoldedNeverReject, AllFoldedNeverReject}
use Rattle.faults.proofs.HelixApart.{Own, own_once, own_links}
use Rattle.faults.proofs.Counted.{one_passes}
use Rattle.faults.proofs.FreeHelix.{failing_links, in_failing, every_port, by_pass, routes_not_rejected}

-- For each port p below D another of the same axis, `to p`, which tells p by `back`:
module _ (S : Shape) (fits : S.dimension ≤ largest_dimension) (to back : ℕ → ℕ)
    (there : (p : ℕ) → p < S.dimension → to p ∈ ports S) (same : (p : ℕ) → p < S.dimension → axis (to p) ≡ axis p) (known : (p : ℕ) → p < S.dimension → back (to p) ≡ p) where
  abbrev flat : Shape
  flat = unfolded S.dimension

  low : (p : ℕ) → p ∈ ports flat → p < S.dimension
  low p m = (unfolded_port flat fits refl p).0 m

  -- a way on in the unfolded cube, over those ports, is one in the folded cube,
  onward_to : (t n : ℕ) (w : Path) → Onward (network flat) t n w → Onward (network S) t n (map to w)
  unfolding Onward network
  onward_to t n [] o = o
  onward_to t n (p ∷ w) o =
      let u = offered_port flat t n p o.1 in
      let e = same p (low p u.0) in
      (o.0, port_offered S t n (to p) (there p (low p u.0)) (ap (uphill t n) e ∙ u.1), rw e (onward_to t (flip n (axis p)) w o.2))

  permitted_to : (s t : ℕ) (w : Path) → Permitted (network flat) s (ports flat) t w → Permitted (network S) s (ports S) t (map to w)
  unfolding Permitted network
  permitted_to s t [] o = o
  permitted_to s t (p ∷ w) o = (there p (low p o.0), rw (same p (low p o.0)) (onward_to t (flip s (axis p)) w o.1))

  -- and each of its links is one of the unfolded path, over the other port.
  links_to : (n : ℕ) (w : Path) → ((p : ℕ) → p ∈ w → p < S.dimension) → (l : Link) → l ∈ links (network S) n (map to w)
      → (k : Link) × (k ∈ links (network flat) n w) × (l ≡ (k.0, to k.1)) × (k.1 < S.dimension)
  unfolding links network
  links_to n [] h l m = absurd (Memᴰ.not-nil m)
  links_to n (p ∷ w) h l m =
      let here : p < S.dimension = h p (Memᴰ.head refl) in
      ⊎_elim (λ e. ((n, p), Memᴰ.head refl, e, here))
      (λ k. let r = links_to (flip n (axis p)) w (λ q i. h q (Memᴰ.tail i)) l (rw (same p here) at k) in (r.0, Memᴰ.tail r.1, r.2, r.3)) (Memᴰ.cases_cons m)

  -- So where fewer than D of the links over those ports fail, one of D paths passes.
  module _ (free : ℕ → ℕ → Bool) (s t : ℕ) (source : Node S s) (target : Node S t) where
    path : ℕ → Path
    path p = helix_path (network flat) s t p

    permitted : (p : ℕ) → p < S.dimension → Permitted (network flat) s (ports flat) t (path p)
    unfolding path
    permitted p l =
        let m = (unfolded_port flat fits refl p).1 l in
        helix_permitted (network flat) s t p (cube_helix flat fits s t p source target m) (ports flat) m

    its_links : (p : ℕ) → p < S.dimension → (l : Link) → l ∈ links (network S) s (map to (path p))
        → (k : Link) × (k ∈ links (network flat) s (path p)) × (l ≡ (k.0, to k.1)) × (k.1 < S.dimension)
    its_links p i = links_to s (path p) (λ q m. low q (permitted_ports flat s t (path p) (permitted p i) q m))

    inside : (p : ℕ) → p < S.dimension → (l : Link) → l ∈ links (network S) s (map to (path p)) → Node S l.0
    unfolding On
    inside p i l m = ((permitted_inside S s t _ source (permitted_to s t (path p) (permitted p i))).0 l.0 l.1 m).0

    pub passes_to : (ls : List Link) → ((n p : ℕ) → Node S n → p < S.dimension → free n (to p) ≡ false → ◌∈◌ {A = Link} (n, to p) ls) → length ls < S.dimension
        → (w : Path) × Permitted (network S) s (ports S) t w × AllEnabled (network S) free s w
    unfolding path
    passes_to ls counted few =
        let x = one_passes (network S) free s S.dimension (λ p. map to (path p)) (λ p l. Own s p l.0 (back l.1)) (λ p q l. own_once s p q l.0 (back l.1)) touch ls fails few in
        (map to (path x.0), permitted_to s t (path x.0) (permitted x.0 x.1), x.2)
      where
        touch : (p : ℕ) → p < S.dimension → (l : Link) → l ∈ links (network S) s (map to (path p)) → Own s p l.0 (back l.1)
        touch p i l m = let k = its_links p i l m in rw (k.2, known k.0.1 k.3) (own_links S.dimension fits s t p i k.0 k.1)

        fails : (p : ℕ) → p < S.dimension → (l : Link) → l ∈ links (network S) s (map to (path p)) → free l.0 l.1 ≡ false → l ∈ ls
        fails p i l m e = let k = its_links p i l m in rw k.2 (counted k.0.0 k.0.1 (rw k.2 at (inside p i l m)) k.3 (rw k.2 at e))

-- Whatever is folded, the ports below D are there.
module _ (S : Shape) (fits : S.dimension ≤ largest_dimension) where
  own_port : (p : ℕ) → p < S.dimension → p ∈ ports S
  own_port p l = port_listed S p (present_low S.dimension S.fold p (omega (arith, l, fits)) ∙ lt-ltb p S.dimension l)

  own_axis : (p : ℕ) → p < S.dimension → axis p ≡ p
  own_axis p l = axis_low p (omega (arith, l, fits))

  partner_port : AllFolded S → (p : ℕ) → p < S.dimension → partner p ∈ ports S
  partner_port all p l = port_listed S (partner p) (present_partner S.dimension S.fold p (omega (arith, l, fits)) ∙ (rw (lt-ltb p S.dimension l) (all p l)))

  partner_high : (p : ℕ) → p < S.dimension → 9 ≤ partner p
  unfolding partner
  partner_high p l = omega (arith, l, fits)

  partner_known : (p : ℕ) → p < S.dimension → partner (partner p) ≡ p
  partner_known p l = partner_back p (omega (arith, l, fits))

  module _ (free : ℕ → ℕ → Bool) (s t : ℕ) (source : Node S s) (target : Node S t) where
    abbrev Passes : Type 0
    Passes = (w : Path) × Permitted (network S) s (ports S) t w × AllEnabled (network S) free s w

    -- so fewer than D failing links leave a path over them,
    own_passes : (ls : List Link) → ((n p : ℕ) → Node S n → p < S.dimension → free n p ≡ false → ◌∈◌ {A = Link} (n, p) ls) → length ls < S.dimension → Passes
    own_passes ls counted few =
        let x = passes_to S fits (λ p. p) (λ p. p) own_port (λ p l. refl) (λ p l. refl) free s t source target ls counted few in x

    few_pass : failing S free < S.dimension → Passes
    unfolding failing
    few_pass few = own_passes (failing_links S free) (λ n p i l e. in_failing S free n p i (own_port p l) e) few

    -- and fewer than 2 D leave one over them or over their partners, where all are there.
    module _ (all : AllFolded S) where
      partners_pass : (ls : List Link) → ((n p : ℕ) → Node S n → p < S.dimension → free n (partner p) ≡ false → ◌∈◌ {A = Link} (n, partner p) ls) → length ls < S.dimension → Passes
      partners_pass ls counted few =
          let x = passes_to S fits partner partner (partner_port all) (λ p l. axis_partner p (omega (arith, l, fits))) partner_known free s t source target ls counted few in x

      below : Link → Bool
      below l = ltb l.1 9

      two_pass : failing S free < 2 * S.dimension → Passes
      unfolding failing below
      two_pass few =
          ⊎_elim
          (λ k. own_passes (keep below (failing_links S free)) (λ n p i l e. mem_keep below (failing_links S free) (in_failing S free n p i (own_port p l) e) (lt-ltb p 9 (omega (arith, l, fits)))) k)
          (λ k. partners_pass (keep (λ (l : Link). not (below l)) (failing_links S free)) (λ n p i l e.
          mem_keep (λ (l : Link). not (below l)) (failing_links S free) (in_failing S free n (partner p) i (partner_port all p l) e) (ap not (le-ltb (partner p) 9 (partner_high p l))))
          (omega (arith, k, few, length_parts below (failing_links S free)))) (below_or S.dimension (length (keep below (failing_links S free))))

    over_all : (w : Path) → Permitted (network S) s (ports S) t w → Permitted (network S) s (send_ports S (full_vector S.dimension)) t w
    unfolding Permitted
    over_all [] o = o
    over_all (p ∷ w) o = (every_port S fits p o.0, o.1)

    -- It is a path of a send of type 0 or 4 over all ports.
    routes : (y : ℕ) → MazeType y → Passes → SomePathEnabled (network S) free s t (attempts S y (full_vector S.dimension))
    routes y k x = by_pass S free s t (full_vector S.dimension) y k x.0 (over_all x.0 x.1) x.2

    pub folded_routes : failing S free < S.dimension → (y : ℕ) → MazeType y → SomePathEnabled (network S) free s t (attempts S y (full_vector S.dimension))
    folded_routes few y k = routes y k (few_pass few)

    pub all_folded_routes : AllFolded S → failing S free < 2 * S.dimension → (y : ℕ) → MazeType y → SomePathEnabled (network S) free s t (attempts S y (full_vector S.dimension))
    all_folded_routes all few y k = routes y k (two_pass all few)

pub folded_never_reject : FoldedNeverReject
folded_never_reject S fits free few r s t y i j k = routes_not_rejected S fits free r s t y (full_vector S.dimension) i j (folded_routes S fits free s t i j few y k)

pub all_folded_never_reject : AllFoldedNeverReject
all_folded_never_reject S fits all free few r s t y i j k = routes_not_rejected S fits free r s t y (full_vector S.dimension) i j (all_folded_routes S fits free s t i j all few y k)
