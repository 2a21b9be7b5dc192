-- A path over ports of a cube that takes no axis twice behind its first hop, as the code tests it: each axis that is taken leaves the vector of ports. It is the
-- permitted one.
-- Assumes nothing.
use mathlib.Core.Path.{◌≡◌, refl, ap, ap₂, sym, ◌∙◌}
use mathlib.Core.Logic.{⊎_elim}
use mathlib.Core.Bool.{Bool, true, false, not, ◌&&◌, and-false}
use mathlib.Core.List.Memᴰ
use mathlib.Core.List.{List, [], ◌∷◌}
use Prim.Native.Nat.{ℕ, ◌+◌, ◌-◌, ◌^◌, ◌≤◌, ◌<◌}
use native.Mathlib.Nat.{lt_of_le_of_lt}
use native.Mathlib.Omega.{arith}
use lib.Dec.{eqb, ltb}
use lib.Bits.{bit_xor, bit_and, xor_lt, and_le_l}
use lib.ListN.{length, get_or, take, drop, drop_of_length-le}
use borrow.Author.Tests.{ne_eqb, eqb-false, not-true}
use Rattle.std.specs.List.{list_all}
use Rattle.std.proofs.lemmas.List.{take_all}
use Rattle.common.specs.Lists.{◌∈◌}
use Rattle.common.proofs.Lists.{all_cons}
use Rattle.common.proofs.Tests.{below_or, both, and, clash}
use Rattle.cube.specs.Axes.{positions, axis, present}
use Rattle.cube.specs.Bits.{has}
use Rattle.cube.specs.CubeContracts.{AxisPorts}
use Rattle.cube.proofs.Bits.{high_has}
use Rattle.cube.proofs.PartnerPorts.{without_axis}
use Rattle.paths.specs.Network.{Path, end}
use Rattle.paths.specs.CubeNetwork.{Shape, ports, network}
use Rattle.paths.proofs.Apart.{Apart, Avoids, LaterApart, onward_apart, apart_permitted}
use Rattle.paths.proofs.FoldedCube.{port_listed}
use Rattle.judging.specs.Judged.{is_permitted}
use Rattle.judging.specs.JudgeContracts.{CubePorts, axes_once, path_fits, in_vector}
use Rattle.judging.proofs.AllPass.{all_pass, pass_all}
use Rattle.judging.proofs.Following.{left_from}
use Rattle.judging.proofs.PermittedTest.{goes_onward, permitted_passes, bounded}
use Rattle.judging.proofs.PortsOfCube.{there}

-- tests that agree on every number let the same ports through
once_same : (w : Path) (f g : ℕ → Bool) → ((q : ℕ) → f q ≡ g q) → axes_once f w ≡ axes_once g w
unfolding axes_once
once_same [] f g h = refl
once_same (p ∷ w) f g h = ap₂ ◌&&◌ (h p) (once_same w (λ q. f q && not (eqb (axis q) (axis p))) (λ q. g q && not (eqb (axis q) (axis p))) (λ q. ap (◌&& not (eqb (axis q) (axis p))) (h q)))

module _ (S : Shape) where
  -- ports that are let through pass the test, and they are ports of the cube no two of which have one axis,
  once_apart : (f : ℕ → Bool) → ((q : ℕ) → f q ≡ true → q ∈ ports S) → (w : Path) → axes_once f w ≡ true → ((q : ℕ) → q ∈ w → f q ≡ true) × Apart S w
  unfolding axes_once Apart Avoids
  once_apart f inside [] e = ((λ q m. absurd (Memᴰ.not-nil m)), tt)
  once_apart f inside (p ∷ w) e =
      let r = both (f p) _ e in
      let rest = once_apart (λ q. f q && not (eqb (axis q) (axis p))) (λ q k. inside q (both (f q) _ k).0) w r.1 in (
        all_cons (λ q. f q ≡ true) r.0 (λ q m. (both (f q) _ (rest.0 q m)).0),
        (inside p r.0, (λ q m. eqb-false _ _ (not-true _ (both (f q) _ (rest.0 q m)).1)), rest.1),
      )

  -- and all such ports are let through
  apart_once : (f : ℕ → Bool) (w : Path) → ((q : ℕ) → q ∈ w → f q ≡ true) → Apart S w → axes_once f w ≡ true
  unfolding axes_once Apart Avoids
  apart_once f [] all a = refl
  apart_once f (p ∷ w) all a =
      and (all p (Memᴰ.head refl)) (apart_once (λ q. f q && not (eqb (axis q) (axis p))) w (λ q m. and (all q (Memᴰ.tail m)) (ap not (ne_eqb _ _ (a.1 q m)))) a.2)

  abbrev is_port : ℕ → Bool
  is_port = present S.dimension S.fold

  same_test : (a b : Bool) → (a ≡ true → b ≡ true) → (b ≡ true → a ≡ true) → a ≡ b
  same_test true b f g = sym (f refl)
  same_test false true f g = g refl
  same_test false false f g = refl

  -- So the ports of a path are the cube's, and it is permitted to its own end, exactly where it passes.
  pub fits_exactly : (s : ℕ) (w : Path) → (list_all is_port w && is_permitted (network S) s (end (network S) s w) w) ≡ path_fits S w
  unfolding is_permitted path_fits LaterApart
  fits_exactly s [] = refl
  fits_exactly s (p ∷ w) =
      same_test _ _
      (λ e.
      let r = both (list_all is_port (p ∷ w)) _ e in
      let k = both (is_port p) _ r.0 in
      let all = all_pass is_port w k.1 in
      and k.0 (apart_once is_port w all (onward_apart S t ((network S).next s p) w (goes_onward (network S) t _ w (λ q m. bounded S q (all q m)) r.1))))
      (λ e.
      let r = both (is_port p) _ e in
      let a = once_apart is_port (port_listed S) w r.1 in
      and (and r.0 (pass_all is_port w a.0)) (permitted_passes (network S) t s (ports S) (p ∷ w) (apart_permitted S s (p ∷ w) (port_listed S p r.0, a.1))))
    where
      t : ℕ
      t = end (network S) s (p ∷ w)

-- A path whose first port the cube lacks does not fit, and of another the ports behind the first decide.
module _ (S : Shape) {w all : ℕ} (ports : CubePorts w S all) where
  first_decides : (path : Path) → 1 ≤ length path → {p : ℕ} {b : Bool} → p ≡ get_or path 0 0 → in_vector all p ≡ b
      → (b && axes_once (present S.dimension S.fold) (take (length path - 1) (drop 1 path))) ≡ path_fits S path
  unfolding path_fits
  first_decides [] l e u = absurd (omega arith)
  first_decides (p ∷ w) l e u =
      ap₂ (λ (b : Bool) (v : Path). b && axes_once (present S.dimension S.fold) v) (sym u ∙ there S ports _ ∙ ap (present S.dimension S.fold) e) (take_all (length (p ∷ w) - 1) w (omega arith))

  pub first_missing : (path : Path) → 1 ≤ length path → {p : ℕ} → p ≡ get_or path 0 0 → in_vector all p ≡ false → false ≡ path_fits S path
  first_missing path l e u = first_decides path l e u

  pub later_decide : (path : Path) → 1 ≤ length path → {p : ℕ} → p ≡ get_or path 0 0 → in_vector all p ≡ true
      → {b : Bool} → b ≡ axes_once (present S.dimension S.fold) (take (length path - 1) (drop 1 path)) → b ≡ path_fits S path
  later_decide path l e u f = f ∙ first_decides path l e u

-- i ports behind the first hop are taken, and `left` has the ports of the axes that are left, on a board of w positions: those to come pass exactly where all do.
pub record OnceLeft (S : Shape) (w left : ℕ) (path : List ℕ) (i : ℕ) : Type 0 where
  pub below : left < 2 ^ w
  pub most : w ≤ positions
  pub same : axes_once (in_vector left) (drop i path) ≡ axes_once (present S.dimension S.fold) path

module _ {S : Shape} {w : ℕ} {path : List ℕ} where
  -- before the first of them
  pub once_start : {all : ℕ} → CubePorts w S all → OnceLeft S w all path 0
  once_start {all} ports = record { below = ports.below; most = ports.most; same = once_same path _ _ (there S ports) }

  module _ {left i p : ℕ} (f : OnceLeft S w left path i) where
    -- a port of the vector has a position on the board
    pub port_position : in_vector left p ≡ true → p < w
    port_position e = ⊎_elim (λ l. l) (λ l. absurd (clash (both (ltb p positions) _ e).1 (high_has w left p f.below l))) (below_or w p)

    module _ (h : i < length path) (e : p ≡ get_or path i 0) where
      -- the next port decides, and behind it those that are left then,
      decides : {b : Bool} → in_vector left p ≡ b → (b && axes_once (λ q. in_vector left q && not (eqb (axis q) (axis p))) (drop (i + 1) path)) ≡ axes_once (present S.dimension S.fold) path
      unfolding axes_once
      decides u = sym (ap (axes_once (in_vector left)) (left_from path i p h e) ∙ ap (◌&& axes_once (λ q. in_vector left q && not (eqb (axis q) (axis p))) (drop (i + 1) path)) u) ∙ f.same

      -- a port whose axis is left: its axis is left no more,
      pub once_on : {m rest : ℕ} → in_vector left p ≡ true → AxisPorts w p m → rest ≡ bit_xor left (bit_and left m) → OnceLeft S w rest path (i + 1)
      once_on {m} {rest} u axes r = record { below = small; most = f.most; same = once_same (drop (i + 1) path) _ _ bit ∙ decides u }
        where
          small : rest < 2 ^ w
          small = rw r (xor_lt w left (bit_and left m) f.below (lt_of_le_of_lt (and_le_l left m) f.below))

          group : (a b c : Bool) → (a && (b && c)) ≡ ((a && b) && c)
          group true b c = refl
          group false b c = refl

          bit : (q : ℕ) → in_vector rest q ≡ (in_vector left q && not (eqb (axis q) (axis p)))
          bit q =
              ⊎_elim (λ l. rw (r, without_axis w left p m axes q l) (group (ltb q positions) (has left q) (not (eqb (axis q) (axis p)))))
              (λ l. rw (high_has w rest q small l, high_has w left q f.below l, and-false (ltb q positions)) refl) (below_or w q)

      -- and one whose axis is not
      pub once_stopped : in_vector left p ≡ false → false ≡ axes_once (present S.dimension S.fold) path
      once_stopped u = decides u

  -- Behind the last, all passed.
  pub once_reached : {left i : ℕ} → OnceLeft S w left path i → length path ≤ i → true ≡ axes_once (present S.dimension S.fold) path
  unfolding axes_once
  once_reached {left} f h = sym (ap (axes_once (in_vector left)) (drop_of_length-le path h)) ∙ f.same
