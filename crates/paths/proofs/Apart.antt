-- In the cube a path is permitted, to its own end, exactly where it takes ports of the cube and behind the first no axis twice.
-- Assumes nothing.
use mathlib.Core.Path.{◌≡◌, refl, ap, sym, ◌∙◌}
use mathlib.Core.Logic.{◌⊎◌, inl, inr, ⊎_elim, ◌≢◌}
use mathlib.Core.Bool.{true, not}
use mathlib.Core.List.Memᴰ
use mathlib.Core.List.{List, [], ◌∷◌}
use Prim.Native.Nat.{ℕ, ◌≤◌, ◌<◌}
use native.Mathlib.Omega.{arith}
use borrow.Author.Tests.{ne_eqb}
use Rattle.common.specs.Lists.{◌∈◌}
use Rattle.common.proofs.Tests.{same?, clash}
use Rattle.common.proofs.Lists.{all_cons}
use Rattle.cube.specs.Bits.{bit_at, flip}
use Rattle.cube.specs.Cube.{largest_dimension, uphill}
use Rattle.cube.specs.Axes.{axis}
use Rattle.cube.proofs.Bits.{bit_flipped, bit_kept, bit_lt, flip_inside}
use Rattle.paths.specs.Network.{Path, end}
use Rattle.paths.specs.Permitted.{Onward, Permitted}
use Rattle.paths.specs.CubeNetwork.{Shape, Node, ports, network}
use Rattle.paths.proofs.Links.{On, on_cases, on_none}
use Rattle.paths.proofs.CubeNetwork.{uphill_flipped, uphill_kept, uphill_there, port_axis, offered_port, port_offered, unfolded_port}

-- no port of a list has this axis
unfoldable pub Avoids : ℕ → List ℕ → Type 0
Avoids a ps = (q : ℕ) → q ∈ ps → axis q ≢ a

-- ports of the cube, no two of one axis; and a path of its ports of which those behind the first are so
unfoldable pub Apart : Shape → List ℕ → Type 0
Apart S [] = Unit
Apart S (p ∷ ps) = (p ∈ ports S) × Avoids (axis p) ps × Apart S ps

unfoldable pub LaterApart : Shape → Path → Type 0
LaterApart S [] = ⊥
LaterApart S (p ∷ w) = (p ∈ ports S) × Apart S w

-- every port of such a list is one of the cube's
pub apart_ports : (S : Shape) (w : Path) → Apart S w → (q : ℕ) → q ∈ w → q ∈ ports S
unfolding Apart
apart_ports S [] x = λ q m. absurd (Memᴰ.not-nil m)
apart_ports S (p ∷ w) x = all_cons (◌∈ ports S) x.0 (apart_ports S w x.2)

module _ (S : Shape) where
  -- the axes of a way on are uphill where it begins, so it takes none twice
  onward_uphill : (t n : ℕ) (w : Path) → Onward (network S) t n w → (q : ℕ) → q ∈ w → uphill t n (axis q) ≡ true
  unfolding Onward network
  onward_uphill t n [] o = λ q m. absurd (Memᴰ.not-nil m)
  onward_uphill t n (p ∷ w) o = all_cons (λ q. uphill t n (axis q) ≡ true) up (λ q k. later q (onward_uphill t (flip n (axis p)) w o.2 q k) (same? (axis q) (axis p)))
    where
      up : uphill t n (axis p) ≡ true
      up = (offered_port S t n p o.1).1

      later : (q : ℕ) → uphill t (flip n (axis p)) (axis q) ≡ true → (axis q ≡ axis p) ⊎ (axis q ≢ axis p) → uphill t n (axis q) ≡ true
      later q u (inl e) = absurd (clash (rw e at u) (uphill_flipped t n (axis p) ∙ ap not up))
      later q u (inr h) = uphill_kept t n (axis p) (axis q) h ∙ u

  pub onward_apart : (t n : ℕ) (w : Path) → Onward (network S) t n w → Apart S w
  unfolding Onward network Apart Avoids
  onward_apart t n [] o = tt
  onward_apart t n (p ∷ w) o =
      let u = offered_port S t n p o.1 in
      (u.0, (λ q m e. clash (rw e at (onward_uphill t (flip n (axis p)) w o.2 q m)) (uphill_flipped t n (axis p) ∙ ap not u.1)), onward_apart t (flip n (axis p)) w o.2)

  -- a bit that no hop of a path changes stays
  end_kept : (n : ℕ) (w : Path) (a : ℕ) → Avoids a w → bit_at (end (network S) n w) a ≡ bit_at n a
  unfolding end network Avoids
  end_kept n [] a h = refl
  end_kept n (p ∷ w) a h = end_kept (flip n (axis p)) w a (λ q m. h q (Memᴰ.tail m)) ∙ bit_kept n (axis p) a (λ e. h p (Memᴰ.head refl) (sym e))

  -- ports of distinct axes lead uphill to their own end
  apart_onward : (n : ℕ) (w : Path) → Apart S w → Onward (network S) (end (network S) n w) n w
  unfolding end network Onward Apart
  apart_onward n [] x = refl
  apart_onward n (p ∷ w) x = (away, port_offered S t n p x.0 up, apart_onward (flip n (axis p)) w x.2)
    where
      t : ℕ
      t = end (network S) (flip n (axis p)) w

      up : uphill t n (axis p) ≡ true
      up = unfold uphill network in ap not (ne_eqb (bit_at n (axis p)) (bit_at t (axis p)) (λ e. omega (arith, e, end_kept (flip n (axis p)) w (axis p) x.1, bit_flipped n (axis p), bit_lt n (axis p))))

      away : n ≢ t
      away e = clash up (ap (λ x. uphill t x (axis p)) e ∙ uphill_there t (axis p))

  pub apart_permitted : (s : ℕ) (w : Path) → LaterApart S w → Permitted (network S) s (ports S) (end (network S) s w) w
  unfolding Permitted LaterApart end
  apart_permitted s [] h = elim h [ ]
  apart_permitted s (p ∷ w) h = (h.0, apart_onward ((network S).next s p) w h.1)

  -- the ports of a permitted path are the cube's, so below D where nothing is folded,
  pub permitted_ports : (s t : ℕ) (w : Path) → Permitted (network S) s (ports S) t w → (q : ℕ) → q ∈ w → q ∈ ports S
  unfolding Permitted
  permitted_ports s t [] o = elim o [ ]
  permitted_ports s t (p ∷ w) o = all_cons (◌∈ ports S) o.0 (apart_ports S w (onward_apart t ((network S).next s p) w o.1))

  pub permitted_below : S.dimension ≤ largest_dimension → S.fold ≡ 0 → (s t : ℕ) (w : Path) → Permitted (network S) s (ports S) t w → (q : ℕ) → q ∈ w → q < S.dimension
  permitted_below h z s t w o q m = (unfolded_port S h z q).0 (permitted_ports s t w o q m)

  -- and a path over such ports does not leave the cube: its links and its end lie there
  ports_inside : (n : ℕ) (w : Path) → ((q : ℕ) → q ∈ w → q ∈ ports S) → Node S n → ((m q : ℕ) → On (network S) n w m q → Node S m × (q ∈ ports S)) × Node S (end (network S) n w)
  unfolding end network
  ports_inside n [] h i = ((λ m q o. absurd (on_none (network S) n m q o)), i)
  ports_inside n (p ∷ w) h i =
      let here = h p (Memᴰ.head refl) in
      let r = ports_inside (flip n (axis p)) w (λ q m. h q (Memᴰ.tail m)) (flip_inside S.dimension n (axis p) i (port_axis S p here)) in
      ((λ m q o. ⊎_elim (λ u. rw (u.0, u.1) (i, here)) (λ k. r.0 m q k) (on_cases (network S) n p w m q o)), r.1)

  pub permitted_inside : (s t : ℕ) (w : Path) → Node S s → Permitted (network S) s (ports S) t w
      → ((m q : ℕ) → On (network S) s w m q → Node S m × (q ∈ ports S)) × Node S (end (network S) s w)
  permitted_inside s t w i o = ports_inside s w (permitted_ports s t w o) i
