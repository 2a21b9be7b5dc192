-- Walking over owned links gives back the path whose links are exactly those.
-- Assumes nothing.
use mathlib.Core.Path.{◌≡◌, refl, ap, sym, ◌∙◌}
use mathlib.Core.Logic.{◌⊎◌, inl, inr, ⊎_elim, ◌≢◌}
use mathlib.Core.Bool.{Bool, true, false, not, ◌&&◌}
use mathlib.Core.List.Memᴰ
use mathlib.Core.List.{List, [], ◌∷◌, ◌++◌, append-nil}
use Prim.Native.Nat.{ℕ, zero, suc, ◌≤◌, ◌<◌}
use native.Mathlib.Omega.{arith}
use lib.Dec.{eqb}
use lib.ListN.{length}
use borrow.Author.Tests.{eqb-true, eqb-false, eq-eqb, ne_eqb, not-true}
use Rattle.common.specs.Lists.{◌∈◌, keep}
use Rattle.common.proofs.Tests.{same?, clash, both, and}
use Rattle.common.proofs.Lists.{all_append, keep_mem, mem_keep, keep_shorter, any_some, some_any}
use Rattle.cube.specs.Bits.{bit_at, flip}
use Rattle.cube.specs.Axes.{axis, positions}
use Rattle.cube.proofs.Bits.{bit_flipped, bit_kept, bit_lt}
use Rattle.paths.specs.Network.{Network, Path, take_first, links, has_link, Exactly}
use Rattle.paths.specs.Permitted.{Permitted, SameLinks}
use Rattle.paths.specs.CubeNetwork.{Shape, ports, network}
use Rattle.paths.specs.Recover.{drop_axis, walk_from, way_back, first_hop_choices, path_of_links}
use Rattle.paths.proofs.Links.{On, on_cases, on_first_lem, on_later, on_none, link_true, true_link}
use Rattle.paths.proofs.CubeNetwork.{ports_few}
use Rattle.paths.proofs.Apart.{Avoids, Apart, apart_ports, onward_apart}

-- the first of a list that has nothing, or nothing but a in front or at all
take_none : (l : List ℕ) (on : ℕ → Path) → ((x : ℕ) → x ∈ l → ⊥) → take_first l on ≡ []
unfolding take_first
take_none [] on h = refl
take_none (x ∷ l) on h = absurd (h x (Memᴰ.head refl))

take_front : (a : ℕ) (l r : List ℕ) (on : ℕ → Path) → a ∈ l → ((x : ℕ) → x ∈ l → x ≡ a) → take_first (l ++ r) on ≡ a ∷ on a
unfolding take_first
take_front a [] r on m h = absurd (Memᴰ.not-nil m)
take_front a (x ∷ l) r on m h = rw (h x (Memᴰ.head refl))

take_only : (a : ℕ) (l : List ℕ) (on : ℕ → Path) → a ∈ l → ((x : ℕ) → x ∈ l → x ≡ a) → take_first l on ≡ a ∷ on a
take_only a l on m h = rw (append-nil l) at (take_front a l [] on m h)

pub take_all : (P : Path → Type 0) (l : List ℕ) (on : ℕ → Path) → P [] → ((p : ℕ) → p ∈ l → P (p ∷ on p)) → P (take_first l on)
unfolding take_first
take_all P [] on z h = z
take_all P (p ∷ l) on z h = h p (Memᴰ.head refl)

-- what is left without an axis
pub drop_mem : (p : ℕ) (left : List ℕ) {q : ℕ} → q ∈ drop_axis p left → (q ∈ left) × (axis q ≢ axis p)
unfolding drop_axis
drop_mem p left {q} m = let k = keep_mem _ left m in (k.0, eqb-false (axis q) (axis p) (not-true _ k.1))

mem_drop : (p : ℕ) (left : List ℕ) {q : ℕ} → q ∈ left → axis q ≢ axis p → q ∈ drop_axis p left
unfolding drop_axis
mem_drop p left {q} m h = mem_keep _ left m (ap not (ne_eqb (axis q) (axis p) h))

-- fewer ports are left where one was taken
pub drop_shorter : (p : ℕ) (left : List ℕ) → p ∈ left → length (drop_axis p left) < length left
unfolding drop_axis
drop_shorter p left m = keep_shorter (λ q. not (eqb (axis q) (axis p))) left p m (ap not (eq-eqb (axis p) (axis p) refl))

-- a first hop is one of the ports, and its link is owned
pub first_choice : (N : Network) (ps : List ℕ) (own : ℕ → ℕ → Bool) (s b : ℕ) → b ∈ first_hop_choices N ps own s → (b ∈ ps) × (own s b ≡ true)
unfolding first_hop_choices
first_choice N ps own s b m = keep_mem (own s) ps (all_append (◌∈ keep (own s) ps) (keep (way_back N ps own s) (keep (own s) ps)) (λ a k. (keep_mem _ _ k).0) (λ a k. k) b m)

-- a neighbour is another node
moved : (s a : ℕ) → s ≡ flip s a → ⊥
moved s a e = omega (arith, ap (λ x. bit_at x a) e, bit_flipped s a, bit_lt s a)

-- the port of a link on a path is one of the path's; and a path with no axis twice takes each at one node
on_port : (N : Network) (n : ℕ) (w : Path) (m q : ℕ) → On N n w m q → q ∈ w
on_port N n [] m q o = absurd (on_none N n m q o)
on_port N n (p ∷ w) m q o = ⊎_elim (λ e. Memᴰ.head e.1) (λ k. Memᴰ.tail (on_port N (N.next n p) w m q k)) (on_cases N n p w m q o)

axis_once : (N : Network) (S : Shape) (n : ℕ) (w : Path) → Apart S w → (m r q b : ℕ) → axis q ≡ axis b → On N n w m q → On N n w r b → m ≡ r
unfolding Apart Avoids
axis_once N S n [] x m r q b e i j = absurd (on_none N n m q i)
axis_once N S n (p ∷ w) x m r q b e i j = go (on_cases N n p w m q i) (on_cases N n p w r b j) (axis_once N S (N.next n p) w x.2 m r q b e)
  where
    go : ((m ≡ n) × (q ≡ p)) ⊎ On N (N.next n p) w m q → ((r ≡ n) × (b ≡ p)) ⊎ On N (N.next n p) w r b → (On N (N.next n p) w m q → On N (N.next n p) w r b → m ≡ r) → m ≡ r
    go (inl u) (inl k) ih = u.0 ∙ sym k.0
    go (inl u) (inr k) ih = absurd (x.1 b (on_port N _ w r b k) (sym e ∙ ap axis u.1))
    go (inr k) (inl u) ih = absurd (x.1 q (on_port N _ w m q k) (e ∙ ap axis u.1))
    go (inr k) (inr l) ih = ih k l

-- a bit that no hop of a path changes is the same at every node that it leaves
on_bit : (S : Shape) (n : ℕ) (w : Path) (c : ℕ) → Avoids c w → (m b : ℕ) → On (network S) n w m b → bit_at m c ≡ bit_at n c
unfolding network Avoids
on_bit S n [] c h m b o = absurd (on_none (network S) n m b o)
on_bit S n (p ∷ w) c h m b o =
    ⊎_elim (λ e. ap (λ x. bit_at x c) e.0) (λ k. on_bit S (flip n (axis p)) w c (λ q i. h q (Memᴰ.tail i)) m b k ∙ bit_kept n (axis p) c (λ e. h p (Memᴰ.head refl) (sym e)))
    (on_cases (network S) n p w m b o)

-- behind a hop, it does not come back to where the hop began
not_back : (S : Shape) (n p : ℕ) (w : Path) → Avoids (axis p) w → (q : ℕ) → On (network S) (flip n (axis p)) w n q → ⊥
not_back S n p w h q i = omega (arith, on_bit S (flip n (axis p)) w (axis p) h n q i, bit_flipped n (axis p), bit_lt n (axis p))

module _ (S : Shape) (own : ℕ → ℕ → Bool) (s a : ℕ) where
  -- at the source again, the axis of the first hop is no longer left
  gone : (n r : ℕ) → bit_at n (axis r) ≡ bit_at (flip s (axis a)) (axis r) → (n ≡ s) × (r ≡ a) → ⊥
  gone n r k e = let u : bit_at s (axis a) ≡ bit_at (flip s (axis a)) (axis a) = rw (e.0, e.1) at k in omega (arith, bit_flipped s (axis a), bit_lt s (axis a))

  -- The walk finds w from n where the links of w are owned and its ports left, and where a link that is owned over a port left is one of w's
  -- or the first hop's; over the axes left, n is still where the first hop led.
  walk_is : (k n : ℕ) (w left : List ℕ) → Apart S w → length left ≤ k → ((m q : ℕ) → On (network S) n w m q → own m q ≡ true) → ((q : ℕ) → q ∈ w → q ∈ left)
      → ((m q : ℕ) → q ∈ left → own m q ≡ true → ((m ≡ s) × (q ≡ a)) ⊎ On (network S) n w m q) → ((q : ℕ) → q ∈ left → bit_at n (axis q) ≡ bit_at (flip s (axis a)) (axis q))
      → walk_from k (network S) left own n ≡ w
  unfolding walk_from Apart Avoids network
  walk_is zero n [] left x h all there only kept = refl
  walk_is (suc k) n [] left x h all there only kept =
      take_none _ _ (λ r m. let u = keep_mem (own n) left m in ⊎_elim (gone n r (kept r u.0)) (λ i. on_none (network S) n n r i) (only n r u.0 u.1))
  walk_is zero n (p ∷ w) left x h all there only kept = absurd (omega (arith, drop_shorter p left (there p (Memᴰ.head refl))))
  walk_is (suc k) n (p ∷ w) left x h all there only kept =
      take_only p _ _ (mem_keep (own n) left (there p (Memᴰ.head refl)) (all n p (on_first_lem (network S) n p w)))
      (λ r m. let u = keep_mem (own n) left m in
      ⊎_elim (λ e. absurd (gone n r (kept r u.0) e)) (λ i. ⊎_elim (λ e. e.1) (λ i. absurd (not_back S n p w x.1 r i)) (on_cases (network S) n p w n r i)) (only n r u.0 u.1))
      ∙ ap (p ∷◌)
      (walk_is k (flip n (axis p)) w (drop_axis p left) x.2 (omega (arith, drop_shorter p left (there p (Memᴰ.head refl)))) (λ m q i. all m q (on_later (network S) n p w m q i))
      (λ q m. mem_drop p left (there q (Memᴰ.tail m)) (x.1 q m))
      (λ m q i e. let u = drop_mem p left i in ⊎_elim inl (λ i. ⊎_elim (λ e. absurd (u.1 (ap axis e.1))) inr (on_cases (network S) n p w m q i)) (only m q u.0 e))
      (λ q i. let u = drop_mem p left i in bit_kept n (axis p) (axis q) u.1 ∙ kept q u.0))

module _ (S : Shape) (own : ℕ → ℕ → Bool) (s a : ℕ) (w : Path) (apart : Apart S w) (x : Exactly (network S) s (a ∷ w) own) where
  -- a path that passes its source again comes back over the axis that it left by
  through : (l : Path) → Apart S l → (b : ℕ) → On (network S) (flip s (axis a)) l s b → (r : ℕ) × (axis r ≡ axis a) × On (network S) (flip s (axis a)) l (flip s (axis a)) r
  unfolding Apart network
  through [] z b i = absurd (on_none (network S) (flip s (axis a)) s b i)
  through (q ∷ l) z b i =
      ⊎_elim (λ e. absurd (moved s (axis a) e.0))
      (λ k. ⊎_elim (λ e. (q, e, on_first_lem (network S) (flip s (axis a)) q l))
      (λ h. absurd (omega (arith, on_bit S (flip (flip s (axis a)) (axis q)) l (axis q) z.1 s b k, bit_flipped (flip s (axis a)) (axis q), bit_kept s (axis a) (axis q) h, bit_lt s (axis q))))
      (same? (axis q) (axis a)))
      (on_cases (network S) (flip s (axis a)) q l s b i)

  owned : (m q : ℕ) → own m q ≡ true → ((m ≡ s) × (q ≡ a)) ⊎ On (network S) (flip s (axis a)) w m q
  unfolding On network
  owned m q e = on_cases (network S) s a w m q (x.only m q e)

  -- the port whose way back is owned is the first; where its way back is not, it is the only one
  back_first : (b d : ℕ) → own s b ≡ true → axis d ≡ axis b → own (flip s (axis b)) d ≡ true → b ≡ a
  back_first b d e c f =
      ⊎_elim (λ u. u.1)
      (λ i. ⊎_elim (λ u. absurd (moved s (axis b) (sym u.0))) (λ j. absurd (moved s (axis b) (axis_once (network S) S (flip s (axis a)) w apart s (flip s (axis b)) b d (sym c) i j))) (owned (flip s (axis b)) d f))
      (owned s b e)

  alone : way_back (network S) (ports S) own s a ≡ false → (b : ℕ) → own s b ≡ true → b ≡ a
  unfolding On network way_back
  alone e b f =
      ⊎_elim (λ u. u.1)
      (λ i. let r = through w apart b i in
      absurd (clash (some_any _ (ports S) (apart_ports S w apart r.0 (on_port (network S) _ w _ r.0 r.2)) (and (eq-eqb _ _ r.1) (x.all (flip s (axis a)) r.0 (on_later (network S) s a w _ r.0 r.2)))) e))
      (owned s b f)

  path_is : a ∈ ports S → path_of_links S own s ≡ a ∷ w
  unfolding path_of_links first_hop_choices network On
  path_is h = go (way_back (network S) (ports S) own s a) refl ∙ ap (a ∷◌) rest
    where
      on : ℕ → Path
      on b = walk_from positions (network S) (ports S) own (flip s (axis b))

      mine : a ∈ keep (own s) (ports S)
      mine = mem_keep (own s) (ports S) h (x.all s a (on_first_lem (network S) s a w))

      back : List ℕ
      back = keep (way_back (network S) (ports S) own s) (keep (own s) (ports S))

      come_back : (b : ℕ) → b ∈ back → b ≡ a
      come_back b m =
          unfold way_back in
          let k = keep_mem (way_back (network S) (ports S) own s) (keep (own s) (ports S)) m in
          let d = any_some (λ d. eqb (axis d) (axis b) && own (flip s (axis b)) d) (ports S) k.1 in
          let e = both (eqb (axis d.0) (axis b)) _ d.2 in
          back_first b d.0 (keep_mem (own s) (ports S) k.0).1 (eqb-true _ _ e.0) e.1

      go : (b : Bool) → way_back (network S) (ports S) own s a ≡ b → take_first (back ++ keep (own s) (ports S)) on ≡ a ∷ on a
      go true e = take_front a back (keep (own s) (ports S)) on (mem_keep _ _ mine e) come_back
      go false e = take_only a (back ++ keep (own s) (ports S)) on (Memᴰ.append_right back mine) (λ b m. alone e b (first_choice (network S) (ports S) own s b m).1)

      rest : on a ≡ w
      rest = walk_is S own s a 18 (flip s (axis a)) w (ports S) apart (ports_few S) (λ m q i. x.all m q (on_later (network S) s a w m q i)) (apart_ports S w apart) (λ m q i e. owned m q e) (λ q i. refl)

-- The walk gives back the permitted path whose links are exactly those owned.
pub path_found : (S : Shape) (own : ℕ → ℕ → Bool) (s t : ℕ) (w : Path) → Permitted (network S) s (ports S) t w → Exactly (network S) s w own → path_of_links S own s ≡ w
unfolding Permitted
path_found S own s t [] o x = elim o [ ]
path_found S own s t (a ∷ w) o x = path_is S own s a w (onward_apart S t ((network S).next s a) w o.1) x o.0

-- So a permitted path of the cube is determined by its source and its links, whatever its target and whatever its send vector.
pub path_determined : (S : Shape) (s t u : ℕ) (w v : Path) → Permitted (network S) s (ports S) t w → Permitted (network S) s (ports S) u v
    → SameLinks (network S) s w v → w ≡ v
unfolding SameLinks
path_determined S s t u w v o h e = sym (found t w o ((λ l i. i), (λ l i. i))) ∙ found u v h (e.1, e.0)
  where
    found : (t : ℕ) (x : Path) → Permitted (network S) s (ports S) t x → SameLinks (network S) s x w → path_of_links S (has_link (links (network S) s w)) s ≡ x
    found t x o e = path_found S _ s t x o record { all = λ m q i. link_true _ m q (e.0 (m, q) i); only = λ m q i. e.1 (m, q) (true_link _ m q i) }
