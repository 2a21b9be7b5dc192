-- Marking the links that a circuit holds at its source.
-- Assumes nothing.
use mathlib.Core.Path.{◌≡◌, ap, sym, ◌∙◌}
use mathlib.Core.Logic.{◌⊎◌, inl, inr, ⊎_elim, ◌≢◌}
use mathlib.Core.Bool.{true, false, ◌||◌}
use mathlib.Core.List.{List}
use Prim.Native.Nat.{ℕ, ◌<◌}
use native.Mathlib.Nat.{lt_of_le_of_lt}
use lib.Bits.{bit_and, bit_or, and_le_r}
use lib.Dec.{eqb}
use lib.ListN.{length, get_or}
use lib.Seq.{get_or-set_same, get_or-set_other}
use borrow.Author.Tests.{eqb-true, eqb-false}
use Rattle.common.proofs.Every.{decide}
use Rattle.common.proofs.Tests.{same?, clash, both, and, either, or_left, or_right}
use Rattle.cube.specs.Axes.{present}
use Rattle.cube.specs.Bits.{has}
use Rattle.cube.specs.Cube.{source_of}
use Rattle.cube.proofs.Bits.{has_and, has_or, no_ports, zero_has}
use Rattle.paths.specs.CubeNetwork.{Node, LinkOf}
use Rattle.table.specs.TableContracts.{HeldIn}
use Rattle.table.specs.View.{view, shape_of, held_by}
use Rattle.table.proofs.CubeRows.{RowOf}
use Rattle.circuit_hops.specs.Seen.{seen_at, with_marks, Seen}

module _ (q : ℕ) {b : List ℕ} (row : RowOf (shape_of (view b)) q) {c held : ℕ} (m : List ℕ) (f : HeldIn q b c (source_of c) held) where
  -- a circuit of which no link at its source was marked is new
  pub not_seen : eqb (bit_and (get_or m (source_of c) 0) held) 0 ≡ true → Seen (view b) m c → ⊥
  unfolding Seen seen_at view
  not_seen e s =
      clash (has_and _ held s.0 ∙ and s.3 (f.held s.0 (row s.0 s.1.1) ∙ s.2)) (ap (λ x. has x s.0) (eqb-true _ 0 e) ∙ zero_has s.0)

  -- and one of which some was is not
  pub seen_before : Node (shape_of (view b)) (source_of c) → ((p : ℕ) → has held p ≡ true → present (view b).dimension (view b).fold p ≡ true) → eqb (bit_and (get_or m (source_of c) 0) held) 0 ≡ false → Seen (view b) m c
  unfolding Seen seen_at view
  seen_before node inside e =
      ⊎_elim (λ r. let t = both (has (get_or m (source_of c) 0) r.0) (has held r.0) (sym (has_and _ held r.0) ∙ r.2) in (r.0, (node, inside r.0 t.1), sym (f.held r.0 r.1) ∙ t.1, t.0))
      (λ r. absurd (eqb-false _ 0 e (no_ports q _ (lt_of_le_of_lt (and_le_r (get_or m (source_of c) 0) held) f.small) r)))
      (decide q (has (bit_and (get_or m (source_of c) 0) held)))

  -- what is marked afterwards
  pub marks_after : {after : List ℕ} → after ≡ with_marks m (source_of c) held → source_of c < length m → (s p : ℕ) → LinkOf (shape_of (view b)) s p
      → (seen_at after s p ≡ true → (seen_at m s p ≡ true) ⊎ ((view b).owner s p ≡ c)) × (seen_at m s p ≡ true → seen_at after s p ≡ true)
      × ((s ≡ source_of c) → held_by (view b) c s p ≡ true → seen_at after s p ≡ true)
  unfolding seen_at with_marks view
  marks_after {after} e small s p l = go (same? s (source_of c))
    where
      here : s ≡ source_of c → has (get_or after s 0) p ≡ (has (get_or m s 0) p || eqb ((view b).owner s p) c)
      here q =
          ap (λ x. has (get_or x s 0) p) e ∙ ap (λ x. has (get_or (with_marks m (source_of c) held) x 0) p) q
          ∙ ap (λ x. has x p) (get_or-set_same m (source_of c) (bit_or (get_or m (source_of c) 0) held) 0 small) ∙ has_or (get_or m (source_of c) 0) held p
          ∙ ap (has (get_or m (source_of c) 0) p ||◌) (f.held p (row p l.1)) ∙ ap (λ x. has (get_or m x 0) p || eqb ((view b).owner x p) c) (sym q)

      there : s ≢ source_of c → has (get_or after s 0) p ≡ has (get_or m s 0) p
      there h = ap (λ x. has (get_or x s 0) p) e ∙ ap (λ x. has x p) (get_or-set_other m (source_of c) s (bit_or (get_or m (source_of c) 0) held) 0 h)

      go : (s ≡ source_of c) ⊎ (s ≢ source_of c)
          → (has (get_or after s 0) p ≡ true → (has (get_or m s 0) p ≡ true) ⊎ ((view b).owner s p ≡ c)) × (has (get_or m s 0) p ≡ true → has (get_or after s 0) p ≡ true)
          × ((s ≡ source_of c) → held_by (view b) c s p ≡ true → has (get_or after s 0) p ≡ true)
      go (inl q) = (
        (λ t. ⊎_elim inl (λ x. inr (eqb-true _ c x)) (either (has (get_or m s 0) p) (eqb ((view b).owner s p) c) (sym (here q) ∙ t))),
        (λ t. here q ∙ or_left _ t),
        (λ z t. here q ∙ or_right (has (get_or m s 0) p) t),
      )
      go (inr h) = ((λ t. inl (sym (there h) ∙ t)), (λ t. there h ∙ t), (λ z t. absurd (h z)))
