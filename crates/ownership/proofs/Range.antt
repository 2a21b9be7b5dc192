-- What a sound table of a cube up to dimension 8 shows has room in the bytes of a table, if it shows no channel armed beyond the eight of a node, and a fold mask that
-- such a table can have.
-- Assumes nothing.
use mathlib.Core.Path.{◌≡◌, refl, ap, sym, ◌∙◌}
use mathlib.Core.Logic.{⊎_elim}
use mathlib.Core.Bool.{Bool, true, false, cond}
use mathlib.Core.List.{List}
use Prim.Native.Nat.{ℕ, ◌*◌, ◌^◌, ◌≤◌, ◌<◌}
use native.Mathlib.Omega.{arith}
use lib.Dec.{eqb}
use lib.ListN.{length, get_or}
use borrow.Author.Tests.{ltb-true}
use Rattle.cube.specs.Axes.{present}
use Rattle.cube.specs.Cube.{largest_dimension, port_count, channels, NodeOf}
use Rattle.cube.proofs.Axes.{present_axis}
use Rattle.cube.proofs.PartnerPorts.{unfolded_present}
use Rattle.common.proofs.Tests.{clash, same?, below_or, is_false}
use Rattle.cube.proofs.Ports.{most_nodes, below_256}
use Rattle.layout.specs.Layout.{wide_length, length_of, in_table, mask_size, fold_at}
use Rattle.layout.specs.Resources.{Width}
use Rattle.table.specs.View.{View}
use Rattle.table.specs.Encode.{BytesOver, ViewFits}
use Rattle.layout.proofs.Folds.{fold_none}
use Rattle.layout.proofs.Entries.{within, width_masks}
use Rattle.soundness.specs.Sound.{Sound}

-- the fold mask is a byte, and 0 where a table has none
pub record FoldFits (q fold : ℕ) : Type 0 where
  pub small : fold < 256
  pub plain : q ≡ port_count → fold ≡ 0

-- as that of all bytes of a table is
pub fold_fits : (q : ℕ) (b : List ℕ) → BytesOver q b → FoldFits q (fold_at b)
fold_fits q b bytes = record { small = unfold fold_at in go (eqb (length b) wide_length); plain = λ e. fold_none b (bytes.long ∙ ap length_of e) }
  where
    go : (x : Bool) → cond x (get_or b 1 0) 0 < 256
    go true = bytes.small 1
    go false = omega arith

-- A row of links has a place for every port of the cube.
pub port_row : (q : ℕ) → Width q → {D fold : ℕ} → D ≤ largest_dimension → FoldFits q fold → (p : ℕ) → present D fold p ≡ true → p < q
port_row q width {D} {fold} most fits p e = ⊎_elim narrow (λ z. omega (arith, z, (present_axis D fold p e).0)) width
  where
    narrow : q ≡ port_count → p < q
    narrow z =
        let below = ltb-true p D (sym (unfolded_present D p (omega (arith, most))) ∙ (rw (fits.plain z) at e)) in
        omega (arith, z, most, below)

module _ (q : ℕ) (width : Width q) (v : View) (most : v.dimension ≤ largest_dimension) (sound : Sound v) (eight : (n k : ℕ) → v.armed n k ≡ true → k < channels) (fold : FoldFits q v.fold) where
  absent : (w : ℕ) → q ≤ w → (n p : ℕ) → in_table w n p ≡ false → NodeOf v.dimension n × (present v.dimension v.fold p ≡ true) → ⊥
  absent w wide n p e r = clash (within {w = w} n p (below_256 most r.0) (omega (arith, port_row q width most fold p r.1, wide))) e

  -- a receive channel that is held is one of the eight of a node of the cube
  unheld : (n k : ℕ) → in_table channels n k ≡ false → v.receiver n k ≡ 0
  unheld n k e = ⊎_elim (λ z. z) (λ f. absurd (⊎_elim (λ none. none.1 n k refl) (λ s. held f (s.once n k refl).1 s.small) (sound.numbers (v.receiver n k) f))) (same? (v.receiver n k) 0)
    where
      held : (v.receiver n k ≡ 0 → ⊥) → {channel : ℕ} → k ≡ channel → channel < channels → ⊥
      held f q l = ⊎_elim (λ i. clash (within n k (below_256 most i) (omega arith)) e) (λ o. f (sound.absent_receive n k (λ i. omega arith))) (below_or (2 ^ v.dimension) n)

  unarmed : (n k : ℕ) → in_table channels n k ≡ false → v.armed n k ≡ false
  unarmed n k e =
      ⊎_elim (λ i. is_false _ (λ h. clash (within n k (below_256 most i) (eight n k h)) e)) (λ o. sound.absent_armed n k (λ i. omega arith))
      (below_or (2 ^ v.dimension) n)

  pub sound_fits : ViewFits q v
  sound_fits =
      record {
        dimension = omega arith;
        fold = fold.small;
        unfolded = fold.plain;
        enabled = λ n p e. (sound.absent_link n p (absent (8 * mask_size q) (width_masks width) n p e)).0;
        owner = record { small = λ n p. omega (arith, sound.link_number n p, most_nodes most); outside = λ n p e. (sound.absent_link n p (absent q (omega arith) n p e)).1 };
        receiver = record { small = λ n k. omega (arith, sound.receive_number n k, most_nodes most); outside = unheld };
        armed = unarmed;
      }
