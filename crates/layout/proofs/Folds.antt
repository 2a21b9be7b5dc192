-- The fold mask of a table, by its length.
use mathlib.Core.Path.{◌≡◌, refl, ap, sym, ◌∙◌}
use mathlib.Core.Bool.{true}
use mathlib.Core.List.{List}
use Prim.Native.Nat.{ℕ, ◌≤◌, ◌<◌}
use native.Mathlib.Omega.{arith}
use lib.ListN.{length, get_or}
use borrow.Author.Tests.{ltb-true}
use Rattle.cube.specs.Axes.{present}
use Rattle.cube.specs.Cube.{largest_dimension}
use Rattle.cube.proofs.Axes.{present_axis}
use Rattle.cube.proofs.PartnerPorts.{unfolded_present}
use Rattle.layout.specs.Layout.{table_length, wide_length, fold_at}

pub fold_none : (b : List ℕ) → length b ≡ table_length → fold_at b ≡ 0
unfolding fold_at
fold_none b l = rw l refl

pub fold_wide : (b : List ℕ) → length b ≡ wide_length → fold_at b ≡ get_or b 1 0
unfolding fold_at
fold_wide b l = rw l refl

-- and the ports that a cube of that mask may have: of a narrow table none above 7
pub none_above : (b : List ℕ) → length b ≡ table_length → (D p : ℕ) → D ≤ largest_dimension → present D (fold_at b) p ≡ true → p < 8
none_above b l D p d e = let k = ltb-true p D (sym (unfolded_present D p (omega (arith, d))) ∙ ap (λ f. present D f p) (sym (fold_none b l)) ∙ e) in omega arith

pub port_placed : (D fold p : ℕ) → present D fold p ≡ true → p < 18
port_placed D fold p e = (present_axis D fold p e).0
