-- The rows of a table have room for every port of its cube: a narrow table has no partners.
-- Assumes nothing.
use mathlib.Core.Path.{◌≡◌, sym, subst, ◌∙◌}
use mathlib.Core.Bool.{Bool, true, false, cond}
use mathlib.Core.List.{List}
use Prim.Native.Nat.{ℕ, ◌≤◌, ◌<◌}
use native.Mathlib.Omega.{arith}
use lib.Dec.{eqb}
use lib.ListN.{length, get_or}
use borrow.Author.Tests.{ltb-true}
use Rattle.cube.specs.Axes.{present}
use Rattle.cube.specs.Cube.{largest_dimension}
use Rattle.cube.proofs.Axes.{present_axis}
use Rattle.cube.proofs.PartnerPorts.{unfolded_present}
use Rattle.layout.specs.Layout.{wide_length, ports_in, dimension_at, fold_at}
use Rattle.layout.specs.Resources.{LayoutLaws, ports_of_long}
use Rattle.paths.specs.CubeNetwork.{Shape}
use Rattle.table.specs.View.{view, shape_of}

-- a row of so many places has one for each port of a cube
abbrev pub RowOf : Shape → ℕ → Type 0
RowOf S q = (p : ℕ) → present S.dimension S.fold p ≡ true → p < q

pub row_of : (b : List ℕ) → dimension_at b ≤ largest_dimension → RowOf (shape_of (view b)) (ports_in b)
unfolding view ports_in fold_at
row_of b most p = go (eqb (length b) wide_length)
  where
    go : (x : Bool) → present (dimension_at b) (cond x (get_or b 1 0) 0) p ≡ true → p < cond x 18 8
    go true e = (present_axis (dimension_at b) (get_or b 1 0) p e).0
    go false e = let l = ltb-true p (dimension_at b) (sym (unfolded_present (dimension_at b) p (omega (arith, most))) ∙ e) in omega (arith, most, l)

-- so those of a table of a layout
pub table_row : {long q enable links receives arms : ℕ} → LayoutLaws long q enable links receives arms → (b : List ℕ) → length b ≡ long → dimension_at b ≤ largest_dimension → RowOf (shape_of (view b)) q
table_row {long} {q} laws b l d = subst (RowOf (shape_of (view b))) (ports_of_long q b laws.ports_are (l ∙ laws.long_is)) (row_of b d)
