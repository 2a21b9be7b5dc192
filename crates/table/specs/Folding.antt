-- What a table shows once its fold mask is set (Folding 3).
-- Assumes nothing.
use Rattle.std.specs.Prelude.{cond, not, ◌&&◌, ◌||◌, ℕ, eqb}
use Rattle.cube.specs.Bits.{has}
use Rattle.cube.specs.Axes.{axis}
use Rattle.paths.specs.CubeNetwork.{is_link_of}
use Rattle.table.specs.View.{View}

-- Folding 5: partner links of a newly folded dimension are enabled. Folding 6: those of an unfolded one are cleared. Folding 7: the links out of the ports that are their own
-- axes stay as they were, and so do the partner links of a dimension that keeps its bit.
unfoldable pub set_fold : View → ℕ → View
set_fold v mask =
    record {
      dimension = v.dimension;
      fold = mask;
      enabled = λ n q. cond (eqb q (axis q)) (v.enabled n q) (is_link_of (record { dimension = v.dimension; fold = mask }) n q && (v.enabled n q || not (has v.fold (axis q))));
      owner = v.owner;
      receiver = v.receiver;
      armed = v.armed;
    }
