-- `table::available` meets its contract: of the channels that are nobody's, those that are armed.
use mathlib.Core.Path.{◌≡◌, refl, ◌∙◌, ap}
use Prim.Native.Nat.{◌+◌}
use native.Mathlib.Nat.{lt_of_le_of_lt}
use native.Mathlib.Omega.{arith}
use lib.Bits.{and_le_l}
use lib.ListN.{get_or}
use Rattle.layout.specs.Resources.{channels_laws}
use Rattle.table.proofs.Rows.{channel_available}
use Rattle.table.proofs.available.Goals as goal

pub returns : goal.returns
returns g c =
    let b = c.args.t.now in
    let laws = channels_laws g.met.L.Layout.laws in
    let place : c.mask_place.result ≡ g.L.Layout.ARMS + c.args.n.0 = omega (arith, c.mask_place.ensures.0) in
    record {
      small = lt_of_le_of_lt (and_le_l _ _) c.row_vector-unheld.ensures.small;
      bits = channel_available g.L.Layout.RECEIVES b c.args.n.0 0 c.node_row.result.now c.requires.node c.node_row.ensures.0 (laws.owner_is b c.requires.bytes) c.row_vector-unheld.result c.from.result g.L.Layout.ARMS refl c.row_vector-unheld.ensures (c.from.ensures ∙ ap (λ i. get_or b i 0) place) (laws.enabled_is b c.requires.bytes);
    }
