-- `release::release_links` meets its contract: what is left to free, from where the loop stands, leaves what all of it leaves.
use Rattle.release.proofs.Releasing.{port_of, without_on, next_within, freed_bytes_are}
use Rattle.release.proofs.release_links.Goals as goal

pub set_owner-requires : goal.set_owner-requires
set_owner-requires g c =
    next_within g.met.L.Layout.laws c.requires.bytes c.requires.fits c.loop-port.invariant (port_of c.args.t.now c.args.path.now c.loop-port.port-index c.from.ensures (c.requires.there c.loop-port.port-index c.loop-port-test.true))

pub neighbour-at-requires : goal.neighbour-at-requires
neighbour-at-requires g c =
    c.board-board.ensures.3 _ _ c.requires.fits (port_of c.args.t.now c.args.path.now c.loop-port.port-index c.from.ensures (c.requires.there c.loop-port.port-index c.loop-port-test.true))

pub loop-port-preserved : goal.loop-port-preserved
loop-port-preserved g c =
    without_on c.loop-port.invariant c.loop-port-test.true c.from.ensures (port_of c.args.t.now c.args.path.now c.loop-port.port-index c.from.ensures (c.requires.there c.loop-port.port-index c.loop-port-test.true)) c.set_owner.ensures c.neighbour-at.ensures

pub returns : goal.returns
returns g c = freed_bytes_are c.loop-port.invariant c.loop-port-test.false
