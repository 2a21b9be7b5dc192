-- `release::release_links` meets its contract: what is left to free, from where the loop stands, leaves what all of it leaves.
use Rattle.release.proofs.Releasing.{Freeing}
use Rattle.release.proofs.release_links.Given as goal

abbrev pub invariant-loop-port : goal.invariant-loop-port
invariant-loop-port g l = Freeing l.initial.t l.path l.initial.at.0 l.t l.at.0 l.port-index
