-- A refusal has the number 10 exactly where it is a route rejection.
-- Assumes nothing.
use mathlib.Core.Path.{◌≡◌, refl, ap, sym}
use mathlib.Core.Logic.{◌≢◌}
use mathlib.Core.Bool.{true, false}
use denote.Enum.Bare.{sameb, same_true}
use Rattle.std.proofs.Common.{arith, rules}
use Rattle.common.specs.declared.refusal.Refusal.{Refusal}
use Rattle.common.specs.declared.refusal.Refusal.TheVariants.{RouteRejected}
use Rattle.common.specs.contracts.refusal.Refusal.{the_type}
use Rattle.common.specs.Refusals.{number_of}
use Rattle.common.proofs.Tests.{clash}

pub route_refusal : (e : Refusal) → true ≡ sameb the_type e RouteRejected → number_of e ≡ 10
route_refusal e h = ap number_of (same_true the_type (search rules) e RouteRejected (sym h))

pub other_refusal : (e : Refusal) → sameb the_type e RouteRejected ≡ false → number_of e ≢ 10
other_refusal RouteRejected h = absurd (clash refl h)
other_refusal e h = λ z. omega (arith, z)
