-- No refusal has the number of success.
-- Assumes nothing.
use mathlib.Core.Logic.{◌≢◌}
use Rattle.common.specs.declared.refusal.Refusal.{Refusal}
use Rattle.common.specs.declared.refusal.Refusal.TheVariants.{TableLength, Dimension, NotSound, Node, Channel, Port, RoutingType, SendVector, ChannelInUse, RouteRejected, ReceiveRejected, NoCircuit, LinkHeld, BufferShort, WordTooLarge, NotACommand, WrongType, ReservedCommand, CarriedTooLarge, UnreadableLine, ChannelHeld, NoRoute, BookShort, Folded, Book, BookCircuit, BookLink, SendList, Halves, ChannelStopped, Requester}
use Rattle.common.specs.Refusals.{number_of}
use Rattle.std.proofs.Common.{arith}

pub refused : (e : Refusal) → number_of e ≢ 0
refused TableLength = λ h. omega (arith, h)
refused Dimension = λ h. omega (arith, h)
refused NotSound = λ h. omega (arith, h)
refused Node = λ h. omega (arith, h)
refused Channel = λ h. omega (arith, h)
refused Port = λ h. omega (arith, h)
refused RoutingType = λ h. omega (arith, h)
refused SendVector = λ h. omega (arith, h)
refused ChannelInUse = λ h. omega (arith, h)
refused RouteRejected = λ h. omega (arith, h)
refused ReceiveRejected = λ h. omega (arith, h)
refused NoCircuit = λ h. omega (arith, h)
refused LinkHeld = λ h. omega (arith, h)
refused BufferShort = λ h. omega (arith, h)
refused WordTooLarge = λ h. omega (arith, h)
refused NotACommand = λ h. omega (arith, h)
refused WrongType = λ h. omega (arith, h)
refused ReservedCommand = λ h. omega (arith, h)
refused CarriedTooLarge = λ h. omega (arith, h)
refused UnreadableLine = λ h. omega (arith, h)
refused ChannelHeld = λ h. omega (arith, h)
refused NoRoute = λ h. omega (arith, h)
refused BookShort = λ h. omega (arith, h)
refused Folded = λ h. omega (arith, h)
refused Book = λ h. omega (arith, h)
refused BookCircuit = λ h. omega (arith, h)
refused BookLink = λ h. omega (arith, h)
refused SendList = λ h. omega (arith, h)
refused Halves = λ h. omega (arith, h)
refused ChannelStopped = λ h. omega (arith, h)
refused Requester = λ h. omega (arith, h)
