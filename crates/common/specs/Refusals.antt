-- The number of each refusal, and of what a call answers.
-- Assumes nothing.
use Rattle.std.specs.Prelude.{ℕ, Result, Ok, Err}
use Rattle.common.specs.declared.refusal.Refusal.{Refusal}
use Rattle.common.specs.declared.refusal.Refusal.TheVariants.{TableLength, Dimension, NotSound, Node, Channel, Port, RoutingType, SendVector, ChannelInUse, RouteRejected, ReceiveRejected, NoCircuit, LinkHeld, BufferShort, WordTooLarge, NotACommand, WrongType, ReservedCommand, CarriedTooLarge, UnreadableLine, ChannelHeld, NoRoute, BookShort, Folded, Book, BookCircuit, BookLink, SendList, Halves, ChannelStopped, Requester}

-- Refusals 1 to 31.
abbrev pub number_of : Refusal → ℕ
number_of TableLength = 1
number_of Dimension = 2
number_of NotSound = 3
number_of Node = 4
number_of Channel = 5
number_of Port = 6
number_of RoutingType = 7
number_of SendVector = 8
number_of ChannelInUse = 9
number_of RouteRejected = 10
number_of ReceiveRejected = 11
number_of NoCircuit = 12
number_of LinkHeld = 13
number_of BufferShort = 14
number_of WordTooLarge = 15
number_of NotACommand = 16
number_of WrongType = 17
number_of ReservedCommand = 18
number_of CarriedTooLarge = 19
number_of UnreadableLine = 20
number_of ChannelHeld = 21
number_of NoRoute = 22
number_of BookShort = 23
number_of Folded = 24
number_of Book = 25
number_of BookCircuit = 26
number_of BookLink = 27
number_of SendList = 28
number_of Halves = 29
number_of ChannelStopped = 30
number_of Requester = 31

-- Refusals 0, Calls 7: 0 for success.
abbrev pub answer_of : {A : Type 0} → Result A Refusal → ℕ
answer_of (Ok a) = 0
answer_of (Err e) = number_of e
