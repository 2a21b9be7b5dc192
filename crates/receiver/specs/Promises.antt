-- What the users rely on of a receive channel (Promises 21). It is the contract of a function of this crate (src/lib.rt), and is proved with it.
-- Assumes nothing.
use Rattle.std.specs.Prelude.{◌^◌, ◌<◌, List}
use Rattle.receiver.specs.Receive.{Packet}
use Rattle.receiver.specs.Machine.{Start, AgreesAfter}

-- Receiver 12: from every start, every sequence of packets, refused ones included, agrees with the machine.
abbrev pub ReceivesAgree : Type 0
ReceivesAgree = (s : Start) → s.address < 2 ^ 32 → s.count < 2 ^ 32 → (packets : List Packet) → AgreesAfter s packets
