-- The packet types and the commands as the code names them, by their numbers.
-- Assumes nothing.
use Rattle.std.specs.Prelude.{◌≡◌, ℕ, Result, MatchResult}
use Rattle.common.specs.declared.refusal.Refusal.{Refusal}
use Rattle.common.specs.declared.refusal.Refusal.TheVariants.{ReservedCommand}
use Rattle.command_word.specs.declared.kinds.PacketType.{PacketType}
use Rattle.command_word.specs.declared.kinds.PacketType.TheVariants.{Address, Data, BackTrack, Forward}
use Rattle.command_word.specs.declared.kinds.Command.{Command}
use Rattle.command_word.specs.declared.kinds.Command.TheVariants.{PacketAcknowledge, RouteAcknowledge, RouteRejected, ReceiveRejected, ForwardedRouteRejected, EndToEndAcknowledge, EndToEndNotAcknowledged, EndOfMessage, EndOfTransmission, ResetCpu, ResetNode, FlushPath}
use Rattle.command_word.specs.Commands.{packet_acknowledge, route_acknowledge, route_rejected, receive_rejected, forwarded_route_rejected, end_to_end_acknowledge, end_to_end_not_acknowledged, end_of_message, end_of_transmission, reset_cpu, reset_node, flush_path, values}

-- Words 2: the packet types
abbrev pub packet_type_number : PacketType → ℕ
packet_type_number Address = 0
packet_type_number Data = 1
packet_type_number BackTrack = 2
packet_type_number Forward = 3

abbrev pub command_number : Command → ℕ
command_number PacketAcknowledge = packet_acknowledge
command_number RouteAcknowledge = route_acknowledge
command_number RouteRejected = route_rejected
command_number ReceiveRejected = receive_rejected
command_number ForwardedRouteRejected = forwarded_route_rejected
command_number EndToEndAcknowledge = end_to_end_acknowledge
command_number EndToEndNotAcknowledged = end_to_end_not_acknowledged
command_number EndOfMessage = end_of_message
command_number EndOfTransmission = end_of_transmission
command_number ResetCpu = reset_cpu
command_number ResetNode = reset_node
command_number FlushPath = flush_path

-- a number names the command that has it; one that is in no list is reserved
abbrev pub NamedBy : ℕ → Result Command Refusal → Type 0
NamedBy number answer = MatchResult answer (λ c. command_number c ≡ number) (λ e. (e ≡ ReservedCommand) × (values number ≡ 0))
