-- What a table shows after a call that no test stops, from what it showed before. The layout of the bytes plays no part (Tables 12).
-- Assumes nothing.
use Rattle.std.specs.Prelude.{true, false}
use Rattle.cube.specs.Cube.{circuit_of}
use Rattle.table.specs.View.{View, set_enabled, set_armed, without_circuit, fresh}
use Rattle.table.specs.Folding.{set_fold}
use Rattle.ownership.specs.Sends.{sends_in}
use Rattle.ownership.specs.Calls.{Call, making, blocking, unblocking, opening, closing, tracing, arming, disarming, opening_all, booking, judging, folding}
use Rattle.ownership.specs.InTurn.{after_job}
use Rattle.ownership.specs.TableFacts.{opened, job_in}

unfoldable pub updated : View → Call → View
-- Calls 9
updated v (making D) = fresh D
-- Calls 10, Calls 11: the link out of a port is enabled no more, or again.
updated v (blocking n p) = set_enabled v n p false
updated v (unblocking n p) = set_enabled v n p true
-- Calls 14, Searches 10: the circuit of the send channel holds what its send takes.
updated v (opening s c t y x) = opened v (record { source = s; channel = c; target = t; type = y; vector = x })
-- Calls 15
updated v (closing s c) = without_circuit v (circuit_of s c)
-- Calls 16: a trace only reads.
updated v (tracing s c buffer) = v
-- Calls 12, Calls 13: a receive channel is armed, or no more.
updated v (arming n k) = set_armed v n k true
updated v (disarming n k) = set_armed v n k false
-- Jobs 5, Jobs 6: a job leaves what its opens leave if all are acknowledged, and else the table as it was.
updated v (opening_all sends) = after_job v (job_in v (sends_in sends))
-- Books 5, Judging 8: a book and a judging only read.
updated v (booking ports index) = v
updated v (judging ports index circuits hops) = v
-- Folding 3
updated v (folding mask) = set_fold v mask
