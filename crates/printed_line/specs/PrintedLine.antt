-- The printed line of an input line (Listing 10 to 17). It is stated over any state that calls are made on: the bytes of a table, on which the program makes them,
-- and the ownership history, on which it can be computed.
-- Assumes nothing.
use Rattle.std.specs.Prelude.{Bool, cond, List, ℕ, eqb, take, replicate}
use Rattle.std.proofs.Math.Option.{Option, none, some}
use Rattle.ownership.specs.Calls.{Call, making, blocking, unblocking, opening, closing, tracing, arming, disarming, opening_all, booking, judging, folding, CallResult, hops_of, receive_of, scouts_of, buffer_of, carries_scouts, After}
use Rattle.text.specs.Row.{Field, nothing, shows, path, Row, row, answer_alone}
use Rattle.input_line.specs.Line.{letter_b, letter_c, letter_d, letter_e, letter_f, letter_m, letter_r, letter_s}

-- Calls 7: an accepted call answers 0.
abbrev pub is_accepted : CallResult → Bool
is_accepted x = eqb x.number 0

-- a field that shows nothing unless something holds
abbrev pub shows_if : Bool → Field → Field
shows_if b f = cond b f nothing

-- Listing 12 to 15: the fields of the line printed for each call. The path of a send channel is what `way` says.
unfoldable pub call_row : ℕ → Call → CallResult → (ℕ → ℕ → List ℕ) → Row
call_row n (making D) x way = row n letter_f x.number nothing nothing nothing nothing nothing
call_row n (blocking m p) x way = row n letter_b x.number (shows m) nothing nothing nothing (shows p)
call_row n (unblocking m p) x way = row n letter_e x.number (shows m) nothing nothing nothing (shows p)
call_row n (opening s c t y v) x way =
    row n letter_s x.number (shows s) (shows c) (shows_if (is_accepted x) (shows (receive_of x))) (shows_if (carries_scouts x.number) (shows (scouts_of x)))
    (shows_if (is_accepted x) (path (way s c)))
call_row n (closing s c) x way = row n letter_c x.number (shows s) (shows c) nothing nothing nothing
-- Listing 13: R and D show node and channel,
call_row n (arming m k) x way = row n letter_r x.number (shows m) (shows k) nothing nothing nothing
call_row n (disarming m k) x way = row n letter_d x.number (shows m) (shows k) nothing nothing nothing
-- and M, as F, shows neither.
call_row n (folding m) x way = row n letter_m x.number nothing nothing nothing nothing nothing
-- no line asks for a trace, a job or a book
call_row n (tracing s c buffer) x way = answer_alone n x.number
call_row n (opening_all sends) x way = answer_alone n x.number
call_row n (booking ports index) x way = answer_alone n x.number
call_row n (judging ports index circuits hops) x way = answer_alone n x.number

-- Listing 17: every field but line and answer is `-`.
unfoldable pub unreadable : ℕ → Row
unreadable n = answer_alone n 20

-- the buffer that a trace is lent
abbrev pub zero_buffer : List ℕ
zero_buffer = replicate 9 0

module _ {S : Type 0} (makes : S → Call → After S) where
  -- the ports that a trace of a send channel writes
  unfoldable pub traced_ports : S → ℕ → ℕ → List ℕ
  traced_ports s n c = let x = (makes s (tracing n c zero_buffer)).result in take (hops_of x) (buffer_of x)

  -- the line printed for what an input line asks
  unfoldable pub row_for : S → ℕ → Option Call → Row
  row_for s n none = unreadable n
  row_for s n (some a) = call_row n a (makes s a).result (traced_ports (makes s a).state)

  -- the state behind it; a line that cannot be read changes nothing
  unfoldable pub state_after : S → Option Call → S
  state_after s none = s
  state_after s (some a) = (makes s a).state
