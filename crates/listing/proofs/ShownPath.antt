-- The line of an acknowledged open shows the path that was found.
-- Assumes nothing.
use mathlib.Core.Path.{◌≡◌, refl, ap, ap₂, ◌∙◌}
use mathlib.Core.Bool.{true, cond, ◌&&◌, ◌||◌}
use mathlib.Core.List.{◌∷◌, ◌++◌}
use mathlib.Core.Option.{some}
use Prim.Native.Nat.{ℕ}
use lib.Dec.{lit≤}
use lib.ListN.{length, take, drop}
use lib.Seq.{take-append_seam}
use borrow.Author.Tests.{eq-eqb}
use Rattle.common.specs.Lists.{any}
use Rattle.paths.specs.Network.{Path}
use Rattle.paths.specs.Send.{acknowledged}
use Rattle.circuit_path.specs.Traced.{traced_into}
use Rattle.ownership.specs.Calls.{opening, tracing, CallResult, hops_of, buffer_of, answered, result_of}
use Rattle.ownership.specs.Allowed.{Allowed}
use Rattle.ownership.specs.History.{Circuit, History, belongs, open_on, listed, facts_on, stopped_on, send_on, with_circuits, with_opened, applied, history_step, waiting_on}
use Rattle.ownership.proofs.Allowed.{allowed_on, allowed_passes}
use Rattle.ownership.proofs.Steps.{history_step_lem}
use Rattle.text.specs.Row.{path}
use Rattle.printed_line.specs.PrintedLine.{call_row, zero_buffer, traced_ports, row_for}

module _ (h : History) (s c t y v : ℕ) (w : Path) (k : ℕ) (passes : stopped_on h (opening s c t y v) ≡ 0) (sends : (send_on h s t y v).outcome ≡ acknowledged w k) where
  new : Circuit
  new = record { source = s; channel = c; ports = w; target = t; receive = k }

  after : History
  after = with_circuits h (new ∷ h.circuits)

  accepted_number : (history_step h (opening s c t y v)).result.number ≡ 0
  unfolding result_of facts_on answered
  accepted_number = ap (λ (x : CallResult). x.number) ((history_step_lem h (opening s c t y v)).result passes) ∙ ap (λ o. (answered (waiting_on h s t y v) o (send_on h s t y v).scouts).number) sends

  opened : (history_step h (opening s c t y v)).state ≡ after
  unfolding applied with_opened after new
  opened = (history_step_lem h (opening s c t y v)).accepted accepted_number ∙ ap (with_opened h s c t) sends

  its_own : belongs s c new ≡ true
  unfolding belongs new
  its_own = ap₂ ◌&&◌ (eq-eqb s s refl) (eq-eqb c c refl)

  listed_path : listed after.circuits s c ≡ w
  unfolding listed after new
  listed_path = ap (λ x. cond x w (listed h.circuits s c)) its_own

  trace_passes : stopped_on after (tracing s c zero_buffer) ≡ 0
  unfolding stopped_on Allowed facts_on after open_on any
  trace_passes =
      let r = allowed_on h (opening s c t y v) passes in
      allowed_passes (facts_on after) (tracing s c zero_buffer) (r.0, r.2, ap (◌|| any (belongs s c) h.circuits) its_own, lit≤ tt)

  traced_path : traced_ports history_step after s c ≡ w
  unfolding traced_ports result_of facts_on traced_into
  traced_path =
      ap (λ (x : CallResult). take (hops_of x) (buffer_of x)) ((history_step_lem after (tracing s c zero_buffer)).result trace_passes)
      ∙ ap (λ u. take (length u) (u ++ drop (length u) zero_buffer)) listed_path ∙ take-append_seam w (drop (length w) zero_buffer)

  -- Listing 15: the ports are those of the path with which the open was acknowledged.
  pub shows_path : (n : ℕ) → (row_for history_step h n (some (opening s c t y v))).ports ≡ path w
  unfolding row_for call_row
  shows_path n = rw (eq-eqb (history_step h (opening s c t y v)).result.number 0 accepted_number) (ap path (ap (λ x. traced_ports history_step x s c) opened ∙ traced_path))
