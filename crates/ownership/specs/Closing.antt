-- Lists of calls between two tries of a send: calls that close circuits and arm channels; calls that repair nothing; and calls that only give more freedom. And a
-- table on which no link is held.
-- Assumes nothing.
use Rattle.std.specs.Prelude.{◌≡◌, false, List, [], ◌∷◌, ℕ}
use Rattle.table.specs.View.{View, held_in}
use Rattle.ownership.specs.Calls.{Call, blocking, unblocking, opening, closing, tracing, arming, disarming, opening_all, booking, judging}

-- each call of a list is such a call
pub data Each (P : Call → Type 0) : List Call → Type 0 where
  no_call : Each P []
  call_more : {a : Call} {calls : List Call} → P a → Each P calls → Each P (a ∷ calls)

-- Promises 9: closings and armings
pub data ClosesOrArms : Call → Type 0 where
  closes : {s c : ℕ} → ClosesOrArms (closing s c)
  arms : {n k : ℕ} → ClosesOrArms (arming n k)

-- Promises 10: every call but an unblock, a make and a setting of the fold mask, which may enable a link
pub data RepairsNothing : Call → Type 0 where
  a_block : {n p : ℕ} → RepairsNothing (blocking n p)
  an_open : {s c t y v : ℕ} → RepairsNothing (opening s c t y v)
  a_close : {s c : ℕ} → RepairsNothing (closing s c)
  a_trace : {s c : ℕ} {buffer : List ℕ} → RepairsNothing (tracing s c buffer)
  an_arming : {n k : ℕ} → RepairsNothing (arming n k)
  a_disarming : {n k : ℕ} → RepairsNothing (disarming n k)
  a_job : {sends : List ℕ} → RepairsNothing (opening_all sends)
  a_book : {ports index : List ℕ} → RepairsNothing (booking ports index)
  a_judging : {ports index : List ℕ} {circuits hops : ℕ} → RepairsNothing (judging ports index circuits hops)

-- Promises 11: calls that close circuits, unblock links or arm channels
pub data GivesFreedom : Call → Type 0 where
  frees : {s c : ℕ} → GivesFreedom (closing s c)
  unblocks : {n p : ℕ} → GivesFreedom (unblocking n p)
  arms : {n k : ℕ} → GivesFreedom (arming n k)

-- no link is held
abbrev pub NoLinkHeld : View → Type 0
NoLinkHeld v = (n p : ℕ) → held_in v n p ≡ false
