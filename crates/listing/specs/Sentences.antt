-- What the theorems about the printed list say.
-- Assumes nothing.
use Rattle.std.specs.Prelude.{◌≡◌, ◌⊎◌}
use Rattle.ownership.specs.Calls.{Call, making, blocking, unblocking, opening, closing, tracing, arming, disarming, opening_all, booking, judging, folding, CallResult}
use Rattle.text.specs.Row.{Field, nothing, shows, letter, path}

-- a field that shows a number
unfoldable pub Shown : Field → Type 0
Shown nothing = ⊥
Shown (shows n) = Unit
Shown (letter x) = ⊥
Shown (path ps) = ⊥

-- a call that is an open
unfoldable pub IsOpen : Call → Type 0
IsOpen (making D) = ⊥
IsOpen (blocking n p) = ⊥
IsOpen (unblocking n p) = ⊥
IsOpen (opening s c t y v) = Unit
IsOpen (closing s c) = ⊥
IsOpen (tracing s c buffer) = ⊥
IsOpen (arming n k) = ⊥
IsOpen (disarming n k) = ⊥
IsOpen (opening_all sends) = ⊥
IsOpen (booking ports index) = ⊥
IsOpen (judging ports index circuits hops) = ⊥
IsOpen (folding mask) = ⊥

-- Listing 14: an open that answered 0, 10, 11 or 22
abbrev pub WasSent : Call → CallResult → Type 0
WasSent a x = IsOpen a × ((x.number ≡ 0) ⊎ (x.number ≡ 10) ⊎ (x.number ≡ 11) ⊎ (x.number ≡ 22))
