-- What the functions that read a line answer.
-- Assumes nothing.
use Rattle.std.specs.Prelude.{◌≡◌, List, ℕ, IfSome, IfNone, Some, None}
use Rattle.std.specs.declared.option.Option.{Option as Answer}
use Rattle.std.proofs.Math.Option.{Option, none, some}
use Rattle.ownership.specs.Calls.{Call, making, blocking, unblocking, opening, closing, arming, disarming, folding}
use Rattle.input_line.specs.declared.Asked.{Asked}
use Rattle.input_line.specs.declared.Asked.TheVariants.{Make, Block, Unblock, Open, Close, Arm, Disarm, Fold}
use Rattle.input_line.specs.Line.{numbers, with_numbers}

-- the call of what a line was read as
abbrev pub call_of : Answer Asked → Option Call
call_of (Some (Make D)) = some (making D)
call_of (Some (Block n p)) = some (blocking n.0 p.0)
call_of (Some (Unblock n p)) = some (unblocking n.0 p.0)
call_of (Some (Open x)) = some (opening x.source.0 x.channel x.target.0 x.routing x.vector)
call_of (Some (Close s c)) = some (closing s.0 c)
call_of (Some (Arm n k)) = some (arming n.0 k)
call_of (Some (Disarm n k)) = some (disarming n.0 k)
call_of (Some (Fold m)) = some (folding m)
call_of None = none

-- the numbers of some fields were read; None where no letter goes with these fields
pub record ReadNumbers (fs : List (List ℕ)) (r : Answer (List ℕ)) : Type 0 where
  pub read : IfSome r (λ ns. numbers fs ≡ some ns)
  pub unread : IfNone r ((x : ℕ) → with_numbers x (numbers fs) ≡ none)
