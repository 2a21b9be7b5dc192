-- What the users rely on of conversions, one statement for each promise. Each is the contract of a function of this crate (src/lib.rt), and is proved with it. The table
-- read, whose bytes are a, has q ports to a node, and the one written r: 8 of a narrow table, 18 of a wide one.
-- Assumes nothing.
use Rattle.std.specs.Prelude.{◌≡◌, List, ℕ}
use Rattle.layout.specs.Resources.{Width}
use Rattle.table.specs.Encode.{AllBytes}
use Rattle.converting.specs.Converted.{convert_step, widen_step}
use Rattle.converting.specs.ConvertSays.{ConvertSays, ThereAndBack, SameInBoth, FoldedBetween}

-- Promises 17, Wide 13: a table and the one that it was converted to answer alike.
abbrev pub SameAnswers : Type 0
SameAnswers = (q r : ℕ) → Width q → Width r → (a c : List ℕ) → (convert_step q r a c).result.number ≡ 0 → AllBytes a → SameInBoth q r a (convert_step q r a c).state

-- Promises 17, Wide 14: there and back gives the same bytes.
abbrev pub BackTheSame : Type 0
BackTheSame = (q r : ℕ) → Width q → Width r → (a c : List ℕ) → (convert_step q r a c).result.number ≡ 0 → AllBytes a → ThereAndBack q r a (convert_step q r a c).state

-- Wide 14: a wide table that was written of a narrow one, folded and unfolded again goes back to that.
abbrev pub GoesBackUnfolded : Type 0
GoesBackUnfolded = (a c : List ℕ) → (widen_step a c).result.number ≡ 0 → AllBytes a → FoldedBetween a (widen_step a c).state

-- Promises 17, Wide 10, Wide 11: the table written shows what the table read shows, and is sound.
abbrev pub ConvertsSay : Type 0
ConvertsSay = (q r : ℕ) → Width q → Width r → (a c : List ℕ) → (convert_step q r a c).result.number ≡ 0 → AllBytes a → ConvertSays r a (convert_step q r a c).state
