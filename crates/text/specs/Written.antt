-- What the functions of this crate write and read.
-- Assumes nothing.
use Rattle.std.specs.Prelude.{◌≡◌, cond, ◌&&◌, List, ℕ, ◌+◌, leb, length, take, Some, None}
use Rattle.std.specs.declared.option.Option.{Option as Answer}
use Rattle.std.proofs.Math.Option.{Option, none, some}
use Rattle.std.proofs.lemmas.List.Edits.{sets}
use Rattle.text.specs.declared.row.Field.{Field as GivenField}
use Rattle.text.specs.declared.row.Field.TheVariants.{Number, Letter, Path}
use Rattle.text.specs.declared.row.Row.{Row as GivenRow}
use Rattle.text.specs.Text.{all_digits, value, largest_number}
use Rattle.text.specs.Row.{Field, nothing, shows, letter, path, field_bytes, Row}

-- a text was written from place i on, byte by byte; place j is behind it
pub record Wrote (b : List ℕ) (i : ℕ) (text : List ℕ) (after : List ℕ) (j : ℕ) : Type 0 where
  pub bytes : after ≡ sets b i text
  pub place : j ≡ i + length text

-- a number that was read; None where there is none
unfoldable pub or_none : Option ℕ → Answer ℕ
or_none none = None
or_none (some n) = Some n

-- what digits say behind others that say n, up to 65,535; None where they are no digits or say more
unfoldable pub said : ℕ → List ℕ → Answer ℕ
said n xs = cond (all_digits xs && leb (value n xs) largest_number) (Some (value n xs)) None

-- what a field shows that was given beside a buffer of ports: a path is as many of them as it says
abbrev pub shown_of : List ℕ → GivenField → Field
shown_of ports (Number n) = shows n
shown_of ports (Letter x) = letter x
shown_of ports (Path n) = path (take n ports)

-- the same of a field that may show nothing
abbrev pub field_of : List ℕ → Answer GivenField → Field
field_of ports None = nothing
field_of ports (Some f) = shown_of ports f

-- the printed line of eight such fields
abbrev pub row_of : List ℕ → GivenRow → Row
row_of ports r =
    record {
      line = shows r.line;
      call = field_of ports r.call;
      answer = shows r.answer;
      node = field_of ports r.node;
      channel = field_of ports r.channel;
      receive = field_of ports r.receive;
      scouts = field_of ports r.scouts;
      ports = field_of ports r.ports;
    }

-- how many bytes a field takes, and a printed line: its eight fields, seven spaces and a newline
abbrev pub width : Field → ℕ
width f = length (field_bytes f)

abbrev pub row_width : Row → ℕ
row_width r =
    width r.line + width r.call + width r.answer + width r.node + width r.channel + width r.receive + width r.scouts + width r.ports + 8
