-- Listing 10: a printed line, which has eight fields with one space between.
-- Assumes nothing.
use Rattle.std.specs.Prelude.{cond, List, [], ◌∷◌, ◌++◌, map, ℕ, ◌+◌, ◌-◌, ltb}
use Rattle.text.specs.Text.{newline, space, dash, digit, decimal}

-- what a field shows: nothing, a number, a call letter, or the ports of a path
pub data Field : Type 0 where
  nothing : Field
  shows : ℕ → Field
  letter : ℕ → Field
  path : List ℕ → Field

-- Listing 16: the digit of a port up to 9, and a to h for 10 to 17; a number that no port has is a dash.
unfoldable pub port_character : ℕ → ℕ
port_character p = cond (ltb p 10) (digit p) (cond (ltb p 18) (97 + (p - 10)) dash)

-- ports in path order, each by its character
unfoldable pub path_characters : List ℕ → List ℕ
path_characters [] = []
path_characters (p ∷ ps) = port_character p ∷ path_characters ps

-- the bytes of a field. Listing 11: `-` where it shows nothing.
unfoldable pub field_bytes : Field → List ℕ
field_bytes nothing = dash ∷ []
field_bytes (shows n) = decimal n
field_bytes (letter x) = x ∷ []
field_bytes (path []) = dash ∷ []
field_bytes (path (p ∷ ps)) = path_characters (p ∷ ps)

pub record Row : Type 0 where
  pub line : Field
  pub call : Field
  pub answer : Field
  pub node : Field
  pub channel : Field
  pub receive : Field
  pub scouts : Field
  pub ports : Field

-- the line of a call: its number, letter, answer, node, channel, receive channel, scouts and ports
abbrev pub row : ℕ → ℕ → ℕ → Field → Field → Field → Field → Field → Row
row n x a node channel receive scouts ports =
    record { line = shows n; call = letter x; answer = shows a; node = node; channel = channel; receive = receive; scouts = scouts; ports = ports }

-- a line that shows its number and an answer alone
abbrev pub answer_alone : ℕ → ℕ → Row
answer_alone n a =
    record { line = shows n; call = nothing; answer = shows a; node = nothing; channel = nothing; receive = nothing; scouts = nothing; ports = nothing }

-- Listing 12 to 15: the fields in their order, as the header names them (Listing 2)
unfoldable pub in_order : Row → List Field
in_order r = r.line ∷ r.call ∷ r.answer ∷ r.node ∷ r.channel ∷ r.receive ∷ r.scouts ∷ r.ports ∷ []

-- fields with one space between
unfoldable pub spaced : List (List ℕ) → List ℕ
spaced [] = []
spaced (f ∷ []) = f
spaced (f ∷ g ∷ fs) = f ++ space ∷ spaced (g ∷ fs)

-- Listing 19: a newline follows each line.
unfoldable pub ended : List (List ℕ) → List ℕ
ended fs = spaced fs ++ newline ∷ []

unfoldable pub row_text : Row → List ℕ
row_text r = ended (map field_bytes (in_order r))

unfoldable pub rows_text : List Row → List ℕ
rows_text [] = []
rows_text (r ∷ rs) = row_text r ++ rows_text rs
