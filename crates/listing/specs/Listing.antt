-- The printed list of an input. It is stated over any state that calls are made on, as its lines are.
-- Assumes nothing.
use Rattle.std.specs.Prelude.{cond, List, [], ◌∷◌, ◌++◌, ℕ, suc, ltb, length}
use Rattle.layout.specs.Layout.{wide_ports}
use Rattle.table.specs.View.{fresh}
use Rattle.table.specs.Encode.{encode_over}
use Rattle.ownership.specs.Calls.{Call, After}
use Rattle.ownership.specs.OnTable.{table_step}
use Rattle.ownership.specs.History.{history_step, new_history}
use Rattle.text.specs.Lines.{lines}
use Rattle.text.specs.Row.{Row, ended, rows_text}
use Rattle.input_line.specs.Line.{asks}
use Rattle.printed_line.specs.PrintedLine.{row_for, state_after}

module _ {S : Type 0} (makes : S → Call → After S) where
  -- Listing 10: one line for each line of the input, counted from n
  unfoldable pub rows : S → ℕ → List (List ℕ) → List Row
  rows s n [] = []
  rows s n (l ∷ ls) = row_for makes s n (asks l) ∷ rows (state_after makes s (asks l)) (suc n) ls

-- Listing 2: `line call answer node channel receive scouts ports`
abbrev pub header_words : List (List ℕ)
header_words =
    (108 ∷ 105 ∷ 110 ∷ 101 ∷ [])
    ∷ (99 ∷ 97 ∷ 108 ∷ 108 ∷ [])
    ∷ (97 ∷ 110 ∷ 115 ∷ 119 ∷ 101 ∷ 114 ∷ [])
    ∷ (110 ∷ 111 ∷ 100 ∷ 101 ∷ [])
    ∷ (99 ∷ 104 ∷ 97 ∷ 110 ∷ 110 ∷ 101 ∷ 108 ∷ [])
    ∷ (114 ∷ 101 ∷ 99 ∷ 101 ∷ 105 ∷ 118 ∷ 101 ∷ [])
    ∷ (115 ∷ 99 ∷ 111 ∷ 117 ∷ 116 ∷ 115 ∷ [])
    ∷ (112 ∷ 111 ∷ 114 ∷ 116 ∷ 115 ∷ [])
    ∷ []

-- Listing 2: the header, a line of these words
unfoldable pub header : List ℕ
header = ended header_words

-- Listing 3: more than 60,000 bytes print `too long` alone.
abbrev pub input_limit : ℕ
input_limit = 60000

unfoldable pub too_long : List ℕ
too_long = ended ((116 ∷ 111 ∷ 111 ∷ []) ∷ (108 ∷ 111 ∷ 110 ∷ 103 ∷ []) ∷ [])

unfoldable pub listing : {S : Type 0} → (S → Call → After S) → S → List ℕ → List ℕ
listing makes s input = cond (ltb input_limit (length input)) too_long (header ++ rows_text (rows makes s 1 (lines input)))

-- Listing 9: the calls are made on one wide table, at first a made one of dimension 1. On its bytes, by the definition that the contracts of the calls cite, and in
-- the ownership history:
unfoldable pub printed : List ℕ → List ℕ
printed input = listing (table_step wide_ports) (encode_over wide_ports (fresh 1)) input

unfoldable pub recorded : List ℕ → List ℕ
recorded input = listing history_step (new_history 1) input
