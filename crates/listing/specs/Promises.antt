-- What the users rely on of the printed list (Promises 18), one statement for each promise. Each is the contract of a function of this crate (src/lib.rt), and is proved with it.
-- Assumes nothing.
use Rattle.std.specs.Prelude.{◌≡◌, List, ℕ}
use Rattle.text.specs.Lines.{lines}
use Rattle.listing.specs.Listing.{printed, recorded}
use Rattle.listing.specs.Before.{printed_before, WithoutFolding}

-- History 11: what is printed is what the ownership history of its calls says.
abbrev pub ListsSay : Type 0
ListsSay = (input : List ℕ) → printed input ≡ recorded input

-- Listing 18: of an input without a fold it is, byte for byte, what the calls on a narrow table would print.
abbrev pub ListsAsBefore : Type 0
ListsAsBefore = (input : List ℕ) → WithoutFolding (lines input) → printed input ≡ printed_before input
