-- What the call that writes a book answers.
-- Assumes nothing.
use Rattle.std.specs.Prelude.{List, [], ◌∷◌, ℕ, Result, Ok, Err}
use Rattle.common.specs.declared.refusal.Refusal.{Refusal}
use Rattle.table_book.specs.declared.BookSize.{BookSize}

-- Books 5: both counts, circuits and hops. Calls 6: zeros where the call is refused.
abbrev pub booked_values : Result BookSize Refusal → List ℕ
booked_values (Ok size) = size.circuits ∷ size.hops ∷ []
booked_values (Err e) = 0 ∷ 0 ∷ []
