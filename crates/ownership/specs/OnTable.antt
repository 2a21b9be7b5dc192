-- What each call does to the bytes of a lent table, which is to have q ports to a node: 8 where the call is one on a narrow table, 18 where on a wide one. That alone
-- tells the two kinds of calls apart (Calls 19, Wide 9), by Refusals 1 and by the bytes that are written. The contracts of the calls say exactly this, and the
-- theorem about lists of calls is about this.
-- Assumes nothing.
use Rattle.std.specs.Prelude.{cond, List, [], ◌∷◌, ◌++◌, ℕ}
use Rattle.common.specs.Tests.{Test, refusal}
use Rattle.table.specs.View.{View, view}
use Rattle.table.specs.Encode.{encode_over}
use Rattle.soundness.specs.TableTests.{length_test, table_tests}
use Rattle.ownership.specs.Calls.{Call, form, CallFacts, call_tests, After, call_on}
use Rattle.ownership.specs.TableFacts.{facts_with, job_in}
use Rattle.ownership.specs.Update.{updated}

-- what a call asks of a table that shows v
unfoldable pub facts_of : View → CallFacts
facts_of v = facts_with (λ xs. (job_in v xs).result) v

-- Calls 8: the tests of the lent table, 1, 2 and 3. A making is not stopped by what the table stored before.
unfoldable pub lent_tests : ℕ → List ℕ → Call → List Test
lent_tests q b a = cond (form a).is_making (length_test q b ∷ []) (table_tests q b)

-- Calls 4: all tests of a call, in the order in which they are made. The first that applies decides the number, 0 where none does.
unfoldable pub stopped_at : ℕ → List ℕ → Call → ℕ
stopped_at q b a = refusal (lent_tests q b a ++ call_tests (facts_of (view b)) a)

-- Calls 18: what a call does to the bytes of a table. Where it is accepted, they are those that show the update of what the table showed. These bytes and the call
-- are all that it depends on (Calls 20).
unfoldable pub table_step : ℕ → List ℕ → Call → After (List ℕ)
table_step q b a = call_on b (encode_over q (updated (view b) a)) (facts_of (view b)) (stopped_at q b a) a

-- as the contracts of the calls say it: the bytes of the table after a call, its number, its values and its buffers
abbrev pub done : List ℕ → ℕ → List ℕ → List (List ℕ) → After (List ℕ)
done b number values buffers = record { state = b; result = record { number = number; values = values; buffers = buffers } }
