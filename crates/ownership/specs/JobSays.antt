-- A job by what its single opens say, made one after another on the table by themselves (Promises 13; proved: JobSays).
-- Assumes nothing.
use Rattle.std.specs.Prelude.{◌≡◌, ◌⊎◌, ◌≢◌, List, [], ◌∷◌, ◌++◌, map, ℕ, ◌*◌, ◌≤◌, length}
use Rattle.common.specs.Lists.{◌∈◌}
use Rattle.ownership.specs.Sends.{Send, sends_in}
use Rattle.ownership.specs.Calls.{Call, opening_of, CallResult, After}
use Rattle.ownership.specs.OnTable.{table_step, done}
use Rattle.ownership.specs.Agrees.{table_after, table_results}

-- a send of a job as a single call on the bytes of a table
abbrev pub opens_on : ℕ → List ℕ → Send → After (List ℕ)
opens_on q b x = table_step q b (opening_of x)

-- the single opens that a list of sends asks for, in its order
abbrev pub single_opens : List ℕ → List Call
single_opens sends = map opening_of (sends_in sends)

-- calls made one after another are all accepted
abbrev pub AllAccepted : ℕ → List ℕ → List Call → Type 0
AllAccepted q b calls = (g : CallResult) → g ∈ table_results q b calls → g.number ≡ 0

-- the number that a call answers behind some others
abbrev pub number_after : ℕ → List ℕ → List Call → Call → ℕ
number_after q b before a = (table_step q (table_after q b before) a).result.number

-- the first of such calls that is refused, the calls before it and those behind it
pub record FirstRefused (q : ℕ) (b : List ℕ) (calls : List Call) : Type 0 where
  pub before : List Call
  pub call : Call
  pub after : List Call
  pub split : calls ≡ before ++ call ∷ after
  pub accepted : AllAccepted q b before
  pub refused : number_after q b before call ≢ 0

pub record JobSays (q : ℕ) (b sends : List ℕ) (x : After (List ℕ)) : Type 0 where
  -- Jobs 2: ten bytes for each send, and 64 sends at most
  pub length_is : length sends ≡ 10 * length (single_opens sends)
  pub most : length (single_opens sends) ≤ 64
  -- either all are acknowledged, or there is a first refusal
  pub either : AllAccepted q b (single_opens sends) ⊎ FirstRefused q b (single_opens sends)
  -- Jobs 5: if all are acknowledged, the table is the one after them, and the answer 0 and the number of sends.
  pub all : AllAccepted q b (single_opens sends) → x ≡ done (table_after q b (single_opens sends)) 0 (length (single_opens sends) ∷ []) (sends ∷ [])
  -- Jobs 6: at the first that is refused the table is as before the job, and the answer is that send's number and its place from 0.
  pub first : (r : FirstRefused q b (single_opens sends)) → x ≡ done b (number_after q b r.before r.call) (length r.before ∷ []) (sends ∷ [])
