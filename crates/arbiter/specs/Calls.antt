-- Lists of calls between which nobody else writes the record: each call with its requests and what it gave, and how long a requester waits.
-- Assumes nothing.
use Rattle.std.specs.Prelude.{◌≡◌, true, List, [], ◌∷◌, map, ℕ, ◌-◌, eqb, length, take}
use Rattle.common.specs.Lists.{◌∈◌, keep}
use Rattle.arbiter.specs.Arbiter.{Choice, is_asking, arbitrated}

-- a call that was made: its requests, and what it gave
pub record ArbiterCall : Type 0 where
  pub requests : ℕ
  pub gave : Choice

abbrev pub call_made : ℕ → ℕ → ArbiterCall
call_made last requests = record { requests = requests; gave = arbitrated last requests }

-- the calls of a list, from a record on: the record after each is the record before the next
unfoldable pub calls : ℕ → List ℕ → List ArbiterCall
calls last [] = []
calls last (requests ∷ more) = call_made last requests ∷ calls (arbitrated last requests).last more

-- those of them that were accepted, in their order: refused ones may stand anywhere between
unfoldable pub accepted_calls : ℕ → List ℕ → List ArbiterCall
accepted_calls last list = keep (λ c. eqb c.gave.number 0) (calls last list)

-- whom a call served, 26 for nobody
abbrev pub served_by : ArbiterCall → ℕ
served_by c = c.gave.requester

-- In n calls that were accepted r asks, each time.
pub record KeepsAsking (n r : ℕ) (cs : List ArbiterCall) : Type 0 where
  pub count : length cs ≡ n
  pub asking : (c : ArbiterCall) → c ∈ cs → is_asking c.requests r ≡ true

-- Arbiter 8, with n for 26: from any record and in any list of calls, where r asks in each of the first n that are accepted, one of these serves r.
unfoldable pub ServedWithin : ℕ → Type 0
ServedWithin n = (r last : ℕ) (list : List ℕ) → KeepsAsking n r (take n (accepted_calls last list)) → r ∈ map served_by (take n (accepted_calls last list))

-- Arbiter 9: there is a list of calls in which r asks in each of the first n that are accepted and the n - 1 before the last do not serve r.
pub record ServedLast (n r : ℕ) : Type 0 where
  pub last : ℕ
  pub list : List ℕ
  pub asked : KeepsAsking n r (take n (accepted_calls last list))
  pub not_before : r ∈ map served_by (take (n - 1) (accepted_calls last list)) → ⊥

-- Arbiter 8: within 26 accepted calls
abbrev pub limit : ℕ
limit = 26
