-- A call a second time, with no list: who is chosen asks, and nobody who asks comes sooner after the record (Arbiter 4).
-- Assumes nothing.
use Rattle.std.specs.Prelude.{◌≡◌, cond, true, false, ℕ, ◌+◌, ◌-◌, ◌≤◌, ◌<◌, ltb}
use Rattle.arbiter.specs.Arbiter.{Choice, is_asking}

-- how many places after the record a requester comes, round the 26: 1 for the next one, 26 for the record itself
unfoldable pub steps : ℕ → ℕ → ℕ
steps last r = cond (ltb last r) (r - last) (r + 26 - last)

pub record Chosen (last requests r : ℕ) : Type 0 where
  pub requester : r < 26
  pub requested : is_asking requests r ≡ true
  pub nearest : (j : ℕ) → j < 26 → is_asking requests j ≡ true → steps last r ≤ steps last j

-- Arbiter 4 to 7: what a call gives, case by case: its number, the requester, and the record after it
pub data CallSays (last requests : ℕ) : Choice → Type 0 where
  -- a request bit beyond requester 25
  bad_request : (r : ℕ) → 26 ≤ r → is_asking requests r ≡ true → CallSays last requests (record { number = 31; requester = 0; last = last })
  -- a record above 25
  bad_record : 25 < last → CallSays last requests (record { number = 31; requester = 0; last = last })
  -- nobody asks: 0 and 26, and the record stays
  nobody_asks : last ≤ 25 → ((r : ℕ) → is_asking requests r ≡ false) → CallSays last requests (record { number = 0; requester = 26; last = last })
  -- 0 and the requester, who is the record then
  one_served : (r : ℕ) → last ≤ 25 → ((j : ℕ) → 26 ≤ j → is_asking requests j ≡ false) → Chosen last requests r → CallSays last requests (record { number = 0; requester = r; last = r })
