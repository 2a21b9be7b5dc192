-- The arbiter's definitions, computed on small examples; Examples 22 is among them.
-- Assumes nothing.
use Rattle.std.specs.Prelude.{◌≡◌, refl, [], ◌∷◌, ◌++◌, map, ℕ, ◌+◌, ◌-◌, ◌^◌, replicate}
use Rattle.common.specs.Lists.{keep, from}
use Rattle.common.specs.Tests.{refusal}
use Rattle.arbiter.specs.Arbiter.{Choice, is_asking, order, chosen, arbiter_tests, accepted_choice, arbitrated}
use Rattle.arbiter.specs.Calls.{calls, accepted_calls, served_by}

abbrev gave : ℕ → ℕ → ℕ → Choice
gave n r l = record { number = n; requester = r; last = l }

-- the order after requester 17, the last input port: the send channels, then the ports
order_17 : order 17 ≡ 18 ∷ 19 ∷ 20 ∷ 21 ∷ 22 ∷ 23 ∷ 24 ∷ 25 ∷ from 0 18
unfolding order from
order_17 = refl

-- the requesters that a number names
who_asks : keep (is_asking (2 ^ 0 + 2 ^ 17 + 2 ^ 18 + 2 ^ 25)) (from 0 32) ≡ 0 ∷ 17 ∷ 18 ∷ 25 ∷ []
unfolding keep from is_asking
who_asks = refl

-- 17 and 18 ask: after 17 it is the turn of 18, and after 18 that of 17; after 25 it is the turn of 0, and after 0 that of 25; one who is alone is served again
choices : map (λ last. arbitrated last (2 ^ 17 + 2 ^ 18)) (17 ∷ 18 ∷ []) ++ map (λ last. arbitrated last (2 ^ 0 + 2 ^ 25)) (25 ∷ 0 ∷ []) ++ arbitrated 5 (2 ^ 5) ∷ []
    ≡ gave 0 18 18 ∷ gave 0 17 17 ∷ gave 0 0 0 ∷ gave 0 25 25 ∷ gave 0 5 5 ∷ []
unfolding keep from is_asking order chosen refusal arbiter_tests accepted_choice arbitrated
choices = refl

-- no request; a request bit at 26; a record of 26, also with no request
edges : arbitrated 5 0 ∷ arbitrated 5 (2 ^ 26) ∷ arbitrated 26 1 ∷ arbitrated 26 0 ∷ [] ≡ gave 0 26 5 ∷ gave 31 0 5 ∷ gave 31 0 26 ∷ gave 31 0 26 ∷ []
unfolding keep from is_asking order chosen refusal arbiter_tests accepted_choice arbitrated
edges = refl

-- 26 calls from record 0, in each of which all ask, and a refused call among them: 0 is served by the last accepted one
all_served : map served_by (accepted_calls 0 (replicate 3 (2 ^ 26 - 1) ++ (2 ^ 26 ∷ replicate 23 (2 ^ 26 - 1)))) ≡ from 1 25 ++ 0 ∷ []
unfolding keep from is_asking order chosen refusal arbiter_tests accepted_choice arbitrated calls accepted_calls
all_served = refl
