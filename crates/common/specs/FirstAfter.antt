-- The first bit of a number after a place, as the function that finds it promises it: for Order 1 and Arbiter 4.
-- Assumes nothing.
use Rattle.std.specs.Prelude.{◌≡◌, true, Bool, ℕ, ◌/◌, ◌%◌, ◌^◌, ◌≤◌, ◌<◌, eqb}

-- bit j of n is set
abbrev pub bit_set : ℕ → ℕ → Bool
bit_set n j = eqb (n / 2 ^ j % 2) 1

-- Bit p is set, and it is the first after a place:
pub data FirstAfter (n place p : ℕ) : Type 0 where
  -- the lowest above the place;
  above : bit_set n p ≡ true → place < p → ((j : ℕ) → place < j → bit_set n j ≡ true → p ≤ j) → FirstAfter n place p
  -- or, where none is above it, the lowest of all
  round : bit_set n p ≡ true → ((j : ℕ) → bit_set n j ≡ true → j ≤ place) → ((j : ℕ) → bit_set n j ≡ true → p ≤ j) → FirstAfter n place p
