-- A field reads as a number exactly if it is what that number is printed as.
-- Assumes nothing.
use mathlib.Core.Path.{◌≡◌, refl, ap, ap₂, sym, ◌∙◌}
use mathlib.Core.Logic.{◌≢◌, ◌⊎◌, inl, inr, ◌↔◌}
use mathlib.Core.Bool.{Bool, true, false, cond, not, ◌&&◌}
use mathlib.Core.List.{List, [], ◌∷◌, ◌++◌, append-nil, append_assoc}
use mathlib.Core.Option.{some, none, some-injective, none-ne-some}
use Prim.Native.Nat.{ℕ, zero, suc, ◌+◌, ◌-◌, ◌*◌, ◌/◌, ◌%◌, ◌≤◌, ◌<◌}
use native.Mathlib.Omega.{arith}
use lib.Dec.{leb}
use lib.ListN.{length, get_or}
use borrow.Author.Tests.{ne_eqb, le-leb, leb-true, eqb-false, not-true}
use Rattle.common.proofs.Tests.{below_or, both}
use Rattle.text.specs.Text.{digit, is_digit, decimal, all_digits, value, leading_zero, largest_number, field_number}
use Rattle.text.proofs.Digits.{decimal_short, decimal_long}

value_after : (xs : List ℕ) (n x : ℕ) → value n (xs ++ x ∷ []) ≡ 10 * value n xs + (x - 48)
unfolding value
value_after [] n x = refl
value_after (y ∷ xs) n x = value_after xs (10 * n + (y - 48)) x

digits_after : (xs : List ℕ) (x : ℕ) → all_digits xs ≡ true → 48 ≤ x → x ≤ 57 → all_digits (xs ++ x ∷ []) ≡ true
unfolding all_digits
digits_after [] x e h l = rw (le-leb 48 x h, le-leb x 57 l)
digits_after (y ∷ xs) x e h l =
    let r = both (is_digit y) (all_digits xs) e in rw r.0 (digits_after xs x r.1 h l)

-- what holds of the digits of n: they are digits, they say n, and their first is a zero only where n is
record SaysNumber (n : ℕ) (xs : List ℕ) : Type 0 where
  some_digit : 0 < length xs
  all_digits_lem : all_digits xs ≡ true
  says : value 0 xs ≡ n
  first : 0 < n → get_or xs 0 0 ≢ 48

says_digit : (n : ℕ) → n < 10 → SaysNumber n (digit n ∷ [])
unfolding all_digits value
says_digit n h = record { some_digit = omega arith; all_digits_lem = rw (le-leb 48 (48 + n) (omega arith), le-leb (48 + n) 57 (omega arith)); says = omega arith; first = λ p e. omega arith }

says_after : (n : ℕ) (xs : List ℕ) → 10 ≤ n → SaysNumber (n / 10) xs → SaysNumber n (xs ++ (digit (n % 10) ∷ []))
says_after n [] h s = absurd (let p = s.some_digit in omega arith)
says_after n (y ∷ xs) h s =
    record {
      some_digit = omega arith;
      all_digits_lem = digits_after (y ∷ xs) (digit (n % 10)) s.all_digits_lem (omega arith) (omega arith);
      says = value_after (y ∷ xs) 0 (digit (n % 10)) ∙ (let e = s.says in omega arith);
      first = λ p. s.first (omega arith);
    }

says_decimal : (k n : ℕ) → n ≤ k → SaysNumber n (decimal n)
says_decimal zero n h = rw (decimal_short n (omega arith)) (says_digit n (omega arith))
says_decimal (suc k) n h = go (below_or 10 n) (says_decimal k (n / 10))
  where
    go : (n < 10) ⊎ (10 ≤ n) → (n / 10 ≤ k → SaysNumber (n / 10) (decimal (n / 10))) → SaysNumber n (decimal n)
    go (inl s) ih = rw (decimal_short n s) (says_digit n s)
    go (inr l) ih = rw (decimal_long n l) (says_after n (decimal (n / 10)) l (ih (omega arith)))

no_zero : (xs : List ℕ) → get_or xs 0 0 ≢ 48 → leading_zero xs ≡ false
unfolding leading_zero
no_zero [] h = refl
no_zero (x ∷ []) h = refl
no_zero (x ∷ y ∷ xs) h = ne_eqb x 48 h

reads : (xs : List ℕ) (n : ℕ) → SaysNumber n xs → leading_zero xs ≡ false → n ≤ largest_number → field_number xs ≡ some n
unfolding field_number
reads [] n s z h = absurd (let p = s.some_digit in omega arith)
reads (x ∷ xs) n s z h = rw (s.all_digits_lem, z, s.says, le-leb n largest_number h)

-- Listing 7: printing a number up to 65,535 and reading it gives it back.
pub reads_back : (n : ℕ) → n ≤ largest_number → field_number (decimal n) ≡ some n
reads_back n h = reads (decimal n) n (says_decimal n n (omega arith)) (go (below_or 10 n)) h
  where
    go : (n < 10) ⊎ (10 ≤ n) → leading_zero (decimal n) ≡ false
    go (inl s) = rw (decimal_short n s) (unfold leading_zero in refl)
    go (inr l) = no_zero (decimal n) ((says_decimal n n (omega arith)).first (omega arith))

-- a digit is the decimal of what it says
digit_decimal : (x : ℕ) → is_digit x ≡ true → decimal (10 * 0 + (x - 48)) ≡ x ∷ []
digit_decimal x e =
    let d = both (leb 48 x) (leb x 57) e in
    let low = leb-true 48 x d.0 in
    let high = leb-true x 57 d.1 in
    let same : digit (10 * 0 + (x - 48)) ≡ x = omega arith in
    decimal_short (10 * 0 + (x - 48)) (omega arith) ∙ ap (◌∷ []) same

-- digits behind the decimal of a number that is not zero make the decimal of what they say together
digits_on : (xs : List ℕ) (n : ℕ) → 0 < n → all_digits xs ≡ true → decimal n ++ xs ≡ decimal (value n xs)
unfolding all_digits value
digits_on [] n h e = append-nil (decimal n)
digits_on (x ∷ xs) n h e =
    let r = both (is_digit x) (all_digits xs) e in
    let d = both (leb 48 x) (leb x 57) r.0 in
    let low = leb-true 48 x d.0 in
    let high = leb-true x 57 d.1 in
    let m : ℕ = 10 * n + (x - 48) in
    let tenth : m / 10 ≡ n = omega arith in
    let last : digit (m % 10) ≡ x = omega arith in
    let more : decimal m ≡ decimal n ++ (x ∷ []) = decimal_long m (omega arith) ∙ ap₂ (λ (k y : ℕ). decimal k ++ (y ∷ [])) tenth last in
    sym (append_assoc (decimal n) (x ∷ []) xs) ∙ ap (◌++ xs) (sym more) ∙ digits_on xs m (omega arith) r.1

-- so digits without a leading zero are the decimal of what they say
is_decimal : (x : ℕ) (xs : List ℕ) → all_digits (x ∷ xs) ≡ true → leading_zero (x ∷ xs) ≡ false → x ∷ xs ≡ decimal (value 0 (x ∷ xs))
unfolding all_digits leading_zero value
is_decimal x [] e z = sym (digit_decimal x (both (is_digit x) true e).0)
is_decimal x (y ∷ ys) e z =
    let r = both (is_digit x) (all_digits (y ∷ ys)) e in
    let low = leb-true 48 x (both (leb 48 x) (leb x 57) r.0).0 in
    let other = eqb-false x 48 z in
    ap (◌++ (y ∷ ys)) (sym (digit_decimal x r.0)) ∙ digits_on (y ∷ ys) (10 * 0 + (x - 48)) (omega arith) r.1

-- a text that reads as n is such digits, and n is what they say
said_by : (x : ℕ) (xs : List ℕ) (n : ℕ) → field_number (x ∷ xs) ≡ some n → (x ∷ xs ≡ decimal n) × (n ≤ largest_number)
unfolding field_number
said_by x xs n = go (all_digits (x ∷ xs) && not (leading_zero (x ∷ xs)) && leb (value 0 (x ∷ xs)) largest_number) refl
  where
    go : (b : Bool) → (all_digits (x ∷ xs) && not (leading_zero (x ∷ xs)) && leb (value 0 (x ∷ xs)) largest_number) ≡ b
        → cond b (some (value 0 (x ∷ xs))) none ≡ some n → (x ∷ xs ≡ decimal n) × (n ≤ largest_number)
    go true e q =
        let same : value 0 (x ∷ xs) ≡ n = some-injective _ _ q in
        let r = both (all_digits (x ∷ xs) && not (leading_zero (x ∷ xs))) (leb (value 0 (x ∷ xs)) largest_number) e in
        let s = both (all_digits (x ∷ xs)) (not (leading_zero (x ∷ xs))) r.0 in
        (is_decimal x xs s.0 (not-true _ s.1) ∙ ap decimal same, omega (arith, leb-true (value 0 (x ∷ xs)) largest_number r.1, same))
    go false e q = absurd (none-ne-some n q)

-- Listing 7: a field reads as n exactly if it is the decimal of n, and n is at most 65,535.
pub reads_exactly : (xs : List ℕ) (n : ℕ) → (field_number xs ≡ some n) ↔ ((xs ≡ decimal n) × (n ≤ largest_number))
unfolding field_number
reads_exactly xs n = (forth xs, (λ r. rw r.0 (reads_back n r.1)))
  where
    forth : (xs : List ℕ) → field_number xs ≡ some n → (xs ≡ decimal n) × (n ≤ largest_number)
    forth [] e = absurd (none-ne-some n e)
    forth (x ∷ xs) e = said_by x xs n e
