-- The call letters (Listing 8): which call a line asks for. The letters are written by their bytes: F is 70, B 66, E 69, S 83, C 67, R 82, D 68 and M 77.
-- Assumes nothing.
use mathlib.Core.Path.{◌≡◌, refl, ap, ap₂, sym, ◌∙◌}
use mathlib.Core.Logic.{◌≢◌}
use mathlib.Core.Bool.{Bool, true, false, cond, false≢true}
use mathlib.Core.List.{List, [], ◌∷◌, map}
use mathlib.Core.Option.{Option, none, some, none-ne-some}
use Prim.Native.Nat.{ℕ, ◌+◌, ◌*◌, ◌≤◌, ◌<◌}
use native.Mathlib.Omega.{arith}
use lib.Dec.{eqb, leb, lit≤, lit<}
use lib.ListN.{length, get_or, length-append}
use borrow.Author.Tests.{le-leb, ne_eqb}
use Rattle.ownership.specs.Calls.{Call, making, blocking, unblocking, opening, closing, tracing, arming, disarming, opening_all, booking, judging, folding}
use Rattle.text.specs.Text.{space, decimal}
use Rattle.text.specs.Lines.{on_first, cut, fields}
use Rattle.input_line.specs.Line.{letter_b, letter_c, letter_d, letter_e, letter_f, letter_m, letter_r, letter_s, in_front, numbers, numbers_of, asked, by_letter, with_numbers, of_fields, longest, asks}
use Rattle.text.specs.Row.{spaced}
use Rattle.text.specs.Above.{Above, AllAbove}
use Rattle.input_line.specs.Sentences.{call_line, CanBeGiven}
use Rattle.text.proofs.Fields.{five_digits}
use Rattle.text.proofs.ReadBack.{reads_back}
use Rattle.text.proofs.Separated.{fields_spaced, above_decimal}

-- the numbers of a line, as its fields give them
numbers_given : (ns : List ℕ) → CanBeGiven ns → numbers (map decimal ns) ≡ some ns
unfolding CanBeGiven numbers
numbers_given [] h = refl
numbers_given (n ∷ ns) h = ap₂ in_front (reads_back n h.0) (numbers_given ns h.1) ∙ (unfold in_front in refl)

above_given : (ns : List ℕ) → AllAbove space (map decimal ns)
unfolding AllAbove
above_given [] = tt
above_given (n ∷ ns) = (above_decimal n, above_given ns)

-- each number takes at most five digits and a space
line_length_lem : (f : List ℕ) (ns : List ℕ) → CanBeGiven ns → length (spaced (f ∷ map decimal ns)) ≤ length f + 6 * length ns
unfolding CanBeGiven spaced
line_length_lem f [] h = omega arith
line_length_lem f (n ∷ ns) h =
    rw (length-append f (space ∷ spaced (decimal n ∷ map decimal ns)))
    (let l = line_length_lem (decimal n) ns h.1 in let d = five_digits n (let p = h.0 in omega arith) in omega arith)

-- a line of a letter and at most five numbers asks for the call of that letter with these numbers
line_asks : (x : ℕ) (ns : List ℕ) → space < x → length ns ≤ 5 → CanBeGiven ns → asks (call_line x ns) ≡ by_letter x ns
unfolding AllAbove call_line asks of_fields with_numbers
line_asks x ns a h g =
    let short : length (spaced ((x ∷ []) ∷ map decimal ns)) ≤ longest = let l = line_length_lem (x ∷ []) ns g in omega arith in
    rw (le-leb _ longest short, fields_spaced (x ∷ []) (map decimal ns) (above, above_given ns), numbers_given ns g)
  where
    above : Above space (x ∷ [])
    above = unfold Above in (a, tt)

-- Listing 8: F makes, B blocks, E unblocks, S opens, C closes,
pub asks_make : (D : ℕ) → CanBeGiven (D ∷ []) → asks (call_line 70 (D ∷ [])) ≡ some (making D)
unfolding numbers_of asked by_letter
asks_make D h = line_asks 70 (D ∷ []) (lit< tt) (lit≤ tt) h

pub asks_block : (node port : ℕ) → CanBeGiven (node ∷ port ∷ []) → asks (call_line 66 (node ∷ port ∷ [])) ≡ some (blocking node port)
unfolding numbers_of asked by_letter
asks_block node port h = line_asks 66 (node ∷ port ∷ []) (lit< tt) (lit≤ tt) h

pub asks_unblock : (node port : ℕ) → CanBeGiven (node ∷ port ∷ []) → asks (call_line 69 (node ∷ port ∷ [])) ≡ some (unblocking node port)
unfolding numbers_of asked by_letter
asks_unblock node port h = line_asks 69 (node ∷ port ∷ []) (lit< tt) (lit≤ tt) h

pub asks_open : (node channel target type vector : ℕ) → CanBeGiven (node ∷ channel ∷ target ∷ type ∷ vector ∷ [])
    → asks (call_line 83 (node ∷ channel ∷ target ∷ type ∷ vector ∷ [])) ≡ some (opening node channel target type vector)
unfolding numbers_of asked by_letter
asks_open node channel target type vector h = line_asks 83 (node ∷ channel ∷ target ∷ type ∷ vector ∷ []) (lit< tt) (lit≤ tt) h

pub asks_close : (node channel : ℕ) → CanBeGiven (node ∷ channel ∷ []) → asks (call_line 67 (node ∷ channel ∷ [])) ≡ some (closing node channel)
unfolding numbers_of asked by_letter
asks_close node channel h = line_asks 67 (node ∷ channel ∷ []) (lit< tt) (lit≤ tt) h

-- R arms and D disarms,
pub asks_arm : (node channel : ℕ) → CanBeGiven (node ∷ channel ∷ []) → asks (call_line 82 (node ∷ channel ∷ [])) ≡ some (arming node channel)
unfolding numbers_of asked by_letter
asks_arm node channel h = line_asks 82 (node ∷ channel ∷ []) (lit< tt) (lit≤ tt) h

pub asks_disarm : (node channel : ℕ) → CanBeGiven (node ∷ channel ∷ []) → asks (call_line 68 (node ∷ channel ∷ [])) ≡ some (disarming node channel)
unfolding numbers_of asked by_letter
asks_disarm node channel h = line_asks 68 (node ∷ channel ∷ []) (lit< tt) (lit≤ tt) h

-- and M sets the fold mask.
pub asks_fold : (mask : ℕ) → CanBeGiven (mask ∷ []) → asks (call_line 77 (mask ∷ [])) ≡ some (folding mask)
unfolding numbers_of asked by_letter
asks_fold mask h = line_asks 77 (mask ∷ []) (lit< tt) (lit≤ tt) h

-- Only a line that begins with M asks for one.
fold_asked : (x a b c d e mask : ℕ) → x ≢ letter_m → asked x a b c d e ≢ some (folding mask)
unfolding asked
fold_asked x a b c d e mask other =
    rw (ne_eqb x letter_m other) (go (eqb x letter_f) (eqb x letter_b) (eqb x letter_e) (eqb x letter_s) (eqb x letter_c) (eqb x letter_r) (eqb x letter_d))
  where
    is_fold : Option Call → Bool
    is_fold none = false
    is_fold (some (making D)) = false
    is_fold (some (blocking n p)) = false
    is_fold (some (unblocking n p)) = false
    is_fold (some (opening s c t y v)) = false
    is_fold (some (closing s c)) = false
    is_fold (some (tracing s c buffer)) = false
    is_fold (some (arming n k)) = false
    is_fold (some (disarming n k)) = false
    is_fold (some (opening_all sends)) = false
    is_fold (some (booking ports index)) = false
    is_fold (some (judging ports index circuits hops)) = false
    is_fold (some (folding m)) = true

    apart : {o : Option Call} → is_fold o ≡ false → o ≢ some (folding mask)
    apart f g = false≢true (sym f ∙ ap is_fold g)

    go : (p q r s t u v : Bool) → cond p (some (making a)) (cond q (some (blocking a b)) (cond r (some (unblocking a b)) (cond s (some (opening a b c d e))
        (cond t (some (closing a b)) (cond u (some (arming a b)) (cond v (some (disarming a b)) none)))))) ≢ some (folding mask)
    go true q r s t u v = apart refl
    go false true r s t u v = apart refl
    go false false true s t u v = apart refl
    go false false false true t u v = apart refl
    go false false false false true u v = apart refl
    go false false false false false true v = apart refl
    go false false false false false false true = apart refl
    go false false false false false false false = apart refl

pub only_m_folds : (l : List ℕ) (mask : ℕ) → get_or l 0 0 ≢ letter_m → asks l ≢ some (folding mask)
unfolding asks fields cut on_first of_fields with_numbers by_letter
only_m_folds l mask other = short (leb (length l) longest) l other
  where
    Other : Option Call → Type 0
    Other o = o ≢ some (folding mask)

    no_call : Other none
    no_call e = none-ne-some (folding mask) e

    short : (b : Bool) (l : List ℕ) → get_or l 0 0 ≢ letter_m → Other (cond b (of_fields (fields l)) none)
    short false l other = no_call
    short true [] other = no_call
    short true (x ∷ l) other = after (eqb x space) (cut space ([] ∷ []) l)
      where
        letter_reads : (ns : List ℕ) → Other (by_letter x ns)
        letter_reads ns = counted (eqb (length ns) (numbers_of x))
          where
            counted : (b : Bool) → Other (cond b (asked x (get_or ns 0 0) (get_or ns 1 0) (get_or ns 2 0) (get_or ns 3 0) (get_or ns 4 0)) none)
            counted true = fold_asked x (get_or ns 0 0) (get_or ns 1 0) (get_or ns 2 0) (get_or ns 3 0) (get_or ns 4 0) mask other
            counted false = no_call

        letter_alone : (m : Option (List ℕ)) → Other (with_numbers x m)
        letter_alone none = no_call
        letter_alone (some ns) = letter_reads ns

        after : (b : Bool) (fs : List (List ℕ)) → Other (of_fields (cond b ([] ∷ fs) (on_first x fs)))
        after true fs = no_call
        after false [] = letter_alone (numbers [])
        after false ([] ∷ fs) = letter_alone (numbers fs)
        after false ((y ∷ ys) ∷ fs) = no_call
