-- What one reading and one writing make of a whole input.
-- Assumes nothing.
use Rattle.std.proofs.Common.{◌≡◌, ℕ, ◌<◌, ◌≤◌, List, ◌++◌, length, take, drop, None, Some, IfSome, Ok, Err, OnOk, is_ok, MatchResult, sym, ap, subst, ◌∙◌, arith, append-nil, length-append, length-take-le, inl, inr}
use Rattle.std.proofs.Math.Nat.{eq-or-lt_of_le}
use Rattle.std.proofs.Math.ListN.{replicate}
use Rattle.std.proofs.lemmas.List.{length-replicate}
use Rattle.std.specs.declared.option.Option.{Option}
use Rattle.std.specs.declared.result.Result.{Result}
use Rattle.std.specs.Io.KnownBytes.{Appends, Consumes, IsAtEnd}
use Rattle.std.proofs.lemmas.Bool.{lt-ltb, le-ltb}
use Rattle.std.proofs.Math.Seq.{take-append_seam}
use Rattle.listing.specs.Listing.{printed, listing, input_limit}
use Rattle.listing.specs.Printed.{lists, output_bytes}

-- of inputs that are too long the same is printed
both_long : (a b : List ℕ) → input_limit < length a → input_limit < length b → printed a ≡ printed b
unfolding printed listing
both_long a b h k = rw (lt-ltb input_limit (length a) h, lt-ltb input_limit (length b) k)

-- what is written of an output that is long enough is the printed list
written_list : (input out : List ℕ) → output_bytes ≤ length out → take (lists input out).written (lists input out).output ≡ printed input
unfolding lists
written_list input out h = rw (le-ltb (length out) output_bytes h) (take-append_seam (printed input) (drop (length (printed input)) out))

-- What was read of an input prints as the whole does: it is the whole, or it fills the buffer, which nothing does that is listed.
read_whole : (left rest : Option (List ℕ)) (buffer : List ℕ) (n : ℕ) → input_limit < length buffer → n ≤ length buffer
    → Consumes left rest (take n buffer) → (n < length buffer → IsAtEnd rest) → IfSome left (λ xs. printed xs ≡ printed (take n buffer))
read_whole None rest buffer n long within read end = tt
read_whole (Some xs) None buffer n long within read end = absurd read
read_whole (Some xs) (Some ys) buffer n long within read end = elim (eq-or-lt_of_le within) [ inl full ↦ filled full | inr less ↦ ended less ]
  where
    ended : n < length buffer → printed xs ≡ printed (take n buffer)
    ended less = ap printed (read ∙ ap (λ l. take n buffer ++ l) (end less) ∙ append-nil (take n buffer))

    filled : n ≡ length buffer → printed xs ≡ printed (take n buffer)
    filled full =
        let part = length-take-le n buffer within in
        let all = ap length read ∙ length-append (take n buffer) ys in
        both_long xs (take n buffer) (omega arith) (omega arith)

-- The writer gains the printed list of all that the reader had left. `room` is the length of the buffer.
pub whole_listed : (left rest held grown : Option (List ℕ)) (buffer out out' : List ℕ) (n room : ℕ)
    → input_limit < room → length buffer ≡ room → output_bytes ≤ length out → n ≤ room
    → Consumes left rest (take n buffer) → (n < room → IsAtEnd rest)
    → out' ≡ (lists (take n buffer) out).output → Appends held grown (take (lists (take n buffer) out).written out')
    → IfSome left (λ xs. Appends held grown (printed xs))
whole_listed left rest held grown buffer out out' n room long fits wide within read end listed wrote = go left (read_whole left rest buffer n (omega arith) (omega arith) read (λ h. end (omega arith)))
  where
    list : take (lists (take n buffer) out).written out' ≡ printed (take n buffer)
    list = ap (take (lists (take n buffer) out).written) listed ∙ written_list (take n buffer) out wide

    go : (l : Option (List ℕ)) → IfSome l (λ xs. printed xs ≡ printed (take n buffer)) → IfSome l (λ xs. Appends held grown (printed xs))
    go None h = tt
    go (Some xs) h = subst (Appends held grown) (list ∙ sym h) wrote

-- The lengths of the two buffers. They are stated over any number, since the checker would unfold a numeral to its list.
pub zeros_long : (n k : ℕ) → k < n → k < length (replicate {A = ℕ} n 0)
zeros_long n k h = subst (λ m. k < m) (sym (length-replicate n 0)) h

pub wide_enough : (out : List ℕ) → output_bytes ≡ length out → output_bytes ≤ length out
wide_enough out e = omega (arith, e)

-- what was answered before an error got its kind
pub ok_is : {E : Type 0} (F : Type 0) (r : Result ℕ E) (n : ℕ) {B : E → Type 0} → MatchResult r (λ m. ◌≡◌ {A = Result ℕ F} (Ok n) (Ok m)) B → ((e : E) → B e → ⊥) → r ≡ Ok n
ok_is F (Ok m) n h not_err = cc
ok_is F (Err e) n h not_err = absurd (not_err e h)

pub on_ok : {A E F P Q : Type 0} (r : Result A E) (s : Result A F) → is_ok s ≡ is_ok r → OnOk r Q → (Q → P) → OnOk s P
on_ok (Ok x) (Ok y) v q f = f q
on_ok (Ok x) (Err z) v q f = tt
on_ok (Err e) (Ok y) v q f = cc
on_ok (Err e) (Err z) v q f = tt
