-- The text of a printed line, put together from what is written one behind the other.
-- Assumes nothing.
use mathlib.Core.Path.{◌≡◌, refl, ap}
use mathlib.Core.Logic.{◌≢◌}
use mathlib.Core.List.{List, [], ◌∷◌, ◌++◌, map, append-nil}
use Prim.Native.Nat.{ℕ, ◌+◌, ◌≤◌, ◌<◌}
use native.Mathlib.Numerals.{add-one}
use native.Mathlib.Omega.{arith}
use lib.ListN.{length, get_or, drop, length-append, drop_of_length-le}
use lib.Seq.{drop-cons}
use Rattle.text.specs.Text.{newline, space, dash, decimal}
use Rattle.text.specs.Row.{Field, shows, path, path_characters, field_bytes, Row, in_order, spaced, ended, row_text}
use Rattle.text.specs.Written.{row_width}

-- fields, each behind a space
unfoldable pub behind_spaces : List Field → List ℕ
behind_spaces [] = []
behind_spaces (f ∷ fs) = (space ∷ field_bytes f) ++ behind_spaces fs

pub behind_more : {A : Type 0} (shown : A → Field) (fs : List A) (i : ℕ) (d : A) → i < length fs
    → behind_spaces (map shown (drop i fs)) ≡ (space ∷ field_bytes (shown (get_or fs i d))) ++ behind_spaces (map shown (drop (i + 1) fs))
unfolding behind_spaces
behind_more shown fs i d h = rw (add-one i, drop-cons fs i d h)

pub behind_none : {A : Type 0} (shown : A → Field) (fs : List A) (i : ℕ) → length fs ≤ i → behind_spaces (map shown (drop i fs)) ≡ []
unfolding behind_spaces
behind_none shown fs i h = rw (drop_of_length-le fs {i = i} h)

-- lists one behind the other, with nothing at the end
no_end : (l a b c d e f g h : List ℕ) → (l ++ (a ++ (b ++ (c ++ (d ++ (e ++ (f ++ (g ++ [])))))))) ++ h ≡ (l ++ (a ++ (b ++ (c ++ (d ++ (e ++ (f ++ g))))))) ++ h
no_end l a b c d e f g h = rw (append-nil g)

-- a printed line is its number, the other seven fields behind a space each, and a newline
pub row_text_lem : (n : ℕ) (c : Field) (a : ℕ) (d e f g h : Field)
    → (decimal n ++ behind_spaces (c ∷ shows a ∷ d ∷ e ∷ f ∷ g ∷ h ∷ [])) ++ newline ∷ []
    ≡ row_text (record { line = shows n; call = c; answer = shows a; node = d; channel = e; receive = f; scouts = g; ports = h })
unfolding row_text ended spaced in_order field_bytes behind_spaces
row_text_lem n c a d e f g h =
    no_end (decimal n) (space ∷ field_bytes c) (space ∷ decimal a) (space ∷ field_bytes d) (space ∷ field_bytes e) (space ∷ field_bytes f) (space ∷ field_bytes g) (space ∷ field_bytes h) (newline ∷ [])

-- how many bytes a printed line takes
pub row_length : (r : Row) → length (row_text r) ≡ row_width r
unfolding row_text ended spaced in_order
row_length r = simp length-append (omega arith)

-- the same by the parts in which it is written
pub row_parts : (n : ℕ) (c : Field) (a : ℕ) (d e f g h : Field)
    → length (decimal n) + length (behind_spaces (c ∷ shows a ∷ d ∷ e ∷ f ∷ g ∷ h ∷ [])) + 1
    ≡ row_width (record { line = shows n; call = c; answer = shows a; node = d; channel = e; receive = f; scouts = g; ports = h })
row_parts n c a d e f g h =
    let fs = c ∷ shows a ∷ d ∷ e ∷ f ∷ g ∷ h ∷ [] in
    let parts = length-append (decimal n) (behind_spaces fs) in
    let all = length-append (decimal n ++ behind_spaces fs) (newline ∷ []) in
    let text = ap length (row_text_lem n c a d e f g h) in
    omega (arith, row_length (record { line = shows n; call = c; answer = shows a; node = d; channel = e; receive = f; scouts = g; ports = h }))

-- a path with no port, and one with some
pub path_none : (w : List ℕ) → length w ≡ 0 → dash ∷ [] ≡ field_bytes (path w)
unfolding field_bytes
path_none [] h = refl
path_none (p ∷ ps) h = absurd (omega arith)

pub path_some : (w : List ℕ) → length w ≢ 0 → path_characters w ≡ field_bytes (path w)
unfolding field_bytes
path_some [] h = absurd (h refl)
path_some (p ∷ ps) h = refl
