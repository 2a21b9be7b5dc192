-- Lists, and the first number that passes a test, as the definitions of the other crates use them.
-- Assumes nothing.
use Rattle.std.specs.Prelude.{Bool, cond, true, false, ◌&&◌, ◌||◌, ℕ, zero, suc, ◌+◌}
use mathlib.Core.List.{List, [], ◌∷◌, Memᴰ}

infix 40 ◌∈◌
-- x is a member of xs
abbrev pub ◌∈◌ : {A : Type 0} → A → List A → Type 0
x ∈ xs = Memᴰ x xs

-- the members that pass a test, in their order
unfoldable pub keep : {A : Type 0} → (A → Bool) → List A → List A
keep f [] = []
keep f (x ∷ xs) = let rest = keep f xs in cond (f x) (x ∷ rest) rest

-- some member passes a test
unfoldable pub any : {A : Type 0} → (A → Bool) → List A → Bool
any f [] = false
any f (x ∷ xs) = f x || any f xs

-- k numbers from s upward: s, s + 1, ..
unfoldable pub from : ℕ → ℕ → List ℕ
from s zero = []
from s (suc k) = s ∷ from (suc s) k

-- each member stands in the relation R to every later one
unfoldable pub Pairwise : {A : Type 0} → (A → A → Type 0) → List A → Type 0
Pairwise R [] = Unit
Pairwise R (x ∷ xs) = ((y : _) → y ∈ xs → R x y) × Pairwise R xs

-- the test passes at every number below n
abbrev pub every : ℕ → (ℕ → Bool) → Bool
every zero f = true
every (suc n) f = f n && every n f

-- of k numbers from i on, the first that passes a test; i + k where none does
unfoldable pub lowest : (ℕ → Bool) → ℕ → ℕ → ℕ
lowest f zero i = i
lowest f (suc k) i = cond (f i) i (lowest f k (i + 1))
