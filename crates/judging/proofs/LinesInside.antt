-- Lines of an index that are read one after another: what holds of all that are left holds of the next and of those behind it; and the ports of a line that lies
-- inside its buffer.
-- Assumes nothing.
use mathlib.Core.Path.{◌≡◌, refl, ap, sym, ◌∙◌}
use mathlib.Core.Bool.{Bool, true, ◌&&◌}
use mathlib.Core.List.Memᴰ
use mathlib.Core.List.{List, ◌∷◌, map}
use Prim.Native.Nat.{ℕ}
use native.Mathlib.Omega.{arith}
use lib.ListN.{length, drop, length-drop}
use Rattle.std.specs.List.{list_all}
use Rattle.std.proofs.lemmas.List.{length-take-le}
use Rattle.common.specs.Lists.{◌∈◌}
use Rattle.book.specs.Lookup.{IndexLine, ports_of_line}
use Rattle.judging.specs.JudgeContracts.{LineInside}

-- of the next, and of those behind it
module _ {A : Type 0} (P : A → Type 0) {xs ys : List A} {x : A} (left : xs ≡ x ∷ ys) (all : (y : A) → y ∈ xs → P y) where
  pub of_next : P x
  of_next = all x (rw left (Memᴰ.head refl))

  pub of_rest : (y : A) → y ∈ ys → P y
  of_rest y m = all y (rw left (Memᴰ.tail m))

-- a line has as many ports as it says
pub ports_long : {ports : List ℕ} {x : IndexLine} → LineInside ports x → length (ports_of_line ports x) ≡ x.hops
ports_long {ports} {x} h = length-take-le x.hops (drop x.offset ports) (omega (arith, length-drop x.offset ports, h.inside))

-- Where the next passes a test, all that are left pass it exactly where those behind it do.
pub all_behind : {A B : Type 0} (test : B → Bool) (g : A → B) {xs ys : List A} {x : A} → xs ≡ x ∷ ys → test (g x) ≡ true
    → list_all test (map g ys) ≡ list_all test (map g xs)
all_behind test g {ys = ys} left e = sym (ap (λ zs. list_all test (map g zs)) left ∙ ap (◌&& list_all test (map g ys)) e)
