-- The number of the first circuit of a list that passes a test.
-- Assumes nothing.
use mathlib.Core.Path.{◌≡◌, refl, sym, ◌∙◌, ap}
use mathlib.Core.Logic.{◌≢◌, ◌↔◌}
use mathlib.Core.Bool.{Bool, true, false, cond, ◌&&◌, ◌||◌, not}
use mathlib.Core.List.Memᴰ
use mathlib.Core.List.{List, [], ◌∷◌}
use Prim.Native.Nat.{ℕ, ◌<◌}
use native.Mathlib.Omega.{arith}
use lib.Dec.{eqb}
use borrow.Author.Tests.{eqb-true, eq-eqb, ne_eqb, not-false}
use Rattle.common.specs.Lists.{◌∈◌, keep, any, Pairwise}
use Rattle.common.proofs.Tests.{clash, is_false, both, and}
use Rattle.common.proofs.Lists.{keep_nil, keep_yes, keep_no, any_some, some_any}
use Rattle.cube.specs.Cube.{channels, circuit_of, source_of, channel_of}
use Rattle.cube.proofs.Circuits.{source_of_circuit, channel_of_circuit}
use Rattle.ownership.specs.History.{Circuit, belongs}
use Rattle.ownership.specs.HistoryView.{first_circuit}

-- two members of which neither stands in the relation to the other are one
pub pairwise_one : {A : Type 0} (R : A → A → Type 0) (xs : List A) → Pairwise R xs → (x y : A) → x ∈ xs → y ∈ xs → (R x y → ⊥) → (R y x → ⊥) → x ≡ y
unfolding Pairwise
pairwise_one {A = A} R [] o x y x7 _ f g = elim x7 [ ]
pairwise_one R (z ∷ xs) o x y (Memᴰ.head e) (Memᴰ.head d) f g = e ∙ sym d
pairwise_one R (z ∷ xs) o x y (Memᴰ.head e) (Memᴰ.tail k) f g = absurd (f (rw e (o.0 y k)))
pairwise_one R (z ∷ xs) o x y (Memᴰ.tail m) (Memᴰ.head d) f g = absurd (g (rw d (o.0 x m)))
pairwise_one R (z ∷ xs) o x y (Memᴰ.tail m) (Memᴰ.tail k) f g = pairwise_one R xs o.1 x y m k f g

-- the number of a circuit, from which its send channel is read back
abbrev pub number_for : Circuit → ℕ
number_for x = circuit_of x.source x.channel

pub circuit_parts : (s c a b : ℕ) → c < channels → b < channels → circuit_of s c ≡ circuit_of a b → (s ≡ a) × (c ≡ b)
circuit_parts s c a b h l e = (
  sym (source_of_circuit s c h) ∙ ap source_of e ∙ source_of_circuit a b l,
  sym (channel_of_circuit s c h) ∙ ap channel_of e ∙ channel_of_circuit a b l,
)

-- a circuit belongs to a send channel: as an equation of both parts, and of the numbers
pub belongs_parts : (s c : ℕ) (x : Circuit) → belongs s c x ≡ true → (x.source ≡ s) × (x.channel ≡ c)
unfolding belongs
belongs_parts s c x e = let r = both (eqb x.source s) (eqb x.channel c) e in (eqb-true _ s r.0, eqb-true _ c r.1)

pub parts_belong : (s c : ℕ) (x : Circuit) → x.source ≡ s → x.channel ≡ c → belongs s c x ≡ true
unfolding belongs
parts_belong s c x e f = and (eq-eqb _ s e) (eq-eqb _ c f)

pub number_is : (s c : ℕ) (x : Circuit) → belongs s c x ≡ true → number_for x ≡ circuit_of s c
number_is s c x e = let r = belongs_parts s c x e in rw (r.0, r.1)

pub belongs_number : (s c : ℕ) (x : Circuit) → c < channels → x.channel < channels → eqb (number_for x) (circuit_of s c) ≡ belongs s c x
belongs_number s c x h l = go (belongs s c x) refl
  where
    go : (b : Bool) → belongs s c x ≡ b → eqb (number_for x) (circuit_of s c) ≡ b
    go true e = eq-eqb (number_for x) (circuit_of s c) (number_is s c x e)
    go false e = ne_eqb _ _ (λ q. let r = circuit_parts x.source x.channel s c l h q in clash (parts_belong s c x r.0 r.1) e)

cond_same : (b : Bool) (n : ℕ) → cond b n n ≡ n
cond_same true n = refl
cond_same false n = refl

module _ (f : Circuit → Bool) where
  number_nil : first_circuit f [] ≡ 0
  unfolding first_circuit
  number_nil = refl

  pub number_yes : (x : Circuit) (xs : List Circuit) → f x ≡ true → first_circuit f (x ∷ xs) ≡ number_for x
  unfolding first_circuit
  number_yes x xs e = rw e

  pub number_no : (x : Circuit) (xs : List Circuit) → f x ≡ false → first_circuit f (x ∷ xs) ≡ first_circuit f xs
  unfolding first_circuit
  number_no x xs e = rw e

  -- it is 0 exactly where none passes
  pub number_any : (xs : List Circuit) → not (eqb (first_circuit f xs) 0) ≡ any f xs
  unfolding any
  number_any [] = rw number_nil
  number_any (x ∷ xs) = go (f x) refl (number_any xs)
    where
      go : (b : Bool) → f x ≡ b → not (eqb (first_circuit f xs) 0) ≡ any f xs → not (eqb (first_circuit f (x ∷ xs)) 0) ≡ b || any f xs
      go true e ih = rw (number_yes x xs e) (ap not (ne_eqb (number_for x) 0 (λ z. omega arith)))
      go false e ih = rw (number_no x xs e) ih

  pub number_zero : (xs : List Circuit) → (first_circuit f xs ≡ 0) ↔ (any f xs ≡ false)
  number_zero xs = ((λ z. sym (number_any xs) ∙ ap not (eq-eqb (first_circuit f xs) 0 z)), λ e. eqb-true (first_circuit f xs) 0 (not-false _ (number_any xs ∙ e)))

  -- where it is not 0, a circuit that passes has it
  pub number_some : (xs : List Circuit) → first_circuit f xs ≢ 0 → (x : Circuit) × (x ∈ xs) × (f x ≡ true) × (first_circuit f xs ≡ number_for x)
  number_some [] h = absurd (h number_nil)
  number_some (x ∷ xs) h = go (f x) refl (number_some xs)
    where
      go : (b : Bool) → f x ≡ b → (first_circuit f xs ≢ 0 → (y : Circuit) × (y ∈ xs) × (f y ≡ true) × (first_circuit f xs ≡ number_for y))
          → (y : Circuit) × (y ∈ (x ∷ xs)) × (f y ≡ true) × (first_circuit f (x ∷ xs) ≡ number_for y)
      go true e ih = (x, Memᴰ.head refl, e, number_yes x xs e)
      go false e ih = let r = ih (λ z. h (number_no x xs e ∙ z)) in (r.0, Memᴰ.tail r.1, r.2, number_no x xs e ∙ r.3)

  pub number_circuit : (s c : ℕ) → c < channels → (xs : List Circuit) → ((x : Circuit) → x ∈ xs → x.channel < channels) → first_circuit f xs ≡ circuit_of s c
      → (x : Circuit) × (x ∈ xs) × (f x ≡ true) × (x.source ≡ s) × (x.channel ≡ c)
  number_circuit s c h xs l e =
      let r = number_some xs (λ z. omega (arith, e, z)) in
      let q = circuit_parts r.0.source r.0.channel s c (l r.0 r.1) h (sym r.3 ∙ e) in
      (r.0, r.1, r.2, q.0, q.1)

  pub number_none : (xs : List Circuit) → ((x : Circuit) → x ∈ xs → f x ≡ true → ⊥) → first_circuit f xs ≡ 0
  number_none [] h = number_nil
  number_none (x ∷ xs) h = number_no x xs (is_false (f x) (h x (Memᴰ.head refl))) ∙ number_none xs (λ y m. h y (Memᴰ.tail m))

  -- of two circuits at different places of a list at most one passes
  abbrev pub Once : List Circuit → Type 0
  Once = Pairwise (λ x y. f x ≡ true → f y ≡ true → ⊥)

  -- then one that passes has it
  pub number_found : (xs : List Circuit) → Once xs → (x : Circuit) → x ∈ xs → f x ≡ true → first_circuit f xs ≡ number_for x
  unfolding Pairwise
  number_found [] o x x5 e = elim x5 [ ]
  number_found (y ∷ xs) o x (Memᴰ.head h) e = number_yes y xs (sym (ap f h) ∙ e) ∙ ap number_for (sym h)
  number_found (y ∷ xs) o x (Memᴰ.tail m) e = number_no y xs (is_false (f y) (λ u. o.0 x m u e)) ∙ number_found xs o.1 x m e

  -- so it is a send channel's exactly where the circuit of that channel passes,
  pub number_belongs : (s c : ℕ) → c < channels → (xs : List Circuit) → ((x : Circuit) → x ∈ xs → x.channel < channels) → Once xs
      → any (λ x. belongs s c x && f x) xs ≡ eqb (first_circuit f xs) (circuit_of s c)
  number_belongs s c h xs l o = go (eqb (first_circuit f xs) (circuit_of s c)) refl
    where
      mine : Circuit → Bool
      mine x = belongs s c x && f x

      go : (b : Bool) → eqb (first_circuit f xs) (circuit_of s c) ≡ b → any mine xs ≡ b
      go true e = let r = number_circuit s c h xs l (eqb-true _ _ e) in some_any mine xs r.1 (and (parts_belong s c r.0 r.3 r.4) r.2)
      go false e = is_false _ (λ t.
          let r = any_some mine xs t in
          let x = both (belongs s c r.0) (f r.0) r.2 in
          clash (eq-eqb _ _ (number_found xs o r.0 r.1 x.1 ∙ number_is s c r.0 x.0)) e)

  -- and a circuit that is dropped takes its own number away and no other
  pub number_drop : (s c : ℕ) → c < channels → (xs : List Circuit) → ((x : Circuit) → x ∈ xs → x.channel < channels) → Once xs
      → first_circuit f (keep (λ x. not (belongs s c x)) xs) ≡ cond (eqb (first_circuit f xs) (circuit_of s c)) 0 (first_circuit f xs)
  unfolding Pairwise
  number_drop s c h [] l o = rw (keep_nil (λ x. not (belongs s c x)), number_nil) (sym (cond_same (eqb 0 (circuit_of s c)) 0))
  number_drop s c h (x ∷ xs) l o =
      go (belongs s c x) refl (f x) refl (number_drop s c h xs (λ y m. l y (Memᴰ.tail m)) o.1)
    where
      same : eqb (number_for x) (circuit_of s c) ≡ belongs s c x
      same = belongs_number s c x h (l x (Memᴰ.head refl))

      go : (b : Bool) → belongs s c x ≡ b → (d : Bool) → f x ≡ d
          → first_circuit f (keep (λ x. not (belongs s c x)) xs) ≡ cond (eqb (first_circuit f xs) (circuit_of s c)) 0 (first_circuit f xs)
          → first_circuit f (keep (λ x. not (belongs s c x)) (x ∷ xs)) ≡ cond (eqb (first_circuit f (x ∷ xs)) (circuit_of s c)) 0 (first_circuit f (x ∷ xs))
      go true e true u ih = rw (keep_no (λ x. not (belongs s c x)) x xs (ap not e), number_yes x xs u, same, e) (ih ∙ ap (λ (n : ℕ). cond (eqb n (circuit_of s c)) 0 n) (number_none xs (λ y m. o.0 y m u)) ∙ cond_same (eqb 0 (circuit_of s c)) 0)
      go true e false u ih = rw (keep_no (λ x. not (belongs s c x)) x xs (ap not e), number_no x xs u) ih
      go false e true u ih = rw (keep_yes (λ x. not (belongs s c x)) x xs (ap not e), number_yes x (keep (λ x. not (belongs s c x)) xs) u, number_yes x xs u, same, e)
      go false e false u ih = rw (keep_yes (λ x. not (belongs s c x)) x xs (ap not e), number_no x (keep (λ x. not (belongs s c x)) xs) u, number_no x xs u) ih
