-- A search looks only at the links offered in a region of nodes that no offered hop leaves. So an arrival looks only at the links ahead of it, those offered at
-- nodes no farther from the target: the hop that a scout came by, held behind it, changes nothing that it meets.
-- Assumes nothing.
use mathlib.Core.Path.{◌≡◌, refl, ap, sym, ◌∙◌, fun_ext}
use mathlib.Core.Bool.{Bool, true, false, ◌&&◌, not, and-true}
use mathlib.Core.List.Memᴰ
use mathlib.Core.List.{List, [], ◌∷◌}
use Prim.Native.Nat.{ℕ, zero, suc, ◌≤◌}
use native.Mathlib.Omega.{arith}
use native.Mathlib.Nat.{le_refl}
use borrow.Author.Tests.{eqb-true}
use lib.Dec.{eqb}
use Rattle.common.specs.Lists.{◌∈◌}
use Rattle.cube.specs.Helical.{helical}
use Rattle.cube.proofs.Order.{helical_mem}
use Rattle.paths.specs.Network.{Network, offered, Nearing}
use Rattle.paths.specs.Pass.{PassResult, pass}
use Rattle.paths.specs.Search.{trying, arriving, sending, holding}
use Rattle.paths.proofs.Depth.{trying_cons, search_is_pass}

-- trying a list of ports asks only about those ports
pub trying_same : {f g : ℕ → Bool} {on to : ℕ → ℕ → PassResult} (ps : List ℕ)
    → ((p : ℕ) → p ∈ ps → f p ≡ g p) → ((p : ℕ) → p ∈ ps → (c : ℕ) → on p c ≡ to p c) → (c : ℕ) → trying f on ps c ≡ trying g to ps c
trying_same [] ef eo c = unfold trying in refl
trying_same {f} {g} {on} {to} (p ∷ ps) ef eo c =
    let more : trying f on ps ≡ trying g to ps = fun_ext (trying_same ps (λ q m. ef q (Memᴰ.tail m)) (λ q m. eo q (Memᴰ.tail m))) in
    rw (trying_cons f on p ps c, trying_cons g to p ps c, more, ef p (Memᴰ.head refl), eo p (Memᴰ.head refl) (suc c))

-- Where no offered hop leaves a region of nodes, an arrival in it asks only about the links offered there,
module _ (N : Network) (t : ℕ) (Inside : ℕ → Type 0) (stays : (n p : ℕ) → Inside n → p ∈ offered N t n → Inside (N.next n p)) (f g : ℕ → ℕ → Bool)
    (same : (n p : ℕ) → Inside n → p ∈ offered N t n → f n p ≡ g n p) where
  links_within : (k n a c : ℕ) → Inside n → arriving k N f t n a c ≡ arriving k N g t n a c
  unfolding arriving
  links_within zero n a c i = refl
  links_within (suc k) n a c i =
      rw (trying_same (helical a (offered N t n)) (λ p m. same n p i (helical_mem a _ m)) (λ p m c. links_within k (N.next n p) p c (stays n p i (helical_mem a _ m))) c)

  -- and so does a pass from a node of it whose first hops are all offered there.
  pub pass_within : (s : ℕ) (ports : List ℕ) → Inside s → ((p : ℕ) → p ∈ ports → p ∈ offered N t s) → pass N f s ports t ≡ pass N g s ports t
  unfolding sending
  pass_within s ports i o =
      sym (search_is_pass N f s ports t)
      ∙ trying_same ports (λ p m. same s p i (o p m)) (λ p m c. links_within (N.distance t (N.next s p)) (N.next s p) p c (stays s p i (o p m))) 0
      ∙ search_is_pass N g s ports t

module _ {N : Network} {t : ℕ} (near : Nearing N t) where
  -- an arrival at n asks only about the links offered at nodes no farther than n
  links_ahead : (f g : ℕ → ℕ → Bool) (d : ℕ) → ((m p : ℕ) → N.distance t m ≤ d → p ∈ offered N t m → f m p ≡ g m p)
      → (k n a c : ℕ) → N.distance t n ≤ d → arriving k N f t n a c ≡ arriving k N g t n a c
  links_ahead f g d = links_within N t (λ m. N.distance t m ≤ d) (λ n p i m. omega (arith, near.nearer n p m)) f g

  -- So the hop just made is no part of the search behind it: uphill, it leaves a node farther than the one reached, and otherwise it is not offered.
  pub holding_after : (f : ℕ → ℕ → Bool) (k n p c : ℕ) → arriving k N (holding f n p) t (N.next n p) p c ≡ arriving k N f t (N.next n p) p c
  holding_after f k n p c = links_ahead (holding f n p) f (N.distance t (N.next n p)) other k (N.next n p) p c (le_refl _)
    where
      other : (m q : ℕ) → N.distance t m ≤ N.distance t (N.next n p) → q ∈ offered N t m → holding f n p m q ≡ f m q
      other m q i o = unfold holding in go (eqb m n) (eqb q p) refl refl
        where
          go : (a b : Bool) → eqb m n ≡ a → eqb q p ≡ b → f m q && not (a && b) ≡ f m q
          go true true e h = let x = eqb-true m n e in let y = eqb-true q p h in absurd (omega (arith, near.nearer n p (rw (x, y) at o), ap (N.distance t) x))
          go true false e h = and-true (f m q)
          go false b e h = and-true (f m q)
