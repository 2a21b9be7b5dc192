-- The beginnings of a send that have not arrived, counted over any network: where a weight of its nodes counts those on from a node, the sum of the weights behind a send's ports counts
-- those of the send.
-- Assumes nothing.
use mathlib.Core.Path.{◌≡◌, refl, ap, ◌∙◌, sym}
use mathlib.Core.Logic.{⊎_elim, ◌≢◌}
use mathlib.Core.Bool.{Bool, true, false, cond, not}
use mathlib.Core.List.{List, [], ◌∷◌, map}
use Prim.Native.Nat.{ℕ, zero, suc, ◌≤◌}
use native.Mathlib.Omega.{arith}
use native.Mathlib.Nat.{le_refl}
use borrow.Author.Tests.{eq-eqb, ne_eqb}
use lib.ListN.{length, length-append}
use Rattle.std.specs.List.{sum_by}
use Rattle.std.proofs.lemmas.List.Sums.{sum_by-cons}
use Rattle.common.specs.Lists.{◌∈◌, keep}
use Rattle.common.proofs.Lists.{keep_append, keep_yes, keep_no, keep_nil}
use Rattle.common.proofs.Tests.{same?}
use Rattle.cube.specs.Helical.{helical}
use Rattle.cube.proofs.Order.{helical_mem}
use Rattle.paths.specs.Network.{Network, Path, offered, end, Nearing, Leading}
use Rattle.paths.specs.Pass.{over, ways, beginnings, whole}
use Rattle.paths.proofs.Depth.{over_cons}
use Rattle.paths.proofs.Beginnings.{ways_all}
use Rattle.most_scouts.proofs.Sums.{sum_nil, sum_same, sum_helical}

-- as many members of a list pass a test as of the list that it is mapped to pass the test there
kept_under : {A B : Type 0} (f : B → Bool) (g : A → B) (xs : List A) → length (keep f (map g xs)) ≡ length (keep (λ x. f (g x)) xs)
unfolding keep
kept_under f g [] = refl
kept_under f g (x ∷ xs) = go (f (g x)) (kept_under f g xs)
  where
    go : (b : Bool) → length (keep f (map g xs)) ≡ length (keep (λ x. f (g x)) xs)
        → length (cond b (g x ∷ keep f (map g xs)) (keep f (map g xs))) ≡ length (cond b (x ∷ keep (λ x. f (g x)) xs) (keep (λ x. f (g x)) xs))
    go true h = ap suc h
    go false h = h

module _ (N : Network) (t : ℕ) where
  -- a path from n has not arrived
  abbrev pub short : ℕ → Path → Bool
  short n w = not (whole N t n w)

  -- of ways on from n, and of the empty one, how many have not arrived
  abbrev pub left : ℕ → List Path → ℕ
  left n ws = length (keep (short n) ([] ∷ ws))

  pub left_over : (n : ℕ) (on : ℕ → List Path) (ps : List ℕ) → length (keep (short n) (over on ps)) ≡ sum_by (λ p. left (N.next n p) (on p)) ps
  left_over n on [] = unfold over in omega (arith, sum_nil (λ p. left (N.next n p) (on p)), ap length (keep_nil (short n)))
  left_over n on (p ∷ ps) =
      omega (
        arith,
        ap (λ ws. length (keep (short n) ws)) (over_cons on p ps),
        ap length (keep_append (short n) (map (λ (w : Path). p ∷ w) ([] ∷ on p)) (over on ps)),
        length-append (keep (short n) (map (λ (w : Path). p ∷ w) ([] ∷ on p))) (keep (short n) (over on ps)),
        here,
        left_over n on ps,
        sum_by-cons (λ p. left (N.next n p) (on p)) p ps,
      )
    where
      here : length (keep (short n) (map (λ (w : Path). p ∷ w) ([] ∷ on p))) ≡ left (N.next n p) (on p)
      here = kept_under (short n) (λ (w : Path). p ∷ w) ([] ∷ on p) ∙ (unfold whole end in refl)

  -- What is asked of a weight: it is nothing at the target, and elsewhere one more than the weights behind the ports offered.
  pub record WeightCounts (Node : ℕ → Type 0) (weight : ℕ → ℕ) : Type 0 where
    pub there : weight t ≡ 0
    pub on : (n : ℕ) → Node n → n ≢ t → weight n ≡ suc (sum_by (λ p. weight (N.next n p)) (offered N t n))

  module _ (near : Nearing N t) {Node : ℕ → Type 0} (lead : Leading N t Node) {weight : ℕ → ℕ} (counts : WeightCounts Node weight) where
    left_there : (n : ℕ) → n ≡ t → left n [] ≡ weight n
    left_there n e = ap length (keep_no (short n) [] [] (unfold whole end in ap not (eq-eqb n t e)) ∙ keep_nil (short n)) ∙ sym (ap weight e ∙ counts.there)

    left_on : (n : ℕ) (ws : List Path) → n ≢ t → left n ws ≡ suc (length (keep (short n) ws))
    left_on n ws off = ap length (keep_yes (short n) [] ws (unfold whole end in ap not (ne_eqb n t off)))

    ways_zero : (n a : ℕ) → left n (ways zero N t n a) ≡ left n []
    unfolding ways
    ways_zero n a = refl

    -- it counts the beginnings on from a node that have not arrived
    pub left_is : (k n a : ℕ) → N.distance t n ≤ k → Node n → left n (ways k N t n a) ≡ weight n
    left_is zero n a h i =
        ⊎_elim (λ e. ways_zero n a ∙ left_there n e) (λ off. let r = lead.leads n i off in absurd (omega (arith, near.nearer n r.0 r.1))) (same? n t)
    left_is (suc k) n a h i =
        ways_all (λ ws. left n ws ≡ weight n) k N t n a (λ e. left_there n e)
        (λ off. left_on n _ off ∙ ap suc (left_over n (λ p. ways k N t (N.next n p) p) (helical a (offered N t n)) ∙ sum_same _ _ (helical a (offered N t n)) (λ p m. let o = helical_mem a (offered N t n) m in left_is k (N.next n p) p (omega (arith, near.nearer n p o)) (lead.inside n p i o)) ∙ sum_helical _ a (offered N t n)) ∙ sym (counts.on n i off))

    -- and the weights behind a send's ports those of the send.
    pub short_beginnings : (s : ℕ) (ps : List ℕ) → ((p : ℕ) → p ∈ ps → Node (N.next s p))
        → length (keep (short s) (beginnings N s ps t)) ≡ sum_by (λ p. weight (N.next s p)) ps
    unfolding beginnings
    short_beginnings s ps h =
        left_over s (λ p. ways (N.distance t (N.next s p)) N t (N.next s p) p) ps ∙ sum_same _ _ ps (λ p m. left_is (N.distance t (N.next s p)) (N.next s p) p (le_refl _) (h p m))
