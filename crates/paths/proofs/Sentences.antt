-- What the rules say of a pass is so of the computed one: whether it finds a path, which one, and how many scouts it sends.
-- Assumes nothing.
use mathlib.Core.Path.{◌≡◌, refl, sym, ◌∙◌, subst}
use mathlib.Core.Logic.{◌⊎◌, inl, inr, ⊎_elim, ◌≢◌, ◌↔◌}
use mathlib.Core.Bool.{Bool, true}
use mathlib.Core.List.Memᴰ
use mathlib.Core.List.{List, [], ◌∷◌, ◌++◌, append-nil, cons≢nil}
use Prim.Native.Nat.{ℕ, ◌+◌, ◌<◌}
use native.Mathlib.Omega.{arith}
use borrow.Author.Tests.{eqb-true, eq-eqb}
use lib.ListN.{length, length-append}
use Rattle.common.specs.Lists.{◌∈◌, keep, Pairwise}
use Rattle.common.proofs.Lists.{all_append, keep_mem, mem_keep, keep_pairwise, pairwise_append, pairwise_at}
use Rattle.paths.specs.Network.{Network, Path, end, free_path, Nearing, Leading}
use Rattle.paths.specs.Permitted.{Onward, Permitted, Beginning, Sooner, Before, ComesBefore}
use Rattle.paths.specs.Pass.{PassResult, none, found, beginnings, whole, pass}
use Rattle.paths.specs.Sentences.{UpTo, Free, FoundSays, NoneSays, Says}
use Rattle.paths.proofs.Scan.{First, Neither, scan_found, scan_none}
use Rattle.paths.proofs.Beginnings.{Climb, beginning_climb, beginning_hop, beginnings_exactly}
use Rattle.paths.proofs.Order.{beginnings_in_order, comes_before_asym, in_order_once}

-- ways to the target are the climbs that end there
onward_is : (N : Network) (t n : ℕ) (w : Path) → Onward N t n w ↔ (Climb N t n w × (end N n w ≡ t))
unfolding Onward end Climb
onward_is N t n [] = ((λ e. (tt, e)), (λ r. r.1))
onward_is N t n (p ∷ w) =
    let rest = onward_is N t (N.next n p) w in (
      (λ o. let r = rest.0 o.2 in ((o.0, o.1, r.0), r.1)),
      (λ r. (r.0.0, r.0.1, rest.1 (r.0.2, r.1))),
    )

pub onward_end : (N : Network) (t n : ℕ) (w : Path) → Onward N t n w → end N n w ≡ t
onward_end N t n w o = ((onward_is N t n w).0 o).1

pub permitted_end : (N : Network) (s : ℕ) (vector : List ℕ) (t : ℕ) (w : Path) → Permitted N s vector t w → end N s w ≡ t
unfolding Permitted end
permitted_end N s vector t [] o = elim o [ ]
permitted_end N s vector t (p ∷ w) o = onward_end N t (N.next s p) w o.1

permitted_whole : (N : Network) (s : ℕ) (vector : List ℕ) (t : ℕ) (w : Path) → Permitted N s vector t w → whole N t s w ≡ true
unfolding whole
permitted_whole N s vector t w o = eq-eqb _ t (permitted_end N s vector t w o)

-- a beginning that ends on the target is a permitted path
whole_permitted : (N : Network) (s : ℕ) (vector : List ℕ) (t : ℕ) (w : Path) → w ∈ beginnings N s vector t → whole N t s w ≡ true → Permitted N s vector t w
unfolding Permitted whole end
whole_permitted N s vector t [] m e = absurd (beginning_hop N s vector t m)
whole_permitted N s vector t (p ∷ w) m e =
    let o = beginning_climb N s vector t p w m in
    (o.0, (onward_is N t (N.next s p) w).1 (o.1, eqb-true (end N (N.next s p) w) t e))

permitted_hops : (N : Network) (s : ℕ) (vector : List ℕ) (t : ℕ) (v : Path) → Permitted N s vector t v → v ≢ []
unfolding Permitted
permitted_hops N s vector t [] o = elim o [ ]
permitted_hops N s vector t (p ∷ v) o = cons≢nil

-- Order 4
begins_before : (R : ℕ → ℕ → Type 0) (b : Path) (q : ℕ) (v : Path) → Before R b (b ++ q ∷ v)
unfolding Before
begins_before R [] q v = tt
begins_before R (p ∷ b) q v = inr (refl, begins_before (Sooner p) b q v)

from_up_to : (b w : Path) → UpTo b w → (b ≡ w) ⊎ ComesBefore b w
from_up_to b w (inl h) = inr h
from_up_to b w (inr ([], e)) = inl (sym (append-nil b) ∙ e)
from_up_to b w (inr (q ∷ v, e)) = inr (subst (ComesBefore b) e (begins_before ◌<◌ b q v))

module _ {N : Network} {t : ℕ} {Node : ℕ → Type 0} (near : Nearing N t) (lead : Leading N t Node) (s : ℕ) (vector : List ℕ)
    (rising : Pairwise ◌<◌ vector) (starts : (p : ℕ) → p ∈ vector → Node (N.next s p)) (free : ℕ → ℕ → Bool) where
  permitted_mem : (v : Path) → Permitted N s vector t v → v ∈ beginnings N s vector t
  unfolding Beginning
  permitted_mem v o = (beginnings_exactly near lead s vector starts v).1 (permitted_hops N s vector t v o, ([], subst (Permitted N s vector t) (sym (append-nil v)) o))

  none_says : (c : ℕ) → pass N free s vector t ≡ none c → NoneSays N free s vector t c
  unfolding pass
  none_says c e =
      record {
        nothing = λ v o h. r.0 v (permitted_mem v o) h (permitted_whole N s vector t v o);
        scouts =
            record {
              list = keep (free_path N free s) (beginnings N s vector t);
              holds = λ b. ((λ m. let k = keep_mem _ _ m in ((beginnings_exactly near lead s vector starts b).0 k.0, k.1)), (λ k. mem_keep _ _ ((beginnings_exactly near lead s vector starts b).1 k.0) k.1));
              once = in_order_once _ (keep_pairwise _ ComesBefore _ (beginnings_in_order N s vector t rising));
              long = omega (arith, r.1);
            };
      }
    where
      r : Neither (free_path N free s) (whole N t s) (beginnings N s vector t) × (c ≡ 0 + length (keep (free_path N free s) (beginnings N s vector t)))
      r = scan_none (free_path N free s) (whole N t s) (beginnings N s vector t) 0 e

  found_says : (w : Path) (c : ℕ) → pass N free s vector t ≡ found w c → FoundSays N free s vector t w c
  unfolding pass
  found_says w c e =
      record {
        permitted = whole_permitted N s vector t w (rw r.place (Memᴰ.append_right r.before (Memᴰ.head refl))) r.whole;
        is_free = r.free;
        first = λ v o h. ⊎_elim (λ m. absurd (r.first v m h (permitted_whole N s vector t v o))) (⊎_elim inl (λ m. inr (order.2 v m))) (where_is v (permitted_mem v o));
        scouts =
            record {
              list = keep (free_path N free s) r.before ++ (w ∷ []);
              holds = λ b. (sent b, counted b);
              once =
                  in_order_once _
                  (pairwise_append _ _ (keep_pairwise _ ComesBefore _ order.0) single (λ x y m k. rw (Memᴰ.eq_of_singleton k) (order.1 x (keep_mem _ _ m).0)));
              long = length-append (keep (free_path N free s) r.before) (w ∷ []) ∙ omega (arith, r.sent);
            };
      }
    where
      r : First (free_path N free s) (whole N t s) 0 (beginnings N s vector t) w c
      r = scan_found (free_path N free s) (whole N t s) (beginnings N s vector t) 0 e

      order : Pairwise ComesBefore r.before × ((u : Path) → u ∈ r.before → ComesBefore u w) × ((v : Path) → v ∈ r.after → ComesBefore w v)
      order = pairwise_at ComesBefore r.before w r.after (rw r.place at (beginnings_in_order N s vector t rising))

      single : Pairwise ComesBefore (w ∷ [])
      single = unfold Pairwise in ((λ y m. absurd (Memᴰ.not-nil m)), tt)

      -- a member stands before w, is w, or stands after it
      where_is : (v : Path) → v ∈ beginnings N s vector t → (v ∈ r.before) ⊎ ((v ≡ w) ⊎ (v ∈ r.after))
      where_is v m = ⊎_elim inl (λ k. inr (Memᴰ.cases_cons k)) (Memᴰ.append_cases r.before (rw r.place at m))

      sent : (b : Path) → b ∈ (keep (free_path N free s) r.before ++ (w ∷ [])) → Beginning N s vector t b × Free N free s b × UpTo b w
      sent =
          all_append (λ b. Beginning N s vector t b × Free N free s b × UpTo b w) (keep (free_path N free s) r.before)
          (λ b m. let k = keep_mem _ _ m in ((beginnings_exactly near lead s vector starts b).0 (rw r.place (Memᴰ.append_left (w ∷ r.after) k.0)), k.1, inl (order.1 b k.0)))
          (λ b m. let e = Memᴰ.eq_of_singleton m in
          rw e ((beginnings_exactly near lead s vector starts w).0 (rw r.place (Memᴰ.append_right r.before (Memᴰ.head refl))), r.free, inr ([], append-nil w)))

      counted : (b : Path) → Beginning N s vector t b × Free N free s b × UpTo b w → b ∈ (keep (free_path N free s) r.before ++ (w ∷ []))
      counted b q = put (where_is b ((beginnings_exactly near lead s vector starts b).1 q.0))
        where
          put : (b ∈ r.before) ⊎ ((b ≡ w) ⊎ (b ∈ r.after)) → b ∈ (keep (free_path N free s) r.before ++ (w ∷ []))
          put (inl m) = Memᴰ.append_left (w ∷ []) (mem_keep _ _ m q.1)
          put (inr (inl h)) = Memᴰ.append_right (keep (free_path N free s) r.before) (Memᴰ.head h)
          put (inr (inr m)) =
              let after : ComesBefore w b = order.2 b m in
              absurd (⊎_elim (λ h. let c : ComesBefore w w = rw h at after in comes_before_asym w w c c) (λ h. comes_before_asym w b after h) (from_up_to b w q.2))

  -- The answer of a pass and its scouts are what Searches 2, Scouts 2 and Scouts 3 say of them.
  pub pass_says : (x : PassResult) → pass N free s vector t ≡ x → Says N free s vector t x
  pass_says (none c) e = none_says c e
  pass_says (found w c) e = found_says w c e

  -- A pass finds a path exactly where a free permitted path exists.
  pub finds_exactly : ((w : Path) × ((c : ℕ) × (pass N free s vector t ≡ found w c))) ↔ ((v : Path) × Permitted N s vector t v × Free N free s v)
  finds_exactly = (there, λ r. back r.0 r.1 r.2 (pass N free s vector t) refl)
    where
      there : (w : Path) × ((c : ℕ) × (pass N free s vector t ≡ found w c)) → (v : Path) × Permitted N s vector t v × Free N free s v
      there r = let f = found_says r.0 r.1.0 r.1.1 in (r.0, f.permitted, f.is_free)

      back : (v : Path) → Permitted N s vector t v → Free N free s v → (x : PassResult) → pass N free s vector t ≡ x → (w : Path) × ((c : ℕ) × (pass N free s vector t ≡ found w c))
      back v o h (none c) e = absurd ((none_says c e).nothing v o h)
      back v o h (found w c) e = (w, (c, e))
