-- The recursive definitions say what the rules say of places in a path and of its links.
-- Assumes nothing.
use mathlib.Core.Path.{◌≡◌, refl, ap, ◌∙◌, subst}
use mathlib.Core.Logic.{⊎_elim, ◌≢◌, ◌↔◌}
use mathlib.Core.Bool.{Bool, true, false, false≢true, true≢false}
use mathlib.Core.List.Memᴰ
use mathlib.Core.List.{List, [], ◌∷◌, ◌++◌, cons≢nil}
use Prim.Native.Nat.{ℕ}
use Rattle.common.specs.Lists.{◌∈◌}
use Rattle.common.proofs.Tests.{both, and}
use Rattle.paths.specs.Network.{Network, Path, Link, link_held, link_blocked, link_state, is_free, offered, end, links, free_path}
use Rattle.paths.specs.Permitted.{Onward, Permitted, InWords, SameLinks}
use Rattle.paths.proofs.Sentences.{onward_end}

-- the hop over q of a way on, wherever it stands, starts off the target and is offered there
hop_of : (N : Network) (t n : ℕ) (u : Path) (q : ℕ) (v : Path) → Onward N t n (u ++ q ∷ v) → (end N n u ≢ t) × (q ∈ offered N t (end N n u))
unfolding Onward end
hop_of N t n [] q v o = (o.0, o.1)
hop_of N t n (p ∷ u) q v o = hop_of N t (N.next n p) u q v o.2

-- a path to the target of such hops alone is a way on
of_hops : (N : Network) (t n : ℕ) (w : Path) → ((u : Path) (q : ℕ) (v : Path) → w ≡ u ++ q ∷ v → (end N n u ≢ t) × (q ∈ offered N t (end N n u))) → end N n w ≡ t → Onward N t n w
unfolding Onward end
of_hops N t n [] each e = e
of_hops N t n (p ∷ w) each e =
    let here = each [] p w refl in (here.0, here.1, of_hops N t (N.next n p) w (λ u q v i. each (p ∷ u) q v (ap (p ∷◌) i)) e)

-- A permitted path is one of which Paths 4 to 6 hold.
pub permitted_in_words : (N : Network) (s : ℕ) (vector : List ℕ) (t : ℕ) (w : Path) → Permitted N s vector t w ↔ InWords N s vector t w
unfolding Permitted end
permitted_in_words N s vector t w = (there w, back)
  where
    later_hop : (u : Path) (q : ℕ) (v : Path) → u ≢ [] → Permitted N s vector t (u ++ q ∷ v) → (end N s u ≢ t) × (q ∈ offered N t (end N s u))
    later_hop [] q v some o = absurd (some refl)
    later_hop (p ∷ u) q v some o = hop_of N t (N.next s p) u q v o.1

    there : (w : Path) → Permitted N s vector t w → InWords N s vector t w
    there [] o = elim o [ ]
    there (p ∷ w) o =
        record {
          first = (p, (w, refl, o.0));
          later = λ u q v some e. (later_hop u q v some (subst (Permitted N s vector t) e o)).1;
          not_before = λ u q v some e. (later_hop u q v some (subst (Permitted N s vector t) e o)).0;
          arrives = onward_end N t (N.next s p) w o.1;
        }

    back : InWords N s vector t w → Permitted N s vector t w
    back r =
        let p : ℕ = r.first.0 in
        let whole = r.first.1.1 in
        rw whole (
          r.first.1.2,
          of_hops N t (N.next s p) r.first.1.0
              (λ u q v e. let place = whole ∙ ap (p ∷◌) e in (r.not_before (p ∷ u) q v cons≢nil place, r.later (p ∷ u) q v cons≢nil place))
              (rw whole at r.arrives),
        )

-- Paths 13
pub free_path_links : (N : Network) (free : ℕ → ℕ → Bool) (n : ℕ) (w : Path) → (free_path N free n w ≡ true) ↔ ((l : Link) → l ∈ links N n w → free l.0 l.1 ≡ true)
unfolding free_path links
free_path_links N free n [] = ((λ e l m. absurd (Memᴰ.not-nil m)), (λ h. refl))
free_path_links N free n (p ∷ w) =
    let ih = free_path_links N free (N.next n p) w in (
      (λ e l m. let b = both (free n p) (free_path N free (N.next n p) w) e in ⊎_elim (λ i. rw i b.0) (λ k. ih.0 b.1 l k) (Memᴰ.cases_cons m)),
      (λ h. and (h (n, p) (Memᴰ.head refl)) (ih.1 (λ l m. h l (Memᴰ.tail m)))),
    )

-- Cube 13: a link is free if it is enabled and no circuit holds it.
pub free_link : (enabled held : Bool) → (is_free (link_state enabled held) ≡ true) ↔ ((enabled ≡ true) × (held ≡ false))
unfolding is_free link_state
free_link false held = ((λ e. absurd (false≢true e)), (λ h. absurd (false≢true h.0)))
free_link true true = ((λ e. absurd (false≢true e)), (λ h. absurd (true≢false h.1)))
free_link true false = ((λ e. (refl, refl)), (λ h. refl))

-- A link that is not free is blocked where it is not enabled, and held where it is and a circuit has it.
pub blocked_link : (enabled held : Bool) → enabled ≡ false → link_state enabled held ≡ link_blocked
unfolding link_state
blocked_link enabled held e = rw e

pub held_link : (enabled held : Bool) → enabled ≡ true → held ≡ true → link_state enabled held ≡ link_held
unfolding link_state
held_link enabled held e h = rw (e, h)

-- A path has the links that it passes, however often: in the cube of dimension 1, to and fro, and to again.
pub to_and_fro : (N : Network) → N.next 0 0 ≡ 1 → N.next 1 0 ≡ 0 → SameLinks N 0 (0 ∷ 0 ∷ []) (0 ∷ 0 ∷ 0 ∷ [])
unfolding SameLinks links
to_and_fro N e h =
    rw (e, h) (
      (λ l m. Memᴰ.append_left ((0, 0) ∷ []) m),
      (λ l m. ⊎_elim (λ k. k) (λ k. Memᴰ.head (Memᴰ.eq_of_singleton k)) (Memᴰ.append_cases ((0, 0) ∷ (1, 0) ∷ []) m)),
    )
