-- Judging 10: a yes means exactly that the book is well formed and can be loaded. That it can be loaded says nothing of the tests of a judging, nor of what
-- they ask of a table.
-- Assumes nothing.
use mathlib.Core.Path.{◌≡◌, refl, ap, sym, ◌∙◌, subst}
use mathlib.Core.Logic.{◌↔◌}
use mathlib.Core.Bool.{Bool, true, false, not}
use mathlib.Core.List.Memᴰ
use mathlib.Core.List.{List, [], ◌∷◌, ◌++◌, map}
use Prim.Native.Nat.{ℕ, ◌≤◌, ◌<◌}
use lib.Dec.{eqb}
use lib.ListN.{length}
use borrow.Author.Tests.{eqb-true}
use Rattle.common.specs.Lists.{◌∈◌, keep, from, Pairwise}
use Rattle.common.specs.Tests.{refusal}
use Rattle.common.proofs.Lists.{all_cons, any_some, keep_mem, no_more_than_places, pairwise_imp, pairwise_kept}
use Rattle.common.proofs.From.{below_kept}
use Rattle.common.proofs.Tests.{and, is_false}
use Rattle.cube.specs.Cube.{channels, source_of, channel_of}
use Rattle.paths.specs.Network.{Link}
use Rattle.paths.proofs.Words.{free_link}
use Rattle.table.specs.View.{View, view}
use Rattle.layout.specs.Resources.{Width}
use Rattle.table.specs.Encode.{AllBytes}
use Rattle.soundness.specs.TableTests.{table_tests}
use Rattle.book.specs.Book.{BookCircuit}
use Rattle.book.specs.WellFormed.{WellFormed}
use Rattle.judging.specs.Judged.{judge_facts, circuits_in, links_in, target_in}
use Rattle.judging.specs.Loadable.{Loadable}
use Rattle.ownership.specs.Calls.{judging}
use Rattle.ownership.specs.History.{Circuit, History, net_on, holds_link, holds_receive, belongs, enabled_on, held_on, free_on, taken_on, open_on, armed_on, available_on, with_circuits}
use Rattle.ownership.specs.Invariant.{CircuitValid, Disjoint, Valid}
use Rattle.ownership.specs.Agrees.{Accepted}
use Rattle.ownership.specs.FromTable.{history_of}
use Rattle.ownership.specs.LoadedBook.{listed_as, CanLoad}
use Rattle.ownership.proofs.Circuits.{belongs_parts}
use Rattle.ownership.proofs.CircuitValid.{holds_link_lem, holds_receive_lem}
use Rattle.ownership.proofs.FromTable.{sound_represents}
use Rattle.ownership.proofs.Judging.{judging_exactly}
use Rattle.ownership.proofs.BookFits.{numbers_rise, Fits, fits_loadable}
use Rattle.ownership.proofs.LoadedBook.{accepted_loads}

-- a list with a relation between every two of its members, whose first part is another list under a function: the relation between the members of that one, and
-- to those of the second part
pairwise_under : {A B : Type 0} (S : B → B → Type 0) (f : A → B) (xs : List A) (ys : List B) → Pairwise S (map f xs ++ ys)
    → Pairwise (λ x y. S (f x) (f y)) xs × ((x : A) → x ∈ xs → (y : B) → y ∈ ys → S (f x) y)
unfolding Pairwise
pairwise_under S f [] ys s = (tt, λ x m. absurd (Memᴰ.not-nil m))
pairwise_under S f (x ∷ xs) ys s =
    let rest = pairwise_under S f xs ys s.1 in (
      ((λ y m. s.0 (f y) (Memᴰ.append_left ys (Memᴰ.map f m))), rest.0),
      all_cons (λ x. (y : _) → y ∈ ys → S (f x) y) (λ y m. s.0 y (Memᴰ.append_right (map f xs) m)) rest.1,
    )

-- Circuits of a book that can be loaded.
module _ (h : History) (xs : List BookCircuit) (q : ℕ) (load : CanLoad q h xs) where
  abbrev as_listed : BookCircuit → Circuit
  as_listed = listed_as (net_on h) load.receive

  abbrev added : History
  added = with_circuits h (map as_listed xs ++ h.circuits)

  -- The history with them added is valid, since a table represents it,
  added_valid : Valid added
  added_valid =
      subst Valid (λ i. record { dimension = load.dimension i; fold = load.fold i; blocked = load.blocked i; circuits = load.circuits i; armed = load.armed i }) load.represented.valid

  -- so no two of them have anything in common, nor one of them and one that is open.
  parts : Pairwise (λ x y. Disjoint (net_on h) (as_listed x) (as_listed y)) xs × ((x : BookCircuit) → x ∈ xs → (y : Circuit) → y ∈ h.circuits → Disjoint (net_on h) (as_listed x) y)
  parts = pairwise_under (Disjoint (net_on h)) as_listed xs h.circuits added_valid.apart

  module _ (x : BookCircuit) (m : x ∈ xs) where
    stands : CircuitValid added (as_listed x)
    stands = added_valid.every_circuit (as_listed x) (Memᴰ.append_left h.circuits (Memᴰ.map as_listed m))

    -- Its links are free, since it holds them in a valid history and no open circuit does,
    link_free : (l : Link) → l ∈ links_in (net_on h) x → free_on h l.0 l.1 ≡ true
    unfolding free_on enabled_on held_on
    link_free l i =
        let unheld : held_on h l.0 l.1 ≡ false =
        is_false _ (λ e.
        let r = any_some (holds_link (net_on h) l.0 l.1) h.circuits e in
        (parts.1 x m r.0 r.1).link l i (holds_link_lem (net_on h) l.0 l.1 r.0 r.2)) in
        (free_link (enabled_on h l.0 l.1) (held_on h l.0 l.1)).1 (stands.enabled l i, unheld)

    -- its send channel has no open circuit,
    channel_not_open : open_on h (source_of x.number) (channel_of x.number) ≡ false
    unfolding open_on
    channel_not_open =
        is_false _ (λ e.
        let r = any_some (belongs (source_of x.number) (channel_of x.number)) h.circuits e in
        let same = belongs_parts (source_of x.number) (channel_of x.number) r.0 r.2 in
        (parts.1 x m r.0 r.1).send (sym same.0) (sym same.1))

    -- and its receive channel is available at its target.
    receive_available : available_on h (target_in (net_on h) x) (load.receive x.number) ≡ true
    unfolding armed_on taken_on
    receive_available =
        and stands.armed
        (ap not
        (is_false _ (λ e.
        let r = any_some (holds_receive (target_in (net_on h) x) (load.receive x.number)) h.circuits e in
        let same = holds_receive_lem (target_in (net_on h) x) (load.receive x.number) r.0 r.2 in
        (parts.1 x m r.0 r.1).receives same.0 same.1)))

  -- Those that end at a node have a channel each, so there are enough.
  channels_enough : (t : ℕ) → length (keep (λ x. eqb (target_in (net_on h) x) t) xs) ≤ length (keep (available_on h t) (from 0 channels))
  channels_enough t =
      no_more_than_places (λ x k. load.receive x.number ≡ k) (keep ends xs)
      (pairwise_kept ends (λ x y. Disjoint (net_on h) (as_listed x) (as_listed y)) _ xs (λ x y e f d k i j. d.receives (eqb-true _ t e ∙ sym (eqb-true _ t f)) (i ∙ sym j)) parts.0)
      (keep (available_on h t) (from 0 channels))
      (λ x m.
      let r = keep_mem ends xs m in
      let there = subst (λ (n : ℕ). available_on h n (load.receive x.number) ≡ true) (eqb-true (target_in (net_on h) x) t r.1) (receive_available x r.0) in
      (load.receive x.number, below_kept (available_on h t) channels (load.receive x.number) (stands x r.0).receive there, refl))
    where
      ends : BookCircuit → Bool
      ends x = eqb (target_in (net_on h) x) t

  -- So circuits that can be loaded fit, where their numbers rise from 1 on.
  load_fits : ((x : BookCircuit) → x ∈ xs → 0 < x.number) → Pairwise (λ x y. x.number < y.number) xs → Fits h xs
  load_fits least rise =
      record {
        source = λ x m. (stands x m).source;
        permitted = λ x m. (stands x m).permitted;
        free = link_free;
        not_open = channel_not_open;
        apart = pairwise_imp _ _ xs (λ x y m k d. d.link) parts.0;
        least = least;
        rise = rise;
        enough = channels_enough;
      }

-- A yes means exactly this: the table passes its tests, the book is well formed, and it can be loaded beside the circuits that are open.
pub loads_exactly : (q : ℕ) → Width q → (b : List ℕ) → AllBytes b → (ports index : List ℕ) (circuits hops : ℕ)
    → Accepted q b (judging ports index circuits hops) ↔ ((refusal (table_tests q b) ≡ 0) × WellFormed ports index circuits hops × CanLoad q (history_of (view b)) (circuits_in ports index circuits))
loads_exactly q width b small ports index circuits hops = (
  (λ answers_0.
      let r = (judging_exactly q b ports index circuits hops).0 answers_0 in (r.0, r.1.well_formed, accepted_loads q width b small ports index circuits hops answers_0)),
  (λ r.
      let k = sound_represents q b small r.0 in
      let h = history_of (view b) in
      let numbers = numbers_rise ports index circuits hops r.1 in
      let loadable = fits_loadable h k.valid ports index circuits hops r.1 (load_fits h (circuits_in ports index circuits) q r.2 numbers.0 numbers.1) in
      (judging_exactly q b ports index circuits hops).1 (r.0, subst (λ (v : View). Loadable (judge_facts v) ports index circuits hops) (sym k.shows) loadable)),
)
