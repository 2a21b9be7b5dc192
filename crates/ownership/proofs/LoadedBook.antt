-- Judging 10: a book that a judging accepts can be loaded: its circuits, each with a receive channel at its target, and those that are
-- open make a history that a table represents.
-- Assumes nothing.
use mathlib.Core.Path.{◌≡◌, refl, sym, ◌∙◌, subst}
use mathlib.Core.Bool.{true, false}
use mathlib.Core.List.{List, [], ◌∷◌, ◌++◌, map}
use Prim.Native.Nat.{ℕ}
use native.Mathlib.Omega.{arith}
use borrow.Author.Tests.{not-true}
use Rattle.common.specs.Lists.{◌∈◌, Pairwise}
use Rattle.common.proofs.Lists.{all_append, all_map, pairwise_append, pairwise_imp, pairwise_map}
use Rattle.common.proofs.Tests.{both, clash}
use Rattle.cube.specs.Cube.{circuit_of, source_of, channel_of}
use Rattle.cube.proofs.Circuits.{circuit_of_parts, channel_below}
use Rattle.paths.specs.Network.{Link}
use Rattle.paths.proofs.Words.{free_link}
use Rattle.table.specs.View.{View, view}
use Rattle.layout.specs.Resources.{Width}
use Rattle.table.specs.Encode.{AllBytes}
use Rattle.book.specs.Book.{BookCircuit}
use Rattle.judging.specs.Judged.{judge_facts, circuits_in, links_in, target_in}
use Rattle.judging.specs.Loadable.{Loadable}
use Rattle.ownership.specs.Calls.{judging}
use Rattle.ownership.specs.History.{Circuit, History, net_on, enabled_on, held_on, free_on, taken_on, armed_on, available_on, with_circuits}
use Rattle.ownership.specs.Invariant.{CircuitValid, Disjoint, Valid}
use Rattle.ownership.specs.Agrees.{Accepted}
use Rattle.ownership.specs.FromTable.{history_of}
use Rattle.ownership.specs.LoadedBook.{listed_as, CanLoad}
use Rattle.ownership.proofs.ChosenChannels.{Chosen, choose}
use Rattle.ownership.proofs.BookFits.{Fits, loadable_fits}
use Rattle.ownership.proofs.ValidAfter.{held_link, taken_receive, open_send, circuits_valid}
use Rattle.ownership.proofs.Range.{FoldFits}
use Rattle.ownership.proofs.Agreement.{bytes_represent, represents_fold}
use Rattle.ownership.proofs.FromTable.{sound_represents}
use Rattle.ownership.proofs.Judging.{judging_exactly}

-- what stands between every two members of a list by two relations does so by both at once
pairwise_both : {A : Type 0} (R S : A → A → Type 0) (xs : List A) → Pairwise R xs → Pairwise S xs → Pairwise (λ x y. R x y × S x y) xs
unfolding Pairwise
pairwise_both R S [] r s = tt
pairwise_both R S (x ∷ xs) r s = ((λ y m. (r.0 y m, s.0 y m)), pairwise_both R S xs r.1 s.1)

-- A valid history, and circuits of a book that fit it.
module _ (h : History) (valid : Valid h) (xs : List BookCircuit) (fits : Fits h xs) where
  -- Each gets a receive channel of its own that is available at its target.
  chosen : Chosen (λ (x : BookCircuit). x.number) (target_in (net_on h)) (available_on h) xs
  chosen = choose (λ (x : BookCircuit). x.number) (target_in (net_on h)) (available_on h) xs (pairwise_imp _ _ xs (λ x y m k l e. omega arith) fits.rise) fits.enough

  abbrev as_listed : BookCircuit → Circuit
  as_listed = listed_as (net_on h) chosen.receive

  -- What is known of a circuit of the book in the words of the history: its links are enabled and nobody's, and its receive channel is armed and nobody's.
  module _ (x : BookCircuit) (m : x ∈ xs) where
    link_known : (l : Link) → l ∈ links_in (net_on h) x → (enabled_on h l.0 l.1 ≡ true) × (held_on h l.0 l.1 ≡ false)
    unfolding free_on
    link_known l i = (free_link (enabled_on h l.0 l.1) (held_on h l.0 l.1)).0 (fits.free x m l i)

    channel_known : (armed_on h (as_listed x).target (as_listed x).receive ≡ true) × (taken_on h (as_listed x).target (as_listed x).receive ≡ false)
    channel_known = let r = both (armed_on h (as_listed x).target (as_listed x).receive) _ (chosen.free x m) in (r.0, not-true _ r.1)

    -- So the circuit stands,
    listed_stands : CircuitValid h (as_listed x)
    listed_stands =
        record {
          source = fits.source x m;
          channel = channel_below x.number;
          permitted = fits.permitted x m;
          enabled = λ l i. (link_known l i).0;
          receive = chosen.small x m;
          armed = channel_known.0;
        }

    -- has nothing in common with one that is open,
    from_open : (y : Circuit) → y ∈ h.circuits → Disjoint (net_on h) (as_listed x) y
    from_open y k =
        record {
          send = λ e f. clash (open_send h y k (source_of x.number) (channel_of x.number) (sym e) (sym f)) (fits.not_open x m);
          link = λ l i j. clash (held_link h y k l.0 l.1 j) (link_known l i).1;
          receives = λ e f. clash (taken_receive h y k _ _ e f) channel_known.1;
        }

  -- and nothing with another of the book: different numbers are of different send channels.
  from_book : Pairwise (λ x y. Disjoint (net_on h) (as_listed x) (as_listed y)) xs
  from_book =
      pairwise_imp _ _ xs
      (λ x y m k r.
      record {
        send = λ e f.
            let same : x.number ≡ y.number =
            sym (circuit_of_parts x.number (fits.least x m)) ∙ (λ i. circuit_of (e i) (f i)) ∙ circuit_of_parts y.number (fits.least y k) in
            omega (arith, r.0, same);
        link = r.1.0;
        receives = r.1.1;
      })
      (pairwise_both _ _ xs fits.rise (pairwise_both _ _ xs fits.apart chosen.apart))

  -- The history with these circuits added is valid.
  abbrev loaded : History
  loaded = with_circuits h (map as_listed xs ++ h.circuits)

  loaded_valid : Valid loaded
  loaded_valid =
      circuits_valid h valid (map as_listed xs ++ h.circuits) h.armed valid.armed
      (λ y m. let s = all_append (CircuitValid h) (map as_listed xs) (all_map (CircuitValid h) as_listed xs listed_stands) valid.every_circuit y m in (s, s.armed))
      (pairwise_append (map as_listed xs) h.circuits (pairwise_map _ (Disjoint (net_on h)) as_listed xs (λ x y r. r) from_book) valid.apart
      (λ x y m k. all_map (λ x. (y : Circuit) → y ∈ h.circuits → Disjoint (net_on h) x y) as_listed xs from_open x m y k))

  -- So circuits that fit can be loaded, on either kind of table.
  pub fits_load : (q : ℕ) → Width q → FoldFits q h.fold → CanLoad q h xs
  fits_load q width fold =
      record {
        loaded = loaded;
        dimension = refl;
        fold = refl;
        blocked = refl;
        armed = refl;
        receive = chosen.receive;
        circuits = refl;
        represented = bytes_represent q width loaded loaded_valid fold;
      }

-- A book that a judging accepts can be loaded beside the circuits that are open.
pub accepted_loads : (q : ℕ) → Width q → (b : List ℕ) → AllBytes b → (ports index : List ℕ) (circuits hops : ℕ) → Accepted q b (judging ports index circuits hops)
    → CanLoad q (history_of (view b)) (circuits_in ports index circuits)
accepted_loads q width b small ports index circuits hops answers_0 =
    let r = (judging_exactly q b ports index circuits hops).0 answers_0 in
    let k = sound_represents q b small r.0 in
    let h = history_of (view b) in
    fits_load h k.valid (circuits_in ports index circuits)
    (loadable_fits h k.valid ports index circuits hops (subst (λ (v : View). Loadable (judge_facts v) ports index circuits hops) k.shows r.1)) q width (represents_fold q b h k)
