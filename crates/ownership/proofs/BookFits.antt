-- What it is for the circuits of a book to fit a history, and that those of a book do so which is loadable by a table that agrees with it.
-- Assumes nothing.
use mathlib.Core.Path.{◌≡◌, ap, sym, ◌∙◌, subst}
use mathlib.Core.Bool.{Bool, true, false}
use mathlib.Core.List.Memᴰ
use mathlib.Core.List.{List, [], ◌∷◌}
use Prim.Native.Nat.{ℕ, ◌+◌, ◌≤◌, ◌<◌}
use native.Mathlib.Omega.{arith}
use lib.Dec.{eqb}
use lib.ListN.{length}
use Rattle.common.specs.Lists.{◌∈◌, keep, from, Pairwise}
use Rattle.common.proofs.Lists.{all_cons, all_map, keep_mem, pairwise_map}
use Rattle.common.proofs.Tests.{both}
use Rattle.cube.specs.Cube.{channels, NodeOf, source_of, channel_of}
use Rattle.cube.proofs.Circuits.{channel_below}
use Rattle.paths.specs.Network.{Network, Path, Link, end}
use Rattle.paths.specs.Permitted.{Permitted}
use Rattle.paths.specs.CubeNetwork.{ports, send_ports}
use Rattle.paths.proofs.Sentences.{permitted_end}
use Rattle.paths.proofs.Apart.{permitted_ports}
use Rattle.paths.proofs.CubeNetwork.{port_there}
use Rattle.cube.specs.Axes.{present}
use Rattle.book.specs.Book.{BookCircuit}
use Rattle.book.specs.Lookup.{IndexLine, index_lines, line_fits, lines_fit}
use Rattle.book.specs.WellFormed.{WellFormed}
use Rattle.book.proofs.Lines.{line_fits_lem, formed}
use Rattle.book.proofs.WellFormedBook.{well_formed_exactly}
use Rattle.judging.specs.Judged.{judge_facts, circuit_on, circuits_in, links_in, target_in}
use Rattle.judging.specs.Loadable.{CircuitRight, NoneShared, Loadable}
use Rattle.judging.proofs.PermittedTest.{permitted_passes, permitted_some}
use Rattle.judging.proofs.Loadable.{port_exactly}
use Rattle.ownership.specs.TableFacts.{open_in}
use Rattle.ownership.specs.History.{History, shape_on, net_on, free_on, open_on, available_on}
use Rattle.ownership.specs.HistoryView.{view_of}
use Rattle.ownership.specs.Invariant.{Valid}
use Rattle.ownership.proofs.Sameness.{free_same, available_alike}
use Rattle.ownership.proofs.OpenSame.{open_same}

-- Lines that fit have numbers above the one before them, and these rise.
lines_rise : (above at : ℕ) (xs : List IndexLine) (total : ℕ) → lines_fit above at xs total ≡ true
    → ((x : IndexLine) → x ∈ xs → above < x.number) × Pairwise (λ x y. x.number < y.number) xs
unfolding lines_fit Pairwise
lines_rise above at [] total e = ((λ x m. absurd (Memᴰ.not-nil m)), tt)
lines_rise above at (x ∷ xs) total e =
    let r = both (line_fits above at x) _ e in
    let f = line_fits_lem above at x r.0 in
    let rest = lines_rise x.number (at + x.hops) xs total r.1 in
    (all_cons (λ y. above < y.number) f.rises (λ y m. omega (arith, f.rises, rest.0 y m)), rest)

-- So the numbers of the circuits of a well-formed book are at least 1 and rise.
pub numbers_rise : (ports index : List ℕ) (circuits hops : ℕ) → WellFormed ports index circuits hops
    → ((x : BookCircuit) → x ∈ circuits_in ports index circuits → 0 < x.number) × Pairwise (λ x y. x.number < y.number) (circuits_in ports index circuits)
numbers_rise ports index circuits hops w =
    let r = lines_rise 0 0 (index_lines circuits index) hops (formed ports index circuits hops ((well_formed_exactly ports index circuits hops).1 w)).2 in (
      all_map (λ x. 0 < x.number) (circuit_on ports) (index_lines circuits index) r.0,
      pairwise_map (λ x y. x.number < y.number) (λ x y. x.number < y.number) (circuit_on ports) (index_lines circuits index) (λ x y l. l) r.1,
    )

-- A path that is permitted where some of the ports may come first is so where all may, to its own end.
permitted_wider : (N : Network) (f : ℕ → Bool) (ps : List ℕ) (s t : ℕ) (w : Path) → Permitted N s (keep f ps) t w → Permitted N s ps (end N s w) w
permitted_wider N f ps s t w o = rw (permitted_end N s (keep f ps) t w o) (wider w o)
  where
    wider : (w : Path) → Permitted N s (keep f ps) t w → Permitted N s ps t w
    wider [] o = unfold Permitted in absurd o
    wider (p ∷ w) o = unfold Permitted in ((keep_mem f ps o.0).0, o.1)

-- The circuits of a book fit a history:
pub record Fits (h : History) (xs : List BookCircuit) : Type 0 where
  -- each starts in the cube,
  pub source : (x : BookCircuit) → x ∈ xs → NodeOf h.dimension (source_of x.number)
  -- its ports are a permitted path to the node where they lead,
  pub permitted : (x : BookCircuit) → x ∈ xs → Permitted (net_on h) (source_of x.number) (ports (shape_on h)) (target_in (net_on h) x) x.ports
  -- its links are free,
  pub free : (x : BookCircuit) → x ∈ xs → (l : Link) → l ∈ links_in (net_on h) x → free_on h l.0 l.1 ≡ true
  -- and its send channel has no open circuit;
  pub not_open : (x : BookCircuit) → x ∈ xs → open_on h (source_of x.number) (channel_of x.number) ≡ false
  -- no two have a link or a number in common,
  pub apart : Pairwise (NoneShared (net_on h)) xs
  pub least : (x : BookCircuit) → x ∈ xs → 0 < x.number
  pub rise : Pairwise (λ x y. x.number < y.number) xs
  -- and at no node more of them end than receive channels are available.
  pub enough : (t : ℕ) → length (keep (λ x. eqb (target_in (net_on h) x) t) xs) ≤ length (keep (available_on h t) (from 0 channels))

-- The circuits of a book that is loadable by a table which agrees with a valid history fit that history: what the table shows as free, open and available is
-- so in the history.
pub loadable_fits : (h : History) → Valid h → (ports index : List ℕ) (circuits hops : ℕ) → Loadable (judge_facts (view_of h)) ports index circuits hops → Fits h (circuits_in ports index circuits)
unfolding view_of open_in
loadable_fits h valid ports index circuits hops book =
    record {
      source = λ x m. (book.circuits_right x m).source;
      permitted = λ x m. unfold send_ports in permitted_wider (net_on h) _ _ (source_of x.number) (target_in (net_on h) x) x.ports (book.circuits_right x m).permitted;
      free = λ x m l i. ap (λ (f : ℕ → ℕ → Bool). f l.0 l.1) (sym (free_same h)) ∙ book.links_free.free x m l i;
      not_open = λ x m. sym (open_same h valid (source_of x.number) (channel_of x.number) (channel_below x.number)) ∙ (book.circuits_right x m).not_open;
      apart = book.links_free.apart;
      least = (numbers_rise ports index circuits hops book.well_formed).0;
      rise = (numbers_rise ports index circuits hops book.well_formed).1;
      enough = λ t.
          subst (λ (f : ℕ → ℕ → Bool). length (keep (λ x. eqb (target_in (net_on h) x) t) (circuits_in ports index circuits)) ≤ length (keep (f t) (from 0 channels))) (available_alike h)
          (book.channels_suffice t);
    }

-- And conversely a well-formed book whose circuits fit the history is loadable by such a table.
pub fits_loadable : (h : History) → Valid h → (ports index : List ℕ) (circuits hops : ℕ) → WellFormed ports index circuits hops → Fits h (circuits_in ports index circuits)
    → Loadable (judge_facts (view_of h)) ports index circuits hops
unfolding view_of open_in
fits_loadable h valid ports index circuits hops well_formed fits =
    record {
      well_formed = well_formed;
      circuits_right = right;
      links_free = record { free = λ x m l i. ap (λ (f : ℕ → ℕ → Bool). f l.0 l.1) (free_same h) ∙ fits.free x m l i; apart = fits.apart };
      channels_suffice = λ t.
          subst (λ (f : ℕ → ℕ → Bool). length (keep (λ x. eqb (target_in (net_on h) x) t) (circuits_in ports index circuits)) ≤ length (keep (f t) (from 0 channels)))
          (sym (available_alike h)) (fits.enough t);
    }
  where
    right : (x : BookCircuit) → x ∈ circuits_in ports index circuits → CircuitRight (judge_facts (view_of h)) x
    right x m =
        let permitted = fits.permitted x m in
        let there : (p : ℕ) → p ∈ x.ports → present h.dimension h.fold p ≡ true =
        λ p i. port_there (shape_on h) p (permitted_ports (shape_on h) (source_of x.number) (target_in (net_on h) x) x.ports permitted p i) in
        let some =
        permitted_some (shape_on h) (source_of x.number) x.ports (fits.source x m) there
        (permitted_passes (net_on h) (target_in (net_on h) x) (source_of x.number) _ x.ports permitted) in
        record {
          source = fits.source x m;
          port = λ p i. (port_exactly h.dimension h.fold p).0 (there p i);
          vector = some.0;
          vector_small = some.1;
          target = some.2;
          permitted = some.3;
          not_open = open_same h valid (source_of x.number) (channel_of x.number) (channel_below x.number) ∙ fits.not_open x m;
        }
