-- The book that is written of a sound table is loadable, and so accepted, by that table with those circuits closed and their receive channels armed.
-- Assumes nothing.
use mathlib.Core.Path.{◌≡◌, ap, sym, ◌∙◌}
use mathlib.Core.Logic.{◌≢◌}
use mathlib.Core.Bool.{Bool, true, false}
use mathlib.Core.List.{List}
use Prim.Native.Nat.{ℕ, ◌*◌, ◌≤◌, ◌<◌}
use native.Mathlib.Omega.{arith}
use lib.Dec.{eqb}
use lib.ListN.{length}
use borrow.Author.Tests.{eqb-true}
use Rattle.common.specs.Tests.{refusal}
use Rattle.common.specs.Lists.{◌∈◌, keep, from, Pairwise}
use Rattle.common.proofs.Lists.{all_map, keep_mem, keep_pairwise, pairwise_imp, pairwise_map, no_more_than_places}
use Rattle.common.proofs.From.{below_kept}
use Rattle.cube.specs.Axes.{present}
use Rattle.cube.specs.Cube.{channels, largest_dimension, cube_nodes, source_of, channel_of}
use Rattle.paths.specs.Network.{Link, links}
use Rattle.paths.specs.Permitted.{Permitted}
use Rattle.paths.specs.CubeNetwork.{ports}
use Rattle.paths.proofs.Apart.{permitted_ports}
use Rattle.paths.proofs.CubeNetwork.{port_there}
use Rattle.table.specs.View.{View, shape_of, net}
use Rattle.circuit_path.specs.CircuitSound.{end_for, CircuitSound}
use Rattle.circuit_path.specs.PathOf.{path_of}
use Rattle.circuit_path.specs.OpenCircuit.{is_open_in}
use Rattle.circuit_path.specs.Traced.{traced_into}
use Rattle.circuit_path.proofs.CircuitSound.{path_is}
use Rattle.book.specs.Book.{BookCircuit, port_bytes, index_bytes, hop_count}
use Rattle.book.specs.BookOf.{open_numbers, book_of}
use Rattle.book.proofs.BookOfSound.{open_rises, open_exactly, book_well}
use Rattle.book.proofs.WellFormedBook.{well_formed_exactly}
use Rattle.judging.specs.Judged.{JudgeFacts, judge_net, circuits_in, links_in, judge_tests}
use Rattle.judging.specs.Loadable.{CircuitRight, NoneShared, Loadable}
use Rattle.judging.proofs.PermittedTest.{permitted_passes, permitted_some}
use Rattle.judging.proofs.TargetsTest.{kept_under}
use Rattle.judging.proofs.Loadable.{port_exactly, accepted_exactly}
use Rattle.judging.proofs.ReadBack.{circuits_back}

-- A table of a cube up to dimension 8, of which every open circuit stands on its path, every held link is enabled and every held channel armed, as in a sound
-- table.
module _ (v : View) (fits : v.dimension ≤ largest_dimension) (stands : (c : ℕ) → c ≢ 0 → is_open_in v c ≡ true → CircuitSound v c)
    (enabled : (n p : ℕ) → v.owner n p ≢ 0 → v.enabled n p ≡ true) (armed : (n k : ℕ) → v.receiver n k ≢ 0 → v.armed n k ≡ true) where
  -- a circuit as the book has it, and the node where it ends
  abbrev written : ℕ → BookCircuit
  written c = record { number = c; ports = path_of v c }

  abbrev target : ℕ → ℕ
  target c = end_for v c (path_of v c)

  module _ {c : ℕ} (m : c ∈ open_numbers v) where
    -- An open circuit has a number of the cube,
    some : c ≢ 0
    some z = let low = ((open_exactly v c).0 m).1 in omega arith

    source_inside : source_of c < cube_nodes v.dimension
    source_inside = let r = (open_exactly v c).0 m in let low = r.1 in let high = r.2 in omega arith

    -- stands on a permitted path, whose ports are the cube's,
    sound : CircuitSound v c
    sound = stands c some ((open_exactly v c).0 m).0

    permitted : Permitted (net v) (source_of c) (ports (shape_of v)) (target c) (path_of v c)
    permitted = rw (path_is v c sound) sound.permitted

    there : (p : ℕ) → p ∈ path_of v c → present v.dimension v.fold p ≡ true
    there p m = port_there (shape_of v) p (permitted_ports (shape_of v) (source_of c) (target c) (path_of v c) permitted p m)

    -- holds the links of that path,
    holds_links : (l : Link) → l ∈ links (net v) (source_of c) (path_of v c) → v.owner l.0 l.1 ≡ c
    holds_links l i = eqb-true (v.owner l.0 l.1) c (sound.exactly.all l.0 l.1 (rw (path_is v c sound) at i))

    -- and a receive channel where it ends.
    holds_channel : (k : ℕ) × (k < channels) × (v.receiver (target c) k ≡ c)
    holds_channel = (sound.receive, sound.small, ap (λ (w : List ℕ). v.receiver (end_for v c w) sound.receive) (path_is v c sound) ∙ sound.receives)

  -- So no two circuits of the book share a link, since it would be held by both.
  none_shared : Pairwise (NoneShared (net v)) (book_of v)
  unfolding book_of
  none_shared =
      pairwise_map (λ c d. NoneShared (net v) (written c) (written d)) (NoneShared (net v)) written (open_numbers v) (λ c d h. h)
      (pairwise_imp ◌<◌ _ (open_numbers v) (λ c d m k less l i j. let one = holds_links m l i in let other = holds_links k l j in omega arith) (open_rises v))

  -- What is known of the table with those circuits closed: it has the same dimension and fold mask, no open send channel, every enabled link free, every armed channel available.
  module _ (a : JudgeFacts) (dimension : a.dimension ≡ v.dimension) (fold : a.fold ≡ v.fold) (not_open : (s c : ℕ) → a.is_open s c ≡ false) (free : (n p : ℕ) → a.free n p ≡ v.enabled n p)
      (available : (n k : ℕ) → k < channels → a.available n k ≡ v.armed n k) where
    -- So the source, the ports, the path and the send channel of each circuit are right,
    circuit_right : (c : ℕ) → c ∈ open_numbers v → CircuitRight a (written c)
    circuit_right c m =
        let passes = permitted_passes (net v) (target c) (source_of c) (ports (shape_of v)) (path_of v c) (permitted m) in
        let some = permitted_some (shape_of v) (source_of c) (path_of v c) (source_inside m) (there m) passes in
        record {
          source = rw dimension (source_inside m);
          port = λ p i. (port_exactly a.dimension a.fold p).0 (rw (dimension, fold) (there m p i));
          vector = some.0;
          vector_small = rw dimension some.1;
          target = rw (dimension, fold) some.2;
          permitted = rw (dimension, fold) some.3;
          not_open = not_open (source_of c) (channel_of c);
        }

    -- its links are free,
    link_free : (c : ℕ) → c ∈ open_numbers v → (l : Link) → l ∈ links (net v) (source_of c) (path_of v c) → a.free l.0 l.1 ≡ true
    link_free c m l i = free l.0 l.1 ∙ enabled l.0 l.1 (λ z. some m (sym (holds_links m l i) ∙ z))

    -- and of the circuits that end at a node, each has a channel of its own there, which is armed.
    channels_enough : (t : ℕ) → length (keep (λ x. eqb (end_for v x.number x.ports) t) (book_of v)) ≤ length (keep (a.available t) (from 0 channels))
    unfolding book_of
    channels_enough t =
        rw (kept_under (λ x. eqb (end_for v x.number x.ports) t) written (open_numbers v))
        (no_more_than_places (λ c k. v.receiver t k ≡ c) (keep ends (open_numbers v))
        (pairwise_imp ◌<◌ _ (keep ends (open_numbers v)) (λ c d m n less k one other. omega arith) (keep_pairwise ends ◌<◌ (open_numbers v) (open_rises v)))
        (keep (a.available t) (from 0 channels)) channel)
      where
        ends : ℕ → Bool
        ends c = eqb (target c) t

        channel : (c : ℕ) → c ∈ keep ends (open_numbers v) → (k : ℕ) × (k ∈ keep (a.available t) (from 0 channels)) × (v.receiver t k ≡ c)
        channel c i =
            let r = keep_mem ends (open_numbers v) i in
            let its = holds_channel r.0 in
            let held : v.receiver t its.0 ≡ c = ap (λ (n : ℕ). v.receiver n its.0) (sym (eqb-true (target c) t r.1)) ∙ its.2 in
            (its.0, below_kept (a.available t) channels its.0 its.1 (available t its.0 its.1 ∙ armed t its.0 (λ z. some r.0 (sym held ∙ z))), held)

    module _ (ports index : List ℕ) (p : hop_count (book_of v) ≤ length ports) (i : 6 * length (book_of v) ≤ length index) where
      -- two buffers that hold the book, once it is written into them, and the circuits that they list
      abbrev port_buffer : List ℕ
      port_buffer = traced_into (port_bytes (book_of v)) ports

      abbrev index_buffer : List ℕ
      index_buffer = traced_into (index_bytes (book_of v)) index

      abbrev read : List BookCircuit
      read = circuits_in port_buffer index_buffer (length (book_of v))

      -- They are the open circuits, so what holds of each of these holds of them,
      back : read ≡ book_of v
      back = circuits_back (book_of v) ports index

      each : (P : BookCircuit → Type 0) → ((c : ℕ) → c ∈ open_numbers v → P (written c)) → (x : BookCircuit) → x ∈ read → P x
      unfolding book_of
      each P holds = rw back (all_map P written (open_numbers v) holds)

      -- and the book is loadable,
      written_loadable : Loadable a port_buffer index_buffer (length (book_of v)) (hop_count (book_of v))
      written_loadable =
          record {
            well_formed = (well_formed_exactly _ _ _ _).0 (book_well v fits stands ports index p i);
            circuits_right = each (CircuitRight a) circuit_right;
            links_free =
                record {
                  free = each (λ x. (l : Link) → l ∈ links_in (judge_net a) x → a.free l.0 l.1 ≡ true) (λ c m. rw (dimension, fold) (link_free c m));
                  apart = rw (back, dimension, fold) none_shared;
                };
            channels_suffice = λ t. rw (back, dimension, fold) (channels_enough t);
          }

    -- and so accepted.
    pub written_accepted : (ports index : List ℕ) → hop_count (book_of v) ≤ length ports → 6 * length (book_of v) ≤ length index
        → refusal (judge_tests a (traced_into (port_bytes (book_of v)) ports) (traced_into (index_bytes (book_of v)) index) (length (book_of v)) (hop_count (book_of v))) ≡ 0
    written_accepted ports index p i = (accepted_exactly a _ _ _ _).1 (written_loadable ports index p i)
