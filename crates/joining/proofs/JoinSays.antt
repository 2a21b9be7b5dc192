-- What JoinSays says of the joined view and of traces on it.
-- Assumes nothing.
use mathlib.Core.Path.{◌≡◌, refl, ap, sym, ◌∙◌, subst}
use mathlib.Core.Logic.{inl, ◌≢◌}
use mathlib.Core.Bool.{Bool, true, cond, not}
use mathlib.Core.List.{List, [], ◌∷◌}
use Prim.Native.Nat.{ℕ, ◌+◌, ◌*◌, ◌^◌, ◌<◌}
use native.Mathlib.Omega.{arith}
use lib.Dec.{eqb, ltb}
use lib.ListN.{length}
use borrow.Author.Tests.{eq-eqb, ne_eqb, lt-ltb}
use Rattle.common.specs.Lists.{◌∈◌}
use Rattle.common.specs.Tests.{test, refusal}
use Rattle.cube.specs.Cube.{port_count, largest_dimension}
use Rattle.paths.specs.Network.{Path}
use Rattle.table.specs.View.{View, view}
use Rattle.table.specs.Encode.{encode}
use Rattle.circuit_path.specs.Traced.{traced_into}
use Rattle.ownership.specs.Calls.{tracing, CallResult, call_tests, result_of, call_on}
use Rattle.ownership.specs.OnTable.{table_step}
use Rattle.ownership.specs.History.{Circuit, History, open_on, listed, facts_on, stopped_on, history_step}
use Rattle.ownership.specs.HistoryView.{view_of}
use Rattle.ownership.specs.Invariant.{Valid, Represents}
use Rattle.ownership.proofs.Agreement.{represents_fold, represents_sound, represents_not_stopped, represents_step}
use Rattle.joining.specs.Joined.{renumbered, joined_view, joined_history}
use Rattle.joining.specs.JoinSays.{HalfCarried, JoinSays}
use Rattle.joining.proofs.HalfNodes.{first_gains, second_gains, inside_both}
use Rattle.joining.proofs.FirstOf.{of_first, of_second}
use Rattle.joining.proofs.BothHalves.{open_both, listed_both}
use Rattle.joining.proofs.JoinedView.{both_on, joined_is, new_port, old_port}
use Rattle.joining.proofs.JoinedHistory.{joined_shows, joined_represents}

-- What the joined view shows of the nodes of the first and of the second.
module _ (v w : View) where
  abbrev D : ℕ
  D = v.dimension

  first_carried : HalfCarried D v (joined_view v w) 0 0
  unfolding joined_view
  first_carried =
      record {
        enabled = λ n p l m. rw (here n) (old_port D _ _ n p (λ e. omega arith) ∙ of_first D _ _ n p l);
        armed = λ n k l. rw (here n) (of_first D _ _ n k l);
        unheld = λ n p l m z. rw (here n) (old_port D _ _ n p (λ e. omega arith) ∙ of_first D _ _ n p l ∙ z);
        held = λ n p l m z. rw (here n, here (v.owner n p)) (old_port D _ _ n p (λ e. omega arith) ∙ of_first D _ _ n p l);
        untaken = λ n k l z. rw (here n) (of_first D _ _ n k l ∙ z);
        taken = λ n k l z. rw (here n, here (v.receiver n k)) (of_first D _ _ n k l);
      }
    where
      here : (n : ℕ) → n + 0 ≡ n
      here n = omega arith

  second_carried : HalfCarried D w (joined_view v w) (2 ^ D) (8 * 2 ^ D)
  unfolding joined_view
  second_carried =
      record {
        enabled = λ n p l m. old_port D _ _ (n + 2 ^ D) p (λ e. omega arith) ∙ of_second D _ _ n p;
        armed = λ n k l. of_second D _ _ n k;
        unheld = λ n p l m z. old_port D _ _ (n + 2 ^ D) p (λ e. omega arith) ∙ of_second D _ _ n p ∙ none _ z;
        held = λ n p l m z. old_port D _ _ (n + 2 ^ D) p (λ e. omega arith) ∙ of_second D _ _ n p ∙ some _ z;
        untaken = λ n k l z. of_second D _ _ n k ∙ none _ z;
        taken = λ n k l z. of_second D _ _ n k ∙ some _ z;
      }
    where
      none : (c : ℕ) → c ≡ 0 → renumbered (8 * 2 ^ D) c ≡ 0
      none c z = unfold renumbered in rw (eq-eqb c 0 z)

      some : (c : ℕ) → c ≢ 0 → renumbered (8 * 2 ^ D) c ≡ c + 8 * 2 ^ D
      some c f = unfold renumbered in rw (ne_eqb c 0 f)

-- Traces of two send channels, in two histories, give the same where both channels are of nodes of their cubes, both are open or neither is, and the ports listed are the same.
module _ (h J : History) (n m k : ℕ) (buffer : List ℕ) (inside : n < 2 ^ h.dimension) (there : m < 2 ^ J.dimension) (opened : open_on J m k ≡ open_on h n k) (path : listed J.circuits m k ≡ listed h.circuits n k) where
  stops_same : stopped_on J (tracing m k buffer) ≡ stopped_on h (tracing n k buffer)
  unfolding stopped_on call_tests facts_on
  stops_same =
      rw (lt-ltb m (2 ^ J.dimension) there, lt-ltb n (2 ^ h.dimension) inside) (ap (λ (o : Bool). refusal (test (not true) 4 ∷ test (ltb 7 k) 5 ∷ test (not o) 12 ∷ test (ltb (length buffer) 9) 14 ∷ [])) opened)

  trace_same : (history_step J (tracing m k buffer)).result ≡ (history_step h (tracing n k buffer)).result
  unfolding history_step call_on result_of facts_on
  trace_same = λ i. given (stops_same i) (path i)
    where
      given : ℕ → Path → CallResult
      given s w = cond (eqb s 0) (record { number = 0; values = length w ∷ []; buffers = traced_into w buffer ∷ [] }) (record { number = s; values = 0 ∷ []; buffers = buffer ∷ [] })

-- The history of both halves says of a send channel what the history of its half says: whether it is open, and its circuit's ports.
module _ (h g : History) (valid : Valid h) where
  sources : (x : Circuit) → x ∈ h.circuits → x.source < 2 ^ h.dimension
  sources x m = (valid.every_circuit x m).source

  first_traces : (n k : ℕ) (buffer : List ℕ) → n < 2 ^ h.dimension
      → (history_step (joined_history h g) (tracing n k buffer)).result ≡ (history_step h (tracing n k buffer)).result
  first_traces n k buffer l =
      rw (joined_is h g) (trace_same h (both_on h g) n n k buffer l (omega (arith, inside_both (first_gains h.dimension) n l))
      (unfold open_on in open_both h.dimension h.circuits g.circuits sources n k ∙ of_first h.dimension _ _ n k l)
      (listed_both h.dimension h.circuits g.circuits sources n k ∙ of_first h.dimension _ _ n k l))

  second_traces : h.dimension ≡ g.dimension → (n k : ℕ) (buffer : List ℕ) → n < 2 ^ h.dimension
      → (history_step (joined_history h g) (tracing (n + 2 ^ h.dimension) k buffer)).result ≡ (history_step g (tracing n k buffer)).result
  second_traces e n k buffer l =
      rw (joined_is h g) (trace_same g (both_on h g) n (n + 2 ^ h.dimension) k buffer (rw e at l) (inside_both (second_gains h.dimension) n l)
      (unfold open_on in open_both h.dimension h.circuits g.circuits sources (n + 2 ^ h.dimension) k ∙ of_second h.dimension _ _ n k)
      (listed_both h.dimension h.circuits g.circuits sources (n + 2 ^ h.dimension) k ∙ of_second h.dimension _ _ n k))

-- So two tables that represent histories are joined as Joining has it.
pub represented_says : (a b : List ℕ) (h g : History) → Represents port_count a h → Represents port_count b g → h.dimension ≡ g.dimension → h.dimension ≢ largest_dimension
    → JoinSays (view a).dimension a b (encode (joined_view (view a) (view b)))
represented_says a b h g one other e ne =
    record {
      dimension = rw shows (unfold joined_view in refl);
      first = rw shows (first_carried (view a) (view b));
      second = rw shows (second_carried (view a) (view b));
      new_enabled = λ n l. rw shows (unfold joined_view in new_port (view a).dimension _ _ n ∙ lt-ltb n _ l);
      new_free = λ n l. rw shows (unfold joined_view in new_port (view a).dimension _ _ n);
      traces_first = λ n k buffer l.
          (represents_step port_count (inl refl) d J both (tracing n k buffer) tt).result ∙ first_traces h g one.valid n k buffer (rw known at l) ∙ sym (represents_step port_count (inl refl) a h one (tracing n k buffer) tt).result;
      traces_second = λ n k buffer l.
          subst (λ (D : ℕ). (table_step port_count d (tracing (n + 2 ^ D) k buffer)).result ≡ (table_step port_count b (tracing n k buffer)).result) (sym known)
          ((represents_step port_count (inl refl) d J both (tracing (n + 2 ^ h.dimension) k buffer) tt).result ∙ second_traces h g one.valid e n k buffer (rw known at l) ∙ sym (represents_step port_count (inl refl) b g other (tracing n k buffer) tt).result);
      sound = represents_not_stopped port_count d J both;
      is_sound = represents_sound port_count d J both;
    }
  where
    d : List ℕ
    d = encode (joined_view (view a) (view b))

    J : History
    J = joined_history h g

    both : Represents port_count d J
    both = joined_represents a b h g one other e ne

    known : (view a).dimension ≡ h.dimension
    known = unfold view_of in ap (λ (v : View). v.dimension) one.shows

    shows : view d ≡ joined_view (view a) (view b)
    shows = both.shows ∙ (joined_shows h g one.valid other.valid ((represents_fold port_count a h one).plain refl) ((represents_fold port_count b g other).plain refl) e ne).shows ∙ (λ i. joined_view (sym one.shows i) (sym other.shows i))
