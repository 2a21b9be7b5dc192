-- The examples on tables: from any 8,705 bytes each list of calls gives what it gives of the history.
-- Assumes nothing.
use mathlib.Core.Logic.{inl}
use mathlib.Core.Path.{◌≡◌, refl, ap, ap₂, ◌∙◌}
use mathlib.Core.Bool.{Bool, true}
use mathlib.Core.List.{List, [], ◌∷◌, map}
use Prim.Native.Nat.{ℕ, ◌≤◌}
use lib.Dec.{lit≤}
use lib.ListN.{length}
use Rattle.std.specs.List.{list_all}
use Rattle.common.proofs.Tests.{both, clash}
use Rattle.cube.specs.Cube.{port_count, largest_dimension}
use Rattle.layout.specs.Layout.{table_length}
use Rattle.ownership.specs.Calls.{making, blocking, unblocking, opening, closing, tracing, arming, disarming, opening_all, booking, judging, folding, Call, OfKind}
use Rattle.ownership.specs.Closing.{Each, no_call, call_more}
use Rattle.ownership.specs.Kinds.{Kind, narrow, wide, kind_ports, same_kind, kind_of}
use Rattle.ownership.proofs.KindCalls.{kind_fits}
use Rattle.common.specs.Lists.{from}
use Rattle.ownership.specs.FromTable.{links_out}
use Rattle.ownership.proofs.Agreement.{making_accepted, demand_3}
use Rattle.paper_examples.specs.Examples.{Input, calls, read, write, before, shown, result, inputs, results, examples}
use Rattle.paper_examples.specs.Promises.{result_on}

-- a call that narrow tables have
abbrev on_narrow : Call → Bool
on_narrow a = same_kind (kind_of narrow a) narrow

narrow_calls : (cs : List Call) → list_all on_narrow cs ≡ true → Each (OfKind port_count) cs
narrow_calls [] e = no_call
narrow_calls (a ∷ cs) e = let r = both (on_narrow a) (list_all on_narrow cs) e in call_more (go (kind_of narrow a) r.0 (kind_fits narrow a)) (narrow_calls cs r.1)
  where
    go : (w : Kind) → same_kind w narrow ≡ true → OfKind (kind_ports w) a → OfKind port_count a
    go narrow i k = k
    go wide i k = absurd (clash i refl)

-- a list of calls begins with a making of a dimension from 1 to 8, and sets no fold mask
unfoldable Begins : Input → Type 0
Begins (calls []) = ⊥
Begins (calls (making D ∷ cs)) = (1 ≤ D) × (D ≤ largest_dimension) × (list_all on_narrow cs ≡ true)
Begins (calls (blocking n p ∷ cs)) = ⊥
Begins (calls (unblocking n p ∷ cs)) = ⊥
Begins (calls (opening s c t y v ∷ cs)) = ⊥
Begins (calls (closing s c ∷ cs)) = ⊥
Begins (calls (tracing s c buffer ∷ cs)) = ⊥
Begins (calls (arming n k ∷ cs)) = ⊥
Begins (calls (disarming n k ∷ cs)) = ⊥
Begins (calls (opening_all sends ∷ cs)) = ⊥
Begins (calls (booking ports index ∷ cs)) = ⊥
Begins (calls (judging ports index circuits hops ∷ cs)) = ⊥
Begins (calls (folding mask ∷ cs)) = ⊥
Begins (read w) = Unit
Begins (write c k) = Unit

unfoldable All : List Input → Type 0
All [] = Unit
All (i ∷ is) = Begins i × All is

same : (b : List ℕ) → length b ≡ table_length → (i : Input) → Begins i → result_on b i ≡ result i
unfolding Begins
same b e (calls []) h = elim h [ ]
same b e (calls (blocking node port ∷ cs)) h = elim h [ ]
same b e (calls (unblocking node port ∷ cs)) h = elim h [ ]
same b e (calls (opening source channel target type vector ∷ cs)) h = elim h [ ]
same b e (calls (closing source channel ∷ cs)) h = elim h [ ]
same b e (calls (tracing source channel buffer ∷ cs)) h = elim h [ ]
same b e (calls (arming node channel ∷ cs)) h = elim h [ ]
same b e (calls (disarming node channel ∷ cs)) h = elim h [ ]
same b e (calls (opening_all sends ∷ cs)) h = elim h [ ]
same b e (calls (booking ports index ∷ cs)) h = elim h [ ]
same b e (calls (judging ports index circuits hops ∷ cs)) h = elim h [ ]
same b e (calls (folding mask ∷ cs)) h = elim h [ ]
same b e (calls (making D ∷ cs)) h = ap (map shown) (demand_3 port_count (inl refl) b before D (making_accepted port_count b D e h.0 h.1) cs (narrow_calls cs h.2)).results
same b e (read w) h = refl
same b e (write c k) h = refl

all_same : (b : List ℕ) → length b ≡ table_length → (is : List Input) → All is → map (result_on b) is ≡ map result is
unfolding All
all_same b e [] h = refl
all_same b e (i ∷ is) h = ap₂ ◌∷◌ (same b e i h.0) (all_same b e is h.1)

pub examples_on_tables : (b : List ℕ) → length b ≡ table_length → map (result_on b) inputs ≡ results
unfolding All Begins links_out from
examples_on_tables b e = all_same b e inputs ((lit≤ tt, lit≤ tt, refl), ((lit≤ tt, lit≤ tt, refl), ((lit≤ tt, lit≤ tt, refl), ((lit≤ tt, lit≤ tt, refl), ((lit≤ tt, lit≤ tt, refl), ((lit≤ tt, lit≤ tt, refl), ((lit≤ tt, lit≤ tt, refl), ((lit≤ tt, lit≤ tt, refl), (tt, (tt, (tt, (tt, (tt, (tt, tt)))))))))))))) ∙ examples
