-- Where the receive channels of all nodes of the cube are armed and at most eight links lead into a node, a judging never answers 11: each circuit of its book that ends
-- at a node needs a free link into that node, and no more of those are free than channels are available.
-- Assumes nothing.
use mathlib.Core.Path.{◌≡◌, refl, ap, sym, ◌∙◌, subst}
use mathlib.Core.Logic.{⊎_elim, ◌≢◌}
use mathlib.Core.Bool.{Bool, true}
use mathlib.Core.List.{List}
use Prim.Native.Nat.{ℕ, ◌^◌, ◌≤◌, ◌<◌}
use native.Mathlib.Omega.{arith}
use lib.Dec.{eqb}
use lib.ListN.{length}
use borrow.Author.Tests.{eqb-true, ne_eqb}
use Rattle.common.specs.Lists.{◌∈◌, keep, from}
use Rattle.common.specs.Tests.{refusal}
use Rattle.common.proofs.Tests.{same?, below_or, never_answered, avoids, avoiding, refusal_after, refusal_before}
use Rattle.common.proofs.Lists.{keep_none, keep_mem, mem_keep, keep_pairwise, pairwise_imp, no_more_than_places}
use Rattle.cube.specs.Cube.{largest_dimension, channels, NodeOf, next, source_of}
use Rattle.paths.specs.CubeNetwork.{ports, send_ports}
use Rattle.paths.proofs.FoldedCube.{port_listed}
use Rattle.table.specs.View.{View, view, available, shape_of, net}
use Rattle.book.specs.Book.{BookCircuit}
use Rattle.soundness.specs.Sound.{Sound}
use Rattle.soundness.specs.TableTests.{table_tests}
use Rattle.judging.specs.Judged.{judge_facts, circuits_in, links_in, target_in, judge_tests}
use Rattle.judging.specs.Loadable.{CircuitsRight, NoneShared, LinksFree, ChannelsSuffice}
use Rattle.judging.proofs.Loadable.{port_exactly, not_full}
use Rattle.ownership.specs.Calls.{judging, call_tests}
use Rattle.ownership.specs.TableFacts.{open_in}
use Rattle.ownership.specs.OnTable.{facts_of, lent_tests, stopped_at}
use Rattle.ownership.specs.AllArmed.{FewLinks, CubeArmed}
use Rattle.ownership.proofs.Stops.{lent_numbered, pass_tests}
use Rattle.ownership.proofs.LinksInto.{comes_in, way_free, free_ways_fit}

-- A sound table with the receive channels of all nodes armed, and a book whose circuits are right, whose links are free and of which no two circuits share one.
module _ (v : View) (sound : Sound v) (most : v.dimension ≤ largest_dimension) (few : FewLinks v) (armed : (n k : ℕ) → NodeOf v.dimension n → k < channels → v.armed n k ≡ true)
    (xs : List BookCircuit) (right : CircuitsRight (judge_facts v) xs) (linked : LinksFree (judge_facts v) xs) where
  -- The target of a circuit is a node of the cube,
  target_inside : (x : BookCircuit) → x ∈ xs → NodeOf v.dimension (target_in (net v) x)
  target_inside x m = (right x m).target

  module _ (t : ℕ) where
    -- whether a circuit ends at t
    abbrev ends : BookCircuit → Bool
    ends x = eqb (target_in (net v) x) t

    -- and its last link leads into that node, over one of the cube's ports, and is free. No two circuits share it.
    free_way : (x : BookCircuit) → x ∈ keep ends xs → (q : ℕ) × (q ∈ keep (way_free v t) (ports (shape_of v))) × ((next t q, q) ∈ links_in (net v) x)
    free_way x k =
        let m = keep_mem ends xs k in
        let r = right x m.0 in
        let c = comes_in (shape_of v) (source_of x.number) (send_ports (shape_of v) r.vector) (target_in (net v) x) x.ports r.permitted in
        let on = subst (λ (n : ℕ). (next n c.0, c.0) ∈ links_in (net v) x) (eqb-true (target_in (net v) x) t m.1) c.2 in
        (c.0, mem_keep (way_free v t) (ports (shape_of v)) (port_listed (shape_of v) c.0 ((port_exactly v.dimension v.fold c.0).1 (r.port c.0 c.1))) (linked.free x m.0 (next t c.0, c.0) on), on)

    -- So at most as many circuits end at a node as links into it are free,
    ways_enough : length (keep ends xs) ≤ length (keep (way_free v t) (ports (shape_of v)))
    ways_enough =
        no_more_than_places (λ x q. (next t q, q) ∈ links_in (net v) x) (keep ends xs)
        (pairwise_imp (NoneShared (net v)) _ (keep ends xs) (λ x y i j none q one other. none (next t q, q) one other) (keep_pairwise ends (NoneShared (net v)) xs linked.apart))
        (keep (way_free v t) (ports (shape_of v))) free_way

    -- and, since none ends outside the cube, at most as many as it has available channels.
    ends_enough : length (keep ends xs) ≤ length (keep (available v t) (from 0 8))
    ends_enough =
        ⊎_elim (λ inside. omega (arith, ways_enough, free_ways_fit v sound most t few (λ k l. armed t k inside l)))
        (λ outside.
        let none = keep_none ends xs (λ x m. ne_eqb (target_in (net v) x) t (λ e. omega (arith, e, outside, target_inside x m))) in
        omega (arith, ap length none)) (below_or (2 ^ v.dimension) t)

  channels_enough : ChannelsSuffice (judge_facts v) xs
  channels_enough t = ends_enough t

-- So where the receive channels of all nodes of the cube are armed and at most eight links lead into one,
module _ (q : ℕ) (b : List ℕ) (few : FewLinks (view b)) (armed : CubeArmed b) (ports index : List ℕ) (circuits hops : ℕ) where
  -- the tests of a book do not answer 11 on a table that passes the tests of a lent table,
  book_otherwise : refusal (table_tests q b) ≡ 0 → refusal (judge_tests (judge_facts (view b)) ports index circuits hops) ≢ 11
  unfolding view
  book_otherwise e =
      let p = pass_tests q b e in
      not_full (judge_facts (view b)) ports index circuits hops
      (channels_enough (view b) p.3 p.2 few (λ n k inside l. armed n inside k l) (circuits_in ports index circuits))

  -- and none of those has that number.
  pub judging_otherwise : stopped_at q b (judging ports index circuits hops) ≢ 11
  unfolding stopped_at lent_tests table_tests call_tests facts_of open_in avoids
  judging_otherwise e =
      ⊎_elim (λ z. book_otherwise z (sym (refusal_after (table_tests q b) _ (lent_numbered q b (judging ports index circuits hops)) z) ∙ e))
      (λ f. never_answered 11 (table_tests q b) (avoiding 11 _ refl) (λ z. omega arith) (sym (refusal_before (table_tests q b) _ f) ∙ e)) (same? (refusal (table_tests q b)) 0)
