-- Joining 1: two narrow tables of one dimension joined into a third, of the next one.
-- Assumes nothing.
use Rattle.std.specs.Prelude.{cond, ◌||◌, not, List, [], ◌∷◌, ◌++◌, map, ℕ, suc, ◌+◌, ◌-◌, eqb, ltb}
use Rattle.common.specs.Tests.{Test, test, refusal}
use Rattle.cube.specs.Cube.{port_count, largest_dimension, cube_nodes}
use Rattle.paths.specs.CubeNetwork.{unfolded, is_node, circuit_count}
use Rattle.table.specs.View.{View, view}
use Rattle.table.specs.Encode.{encode}
use Rattle.soundness.specs.TableTests.{length_test, table_tests}
use Rattle.ownership.specs.Calls.{After}
use Rattle.ownership.specs.OnTable.{done}
use Rattle.ownership.specs.History.{Circuit, History}

-- Joining 3: the nodes of the first half come first; those of the second gain 2^D. What both halves say of a node and a port or channel, for the nodes of both.
unfoldable pub of_halves : {A : Type 0} → ℕ → (ℕ → ℕ → A) → (ℕ → ℕ → A) → ℕ → ℕ → A
of_halves D f g n k = cond (ltb n (cube_nodes D)) (f n k) (g (n - cube_nodes D) k)

-- Joining 4: a circuit's number with so much added. An entry of 0 stays 0.
unfoldable pub renumbered : ℕ → ℕ → ℕ
renumbered gain c = cond (eqb c 0) 0 (c + gain)

-- Joining 5: x at the new port D, and what else there is at every other port
unfoldable pub at_new_port : {A : Type 0} → ℕ → (ℕ → A) → (ℕ → ℕ → A) → ℕ → ℕ → A
at_new_port D x f n p = cond (eqb p D) (x n) (f n p)

-- Joining 6: what the third table shows, from what the first and the second show.
unfoldable pub joined_view : View → View → View
joined_view v w =
    record {
      -- Joining 1: the dimension is D + 1.
      dimension = suc v.dimension;
      -- nothing is folded in a narrow table
      fold = 0;
      -- Joining 5: the links out of port D are enabled, and nobody holds them.
      enabled = at_new_port v.dimension (is_node (unfolded (suc v.dimension))) (of_halves v.dimension v.enabled w.enabled);
      owner = at_new_port v.dimension (λ n. 0) (of_halves v.dimension v.owner (λ n p. renumbered (circuit_count (unfolded v.dimension)) (w.owner n p)));
      receiver = of_halves v.dimension v.receiver (λ n k. renumbered (circuit_count (unfolded v.dimension)) (w.receiver n k));
      -- channels are armed as in their half
      armed = of_halves v.dimension v.armed w.armed;
    }

-- History 19: a link or a receive channel of the second half, and a circuit of it
abbrev pub moved : ℕ → ℕ × ℕ → ℕ × ℕ
moved D l = (l.0 + cube_nodes D, l.1)

abbrev pub moved_circuit : ℕ → Circuit → Circuit
moved_circuit D x = record { source = x.source + cube_nodes D; channel = x.channel; ports = x.ports; target = x.target + cube_nodes D; receive = x.receive }

-- History 19, Joining 10: dimension D + 1, and the blocked links, circuits and armed channels of both, with 2^D added to the nodes of the second.
unfoldable pub joined_history : History → History → History
joined_history h g =
    record {
      dimension = suc h.dimension;
      fold = 0;
      blocked = h.blocked ++ map (moved h.dimension) g.blocked;
      circuits = h.circuits ++ map (moved_circuit h.dimension) g.circuits;
      armed = h.armed ++ map (moved h.dimension) g.armed;
    }

-- Refusals 29: the dimensions differ, or both are 8.
abbrev pub halves_test : View → View → Test
halves_test v w = test (not (eqb v.dimension w.dimension) || eqb v.dimension largest_dimension) 29

-- Joining 2: the tests of the first, of the second and of the third.
unfoldable pub join_tests : List ℕ → List ℕ → List ℕ → List Test
join_tests a b c = table_tests port_count a ++ table_tests port_count b ++ length_test port_count c ∷ halves_test (view a) (view b) ∷ []

-- Joining 7: what the call does to the bytes of the third table, all of them, and its number. Refused, it is unchanged (Joining 2). The others are only read.
unfoldable pub join_step : (first second third : List ℕ) → After (List ℕ)
join_step a b c = let n = refusal (join_tests a b c) in done (cond (eqb n 0) (encode (joined_view (view a) (view b))) c) n [] []
