-- What is known of some tables after events on them by turns, each beside the number that it answered, computed.
-- Assumes nothing.
use Rattle.std.specs.Prelude.{◌≡◌, refl, List, [], ◌∷◌, map, ℕ, Some, None}
use Rattle.common.specs.Lists.{any, from, keep}
use Rattle.common.specs.Tests.{refusal}
use Rattle.layout.specs.Layout.{table_length, wide_length}
use Rattle.soundness.specs.TableTests.{table_tests}
use Rattle.ownership.specs.Calls.{making, blocking, unblocking, opening, tracing, arming, folding, only, call_tests, result_of, call_on}
use Rattle.cube.specs.Bits.{has}
use Rattle.cube.specs.Axes.{axis, present}
use Rattle.ownership.specs.History.{with_fold as folded_history, facts_on, held_on, holds_link, stopped_on, applied, history_step, new_history, History, without_entry}
use Rattle.joining.specs.Joined.{joined_history}
use Rattle.ownership.specs.Kinds.{Kind, narrow, wide, of_kind, history_kind_step}
use Rattle.store.specs.Store.{Event, on, join, overwrite, widening, narrowing, Store, KnownTable, table_of, Known, nothing_known, with_table, store_step, entered, converted_of, joined_of, learn, read_tests, known_dimension, known_fold, known_join_number, known_convert_number}

-- what is known after events, each beside its number
learned : Known → List (Event × ℕ) → Known
learned k [] = k
learned k (e ∷ more) = learned (learn k e.0 e.1) more

-- The tables 0 and 1 are made and used by turns. Table 2 is used and never made, so nothing is known of it. The refused calls change nothing.
by_turns : map
    (learned nothing_known
    ((on narrow 0 (making 1), 0) ∷ (on narrow 1 (making 2), 0) ∷ (on narrow 0 (blocking 1 0), 0) ∷ (on narrow 2 (arming 0 0), 0) ∷ (on narrow 1 (arming 3 7), 0) ∷ (on narrow 0 (blocking 2 0), 4) ∷ (on narrow 1 (making 9), 2)
    ∷ (on narrow 1 (blocking 2 1), 0) ∷ []))
    (0 ∷ 1 ∷ 2 ∷ [])
    ≡ Some (table_of narrow (record { dimension = 1; fold = 0; blocked = (1, 0) ∷ []; circuits = []; armed = [] })) ∷ Some (table_of narrow (record { dimension = 2; fold = 0; blocked = (2, 1) ∷ []; circuits = []; armed = (3, 7) ∷ [] }))
    ∷ None ∷ []
unfolding learned learn with_table entered history_step stopped_on call_tests refusal facts_on held_on present axis any holds_link applied result_of call_on
by_turns = refl

-- a making begins anew, whatever was known
made_again : map (learned nothing_known ((on narrow 0 (making 1), 0) ∷ (on narrow 0 (blocking 1 0), 0) ∷ (on narrow 0 (making 2), 0) ∷ [])) (0 ∷ 1 ∷ []) ≡ Some (table_of narrow (new_history 2)) ∷ None ∷ []
unfolding learned learn with_table entered history_step stopped_on call_tests refusal facts_on held_on any holds_link applied result_of call_on
made_again = refl

-- History 19: the tables 0 and 1 of two nodes are joined into table 2, of which nothing was known: what is known of it is the history of both. The blocked link of node 1 of table 1 is
-- that of node 3 there, and of tables 0 and 1 the same is known as before.
joined_two : map
    (learned nothing_known ((on narrow 0 (making 1), 0) ∷ (on narrow 1 (making 1), 0) ∷ (on narrow 0 (arming 0 2), 0) ∷ (on narrow 1 (blocking 1 0), 0) ∷ (join 0 1 2, 0) ∷ []))
    (0 ∷ 1 ∷ 2 ∷ [])
    ≡ Some (table_of narrow (record { dimension = 1; fold = 0; blocked = []; circuits = []; armed = (0, 2) ∷ [] })) ∷ Some (table_of narrow (record { dimension = 1; fold = 0; blocked = (1, 0) ∷ []; circuits = []; armed = [] }))
    ∷ Some (table_of narrow (record { dimension = 2; fold = 0; blocked = (3, 0) ∷ []; circuits = []; armed = (0, 2) ∷ [] })) ∷ []
unfolding learned learn with_table entered joined_of joined_history history_step stopped_on call_tests refusal facts_on held_on present axis any holds_link applied result_of call_on
joined_two = refl

-- The tables 0 and 1 of four nodes are joined into table 2, and this with table 3 of eight nodes into table 4, where a link on the new port is blocked then. What was known of each half
-- is known of the third, that of the second with its nodes renumbered.
joined_larger : map
    (learned nothing_known
    ((on narrow 0 (making 2), 0) ∷ (on narrow 1 (making 2), 0) ∷ (on narrow 0 (arming 3 2), 0) ∷ (on narrow 1 (blocking 2 1), 0) ∷ (join 0 1 2, 0) ∷ (on narrow 3 (making 3), 0) ∷ (on narrow 3 (arming 5 7), 0) ∷ (join 2 3 4, 0)
    ∷ (on narrow 4 (blocking 9 3), 0) ∷ []))
    (2 ∷ 4 ∷ [])
    ≡ Some (table_of narrow (record { dimension = 3; fold = 0; blocked = (6, 1) ∷ []; circuits = []; armed = (3, 2) ∷ [] }))
    ∷ Some (table_of narrow (record { dimension = 4; fold = 0; blocked = (9, 3) ∷ (6, 1) ∷ []; circuits = []; armed = (3, 2) ∷ (13, 7) ∷ [] })) ∷ []
unfolding learned learn with_table entered joined_of joined_history history_step stopped_on call_tests refusal facts_on held_on present axis any holds_link applied result_of call_on
joined_larger = refl

-- An accepted join from a table of which nothing is known ends what was known of the third, be it the first or the second.
half_unknown : map (learned nothing_known ((on narrow 0 (making 1), 0) ∷ (on narrow 2 (making 3), 0) ∷ (on narrow 4 (making 3), 0) ∷ (join 0 1 2, 0) ∷ (join 1 0 4, 0) ∷ [])) (0 ∷ 1 ∷ 2 ∷ 4 ∷ [])
    ≡ Some (table_of narrow (new_history 1)) ∷ None ∷ None ∷ None ∷ []
unfolding learned learn with_table entered joined_of
half_unknown = refl

-- A refused join changes nothing that is known.
join_refused : map (learned nothing_known ((on narrow 0 (making 1), 0) ∷ (on narrow 1 (making 2), 0) ∷ (on narrow 2 (making 3), 0) ∷ (join 0 1 2, 29) ∷ [])) (0 ∷ 1 ∷ 2 ∷ [])
    ≡ Some (table_of narrow (new_history 1)) ∷ Some (table_of narrow (new_history 2)) ∷ Some (table_of narrow (new_history 3)) ∷ []
unfolding learned learn with_table entered
join_refused = refl

-- Whatever number refuses it, what is known of the third stays.
join_refused_each : map (λ n. learned nothing_known ((on narrow 0 (making 1), 0) ∷ (on narrow 1 (making 1), 0) ∷ (on narrow 2 (making 3), 0) ∷ (join 0 1 2, n) ∷ []) 2) (1 ∷ 2 ∷ 3 ∷ 29 ∷ [])
    ≡ Some (table_of narrow (new_history 3)) ∷ Some (table_of narrow (new_history 3)) ∷ Some (table_of narrow (new_history 3)) ∷ Some (table_of narrow (new_history 3)) ∷ []
unfolding learned learn with_table entered
join_refused_each = refl

-- A rejected open leaves what is known of its table.
open_rejected : map (λ n. learned nothing_known ((on narrow 0 (making 2), 0) ∷ (on narrow 0 (opening 0 0 3 0 3), n) ∷ []) 0) (10 ∷ 11 ∷ 22 ∷ [])
    ≡ Some (table_of narrow (new_history 2)) ∷ Some (table_of narrow (new_history 2)) ∷ Some (table_of narrow (new_history 2)) ∷ []
unfolding learned learn with_table entered
open_rejected = refl

-- History 19, History 17: nothing is known of table 2 after the first three events, nor after a call on it then; a making of
-- it gives it a new history, and a join of two tables whose histories are known gives it theirs.
abbrev list_ended : List (Event × ℕ)
list_ended = (on narrow 0 (making 1), 0) ∷ (on narrow 2 (making 3), 0) ∷ (join 0 1 2, 0) ∷ []

begun_again : map
    (λ more. learned (learned nothing_known list_ended) more 2)
    ([] ∷ ((on narrow 2 (blocking 0 0), 0) ∷ []) ∷ ((on narrow 2 (making 4), 0) ∷ []) ∷ ((on narrow 3 (making 1), 0) ∷ (on narrow 3 (arming 1 5), 0) ∷ (join 0 3 2, 0) ∷ []) ∷ [])
    ≡ None ∷ None ∷ Some (table_of narrow (new_history 4)) ∷ Some (table_of narrow (record { dimension = 2; fold = 0; blocked = []; circuits = []; armed = (3, 5) ∷ [] })) ∷ []
unfolding learned learn with_table entered joined_of joined_history history_step stopped_on call_tests refusal facts_on held_on any holds_link applied result_of call_on
begun_again = refl

-- one table as both halves
one_as_both : map (learned nothing_known ((on narrow 0 (making 1), 0) ∷ (on narrow 0 (arming 0 2), 0) ∷ (join 0 0 1, 0) ∷ [])) (0 ∷ 1 ∷ [])
    ≡ Some (table_of narrow (record { dimension = 1; fold = 0; blocked = []; circuits = []; armed = (0, 2) ∷ [] })) ∷ Some (table_of narrow (record { dimension = 2; fold = 0; blocked = []; circuits = []; armed = (0, 2) ∷ (2, 2) ∷ [] }))
    ∷ []
unfolding learned learn with_table entered joined_of joined_history history_step stopped_on call_tests refusal facts_on held_on any holds_link applied result_of call_on
one_as_both = refl

-- The numbers of joins of two tables whose histories are new, of two dimensions, into one of length n: a third table that is short, unequal dimensions, dimension 8, and an accepted
-- one of dimension 7.
abbrev new_halves : ℕ → ℕ → ℕ → ℕ
new_halves D E n = known_join_number [] (Some (table_of narrow (new_history D))) [] (Some (table_of narrow (new_history E))) n

numbers_of_histories : new_halves 1 2 100 ∷ new_halves 1 2 table_length ∷ new_halves 8 8 table_length ∷ new_halves 7 7 table_length ∷ []
    ≡ 1 ∷ 29 ∷ 29 ∷ 0 ∷ []
unfolding known_join_number read_tests known_dimension refusal
numbers_of_histories = refl

-- Where nothing is known of a half, its bytes are tested, be it the first or the second; where both histories are known, no bytes are. Here both lists of bytes are empty, so that
-- the answer is 1 where one of them is tested.
numbers_of_bytes : known_join_number [] None [] (Some (table_of narrow (new_history 1))) table_length ∷ known_join_number [] (Some (table_of narrow (new_history 1))) [] None table_length
    ∷ known_join_number [] (Some (table_of narrow (new_history 1))) [] (Some (table_of narrow (new_history 1))) table_length ∷ []
    ≡ 1 ∷ 1 ∷ 0 ∷ []
unfolding known_join_number read_tests known_dimension refusal table_tests
numbers_of_bytes = refl

-- Tables of both kinds: a call makes a table of its kind.
of_both_kinds : map (learned nothing_known ((on narrow 0 (making 1), 0) ∷ (on wide 1 (making 2), 0) ∷ (on wide 1 (arming 3 7), 0) ∷ [])) (0 ∷ 1 ∷ [])
    ≡ Some (table_of narrow (new_history 1)) ∷ Some (table_of wide (record { dimension = 2; fold = 0; blocked = []; circuits = []; armed = (3, 7) ∷ [] })) ∷ []
unfolding learned learn with_table entered history_step stopped_on call_tests refusal facts_on held_on any holds_link applied result_of call_on
of_both_kinds = refl

-- A narrow table with a blocked link is widened into table 1, in place of the history that is known of that; its list goes on from there, and goes back into table 2.
there_and_back : map
    (learned nothing_known
    ((on narrow 0 (making 2), 0) ∷ (on narrow 0 (blocking 1 0), 0) ∷ (on wide 1 (making 3), 0) ∷ (widening 0 1, 0) ∷ (on wide 1 (arming 3 2), 0) ∷ (narrowing 1 2, 0) ∷ (on narrow 2 (unblocking 1 0), 0) ∷ []))
    (0 ∷ 1 ∷ 2 ∷ [])
    ≡ Some (table_of narrow (record { dimension = 2; fold = 0; blocked = (1, 0) ∷ []; circuits = []; armed = [] }))
    ∷ Some (table_of wide (record { dimension = 2; fold = 0; blocked = (1, 0) ∷ []; circuits = []; armed = (3, 2) ∷ [] }))
    ∷ Some (table_of narrow (record { dimension = 2; fold = 0; blocked = []; circuits = []; armed = (3, 2) ∷ [] })) ∷ []
unfolding learned learn with_table entered converted_of history_step stopped_on call_tests refusal facts_on held_on present axis any holds_link applied without_entry keep result_of call_on
there_and_back = refl

-- An accepted conversion of a table of which nothing is known ends what was known of the table written, until it is made or written again.
source_unknown : map
    (λ more. learned (learned nothing_known ((on wide 1 (making 3), 0) ∷ (widening 0 1, 0) ∷ [])) more 1)
    ([] ∷ ((on wide 1 (arming 0 0), 0) ∷ []) ∷ ((on wide 1 (making 4), 0) ∷ []) ∷ ((on narrow 2 (making 1), 0) ∷ (widening 2 1, 0) ∷ []) ∷ [])
    ≡ None ∷ None ∷ Some (table_of wide (new_history 4)) ∷ Some (table_of wide (new_history 1)) ∷ []
unfolding learned learn with_table entered converted_of
source_unknown = refl

-- A refused conversion changes nothing that is known, whatever number refuses it.
conversion_refused : map (λ n. learned nothing_known ((on narrow 0 (making 1), 0) ∷ (on wide 1 (making 3), 0) ∷ (widening 0 1, n) ∷ (narrowing 1 0, n) ∷ []) 0) (1 ∷ 2 ∷ 3 ∷ 24 ∷ [])
    ≡ Some (table_of narrow (new_history 1)) ∷ Some (table_of narrow (new_history 1)) ∷ Some (table_of narrow (new_history 1)) ∷ Some (table_of narrow (new_history 1)) ∷ []
unfolding learned learn with_table entered
conversion_refused = refl

written_refused : map (λ n. learned nothing_known ((on narrow 0 (making 1), 0) ∷ (on wide 1 (making 3), 0) ∷ (widening 0 1, n) ∷ (narrowing 1 0, n) ∷ []) 1) (1 ∷ 2 ∷ 3 ∷ 24 ∷ [])
    ≡ Some (table_of wide (new_history 3)) ∷ Some (table_of wide (new_history 3)) ∷ Some (table_of wide (new_history 3)) ∷ Some (table_of wide (new_history 3)) ∷ []
unfolding learned learn with_table entered
written_refused = refl

-- Bytes that somebody else writes end what is known of a table, and of no other.
somebody_else : map (learned nothing_known ((on narrow 0 (making 1), 0) ∷ (on wide 1 (making 3), 0) ∷ (overwrite 0 (1 ∷ 2 ∷ []), 0) ∷ [])) (0 ∷ 1 ∷ []) ≡ None ∷ Some (table_of wide (new_history 3)) ∷ []
unfolding learned learn with_table entered
somebody_else = refl

-- The bytes are then those.
bytes_put : (s : Store) → map (store_step s (overwrite 0 (1 ∷ 2 ∷ []))).state (0 ∷ 1 ∷ []) ≡ (1 ∷ 2 ∷ []) ∷ s 1 ∷ []
unfolding store_step with_table
bytes_put s = refl

-- A call of the other kind is refused as 1 on a table whose history is known, and the history stays: of a making, of an open, which answers zeros, and of a trace, whose buffer is
-- as it was.
other_kinds : map (λ a. history_kind_step wide (new_history 3) (of_kind narrow a)) (making 2 ∷ opening 0 0 1 0 1 ∷ tracing 0 0 (7 ∷ []) ∷ [])
    ≡ record { state = new_history 3; result = record { number = 1; values = []; buffers = [] } } ∷ record { state = new_history 3; result = record { number = 1; values = 0 ∷ 0 ∷ 0 ∷ []; buffers = [] } }
    ∷ record { state = new_history 3; result = record { number = 1; values = 0 ∷ []; buffers = (7 ∷ []) ∷ [] } } ∷ []
unfolding history_kind_step
other_kinds = refl

-- The numbers of conversions of a table whose history is known: of its own kind, into a table of the right length and of another; and of the other kind. Going back is 24 where
-- the history has a fold mask, and widening never is.
abbrev of_known : Kind → KnownTable → ℕ → ℕ
of_known w t n = known_convert_number w [] (Some t) n

abbrev with_fold : ℕ → ℕ → History
with_fold D f = record (new_history D) { fold = f }

conversion_numbers : of_known narrow (table_of narrow (new_history 3)) wide_length ∷ of_known narrow (table_of narrow (new_history 3)) table_length
    ∷ of_known wide (table_of wide (new_history 3)) table_length ∷ of_known wide (table_of wide (new_history 3)) wide_length
    ∷ of_known narrow (table_of wide (new_history 3)) wide_length ∷ of_known wide (table_of narrow (new_history 3)) table_length ∷ []
    ≡ 0 ∷ 1 ∷ 0 ∷ 1 ∷ 1 ∷ 1 ∷ []
unfolding known_convert_number read_tests known_fold refusal
conversion_numbers = refl

fold_numbers : map (λ f. of_known wide (table_of wide (with_fold 3 f)) table_length) (0 ∷ 1 ∷ 255 ∷ []) ≡ 0 ∷ 24 ∷ 24 ∷ []
unfolding known_convert_number read_tests known_fold refusal
fold_numbers = refl

-- A fold mask set on a wide table whose history is known is entered there, whatever kind is named with the call; a refused one is not.
folded_known : map
    (learned nothing_known
    ((on wide 0 (making 3), 0) ∷ (on wide 1 (making 2), 0) ∷ (on narrow 2 (making 1), 0) ∷ (on wide 0 (folding 5), 0) ∷ (on narrow 1 (folding 2), 0) ∷ (on wide 0 (folding 8), 6) ∷ (on wide 2 (folding 1), 1) ∷ []))
    (0 ∷ 1 ∷ 2 ∷ [])
    ≡ Some (table_of wide (with_fold 3 5)) ∷ Some (table_of wide (with_fold 2 2)) ∷ Some (table_of narrow (new_history 1)) ∷ []
unfolding learned learn with_table entered history_step stopped_on call_tests refusal facts_on held_on any from has axis keep applied folded_history result_of call_on
folded_known = refl

-- On a narrow table whose history is known it is refused as 1, whatever kind is named with it, and the history stays. On a wide one it is entered.
folding_narrow : map (λ w. history_kind_step narrow (new_history 3) (of_kind w (folding 1))) (narrow ∷ wide ∷ []) ≡ record { state = new_history 3; result = only 1 } ∷ record { state = new_history 3; result = only 1 } ∷ []
unfolding history_kind_step
folding_narrow = refl

folding_wide : map (λ w. history_kind_step wide (new_history 3) (of_kind w (folding 1))) (narrow ∷ wide ∷ []) ≡ record { state = with_fold 3 1; result = only 0 } ∷ record { state = with_fold 3 1; result = only 0 } ∷ []
unfolding history_kind_step history_step stopped_on call_tests refusal facts_on any from has keep applied folded_history result_of call_on
folding_wide = refl

-- A folded wide table does not go back, and goes back once it is unfolded.
folds_between : map (λ calls. known_convert_number wide [] (learned nothing_known ((on wide 0 (making 3), 0) ∷ calls) 0) table_length)
    ([] ∷ ((on wide 0 (folding 5), 0) ∷ []) ∷ ((on wide 0 (folding 5), 0) ∷ (on wide 0 (folding 4), 0) ∷ []) ∷ ((on wide 0 (folding 5), 0) ∷ (on wide 0 (folding 0), 0) ∷ []) ∷ [])
    ≡ 0 ∷ 24 ∷ 24 ∷ 0 ∷ []
unfolding learned learn with_table entered known_convert_number read_tests known_fold history_step stopped_on call_tests refusal facts_on held_on any from has axis keep applied folded_history result_of call_on
folds_between = refl

-- Where nothing is known of the table read, its bytes are tested: here there are none.
bytes_converted : known_convert_number narrow [] None wide_length ∷ known_convert_number wide [] None table_length ∷ [] ≡ 1 ∷ 1 ∷ []
unfolding known_convert_number read_tests known_fold refusal table_tests
bytes_converted = refl

-- A wide table is no half of a join, be it the first or the second.
wide_halves : known_join_number [] (Some (table_of wide (new_history 1))) [] (Some (table_of narrow (new_history 1))) table_length
    ∷ known_join_number [] (Some (table_of narrow (new_history 1))) [] (Some (table_of wide (new_history 1))) table_length ∷ []
    ≡ 1 ∷ 1 ∷ []
unfolding known_join_number read_tests known_dimension refusal
wide_halves = refl
