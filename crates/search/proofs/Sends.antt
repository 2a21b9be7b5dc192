-- A send as the code makes it: a pass from the source, the receive channel taken behind it, and the second pass of routing type 4.
-- Assumes nothing.
use mathlib.Core.Path.{◌≡◌, refl, ap, ap₂, sym, ◌∙◌}
use mathlib.Core.Logic.{◌≢◌}
use mathlib.Core.Bool.{true, not}
use mathlib.Core.List.{List}
use Prim.Native.Nat.{ℕ, ◌+◌, ◌-◌, ◌^◌, ◌≤◌, ◌<◌}
use native.Mathlib.Omega.{arith}
use native.Mathlib.Nat.{mul-le-mul_right}
use lib.Dec.{eqb}
use lib.ListN.{length}
use lib.Pow.{pow_pos}
use lib.Bits.{bit_xor, xor_lt}
use borrow.Author.Tests.{lt-ltb, eq-eqb, ne_eqb}
use Rattle.cube.specs.Bits.{bit_at, has}
use Rattle.cube.specs.Axes.{positions, present}
use Rattle.cube.specs.CubeContracts.{NodeCount, WithPartners}
use Rattle.cube.specs.Cube.{largest_dimension, channels}
use Rattle.cube.proofs.Bits.{one_bit, bit_lt, bit_xor_lem, has_bit}
use Rattle.cube.specs.Helical.{ports_of}
use Rattle.cube.proofs.Order.{length_ports, helical_last, low_port, ports_mem}
use Rattle.paths.specs.Pass.{PassResult, none, found, pass, scouts}
use Rattle.paths.specs.Search.{trying, sending}
use Rattle.paths.specs.Send.{Receive, lowest_available, none_available, lowest_of, one_result, outcome_of_path, outcome}
use Rattle.paths.specs.CubeNetwork.{Shape, network, send_ports, other_ports}
use Rattle.paths.proofs.Depth.{search_is_pass}
use Rattle.paths.proofs.CubeNetwork.{distance_within, other_vector}
use Rattle.paths.proofs.FoldedCube.{folded_bound, partners_send, send_there}
use Rattle.paths.proofs.Send.{maze_answers, alternate_stops, alternate_goes_on}
use Rattle.paths.specs.Bound.{ways_from}
use Rattle.paths.proofs.Bound.{ways_more}
use Rattle.layout.specs.Layout.{dimension_at}
use Rattle.entries.specs.EntryContracts.{put_receiver}
use Rattle.table.specs.View.{View, view, receive, net, shape_of}
use Rattle.table.specs.TableContracts.{lowest_channel}
use Rattle.table.proofs.Receives.{channel_taken, channel_missing}
use Rattle.common.specs.SomeBelow.{some_below}
use Rattle.std.specs.Prelude.{Option, Some, None}
use Rattle.cube.proofs.PortsInside.{ones}
use Rattle.answers.specs.SendOnTable.{free_in, answer_on_bytes, answer_of_outcome}
use Rattle.answers.specs.PassOnBytes.{hold_path, answer_of_pass, arrival_after}
use Rattle.search.specs.SearchContracts.{farthest_after, receive_as, try_answer, Narrowed, MayTry}
use Rattle.answers.specs.SendAnswer.{BoardIn, bytes_after_send, send_answer, searched, MaySendIn}
use Rattle.answers.proofs.SendAnswer.{sent_stops, sent_goes_on, sent_leaves, sent_scouts, sent_counted}
use Rattle.search.proofs.Narrow.{narrow_tries, farthest_most}

-- the pass of a send over the ports of a vector
abbrev pass_of : List ℕ → ℕ → ℕ → ℕ → PassResult
pass_of b s t vector = pass (net (view b)) (free_in (view b)) s (send_ports (shape_of (view b)) vector) t

module _ (a : ℕ) {long q w f : ℕ} {b : List ℕ} {s t c vector x wide : ℕ} (may : MaySendIn long b s t c vector) (board : BoardIn q w f (view b)) (last : a + 1 ≡ w) (same : x ≡ vector) (partners : WithPartners f x wide × (wide < 2 ^ w)) where
  sends : ports_of positions wide ≡ send_ports (shape_of (view b)) vector
  unfolding view
  sends = partners_send (shape_of (view b)) may.fits vector wide may.ports (rw (← board.folded, ← same) partners.0)

  -- ports after an arrival on the last are tried from 0 upward: the search is the pass
  pub tries_pass : try_answer b t c (receive (view b) t) s wide a 0 0 ≡ answer_of_pass b c s 0 (receive (view b) t) (pass_of b s t vector)
  unfolding try_answer
  tries_pass =
      ap (answer_of_pass b c s 0 (receive (view b) t))
      (ap (λ ps. trying (free_in (view b) s) (arrival_after (net (view b)) (free_in (view b)) t s) ps 0)
      (helical_last a (ports_of positions wide) (λ p m. let l = low_port w wide p partners.1 (ports_mem 18 wide m).1 in omega (arith, l, last)) ∙ sends)
      ∙ (unfold sending arrival_after in search_is_pass (net (view b)) (free_in (view b)) s (send_ports (shape_of (view b)) vector) t))

  near : farthest_after b t s wide ≤ 8
  unfolding farthest_after
  near = farthest_most (net (view b)) t s 8 (ports_of positions wide) (λ p m. let f : (shape_of (view b)).dimension ≤ largest_dimension = unfold view in may.fits in omega (arith, f, distance_within (shape_of (view b)) t ((net (view b)).next s p)))

  there : (p : ℕ) → has wide p ≡ true → present (shape_of (view b)).dimension (shape_of (view b)).fold p ≡ true
  unfolding view
  there = send_there (shape_of (view b)) may.fits vector wide may.ports (rw (← board.folded, ← same) partners.0)

  -- there is room for the hops and the scouts of a pass
  pub may_try : MayTry long q w f b t c s wide a 0 0
  may_try =
      let more : ways_from 2 (farthest_after b t s wide) ≤ ways_from 2 8 = ways_more 2 (farthest_after b t s wide) 8 near in
      let most : ways_from 2 8 ≡ 17017968 = unfold ways_from in refl in
      let all = mul-le-mul_right (1 + ways_from 2 (farthest_after b t s wide)) (length_ports 18 wide) in
      record {
        here = record { board = board; bytes = may.bytes; fits = may.fits; node = may.source; target = may.target; port = omega (arith, last); circuit = may.circuit; small = may.small };
        vector_ports =
            record {
              below = partners.1;
              there = there;
            };
        hops = omega (arith, near);
        room = omega (arith, all, more, most);
      }

-- The answer of a pass that was acknowledged, with the receive channel taken; and of one that was not.
module _ (b : List ℕ) (c s t : ℕ) (r : Receive) where
  pub pass_taken : (p : PassResult) {x h k n : ℕ} {b₁ b₂ : List ℕ} → answer_on_bytes x h k n b₁ ≡ answer_of_pass b c s 0 r p → x ≡ 0 → b₂ ≡ put_receiver b₁ t k c → answer_on_bytes x h k n b₂ ≡ send_answer true b c s t (one_result r p)
  unfolding answer_of_pass send_answer bytes_after_send answer_of_outcome outcome outcome_of_path scouts
  pass_taken (none m) {x} q z e = let y : x ≡ 10 = cc in absurd (omega arith)
  pass_taken (found w m) {x} {h} {k} {n} {b₁} {b₂} q z e = go r q
    where
      go : (r : Receive) → answer_on_bytes x h k n b₁ ≡ answer_of_pass b c s 0 r (found w m) → answer_on_bytes x h k n b₂ ≡ send_answer true b c s t (one_result r (found w m))
      go none_available u = let y : x ≡ 11 = cc in absurd (omega arith)
      go (lowest_available j) u =
          let i : k ≡ j = cc in
          let l₀ : h ≡ 0 + length w = cc in
          let l : h ≡ length w = omega arith in
          let o : n ≡ m = cc in
          let d : b₁ ≡ hold_path b c s w = cc in
          rw (z, l, o, e, d, i) refl

  pub pass_rejected : (p : PassResult) {x h k n : ℕ} {b₁ : List ℕ} → answer_on_bytes x h k n b₁ ≡ answer_of_pass b c s 0 r p → x ≢ 0 → answer_on_bytes x h k n b₁ ≡ send_answer true b c s t (one_result r p)
  unfolding answer_of_pass send_answer bytes_after_send answer_of_outcome outcome outcome_of_path scouts
  pass_rejected (none m) q f = q
  pass_rejected (found w m) {x} {h} {k} {n} {b₁} q f = go r q
    where
      go : (r : Receive) → answer_on_bytes x h k n b₁ ≡ answer_of_pass b c s 0 r (found w m) → answer_on_bytes x h k n b₁ ≡ send_answer true b c s t (one_result r (found w m))
      go none_available u = u
      go (lowest_available j) u = let y : x ≡ 0 = cc in absurd (f y)

-- Searches 5: the ports below D that the vector does not name are those of the vector with every bit below D changed.
module _ (D vector : ℕ) (h : D ≤ largest_dimension) where
  other_has : (p : ℕ) → p < D → has (bit_xor (2 ^ D - 1) vector) p ≡ not (has vector p)
  unfolding has
  other_has p i = rw (bit_xor_lem (2 ^ D - 1) vector p, has_bit (2 ^ D - 1) p (ones D p (omega arith) (omega arith) ∙ lt-ltb p D i)) (one_bit (λ x. eqb (bit_xor 1 x) 1 ≡ not (eqb x 1)) refl refl (bit_at vector p) (bit_lt vector p))

-- one pass is a send of routing type 0
one_pass : (b : List ℕ) (s t c vector : ℕ) → searched b s t c 0 vector ≡ send_answer true b c s t (one_result (receive (view b) t) (pass_of b s t vector))
unfolding searched
one_pass b s t c vector = ap (send_answer true b c s t) (maze_answers (shape_of (view b)) (free_in (view b)) (receive (view b) t) s vector t)

-- the receive channel that the code finds, or none
pub told_channel : (v : View) (n : ℕ) (k : Option ℕ) → k ≡ some_below channels (lowest_channel v n) → receive_as k ≡ receive v n
told_channel v n None e = unfold receive lowest_of lowest_channel in rw (eq-eqb _ 8 (unfold lowest_channel in channel_missing v n e)) refl
told_channel v n (Some k) e = let f = channel_taken v n e in unfold receive lowest_of lowest_channel in rw (← f.0, ne_eqb k 8 f.1) refl

-- A send of routing type 0, from the ports that are left of its vector.
module _ (a : ℕ) {long q w f : ℕ} {b : List ℕ} {s t c vector v wide left : ℕ} (may : MaySendIn long b s t c vector) (board : BoardIn q w f (view b)) (last : a + 1 ≡ w) (same : v ≡ vector) (partners : WithPartners f v wide × (wide < 2 ^ w))
    (narrow : Narrowed (view b) s wide left) {taken : Receive} (told : taken ≡ receive (view b) t)
    {x h k n : ℕ} {b₁ : List ℕ} (got : answer_on_bytes x h k n b₁ ≡ try_answer b t c taken s left a 0 0) where
  by_pass : answer_on_bytes x h k n b₁ ≡ answer_of_pass b c s 0 (receive (view b) t) (pass_of b s t vector)
  by_pass = got ∙ ap (λ r. try_answer b t c r s left a 0 0) told ∙ narrow_tries b t c (receive (view b) t) a 0 0 narrow ∙ tries_pass a may board last same partners

  pub maze_taken : x ≡ 0 → {b₂ : List ℕ} → b₂ ≡ put_receiver b₁ t k c → answer_on_bytes x h k n b₂ ≡ searched b s t c 0 vector
  maze_taken z e = pass_taken b c s t (receive (view b) t) (pass_of b s t vector) by_pass z e ∙ sym (one_pass b s t c vector)

  pub maze_rejected : x ≢ 0 → answer_on_bytes x h k n b₁ ≡ searched b s t c 0 vector
  maze_rejected f = pass_rejected b c s t (receive (view b) t) (pass_of b s t vector) by_pass f ∙ sym (one_pass b s t c vector)

-- A rejected pass leaves each byte of the table as it was: so does the first pass of a type 4 send, before the second begins.
pub first_pass_leaves : (b : List ℕ) (s t c vector : ℕ) {x h k n : ℕ} {b₁ : List ℕ} → answer_on_bytes x h k n b₁ ≡ searched b s t c 0 vector → x ≢ 0 → b₁ ≡ b
first_pass_leaves b s t c vector q f = sent_leaves b c s t true _ _ (q ∙ one_pass b s t c vector) f

-- A send of routing type 4: after a route rejection, a second pass over the other ports on the same bytes.
module _ {long : ℕ} {b : List ℕ} {s t c vector : ℕ} (may : MaySendIn long b s t c vector) {x h k n : ℕ} {b₁ : List ℕ} (got : answer_on_bytes x h k n b₁ ≡ searched b s t c 0 vector) where
  S : Shape
  S = shape_of (view b)

  r : Receive
  r = receive (view b) t

  first : PassResult
  first = pass_of b s t vector

  second : PassResult
  second = pass (network S) (free_in (view b)) s (other_ports S vector) t

  first_is : answer_on_bytes x h k n b₁ ≡ send_answer true b c s t (one_result r first)
  unfolding r first
  first_is = got ∙ one_pass b s t c vector

  pub alternate_ended : x ≢ 10 → answer_on_bytes x h k n b₁ ≡ searched b s t c 4 vector
  unfolding searched r first
  alternate_ended f =
      first_is ∙ ap (send_answer true b c s t) (sym (alternate_stops (shape_of (view b)) (free_in (view b)) r s vector t (sent_stops b c s t (outcome r first) (scouts first) first_is f)))

  -- the vector of the second pass, from the nodes of the cube
  module _ {d nodes : ℕ} (read : d ≡ dimension_at b) (counted : NodeCount d nodes) (z : x ≡ 10) where
    abbrev others : ℕ
    others = bit_xor (nodes - 1) vector

    others_are : others ≡ bit_xor (2 ^ dimension_at b - 1) vector
    others_are = rw (counted.value, read)

    pub same_bytes : b₁ ≡ b
    same_bytes = first_pass_leaves b s t c vector got (λ y. omega (arith, y, z))

    pub board_again : {q w f : ℕ} → BoardIn q w f (view b) → BoardIn q w f (view b₁)
    board_again on = rw same_bytes on

    pub may_again : MaySendIn long b₁ s t c others
    may_again =
        rw (same_bytes, others_are)
        record {
          bytes = may.bytes;
          fits = may.fits;
          source = may.source;
          target = may.target;
          ports = xor_lt (dimension_at b) (2 ^ dimension_at b - 1) vector (omega (arith, pow_pos (dimension_at b))) may.ports;
          circuit = may.circuit;
          small = may.small;
        }

    ports_other : send_ports S others ≡ other_ports S vector
    unfolding S view
    ports_other = rw others_are (other_vector S vector _ (other_has (dimension_at b) vector may.fits))

    module _ {x₂ h₂ k₂ n₂ : ℕ} {b₂ : List ℕ} (again : answer_on_bytes x₂ h₂ k₂ n₂ b₂ ≡ searched b₁ s t c 0 others) where
      second_is : answer_on_bytes x₂ h₂ k₂ n₂ b₂ ≡ send_answer true b c s t (one_result r second)
      unfolding S r second
      second_is =
          again ∙ ap (λ u. searched u s t c 0 others) same_bytes ∙ one_pass b s t c others
          ∙ ap (λ ps. send_answer true b c s t (one_result r (pass (network S) (free_in (view b)) s ps t))) ports_other

      pub few_scouts : n + n₂ ≤ 35099560
      unfolding S first second view
      few_scouts =
          omega (arith, sent_scouts b c s t true (outcome r first) (scouts first) first_is, sent_scouts b c s t true (outcome r second) (scouts second) second_is, folded_bound S may.fits s t vector (free_in (view b)) (free_in (view b)))

      pub alternate_again : answer_on_bytes x₂ h₂ k₂ (n + n₂) b₂ ≡ searched b s t c 4 vector
      unfolding searched S r first second
      alternate_again =
          sent_counted b c s t (outcome r second) (scouts second) (n + n₂) second_is
          ∙ ap (λ m. send_answer true b c s t (record { outcome = outcome r second; scouts = m }))
          (ap₂ ◌+◌ (sent_scouts b c s t true (outcome r first) (scouts first) first_is) (sent_scouts b c s t true (outcome r second) (scouts second) second_is))
          ∙ ap (send_answer true b c s t) (sym (alternate_goes_on S (free_in (view b)) r s vector t (sent_goes_on b c s t (outcome r first) (scouts first) first_is z)))
