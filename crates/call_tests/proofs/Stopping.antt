-- The tests of a call, one after another: what each return of the functions that make them answers, and what is known where none applies.
-- Assumes nothing.
use mathlib.Core.Path.{◌≡◌, refl, ap, sym, ◌∙◌, subst}
use mathlib.Core.Logic.{◌≢◌}
use mathlib.Core.Bool.{Bool, true, false}
use mathlib.Core.List.{List, [], ◌∷◌, ◌++◌}
use Prim.Native.Nat.{ℕ, ◌^◌, ◌%◌, ◌≤◌, ◌<◌}
use native.Mathlib.Omega.{arith}
use lib.Dec.{ltb}
use lib.ListN.{length}
use lib.Pow.{pow_pos}
use borrow.Author.Tests.{not-false}
use Rattle.common.specs.Tests.{Test, refusal}
use Rattle.common.proofs.Refusals as refusals
use Rattle.common.proofs.Tests.{first_passed, refusal_after, refusal_before}
use Rattle.layout.specs.Layout.{wide_ports, length_of, dimension_at, fold_at}
use Rattle.layout.specs.Resources.{LayoutLaws, ports_of_long}
use Rattle.entries.specs.EntryContracts.{InTable}
use Rattle.table.specs.View.{view}
use Rattle.table.proofs.CubeRows.{row_of}
use Rattle.cube.specs.Axes.{present}
use Rattle.cube.specs.Cube.{largest_dimension, channels, NodeOf, VectorOf, circuit_of}
use Rattle.cube.proofs.Bits.{no_bit_above}
use Rattle.cube.proofs.Circuits.{source_of_circuit}
use Rattle.cube.proofs.Ports.{below_256, count_of}
use Rattle.soundness.specs.Sound.{Sound}
use Rattle.soundness.specs.TableTests.{table_tests}
use Rattle.circuit_path.specs.Follow.{HasSourceIn}
use Rattle.circuit_path.specs.OpenCircuit.{is_open_in}
use Rattle.answers.specs.SendAnswer.{MaySendIn}
use Rattle.ownership.specs.Calls.{Call, form, absent, node, port, channel_number, blocking, unblocking, opening, closing, tracing, arming, disarming, opening_all, folding}
use Rattle.ownership.specs.Allowed.{Allowed}
use Rattle.ownership.specs.TableFacts.{open_in}
use Rattle.ownership.specs.OnTable.{facts_of, stopped_at}
use Rattle.ownership.proofs.Allowed.{below, allowed, allowed_passes, channel_small}
use Rattle.judging.proofs.Loadable.{port_exactly}
use Rattle.ownership.proofs.OnSound.{may_open}
use Rattle.ownership.proofs.Stops.{pass_tests, table_numbered, none_stops, none_stops_lent, stopped_is}

-- A test of the lent table stops a call, or none does, and those of the call decide.
pub table_stops : (q : ℕ) (b : List ℕ) (ts : List Test) {n : ℕ} → n ≡ refusal (table_tests q b) → n ≢ 0 → refusal (table_tests q b ++ ts) ≡ n
table_stops q b ts e f = refusal_before (table_tests q b) ts (λ z. f (e ∙ z)) ∙ sym e

pub table_passes : (q : ℕ) (b : List ℕ) (ts : List Test) → refusal (table_tests q b) ≡ 0 → refusal (table_tests q b ++ ts) ≡ refusal ts
table_passes q b ts e = refusal_after (table_tests q b) ts (table_numbered q b) e

-- What is known of a table with q ports to a node, and of the nodes of a call, where no test stops it.
pub record Inside (q : ℕ) (b : List ℕ) (s t : ℕ) : Type 0 where
  pub long : length b ≡ length_of q
  pub least : 1 ≤ dimension_at b
  pub most : dimension_at b ≤ largest_dimension
  pub sound : Sound (view b)
  pub source : NodeOf (dimension_at b) s
  pub target : NodeOf (dimension_at b) t

inside : (q : ℕ) (b : List ℕ) → refusal (table_tests q b) ≡ 0 → {s t : ℕ} → NodeOf (dimension_at b) s → NodeOf (dimension_at b) t → Inside q b s t
inside q b e h l = let r = pass_tests q b e in record { long = r.0; least = r.1; most = r.2; sound = r.3; source = h; target = l }

-- a node that the code found not to be absent
pub node_passed : (q : ℕ) (b : List ℕ) (s : ℕ) → refusal (table_tests q b) ≡ 0 → absent (facts_of (view b)) s ≡ false → Inside q b s s
unfolding facts_of view
node_passed q b s e f = let h = below s (2 ^ dimension_at b) f in inside q b e h h

-- a call that no test stops: the table passes its tests, and the arguments are allowed
none_applies : (q : ℕ) (b : List ℕ) (a : Call) → (form a).is_making ≡ false → 0 ≡ stopped_at q b a → (refusal (table_tests q b) ≡ 0) × Allowed (facts_of (view b)) a
none_applies q b a other e = (none_stops_lent q b a other (sym e), allowed (facts_of (view b)) a (none_stops q b a (sym e)))

module _ {q : ℕ} {b : List ℕ} {m : ℕ} (p : ℕ) where
  pub unblock_passed : 0 ≡ stopped_at q b (unblocking m p) → Inside q b m m × (present (dimension_at b) (fold_at b) p ≡ true)
  unfolding Allowed facts_of view
  unblock_passed e = let r = none_applies q b (unblocking m p) refl e in (inside q b r.0 r.1.0 r.1.0, (port_exactly (dimension_at b) (fold_at b) p).1 r.1.1)

  pub block_passed : 0 ≡ stopped_at q b (blocking m p) → Inside q b m m × (present (dimension_at b) (fold_at b) p ≡ true)
  unfolding Allowed facts_of view
  block_passed e = let r = none_applies q b (blocking m p) refl e in (inside q b r.0 r.1.0 r.1.0, (port_exactly (dimension_at b) (fold_at b) p).1 r.1.1)

module _ {q : ℕ} {b : List ℕ} {m k : ℕ} where
  pub arm_passed : 0 ≡ stopped_at q b (arming m k) → Inside q b m m × (k < channels)
  unfolding Allowed facts_of view
  arm_passed e = let r = none_applies q b (arming m k) refl e in (inside q b r.0 r.1.0 r.1.0, r.1.1)

  pub disarm_passed : 0 ≡ stopped_at q b (disarming m k) → Inside q b m m × (k < channels)
  unfolding Allowed facts_of view
  disarm_passed e = let r = none_applies q b (disarming m k) refl e in (inside q b r.0 r.1.0 r.1.0, r.1.1)

pub open_passed : {q : ℕ} {b : List ℕ} {s c t : ℕ} (y : ℕ) {v : ℕ} → 0 ≡ stopped_at q b (opening s c t y v) → Inside q b s t × (c < channels) × VectorOf (dimension_at b) v × (v ≢ 0)
unfolding Allowed facts_of view
open_passed {q} {b} {s} {c} {t} y {v} e =
    let r = none_applies q b (opening s c t y v) refl e in
    (inside q b r.0 r.1.0 r.1.1, r.1.2, no_bit_above (dimension_at b) v r.1.4, r.1.3)

module _ {q : ℕ} {b : List ℕ} {s c : ℕ} where
  pub close_passed : 0 ≡ stopped_at q b (closing s c) → Inside q b s s × (c < channels) × (open_in (view b) s c ≡ true)
  unfolding Allowed facts_of view
  close_passed e = let r = none_applies q b (closing s c) refl e in (inside q b r.0 r.1.0 r.1.0, r.1.1, r.1.2)

  pub trace_passed : (buffer : List ℕ) → 0 ≡ stopped_at q b (tracing s c buffer) → (Inside q b s s × (c < channels) × (open_in (view b) s c ≡ true)) × (9 ≤ length buffer)
  unfolding Allowed facts_of view
  trace_passed buffer e = let r = none_applies q b (tracing s c buffer) refl e in ((inside q b r.0 r.1.0 r.1.0, r.1.1, r.1.2), r.1.3)

-- the fold mask of a call that no test stops is that of a cube of the table's dimension
pub fold_passed : {b : List ℕ} {mask : ℕ} → 0 ≡ stopped_at wide_ports b (folding mask) → Inside wide_ports b 0 0 × (mask < 2 ^ dimension_at b)
unfolding Allowed facts_of view
fold_passed {b} {mask} e =
    let r = none_applies wide_ports b (folding mask) refl e in
    let first : 0 < 2 ^ dimension_at b = pow_pos (dimension_at b) in
    (inside wide_ports b r.0 first first, no_bit_above (dimension_at b) mask r.1.0)

pub job_passed : (q : ℕ) (b sends : List ℕ) → 0 ≡ stopped_at q b (opening_all sends) → (refusal (table_tests q b) ≡ 0) × (length sends % 10 ≡ 0) × (length sends ≤ 640)
unfolding Allowed
job_passed q b sends e = let r = none_applies q b (opening_all sends) refl e in (r.0, r.1.0, r.1.1)

-- What an open that no test stops asks of its send.
pub may_send : (q : ℕ) (b : List ℕ) (s c t y v : ℕ) {k : ℕ} → 0 ≡ stopped_at q b (opening s c t y v) → k ≡ circuit_of s c → MaySendIn (length_of q) b s t k v × (v ≢ 0)
may_send q b s c t y v e is = (subst (λ k. MaySendIn (length_of q) b s t k v) (sym is) (may_open q b s c t y v (sym e)), (open_passed y e).3)

-- The channel has a circuit number.
pub small_source : {q : ℕ} {b : List ℕ} {s t c : ℕ} → Inside q b s t → c < channels → (s < 256) × (c < channels)
small_source h l = (below_256 h.most h.source, l)

-- What the code asks of a table, with the numbers of its layout.
module _ {long q enable links receives arms : ℕ} (laws : LayoutLaws long q enable links receives arms) where
  module _ {b : List ℕ} where
    -- A link of the cube lies in the table, and so does a receive channel.
    pub link_within : {m p : ℕ} → Inside q b m m × (present (dimension_at b) (fold_at b) p ≡ true) → InTable long q b m p
    unfolding view
    link_within {m} {p} h =
        record {
          bytes = h.0.long ∙ sym laws.long_is;
          node = below_256 h.0.most h.0.source;
          port = subst (p <◌) (ports_of_long q b laws.ports_are h.0.long) (row_of b h.0.most p h.1);
        }

    pub receive_within : {m k : ℕ} → Inside q b m m × (k < channels) → InTable long channels b m k
    receive_within h = record { bytes = h.0.long ∙ sym laws.long_is; node = below_256 h.0.most h.0.source; port = h.1 }

    -- The source of a channel's circuit is a node of the cube.
    pub has_source : {s t c k : ℕ} → Inside q b s t → c < channels → k ≡ circuit_of s c → HasSourceIn long b k
    has_source {s} {t} {c} h l e =
        rw e record { bytes = h.long ∙ sym laws.long_is; fits = h.most; circuit = omega arith; source = rw (source_of_circuit s c l) h.source }

    -- The same of a node, and of a port or channel, that the code found not to be refused.
    module _ (n : ℕ) (pass : refusal (table_tests q b) ≡ 0) (f : 0 ≡ refusal (node (facts_of (view b)) n ∷ [])) where
      node_is : Inside q b n n
      node_is = node_passed q b n pass (first_passed (absent (facts_of (view b)) n) 4 [] (λ z. omega arith) (sym f)).0

      pub link_found : {p : ℕ} → 0 ≡ refusal (port (facts_of (view b)) p ∷ []) → InTable long q b n p
      unfolding facts_of view
      link_found {p} g = link_within (node_is, not-false _ (first_passed (port (facts_of (view b)) p).when 6 [] (λ z. omega arith) (sym g)).0)

      pub receive_found : {k : ℕ} → 0 ≡ refusal (channel_number k ∷ []) → InTable long channels b n k
      receive_found {k} g = receive_within (node_is, channel_small k (first_passed (ltb 7 k) 5 [] (λ z. omega arith) (sym g)).0)

    -- and of a node that the code found not to be absent.
    pub found_source : (s : ℕ) {c k : ℕ} → refusal (table_tests q b) ≡ 0 → absent (facts_of (view b)) s ≡ false → c < channels → k ≡ circuit_of s c → HasSourceIn long b k
    found_source s pass e l q = has_source (node_passed _ b s pass e) l q

    -- So the link or channel of a call that no test stops lies in the table;
    module _ {n p : ℕ} where
      pub unblock_within : 0 ≡ stopped_at q b (unblocking n p) → InTable long q b n p
      unblock_within e = link_within (unblock_passed p e)

      pub block_within : 0 ≡ stopped_at q b (blocking n p) → InTable long q b n p
      block_within e = link_within (block_passed p e)

      pub arm_within : 0 ≡ stopped_at q b (arming n p) → InTable long channels b n p
      arm_within e = receive_within (arm_passed e)

      pub disarm_within : 0 ≡ stopped_at q b (disarming n p) → InTable long channels b n p
      disarm_within e = receive_within (disarm_passed e)

    -- the circuit of a close may be followed;
    pub close_source : (s c : ℕ) {k : ℕ} → 0 ≡ stopped_at q b (closing s c) → k ≡ circuit_of s c → HasSourceIn long b k
    close_source s c e is = let r = close_passed e in has_source r.0 r.1 is

    -- and the send of an open may be tried.
    pub open_sends : (s c t y v : ℕ) {k : ℕ} → 0 ≡ stopped_at q b (opening s c t y v) → k ≡ circuit_of s c → MaySendIn long b s t k v
    open_sends s c t y v {k} e is = subst (λ i. MaySendIn i b s t k v) (sym laws.long_is) (may_send q b s c t y v e is).0

-- What else the code finds of a node that is not absent.
module _ (q : ℕ) (b : List ℕ) (s : ℕ) {c : ℕ} (pass : refusal (table_tests q b) ≡ 0) (e : absent (facts_of (view b)) s ≡ false) (l : c < channels) where
  pub found_small : (s < 256) × (c < channels)
  found_small = small_source (node_passed q b s pass e) l

pub found_open : (b : List ℕ) (s c : ℕ) {k : ℕ} {r : Bool} → k ≡ circuit_of s c → r ≡ is_open_in (view b) k → r ≡ open_in (view b) s c
unfolding open_in
found_open b s c is o = o ∙ ap (is_open_in (view b)) is

-- With these the check proves what each return of a call's tests answers, and what a test asks of the table.
pub ruleset of_table = (pass_tests, count_of, found_small, found_open)

pub ruleset calls = (table_stops, table_passes, refusals.refused)

-- Of a close, and so of a trace, whose tests begin with those of a close: the circuit of the channel is open.
module _ (q : ℕ) (b : List ℕ) (s c : ℕ) where
  pub trace_closes : (buffer : List ℕ) → 0 ≡ stopped_at q b (tracing s c buffer) → 0 ≡ stopped_at q b (closing s c)
  unfolding Allowed
  trace_closes buffer e =
      let r = none_applies q b (tracing s c buffer) refl e in
      let p = pass_tests q b r.0 in
      sym (stopped_is q b p.0 p.1 p.2 p.3 (closing s c) ∙ allowed_passes (facts_of (view b)) (closing s c) (r.1.0, r.1.1, r.1.2))

  pub trace_room : (buffer : List ℕ) → 0 ≡ stopped_at q b (tracing s c buffer) → 9 ≤ length buffer
  trace_room buffer e = (trace_passed buffer e).1

  module _ (e : 0 ≡ stopped_at q b (closing s c)) where
    pub close_small : (s < 256) × (c < channels)
    close_small = let r = close_passed e in small_source r.0 r.1

    pub close_sound : Sound (view b)
    close_sound = (close_passed e).0.sound

    pub close_open : {k : ℕ} → k ≡ circuit_of s c → is_open_in (view b) k ≡ true
    unfolding open_in
    close_open is = ap (is_open_in (view b)) is ∙ (close_passed e).2

-- Of an open: its channel has a circuit number, and its vector a port.
module _ (q : ℕ) (b : List ℕ) (s c t y v : ℕ) (e : 0 ≡ stopped_at q b (opening s c t y v)) where
  pub open_small : (s < 256) × (c < channels)
  open_small = let r = open_passed y e in small_source r.0 r.1

  pub open_vector : v ≢ 0
  open_vector = (open_passed y e).3
