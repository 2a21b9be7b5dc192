-- Freeing the links of a path one after another; and that in a sound table the path of an open circuit, with the receive channel at its end, is
-- all that the circuit holds.
-- Assumes nothing.
use mathlib.Core.Path.{◌≡◌, refl, ap, sym, ◌∙◌, subst}
use mathlib.Core.Logic.{⊎_elim}
use mathlib.Core.Bool.{Bool, true, false, cond, ◌&&◌}
use mathlib.Core.List.{List, ◌∷◌}
use Prim.Native.Nat.{ℕ, suc, ◌+◌, ◌/◌, ◌%◌, ◌^◌, ◌≤◌, ◌<◌}
use native.Mathlib.Omega.{arith}
use native.Mathlib.Numerals.{add-one}
use lib.Dec.{eqb, lit<}
use lib.ListN.{length, get_or, drop, set, length-set, drop_of_length-le}
use lib.Seq.{drop-cons}
use borrow.Author.Tests.{eqb-true, eqb-false, eq-eqb}
use Rattle.common.specs.Lists.{◌∈◌, lowest}
use Rattle.common.proofs.Tests.{below_or, clash, is_false, both, and}
use Rattle.common.proofs.Lists.{at_member}
use Rattle.common.proofs.Lowest.{lowest_passes, lowest_before}
use Rattle.cube.specs.Axes.{axis, present}
use Rattle.cube.specs.Cube.{largest_dimension, channels, NodeOf, next, source_of}
use Rattle.cube.proofs.Axes.{present_axis}
use Rattle.cube.proofs.Bits.{flip_inside}
use Rattle.cube.proofs.Ports.{below_256}
use Rattle.paths.specs.Network.{Path, links, has_link}
use Rattle.paths.specs.CubeNetwork.{Node}
use Rattle.paths.specs.Send.{acknowledged}
use Rattle.paths.proofs.Links.{link_true, true_link}
use Rattle.paths.proofs.Apart.{permitted_ports, permitted_inside}
use Rattle.paths.proofs.CubeNetwork.{port_there}
use Rattle.layout.specs.Layout.{dimension_at, fold_at, ports_in, entry_place, receive_part, receiver_at}
use Rattle.entries.specs.EntryContracts.{put_entry, put_owner, put_receiver, put_armed, InTable}
use Rattle.table.specs.View.{View, view, set_receiver, set_armed, set_at, without_circuit, shape_of, net, held_by}
use Rattle.table.specs.Encode.{encode_over, BytesOver}
use Rattle.table.proofs.CubeRows.{RowOf, row_of}
use Rattle.circuit_path.specs.CircuitSound.{end_for, CircuitSound}
use Rattle.soundness.specs.Sound.{Sound}
use Rattle.circuit_path.specs.PathOf.{path_of}
use Rattle.circuit_path.specs.OpenCircuit.{is_open_in}
use Rattle.circuit_path.specs.Follow.{HasSourceIn}
use Rattle.circuit_path.proofs.CircuitSound.{path_is}
use Rattle.answers.specs.PassOnBytes.{hold_path}
use Rattle.answers.specs.SendAnswer.{bytes_after_send}
use Rattle.answers.proofs.PassOnBytes.{owner_length}
use Rattle.answers.specs.SendOnTable.{hold_links, view_after_send}
use Rattle.layout.specs.Resources.{LayoutLaws, is_table, ports_of_long, width_least}
use Rattle.answers.proofs.AfterSend.{PortsThere, Fits, hold_length, view_hold, view_after_send_lem, send_bytes_lem}
use Rattle.ownership.proofs.BytesAfter.{armed_encoded}
use Rattle.ownership.proofs.Applied.{held_path}
use Rattle.ownership.proofs.OnSound.{open_sound}
use Rattle.release.specs.Release.{MayFree}

-- i of the links are freed, and the next is one of node `at`
pub record Freeing (b path : List ℕ) (s : ℕ) (now : List ℕ) (at i : ℕ) : Type 0 where
  pub node : NodeOf (dimension_at b) at
  pub long : length now ≡ length b
  pub holds : hold_path now 0 at (drop i path) ≡ hold_path b 0 s path

-- a port of a path, as the code has it
pub port_of : (b path : List ℕ) (i : ℕ) {p : ℕ} → p ≡ get_or path i 0 → present (dimension_at b) (fold_at b) (get_or path i 0) ≡ true → present (dimension_at b) (fold_at b) p ≡ true
port_of b path i e h = ap (present (dimension_at b) (fold_at b)) e ∙ h

module _ {b path : List ℕ} {s : ℕ} where
  pub without_on : {now after : List ℕ} {at to i p : ℕ} → Freeing b path s now at i → i < length path → p ≡ get_or path i 0 → present (dimension_at b) (fold_at b) p ≡ true
      → after ≡ put_owner now at p 0 → to ≡ next at p → Freeing b path s after to (i + 1)
  without_on {now} {after} {at} {to} {i} {p} f h e l q t =
      let split : drop i path ≡ p ∷ drop (suc i) path = drop-cons path i 0 h ∙ ap (◌∷ drop (suc i) path) (sym e) in
      record {
        node = rw t (flip_inside (dimension_at b) at (axis p) f.node (present_axis (dimension_at b) (fold_at b) p l).1);
        long = ap length q ∙ owner_length now at p 0 ∙ f.long;
        holds = rw (q, t, add-one i) (sym (ap (hold_path now 0 at) split ∙ (unfold hold_path in refl)) ∙ f.holds);
      }

  -- that link lies in the table
  pub next_within : {long q enable links_at receives_at arms : ℕ} → LayoutLaws long q enable links_at receives_at arms → length b ≡ long → dimension_at b ≤ largest_dimension
      → {now : List ℕ} {at i p : ℕ} → Freeing b path s now at i → present (dimension_at b) (fold_at b) p ≡ true → InTable long q now at p
  unfolding view
  next_within laws l most {now} {at} {i} {p} f h =
      record { bytes = f.long ∙ l; node = below_256 most f.node; port = subst (p <◌) (ports_of_long _ b laws.ports_are (l ∙ laws.long_is)) (row_of b most p h) }

  pub freed_bytes_are : {now : List ℕ} {at i : ℕ} → Freeing b path s now at i → length path ≤ i → now ≡ hold_path b 0 s path
  freed_bytes_are {now} {at} {i} f h =
      sym (ap (hold_path now 0 at) (drop_of_length-le path h) ∙ (unfold hold_path in refl)) ∙ f.holds

receiver_length : (b : List ℕ) (n k c : ℕ) → length (put_receiver b n k c) ≡ length b
unfolding put_receiver put_entry
receiver_length b n k c =
    let place : ℕ = entry_place channels (receive_part (ports_in b)) n k in
    length-set (set b place (c % 256)) (place + 1) (c / 256) ∙ length-set b place (c % 256)

-- An open circuit of a sound table.
module _ {long q enable links_at receives_at arms : ℕ} (laws : LayoutLaws long q enable links_at receives_at arms) {b : List ℕ} {c : ℕ} (known : HasSourceIn long b c) (some : is_open_in (view b) c ≡ true) (sound : Sound (view b)) where
  stands : CircuitSound (view b) c
  stands = open_sound (view b) sound c (λ z. omega (arith, z, known.circuit)) some

  abbrev pub path : Path
  path = path_of (view b) c

  abbrev pub target : ℕ
  target = end_for (view b) c path

  same : stands.path ≡ path
  same = sym (path_is (view b) c stands)

  target_is : end_for (view b) c stands.path ≡ target
  target_is = ap (end_for (view b) c) same

  ports_there : PortsThere (shape_of (view b)) path
  ports_there =
      subst (PortsThere (shape_of (view b))) same
      (unfold PortsThere in λ p m. port_there (shape_of (view b)) p (permitted_ports (shape_of (view b)) (source_of c) (end_for (view b) c stands.path) stands.path stands.permitted p m))

  row : RowOf (shape_of (view b)) (ports_in b)
  row = row_of b known.fits

  most : (shape_of (view b)).dimension ≤ largest_dimension
  unfolding view
  most = known.fits

  source_inside : Node (shape_of (view b)) (source_of c)
  unfolding view
  source_inside = known.source

  target_inside : NodeOf (dimension_at b) target
  unfolding view
  target_inside = subst (◌< 2 ^ dimension_at b) target_is (permitted_inside (shape_of (view b)) (source_of c) (end_for (view b) c stands.path) stands.path known.source stands.permitted).1

  target_there : Node (shape_of (view b)) target
  unfolding view
  target_there = target_inside

  -- the links of the path are those that the circuit holds, and its receive channel is that at the path's end
  link_held_lem : (m q : ℕ) → has_link (links (net (view b)) (source_of c) path) m q ≡ held_by (view b) c m q
  link_held_lem m q = go (held_by (view b) c m q) refl
    where
      go : (x : Bool) → held_by (view b) c m q ≡ x → has_link (links (net (view b)) (source_of c) path) m q ≡ x
      go true e = link_true _ m q (subst (λ (w : Path). (m, q) ∈ links (net (view b)) (source_of c) w) same (stands.exactly.only m q e))
      go false e = is_false _ (λ t. clash (stands.exactly.all m q (subst (λ (w : Path). (m, q) ∈ links (net (view b)) (source_of c) w) (sym same) (true_link _ m q t))) e)

  receives : (view b).receiver target stands.receive ≡ c
  receives = subst (λ (t : ℕ). (view b).receiver t stands.receive ≡ c) target_is stands.receives

  channel_held_lem : (m k : ℕ) → (eqb m target && eqb k stands.receive) ≡ eqb ((view b).receiver m k) c
  channel_held_lem m k = go (eqb ((view b).receiver m k) c) refl
    where
      go : (x : Bool) → eqb ((view b).receiver m k) c ≡ x → (eqb m target && eqb k stands.receive) ≡ x
      go true e = let r = stands.once m k (eqb-true _ c e) in and (eq-eqb m target (r.0 ∙ target_is)) (eq-eqb k _ r.1)
      go false e =
          is_false _ (λ t. let r = both (eqb m target) _ t in
          eqb-false _ c e (subst (λ (x : ℕ). (view b).receiver x k ≡ c) (sym (eqb-true m target r.0)) (subst (λ (x : ℕ). (view b).receiver target x ≡ c) (sym (eqb-true k _ r.1)) receives)))

  -- so what the table shows once both are nobody's and the channel is disarmed is what it shows once every entry of the circuit is freed
  shown_freed : set_armed (view_after_send (view b) 0 (source_of c) target (acknowledged path stands.receive)) target stands.receive false
      ≡ without_circuit (view b) c
  unfolding view_after_send without_circuit set_receiver set_armed set_at
  shown_freed =
      ap (λ (v : View). set_armed (set_receiver v target stands.receive 0) target stands.receive false)
      (held_path (view b) (shape_of (view b)) 0 (source_of c) path) ∙ λ i.
      record {
        dimension = (view b).dimension;
        fold = (view b).fold;
        enabled = (view b).enabled;
        owner = λ m q. cond (link_held_lem m q i) 0 ((view b).owner m q);
        receiver = λ m k. cond (channel_held_lem m k i) 0 ((view b).receiver m k);
        armed = λ m k. cond (channel_held_lem m k i) false ((view b).armed m k);
      }

  bytes_freed : BytesOver q b → put_armed (put_receiver (hold_path b 0 (source_of c) path) target stands.receive 0) target stands.receive false
      ≡ encode_over q (without_circuit (view b) c)
  unfolding bytes_after_send
  bytes_freed bytes =
      let o = acknowledged path stands.receive in
      let fits : Fits (shape_of (view b)) o = unfold Fits in (ports_there, stands.small) in
      let freed : BytesOver q (bytes_after_send b 0 (source_of c) target o) = send_bytes_lem b 0 (source_of c) target o bytes (lit< tt) in
      let shown = view_after_send_lem 0 (lit< tt) (shape_of (view b)) most b (is_table laws b known.bytes) row (source_of c) target source_inside target_there o fits in
      armed_encoded q laws.ports_are (bytes_after_send b 0 (source_of c) target o) freed target stands.receive false
      (below_256 known.fits target_inside) stands.small
      ∙ ap (encode_over q) (ap (λ (v : View). set_armed v target stands.receive false) shown ∙ shown_freed)

  -- Of what the code has: the ports of the path, and the source.
  module _ {w : List ℕ} {s : ℕ} (is : w ≡ path) (starts : s ≡ source_of c) where
    pub may_free : MayFree long b s w
    unfolding PortsThere view
    may_free =
        rw is (record {
          bytes = known.bytes;
          fits = known.fits;
          node = rw starts known.source;
          there = λ i h. ports_there (get_or path i 0) (at_member path i h);
        })

    module _ {t : ℕ} {b₁ : List ℕ} (at_Target : t ≡ target) (holds : b₁ ≡ hold_path b 0 s w) where
      held : b₁ ≡ hold_path b 0 (source_of c) path
      held = holds ∙ rw (is, starts)

      pub target_within : InTable long q b₁ t 0
      target_within = record { bytes = ap length held ∙ hold_length b 0 (source_of c) path ∙ known.bytes; node = rw at_Target (below_256 known.fits target_inside); port = omega (arith, width_least laws.ports_are) }

      -- freeing links leaves the receive channels, of which the circuit holds one there
      channel_same : (j : ℕ) → eqb (receiver_at b₁ t j) c ≡ eqb ((view b).receiver target j) c
      unfolding view
      channel_same j = ap (λ x. eqb x c) (ap (λ x. receiver_at x t j) held ∙ ap (λ (v : View). v.receiver t j) (shown ∙ held_path (view b) (shape_of (view b)) 0 (source_of c) path) ∙ ap (λ x. receiver_at b x j) at_Target)
        where
          shown : view (hold_path b 0 (source_of c) path) ≡ hold_links (view b) 0 (source_of c) path
          shown = view_hold 0 (lit< tt) (shape_of (view b)) most b (is_table laws b known.bytes) row (source_of c) path source_inside ports_there

      module _ {k : ℕ} (found : k ≡ lowest (λ j. eqb (receiver_at b₁ t j) c) channels 0) where
        the_channel : k ≡ stands.receive
        the_channel =
            let f : ℕ → Bool = λ j. eqb (receiver_at b₁ t j) c in
            let yes : f stands.receive ≡ true = channel_same stands.receive ∙ eq-eqb _ c receives in
            let most : lowest f 8 0 < 0 + 8 = ⊎_elim (λ l. l) (λ l. absurd (clash yes (lowest_before f 8 0 stands.receive (omega arith) (omega (arith, stands.small, l))))) (below_or 8 (lowest f 8 0)) in
            let here = lowest_passes f 8 0 most in
            found ∙ eqb-true _ _ (both (eqb target target) _ (channel_held_lem target (lowest f 8 0) ∙ sym (channel_same (lowest f 8 0)) ∙ here)).1

        pub channel_within : InTable long channels b₁ t k
        channel_within = record { bytes = target_within.bytes; node = target_within.node; port = omega (arith, the_channel, stands.small) }

        module _ {b₂ : List ℕ} (freed : b₂ ≡ put_receiver b₁ t k 0) where
          pub freed_within : InTable long channels b₂ t k
          freed_within =
              record { bytes = ap length freed ∙ receiver_length b₁ t k 0 ∙ target_within.bytes; node = target_within.node; port = channel_within.port }

          pub all_freed : BytesOver q b → put_armed b₂ t k false ≡ encode_over q (without_circuit (view b) c)
          all_freed bytes = rw (freed, held, at_Target, the_channel) (bytes_freed bytes)
