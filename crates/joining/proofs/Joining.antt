-- The bytes that the parts written one after another leave are those of the joined table.
-- Assumes nothing.
use mathlib.Core.Path.{◌≡◌, refl, ap, ap₂, sym, ◌∙◌}
use mathlib.Core.Logic.{◌≢◌, ◌⊎◌, inl, inr, ⊎_elim}
use mathlib.Core.Bool.{Bool, true, false, cond, ◌||◌, or-false}
use mathlib.Core.List.{List}
use Prim.Native.Nat.{ℕ, suc, ◌+◌, ◌-◌, ◌*◌, ◌^◌, ◌≤◌, ◌<◌}
use native.Mathlib.Omega.{arith}
use lib.Dec.{eqb, ltb}
use lib.ListN.{length, get_or, set}
use lib.Seq.{get_or-set_same, get_or-set_other}
use lib.Bits.{bit_or}
use borrow.Author.Tests.{eq-eqb, ne_eqb}
use Rattle.common.proofs.Tests.{same?, or_right}
use Rattle.cube.specs.Cube.{largest_dimension, port_count, cube_nodes}
use Rattle.cube.specs.Bits.{has, bit_at}
use Rattle.cube.proofs.Bits.{has_or, bit_power, bit_power_other}
use Rattle.cube.proofs.Ports.{most_nodes}
use Rattle.paths.specs.CubeNetwork.{is_node, unfolded}
use Rattle.layout.specs.Layout.{table_length, dimension_at, fold_at, mask_place, mask_at, enabled_at, armed_at, enable_part, arm_part, entry_at, owner_at, receiver_at, link_part, receive_part, entry_place}
use Rattle.table.specs.View.{view}
use Rattle.table.specs.Encode.{encode, Bytes}
use Rattle.layout.proofs.Folds.{fold_none}
use Rattle.table.proofs.Views.{shown_enabled, shown_armed, shown_owner, shown_receiver}
use Rattle.table.proofs.Encoded.{encode_shown}
use Rattle.soundness.specs.Sound.{Sound}
use Rattle.joining.specs.Joined.{of_halves, renumbered, at_new_port, joined_view}
use Rattle.joining.specs.JoinContracts.{RowsFit, RowsBehind, MasksBehind, PortEnabled, Joinable}
use Rattle.joining.proofs.HalfNodes.{port_below}
use Rattle.joining.proofs.Shown.{entry_same, RowsJoined, MasksJoined, entry_joined, mask_joined, mask_set, renumbered_none}

-- a table has room for the nodes of both halves
pub both_fit : {D nodes : ℕ} → nodes ≡ cube_nodes D → D < largest_dimension → 2 * nodes ≤ 256
both_fit {D} {nodes} m room =
    let all : 2 ^ suc D ≤ 256 = most_nodes {D = suc D} (omega arith) in
    omega arith

-- The rows of a sound table hold circuits of its cube.
module _ (b : List ℕ) (long : length b ≡ table_length) (nodes : ℕ) (m : nodes ≡ cube_nodes (dimension_at b)) (sound : Sound (view b)) where
  pub links_fit : RowsFit (link_part 8) nodes b
  unfolding RowsFit view
  links_fit n k h l = omega (arith, m, sound.link_number n k, shown_owner b long n k)

  pub receives_fit : RowsFit (receive_part 8) nodes b
  unfolding RowsFit view
  receives_fit n k h l = omega (arith, m, sound.receive_number n k, shown_receiver b long n k)

-- what a sound table shows behind its nodes
module _ (b : List ℕ) (long : length b ≡ table_length) (nodes : ℕ) (m : nodes ≡ cube_nodes (dimension_at b)) (sound : Sound (view b)) (n k : ℕ) (h : nodes ≤ n) where
  no_enabled : mask_at 8 (enable_part 8) b n k ≡ false
  unfolding view
  no_enabled = sym (shown_enabled b long n k) ∙ (sound.absent_link n k (λ z. omega (arith, m, z.0))).0

  no_owner : entry_at 8 (link_part 8) b n k ≡ 0
  unfolding view
  no_owner = sym (shown_owner b long n k) ∙ (sound.absent_link n k (λ z. omega (arith, m, z.0))).1

  no_receiver : entry_at 8 (receive_part 8) b n k ≡ 0
  unfolding view
  no_receiver = sym (shown_receiver b long n k) ∙ sound.absent_receive n k (λ z. omega (arith, m, z))

  no_armed : mask_at 8 (arm_part 8) b n k ≡ false
  unfolding view
  no_armed = sym (shown_armed b long n k) ∙ sound.absent_armed n k (λ z. omega (arith, m, z))

-- and at the port that it lacks
no_new_owner : (b : List ℕ) → length b ≡ table_length → dimension_at b ≤ largest_dimension → Sound (view b) → (n : ℕ) → entry_at 8 (link_part 8) b n (dimension_at b) ≡ 0
unfolding view
no_new_owner b long small sound n =
    sym (shown_owner b long n (dimension_at b)) ∙ (sound.absent_link n (dimension_at b) (λ z. omega (arith, port_below (dimension_at b) (fold_at b) (dimension_at b) (fold_none b long) small z.1))).1

-- a bit of one port joined to a mask, at that port and at another
port_on : (x q p : ℕ) → p ≡ q → has (bit_or x (2 ^ q)) p ≡ true
port_on x q p e = has_or x (2 ^ q) p ∙ or_right (has x p) (unfold has in eq-eqb _ 1 (ap (bit_at (2 ^ q)) e ∙ bit_power q))

port_off : (x q p : ℕ) → p ≢ q → has (bit_or x (2 ^ q)) p ≡ has x p
port_off x q p h = has_or x (2 ^ q) p ∙ ap (has x p ||◌) none ∙ or-false (has x p)
  where
    none : has (2 ^ q) p ≡ false
    none = unfold has in ap (λ y. eqb y 1) (bit_power_other q p h)

-- Two lists, and the bytes one part after another: the first's with the dimension raised, both masks, the new port, both rows.
module _ (a b : List ℕ) (D nodes : ℕ) {s₁ s₂ s₃ s₄ s₅ s₆ : List ℕ} (j : Joinable a b D) (m : nodes ≡ cube_nodes D) (most : 2 * nodes ≤ 256)
    (raised : s₁ ≡ set a 0 (get_or a 0 0 + 1)) (enables : MasksBehind (enable_part 8) nodes b s₁ s₂) (arms : MasksBehind (arm_part 8) nodes b s₂ s₃) (port : PortEnabled D (2 * nodes) s₃ s₄)
    (links : RowsBehind (link_part 8) nodes b s₄ s₅) (receives : RowsBehind (receive_part 8) nodes b s₅ s₆) (bytes : Bytes s₆) where
  first_nodes : nodes ≡ cube_nodes (dimension_at a)
  first_nodes = m ∙ ap cube_nodes j.first

  second_nodes : nodes ≡ cube_nodes (dimension_at b)
  second_nodes = m ∙ ap cube_nodes j.second

  kept₁ : (i : ℕ) → i ≢ 0 → get_or s₁ i 0 ≡ get_or a i 0
  kept₁ i h = ap (λ xs. get_or xs i 0) raised ∙ get_or-set_other a 0 i (get_or a 0 0 + 1) 0 h

  dimension_shown : get_or s₆ 0 0 ≡ suc (get_or a 0 0)
  dimension_shown =
      receives.others.before 0 (omega arith) ∙ links.others.before 0 (omega arith) ∙ port.others.before 0 (omega arith) ∙ arms.others.before 0 (omega arith)
      ∙ enables.others.before 0 (omega arith) ∙ ap (λ xs. get_or xs 0 0) raised ∙ get_or-set_same a 0 (get_or a 0 0 + 1) 0 (omega (arith, j.first_long)) ∙ omega arith

  -- The rows of links: those of the first half and those behind both are the first's,
  links_kept : (i : ℕ) → (link_part 8) ≤ i → i < (receive_part 8) → (i < entry_place 8 (link_part 8) nodes 0) ⊎ (entry_place 8 (link_part 8) (2 * nodes) 0 ≤ i) → get_or s₆ i 0 ≡ get_or a i 0
  links_kept i l h side =
      receives.others.before i (omega arith) ∙ ⊎_elim (λ z. links.others.before i (omega arith)) (λ z. links.others.behind i (omega arith)) side
      ∙ port.others.behind i (omega arith) ∙ arms.others.before i (omega arith) ∙ enables.others.behind i (omega arith) ∙ kept₁ i (λ z. omega arith)

  links_joined : RowsJoined (link_part 8) nodes a b s₆
  links_joined =
      record {
        first = λ i h. links_kept ((link_part 8) + i) (omega arith) (omega arith) (inl (omega arith));
        second = λ n k h l.
            entry_same s₆ s₅ (link_part 8) (nodes + n) k (λ x y. ap₂ (λ x y. x + 256 * y) (receives.others.before _ (omega arith)) (receives.others.before _ (omega arith))) ∙ links.entries n k h l;
        neither = λ i h l. links_kept ((link_part 8) + i) (omega arith) (omega arith) (inr (omega arith));
      }

  -- and those of receive channels.
  receives_kept : (i : ℕ) → (receive_part 8) ≤ i → i < (arm_part 8) → (i < entry_place 8 (receive_part 8) nodes 0) ⊎ (entry_place 8 (receive_part 8) (2 * nodes) 0 ≤ i) → get_or s₆ i 0 ≡ get_or a i 0
  receives_kept i l h side =
      ⊎_elim (λ z. receives.others.before i (omega arith)) (λ z. receives.others.behind i (omega arith)) side ∙ links.others.behind i (omega arith)
      ∙ port.others.behind i (omega arith) ∙ arms.others.before i (omega arith) ∙ enables.others.behind i (omega arith) ∙ kept₁ i (λ z. omega arith)

  receives_joined : RowsJoined (receive_part 8) nodes a b s₆
  receives_joined =
      record {
        first = λ i h. receives_kept ((receive_part 8) + i) (omega arith) (omega arith) (inl (omega arith));
        second = receives.entries;
        neither = λ i h l. receives_kept ((receive_part 8) + i) (omega arith) (omega arith) (inr (omega arith));
      }

  -- The masks of enabled links: the new port is set in those of both halves.
  enables_now : (i : ℕ) → i < (link_part 8) → get_or s₆ i 0 ≡ get_or s₄ i 0
  enables_now i h = receives.others.before i (omega arith) ∙ links.others.before i (omega arith)

  enables_joined : MasksJoined (enable_part 8) nodes (λ x. bit_or x (2 ^ D)) a b s₆
  enables_joined =
      record {
        first = λ n h.
            enables_now (mask_place 8 (enable_part 8) n) (omega arith) ∙ port.masks n (omega arith)
            ∙ ap (λ x. bit_or x (2 ^ D)) (arms.others.before (mask_place 8 (enable_part 8) n) (omega arith) ∙ enables.others.before (mask_place 8 (enable_part 8) n) (omega arith) ∙ kept₁ (mask_place 8 (enable_part 8) n) (λ z. omega arith));
        second = λ n h.
            enables_now (mask_place 8 (enable_part 8) (nodes + n)) (omega arith) ∙ port.masks (nodes + n) (omega arith)
            ∙ ap (λ x. bit_or x (2 ^ D)) (arms.others.before (mask_place 8 (enable_part 8) (nodes + n)) (omega arith) ∙ enables.masks n h);
        neither = λ n h l.
            enables_now (mask_place 8 (enable_part 8) n) (omega arith) ∙ port.others.behind (mask_place 8 (enable_part 8) n) (omega arith) ∙ arms.others.before (mask_place 8 (enable_part 8) n) (omega arith)
            ∙ enables.others.behind (mask_place 8 (enable_part 8) n) (omega arith) ∙ kept₁ (mask_place 8 (enable_part 8) n) (λ z. omega arith);
      }

  -- Those of armed channels.
  arms_now : (i : ℕ) → (arm_part 8) ≤ i → get_or s₆ i 0 ≡ get_or s₃ i 0
  arms_now i h = receives.others.behind i (omega arith) ∙ links.others.behind i (omega arith) ∙ port.others.behind i (omega arith)

  arms_kept : (i : ℕ) → (arm_part 8) ≤ i → get_or s₂ i 0 ≡ get_or a i 0
  arms_kept i h = enables.others.behind i (omega arith) ∙ kept₁ i (λ z. omega arith)

  arms_joined : MasksJoined (arm_part 8) nodes (λ x. x) a b s₆
  arms_joined =
      record {
        first = λ n h. arms_now (mask_place 8 (arm_part 8) n) (omega arith) ∙ arms.others.before (mask_place 8 (arm_part 8) n) (omega arith) ∙ arms_kept (mask_place 8 (arm_part 8) n) (omega arith);
        second = λ n h. arms_now (mask_place 8 (arm_part 8) (nodes + n)) (omega arith) ∙ arms.masks n h;
        neither = λ n h l. arms_now (mask_place 8 (arm_part 8) n) (omega arith) ∙ arms.others.behind (mask_place 8 (arm_part 8) n) (omega arith) ∙ arms_kept (mask_place 8 (arm_part 8) n) (omega arith);
      }

  -- So each part shows what the joined table shows.
  abbrev of_first : ℕ
  of_first = dimension_at a

  below_ports : of_first < port_count
  below_ports = omega (arith, j.first, j.room)

  owner_shown : (n p : ℕ) → owner_at s₆ n p ≡ at_new_port of_first (λ n. 0) (of_halves of_first (owner_at a) (λ n p. renumbered (8 * 2 ^ of_first) (owner_at b n p))) n p
  unfolding at_new_port of_halves renumbered
  owner_shown n p =
      shown_owner s₆ bytes.long n p ∙ go (same? p of_first)
      ∙ sym (ap₂ (λ x y. cond (eqb p of_first) 0 (cond (ltb n (2 ^ of_first)) x (renumbered (8 * 2 ^ of_first) y))) (shown_owner a j.first_long n p) (shown_owner b j.second_long (n - 2 ^ of_first) p))
    where
      halves : entry_at 8 (link_part 8) s₆ n p ≡ cond (ltb n (2 ^ of_first)) (entry_at 8 (link_part 8) a n p) (renumbered (8 * 2 ^ of_first) (entry_at 8 (link_part 8) b (n - 2 ^ of_first) p))
      halves =
          entry_joined (link_part 8) nodes most a b s₆ links_joined n p (no_owner a j.first_long nodes first_nodes j.first_sound n p) (λ q h. no_owner b j.second_long nodes second_nodes j.second_sound q p h)
          ∙ ap (λ x. cond (ltb n x) (entry_at 8 (link_part 8) a n p) (renumbered (8 * x) (entry_at 8 (link_part 8) b (n - x) p))) first_nodes

      none : p ≡ of_first → (x : Bool) → cond x (entry_at 8 (link_part 8) a n p) (renumbered (8 * 2 ^ of_first) (entry_at 8 (link_part 8) b (n - 2 ^ of_first) p)) ≡ 0
      none e true = ap (entry_at 8 (link_part 8) a n) e ∙ no_new_owner a j.first_long (omega (arith, j.room, j.first)) j.first_sound n
      none e false =
          let same : p ≡ dimension_at b = e ∙ sym j.first ∙ j.second in
          renumbered_none (8 * 2 ^ of_first) (ap (entry_at 8 (link_part 8) b (n - 2 ^ of_first)) same ∙ no_new_owner b j.second_long (omega (arith, j.room, j.second)) j.second_sound (n - 2 ^ of_first))

      go : (p ≡ of_first) ⊎ (p ≢ of_first) → entry_at 8 (link_part 8) s₆ n p
          ≡ cond (eqb p of_first) 0 (cond (ltb n (2 ^ of_first)) (entry_at 8 (link_part 8) a n p) (renumbered (8 * 2 ^ of_first) (entry_at 8 (link_part 8) b (n - 2 ^ of_first) p)))
      go (inl e) = rw (eq-eqb p of_first e) (halves ∙ none e (ltb n (2 ^ of_first)))
      go (inr h) = rw (ne_eqb p of_first h) halves

  receiver_shown : (n k : ℕ) → receiver_at s₆ n k ≡ of_halves of_first (receiver_at a) (λ n k. renumbered (8 * 2 ^ of_first) (receiver_at b n k)) n k
  unfolding of_halves renumbered
  receiver_shown n k =
      shown_receiver s₆ bytes.long n k ∙ entry_joined (receive_part 8) nodes most a b s₆ receives_joined n k (no_receiver a j.first_long nodes first_nodes j.first_sound n k) (λ q h. no_receiver b j.second_long nodes second_nodes j.second_sound q k h)
      ∙ ap (λ x. cond (ltb n x) (entry_at 8 (receive_part 8) a n k) (renumbered (8 * x) (entry_at 8 (receive_part 8) b (n - x) k))) first_nodes
      ∙ sym (ap₂ (λ x y. cond (ltb n (2 ^ of_first)) x (renumbered (8 * 2 ^ of_first) y)) (shown_receiver a j.first_long n k) (shown_receiver b j.second_long (n - 2 ^ of_first) k))

  armed_shown : (n k : ℕ) → armed_at s₆ n k ≡ of_halves of_first (armed_at a) (armed_at b) n k
  unfolding of_halves
  armed_shown n k =
      shown_armed s₆ bytes.long n k ∙ mask_joined (arm_part 8) nodes most a b s₆ (λ x. x) arms_joined n k (λ x. refl) (no_armed a j.first_long nodes first_nodes j.first_sound n k) (λ q h. no_armed b j.second_long nodes second_nodes j.second_sound q k h)
      ∙ ap (λ x. cond (ltb n x) (mask_at 8 (arm_part 8) a n k) (mask_at 8 (arm_part 8) b (n - x) k)) first_nodes
      ∙ sym (ap₂ (cond (ltb n (2 ^ of_first))) (shown_armed a j.first_long n k) (shown_armed b j.second_long (n - 2 ^ of_first) k))

  enabled_shown : (n p : ℕ) → enabled_at s₆ n p ≡ at_new_port of_first (is_node (unfolded (suc of_first))) (of_halves of_first (enabled_at a) (enabled_at b)) n p
  unfolding at_new_port of_halves
  enabled_shown n p =
      shown_enabled s₆ bytes.long n p ∙ go (same? p of_first)
      ∙ sym (ap₂ (λ x y. cond (eqb p of_first) (ltb n (2 ^ suc of_first)) (cond (ltb n (2 ^ of_first)) x y)) (shown_enabled a j.first_long n p) (shown_enabled b j.second_long (n - 2 ^ of_first) p))
    where
      go : (p ≡ of_first) ⊎ (p ≢ of_first) → mask_at 8 (enable_part 8) s₆ n p
          ≡ cond (eqb p of_first) (ltb n (2 ^ suc of_first)) (cond (ltb n (2 ^ of_first)) (mask_at 8 (enable_part 8) a n p) (mask_at 8 (enable_part 8) b (n - 2 ^ of_first) p))
      go (inl e) =
          let all : 2 * nodes ≡ 2 ^ suc of_first = omega (arith, first_nodes) in
          rw (eq-eqb p of_first e)
          (mask_set (enable_part 8) nodes most a b s₆ (λ x. bit_or x (2 ^ D)) enables_joined n p (omega (arith, below_ports)) (λ x. port_on x D p (e ∙ sym j.first)) (no_enabled a j.first_long nodes first_nodes j.first_sound n p)
          ∙ ap (ltb n) all)
      go (inr h) =
          rw (ne_eqb p of_first h)
          (mask_joined (enable_part 8) nodes most a b s₆ (λ x. bit_or x (2 ^ D)) enables_joined n p (λ x. port_off x D p (λ e. h (e ∙ j.first))) (no_enabled a j.first_long nodes first_nodes j.first_sound n p)
          (λ q l. no_enabled b j.second_long nodes second_nodes j.second_sound q p l)
          ∙ ap (λ x. cond (ltb n x) (mask_at 8 (enable_part 8) a n p) (mask_at 8 (enable_part 8) b (n - x) p)) first_nodes)

  joined_shown : view s₆ ≡ joined_view (view a) (view b)
  unfolding view joined_view dimension_at
  joined_shown = λ i.
      record {
        dimension = dimension_shown i;
        fold = fold_none s₆ bytes.long i;
        enabled = λ n p. enabled_shown n p i;
        owner = λ n p. owner_shown n p i;
        receiver = λ n k. receiver_shown n k i;
        armed = λ n k. armed_shown n k i;
      }

  -- They are bytes, so they are those that show it.
  pub joined_encoded : s₆ ≡ encode (joined_view (view a) (view b))
  joined_encoded = encode_shown s₆ _ bytes joined_shown
