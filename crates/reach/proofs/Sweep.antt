-- The sweep over the cube: nodes in rising order of the bits in which they differ from the target, each marked by the marks of nodes that differ in fewer.
-- Assumes nothing.
use mathlib.Core.Path.{◌≡◌, refl, ap, sym, ◌∙◌}
use mathlib.Core.Logic.{◌≢◌, ⊎_elim}
use mathlib.Core.Bool.{Bool, true, false, ◌&&◌, ◌||◌}
use mathlib.Core.List.{List}
use Prim.Native.Nat.{ℕ, ◌+◌, ◌-◌, ◌*◌, ◌^◌, ◌≤◌, ◌<◌}
use native.Mathlib.Omega.{arith}
use lib.Dec.{eqb}
use lib.ListN.{length, set, length-set}
use lib.Seq.{get_or-set_same, get_or-set_other}
use lib.Pow.{pow_pos}
use native.Mathlib.Nat.{lt_of_le_of_lt}
use lib.Bits.{bit_xor, bit_and, and_le_l, xor_lt, xor_self, xor_zero_l}
use borrow.Author.Tests.{eq-eqb, ne_eqb}
use Rattle.common.specs.Lists.{◌∈◌, any}
use Rattle.common.proofs.Tests.{both, and, or_left, same?}
use Rattle.cube.specs.Axes.{positions, axis}
use Rattle.cube.specs.Bits.{bit_at, has, flip}
use Rattle.cube.specs.Cube.{cube_nodes, NodeOf, VectorOf, next}
use Rattle.cube.specs.CubeContracts.{WithPartners}
use Rattle.cube.specs.Helical.{ports_of}
use Rattle.cube.proofs.Bits.{bit_lt, two_bits, bit_xor_lem, bit_flipped, bit_kept, same_bits, flip_inside, flip_drops, has_and}
use Rattle.cube.proofs.Order.{ports_mem, mem_ports, low_port}
use Rattle.cube.proofs.Ports.{below_256, uphill_of}
use Rattle.paths.specs.Network.{Network, offered}
use Rattle.paths.specs.Pass.{pass}
use Rattle.paths.specs.Waiting.{finds_path}
use Rattle.paths.specs.CubeNetwork.{Shape, network, send_ports}
use Rattle.paths.proofs.CubeNetwork.{cube_nearing, port_axis, port_inside, offered_port, send_port}
use Rattle.paths.proofs.FoldedCube.{partners_offered, partners_send, send_there, board_port}
use Rattle.paths.proofs.HelixLinks.{port_largest}
use Rattle.paths.specs.BoardPorts.{BoardPorts}
use Rattle.paths.specs.HelixLinks.{largest}
use Rattle.paths.proofs.Reach.{any_both, any_same, pass_reaches, reaches_step}
use Rattle.layout.specs.Layout.{dimension_at}
use Rattle.layout.specs.Resources.{LayoutLaws}
use Rattle.layout.specs.Layout.{mask_size}
use Rattle.entries.specs.EntryContracts.{enable_bits}
use Rattle.table.specs.View.{view, net, shape_of}
use Rattle.answers.proofs.EnabledBits.{enabled_bits}
use Rattle.reach.specs.Marks.{reach_mark, leads_to_marked, reaches_on, ReachMarks, MaySweep}

-- `^` with a number twice changes nothing, and a bit changed before or behind it is the same
pub xor_back : (w x t : ℕ) → x < 2 ^ w → t < 2 ^ w → bit_xor (bit_xor x t) t ≡ x
xor_back w x t h l =
    same_bits w (bit_xor (bit_xor x t) t) x (xor_lt w (bit_xor x t) t (xor_lt w x t h l) l) h
    (λ p k. rw (bit_xor_lem (bit_xor x t) t p, bit_xor_lem x t p)
    (two_bits (λ a b. bit_xor (bit_xor a b) b ≡ a) refl refl refl refl (bit_at x p) (bit_at t p) (bit_lt x p) (bit_lt t p)))

xor_flip : (w x t p : ℕ) → x < 2 ^ w → t < 2 ^ w → p < w → flip (bit_xor x t) p ≡ bit_xor (flip x p) t
xor_flip w x t p h l k =
    same_bits w _ _ (flip_inside w (bit_xor x t) p (xor_lt w x t h l) k) (xor_lt w (flip x p) t (flip_inside w x p h k) l) (λ q j. ⊎_elim same (other q) (same? q p))
  where
    here : bit_at (flip (bit_xor x t) p) p ≡ bit_at (bit_xor (flip x p) t) p
    here =
        rw (bit_flipped (bit_xor x t) p, bit_xor_lem x t p, bit_xor_lem (flip x p) t p, bit_flipped x p)
        (two_bits (λ a b. 1 - bit_xor a b ≡ bit_xor (1 - a) b) refl refl refl refl (bit_at x p) (bit_at t p) (bit_lt x p) (bit_lt t p))

    same : {q : ℕ} → q ≡ p → bit_at (flip (bit_xor x t) p) q ≡ bit_at (bit_xor (flip x p) t) q
    same e = rw e here

    other : (q : ℕ) → q ≢ p → bit_at (flip (bit_xor x t) p) q ≡ bit_at (bit_xor (flip x p) t) q
    other q n = rw (bit_kept (bit_xor x t) p q n, bit_xor_lem x t q, bit_xor_lem (flip x p) t q, bit_kept x p q n)

-- some port of a vector passes that a byte has too, exactly where some port of the vector is in the byte and passes
narrowed : (f g : ℕ → Bool) (v bits : ℕ) → ((p : ℕ) → p < positions → g p ≡ has bits p) → any f (ports_of positions (bit_and v bits)) ≡ any (λ p. g p && f p) (ports_of positions v)
narrowed f g v bits h =
    any_both f (λ p. g p && f p) (ports_of positions (bit_and v bits)) (ports_of positions v)
    (λ p m e. let k = ports_mem 18 (bit_and v bits) m in
    let j = both (has v p) (has bits p) (sym (has_and v bits p) ∙ k.1) in
    (p, mem_ports 18 v p k.0 j.0, and (h p k.0 ∙ j.1) e))
    (λ p m e. let k = ports_mem 18 v m in
    let j = both (g p) (f p) e in
    (p, mem_ports 18 (bit_and v bits) p k.0 (has_and v bits p ∙ and k.1 (sym (h p k.0) ∙ j.0)), j.1))

-- the marks of all nodes that differ from the target in a vector below x are right
pub record Swept (b : List ℕ) (t x : ℕ) (marks : List Bool) : Type 0 where
  pub size : length marks ≡ 256
  pub right : (k : ℕ) → k < x → VectorOf (dimension_at b) k → reach_mark marks (bit_xor k t) ≡ reaches_on b t (bit_xor k t)

-- a port of a vector of a cube leads from one of 256 nodes to one of them
pub leads_inside : {w f n v : ℕ} → n < 256 → BoardPorts w (largest f) v → (p : ℕ) → p ∈ ports_of positions v → (n < 256) × (p < w) × (next n p < 256)
leads_inside {w} {f} {n} {v} i vector p m =
    let on = (ports_mem 18 v m).1 in
    (i, low_port w v p vector.below on, unfold network in port_inside (largest f) n p i (board_port (largest f) vector p on))

-- a part of it is one too
fewer_ports : {w : ℕ} {L : Shape} {v : ℕ} → BoardPorts w L v → (x : ℕ) → BoardPorts w L (bit_and v x)
fewer_ports {w} {L} {v} vector x =
    record { below = lt_of_le_of_lt (and_le_l v x) vector.below; there = λ p e. vector.there p (both (has v p) (has x p) (sym (has_and v x p) ∙ e)).0 }

module _ {long q w f : ℕ} (b : List ℕ) (t : ℕ) (may : MaySweep long q w f b t) where
  abbrev D : ℕ
  D = dimension_at b

  abbrev S : Shape
  S = shape_of (view b)

  abbrev N : Network
  N = net (view b)

  abbrev enabled : ℕ → ℕ → Bool
  enabled = (view b).enabled

  -- A port of a vector leads to a marked node exactly where one does that is enabled and leads to a node that reaches the target, where the marks behind
  -- the vector's ports are right.
  leads_reaches : {enable links receives arms : ℕ} → LayoutLaws long q enable links receives arms → (marks : List Bool) (n v x : ℕ) → NodeOf D n → x ≡ enable_bits b n → x < 2 ^ (8 * mask_size q)
      → ((p : ℕ) → p ∈ ports_of positions v → reach_mark marks (next n p) ≡ reaches_on b t (next n p))
      → leads_to_marked marks n (bit_and v x) ≡ any (λ p. enabled n p && reaches_on b t (N.next n p)) (ports_of positions v)
  unfolding leads_to_marked network
  leads_reaches laws marks n v x i e small right =
      narrowed (λ p. reach_mark marks (next n p)) (enabled n) v x (enabled_bits laws b n x may.bytes (below_256 may.fits i) e small)
      ∙ any_same _ _ (ports_of positions v) (λ p m. ap (enabled n p &&◌) (right p m))

  pub inside : (x : ℕ) → VectorOf D x → NodeOf D (bit_xor x t)
  inside x h = xor_lt D x t h may.target

  pub offered_there : (n v : ℕ) → NodeOf D n → WithPartners f (bit_xor n t) v → offered N t n ≡ ports_of positions v
  unfolding view
  offered_there n v i p = partners_offered S may.fits n t v i may.target (rw (← may.board.folded) p)

  -- the vectors of the code, in the largest cube of that mask
  vector_ports : (y v x : ℕ) → VectorOf D y → WithPartners f y v → v < 2 ^ w → BoardPorts w (largest f) (bit_and v x)
  unfolding view
  vector_ports y v x h wide small =
      fewer_ports
      (record {
        below = small;
        there = λ p e. rw may.board.folded (port_largest S may.fits t may.target p (send_there S may.fits y v h (rw (← may.board.folded) wide) p e));
      }) x

  pub sweep_ports : (x : ℕ) → VectorOf D x → {y v : ℕ} → y ≡ x → WithPartners f y v × (v < 2 ^ w) → (bits : ℕ) → BoardPorts w (largest f) (bit_and v bits)
  sweep_ports x h {y} {v} same wide bits = vector_ports y v bits (rw same h) wide.0 wide.1

  step : (n : ℕ) → reaches_on b t n ≡ eqb n t || any (λ p. enabled n p && reaches_on b t (N.next n p)) (offered N t n)
  unfolding reaches_on
  step n = reaches_step N enabled t (cube_nearing (shape_of (view b)) t) n

  -- The target reaches itself;
  pub swept_target : (marks : List Bool) → length marks ≡ 256 → Swept b t 1 (set marks t true)
  swept_target marks e =
      record {
        size = simp length-set e;
        right = λ k l h. let z : k ≡ 0 = omega arith in rw (z, xor_zero_l t) (here ∙ sym there);
      }
    where
      here : reach_mark (set marks t true) t ≡ true
      here = get_or-set_same marks t true false (omega (arith, below_256 may.fits may.target))

      there : reaches_on b t t ≡ true
      there = step t ∙ or_left _ (eq-eqb t t refl)

  -- of any other node, what the marks of the nodes swept before it say is right,
  pub swept_leads : {enable links receives arms : ℕ} → LayoutLaws long q enable links receives arms → (marks : List Bool) (x y v bits : ℕ) → 0 < x → VectorOf D x → Swept b t x marks → y ≡ x → WithPartners f y v → bits ≡ enable_bits b (bit_xor x t) → bits < 2 ^ (8 * mask_size q)
      → leads_to_marked marks (bit_xor x t) (bit_and v bits) ≡ reaches_on b t (bit_xor x t)
  swept_leads laws marks x y v bits some h s same wide e small =
      leads_reaches laws marks n v bits i e small right
      ∙ sym (step n ∙ rw (off, there) refl)
    where
      n : ℕ
      n = bit_xor x t

      i : NodeOf D n
      i = inside x h

      back : bit_xor n t ≡ x
      back = xor_back D x t h may.target

      there : offered N t n ≡ ports_of positions v
      there = offered_there n v i (rw (back, ← same) wide)

      off : eqb n t ≡ false
      off = ne_eqb n t (λ z. omega (arith, sym back ∙ ap (λ y. bit_xor y t) z ∙ xor_self t))

      -- a port leads to the node whose vector lacks the bit of its axis, which is swept
      right : (p : ℕ) → p ∈ ports_of positions v → reach_mark marks (next n p) ≡ reaches_on b t (next n p)
      right p m =
          let k = offered_port S t n p (rw there m) in
          let l : axis p < D = unfold view in port_axis S p k.0 in
          let u : has x (axis p) ≡ true = ap (λ y. has y (axis p)) (sym back) ∙ (uphill_of n t).bits (axis p) ∙ k.1 in
          rw (xor_flip D x t (axis p) h may.target l) (s.right (flip x (axis p)) (omega (arith, flip_drops x (axis p) u, pow_pos (axis p))) (flip_inside D x (axis p) h l))

  -- so that one more node is swept.
  pub swept_more : (marks : List Bool) (x : ℕ) (r : Bool) → VectorOf D x → Swept b t x marks → r ≡ reaches_on b t (bit_xor x t) → Swept b t (x + 1) (set marks (bit_xor x t) r)
  swept_more marks x r h s e =
      record {
        size = simp length-set s.size;
        right = λ k l j. ⊎_elim (λ z. rw z here) (λ z. other k (omega arith) j) (same? k x);
      }
    where
      here : reach_mark (set marks (bit_xor x t) r) (bit_xor x t) ≡ reaches_on b t (bit_xor x t)
      here = get_or-set_same marks (bit_xor x t) r false (omega (arith, s.size, below_256 may.fits (inside x h))) ∙ e

      other : (k : ℕ) → k < x → VectorOf D k → reach_mark (set marks (bit_xor x t) r) (bit_xor k t) ≡ reaches_on b t (bit_xor k t)
      other k l j = get_or-set_other marks (bit_xor x t) (bit_xor k t) r false apart ∙ s.right k l j
        where
          apart : bit_xor k t ≢ bit_xor x t
          apart z = omega (arith, sym (xor_back D k t j may.target) ∙ ap (λ y. bit_xor y t) z ∙ xor_back D x t h may.target)

  -- With all of them swept, exactly those are marked that reach the target.
  pub swept_all : (marks : List Bool) (x : ℕ) → cube_nodes D ≤ x → Swept b t x marks → ReachMarks b t marks
  unfolding ReachMarks
  swept_all marks x h s n i =
      let k = inside n i in
      let back = xor_back D n t i may.target in
      rw back at (s.right (bit_xor n t) (omega arith) k)

  -- Then a pass would find a path exactly where an enabled port of its vector leads to a marked node.
  pub marks_find : {enable links receives arms : ℕ} → LayoutLaws long q enable links receives arms → (marks : List Bool) (s vector y v bits : ℕ) → ReachMarks b t marks → NodeOf D s → VectorOf D vector → y ≡ vector → WithPartners f y v → bits ≡ enable_bits b s → bits < 2 ^ (8 * mask_size q)
      → leads_to_marked marks s (bit_and v bits) ≡ finds_path (pass N enabled s (send_ports S vector) t)
  marks_find laws marks s vector y v bits m i h same wide e small =
      leads_reaches laws marks s v bits i e small (λ p l. unfold ReachMarks in m (next s p) (there p l))
      ∙ sym found
    where
      sent : send_ports S vector ≡ ports_of positions v
      sent = unfold view in sym (partners_send S may.fits vector v h (rw (← may.board.folded, ← same) wide))

      there : (p : ℕ) → p ∈ ports_of positions v → NodeOf D (next s p)
      there p l = unfold view network in port_inside S s p i ((send_port S vector p).0 (rw sent l)).0

      found : finds_path (pass N enabled s (send_ports S vector) t) ≡ any (λ p. enabled s p && reaches_on b t (N.next s p)) (ports_of positions v)
      found = rw sent (unfold reaches_on in pass_reaches N enabled t s (ports_of positions v))
