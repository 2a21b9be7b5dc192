-- JoinSays leaves no choice: a number and bytes of which it holds are those that the call answers and leaves.
-- Assumes nothing.
use mathlib.Core.Path.{◌≡◌, ap, sym, ◌∙◌}
use mathlib.Core.Logic.{⊎_elim, inl, inr}
use mathlib.Core.List.{List}
use Prim.Native.Nat.{ℕ, suc, ◌+◌, ◌^◌, ◌<◌, ◌≤◌}
use native.Mathlib.Omega.{arith}
use lib.ListN.{length}
use native.Mathlib.Nat.{pow-succ'}
use Rattle.cube.specs.Cube.{port_count, largest_dimension}
use Rattle.common.specs.Tests.{refusal}
use Rattle.common.proofs.Tests.{same?, below_or}
use Rattle.paths.specs.CubeNetwork.{Node, LinkOf}
use Rattle.table.specs.View.{View, view, shape_of}
use Rattle.table.specs.Encode.{AllBytes}
use Rattle.table.proofs.Encode.{encode_view}
use Rattle.layout.proofs.Folds.{fold_none}
use Rattle.table.specs.Encode.{encode}
use Rattle.soundness.specs.TableTests.{table_tests}
use Rattle.ownership.proofs.Stops.{pass_tests}
use Rattle.ownership.proofs.FromTable.{sound_represents}
use Rattle.joining.specs.Joined.{join_step}
use Rattle.joining.specs.JoinSays.{PassesTests, HalfCarried, JoinNumber, JoinSays}
use Rattle.joining.proofs.HalfNodes.{port_below}
use Rattle.joining.proofs.FirstOf.{in_halves}
use Rattle.joining.proofs.JoinNumbers.{join_numbers, join_represents, join_says}

-- What two tables show of a half that both carry is the same.
module _ {D : ℕ} {x y z : View} {s c : ℕ} (one : HalfCarried D x y s c) (other : HalfCarried D x z s c) where
  enabled_alike : (n p : ℕ) → n < 2 ^ D → p < D → y.enabled (n + s) p ≡ z.enabled (n + s) p
  enabled_alike n p l m = one.enabled n p l m ∙ sym (other.enabled n p l m)

  armed_alike : (n k : ℕ) → n < 2 ^ D → y.armed (n + s) k ≡ z.armed (n + s) k
  armed_alike n k l = one.armed n k l ∙ sym (other.armed n k l)

  owner_alike : (n p : ℕ) → n < 2 ^ D → p < D → y.owner (n + s) p ≡ z.owner (n + s) p
  owner_alike n p l m =
      ⊎_elim (λ e. one.unheld n p l m e ∙ sym (other.unheld n p l m e)) (λ f. one.held n p l m f ∙ sym (other.held n p l m f)) (same? (x.owner n p) 0)

  receiver_alike : (n k : ℕ) → n < 2 ^ D → y.receiver (n + s) k ≡ z.receiver (n + s) k
  receiver_alike n k l =
      ⊎_elim (λ e. one.untaken n k l e ∙ sym (other.untaken n k l e)) (λ f. one.taken n k l f ∙ sym (other.taken n k l f)) (same? (x.receiver n k) 0)

-- A number is a node of the first half, one of the second, or no node of the joined cube.
in_joined : (D : ℕ) (P : ℕ → Type 0) → ((n : ℕ) → n < 2 ^ D → P (n + 0)) → ((n : ℕ) → n < 2 ^ D → P (n + 2 ^ D)) → ((n : ℕ) → 2 ^ suc D ≤ n → P n) → (n : ℕ) → P n
in_joined D P first second neither = in_halves D P one other
  where
    one : (n : ℕ) → n < 2 ^ D → P n
    one n l = let z : n + 0 ≡ n = omega arith in rw z at (first n l)

    other : (n : ℕ) → P (n + 2 ^ D)
    other n = ⊎_elim (second n) (λ l. neither (n + 2 ^ D) (omega (arith, pow-succ' 2 D))) (below_or (2 ^ D) n)

-- A table of dimension D + 1 has no node from 2^(D + 1) on, and a narrow one no port above D.
module _ {D : ℕ} (v : View) (known : v.dimension ≡ suc D) where
  node_beyond : (n : ℕ) → 2 ^ suc D ≤ n → Node (shape_of v) n → ⊥
  node_beyond n l h = let i : n < 2 ^ suc D = rw known at h in omega arith

  port_beyond : v.fold ≡ 0 → v.dimension ≤ largest_dimension → (n p : ℕ) → D < p → LinkOf (shape_of v) n p → ⊥
  port_beyond plain small n p l h = omega (arith, known, port_below v.dimension v.fold p plain small h.1)

-- What the words hold of is a narrow table.
module _ {D : ℕ} {a b d : List ℕ} (says : JoinSays D a b d) where
  plain : (view d).fold ≡ 0
  unfolding view
  plain = fold_none d (pass_tests port_count d says.sound).0

  small : (view d).dimension ≤ largest_dimension
  unfolding view
  small = (pass_tests port_count d says.sound).2

-- Two tables of both of which the words hold show the same.
module _ {D : ℕ} {a b d e : List ℕ} (one : JoinSays D a b d) (other : JoinSays D a b e) where
  abbrev v : View
  v = view d

  abbrev w : View
  w = view e

  -- of links: the ports of both halves, the new port, and those that are none
  links_alike : {A : Type 0} (f g : ℕ → ℕ → A) → ((n p : ℕ) → n < 2 ^ D → p < D → f (n + 0) p ≡ g (n + 0) p)
      → ((n p : ℕ) → n < 2 ^ D → p < D → f (n + 2 ^ D) p ≡ g (n + 2 ^ D) p) → ((n : ℕ) → n < 2 ^ suc D → f n D ≡ g n D)
      → ((n p : ℕ) → (LinkOf (shape_of v) n p → ⊥) → (LinkOf (shape_of w) n p → ⊥) → f n p ≡ g n p) → (n p : ℕ) → f n p ≡ g n p
  links_alike f g first second new none n p = ⊎_elim below (λ l. ⊎_elim (λ i. at_new (sym i)) (λ ne. beyond (omega arith)) (same? D p)) (below_or D p)
    where
      outside : (n : ℕ) → 2 ^ suc D ≤ n → f n p ≡ g n p
      outside n l = none n p (λ h. node_beyond v one.dimension n l h.0) (λ h. node_beyond w other.dimension n l h.0)

      below : p < D → f n p ≡ g n p
      below m = in_joined D (λ n. f n p ≡ g n p) (λ n l. first n p l m) (λ n l. second n p l m) outside n

      at_new : p ≡ D → f n p ≡ g n p
      at_new i = ⊎_elim (λ l. rw i (new n l)) (outside n) (below_or (2 ^ suc D) n)

      beyond : D < p → f n p ≡ g n p
      beyond l = none n p (port_beyond v one.dimension (plain one) (small one) n p l) (port_beyond w other.dimension (plain other) (small other) n p l)

  views_alike : view d ≡ view e
  views_alike = λ i.
      record {
        dimension = (one.dimension ∙ sym other.dimension) i;
        fold = (plain one ∙ sym (plain other)) i;
        enabled = λ n p. links_alike v.enabled w.enabled (enabled_alike one.first other.first) (enabled_alike one.second other.second)
            (λ n l. one.new_enabled n l ∙ sym (other.new_enabled n l)) (λ n p h k. (one.is_sound.absent_link n p h).0 ∙ sym (other.is_sound.absent_link n p k).0) n p i;
        owner = λ n p. links_alike v.owner w.owner (owner_alike one.first other.first) (owner_alike one.second other.second)
            (λ n l. one.new_free n l ∙ sym (other.new_free n l)) (λ n p h k. (one.is_sound.absent_link n p h).1 ∙ sym (other.is_sound.absent_link n p k).1) n p i;
        receiver = λ n k. in_joined D (λ n. v.receiver n k ≡ w.receiver n k) (λ n l. receiver_alike one.first other.first n k l) (λ n l. receiver_alike one.second other.second n k l)
            (λ n l. one.is_sound.absent_receive n k (node_beyond v one.dimension n l) ∙ sym (other.is_sound.absent_receive n k (node_beyond w other.dimension n l))) n i;
        armed = λ n k. in_joined D (λ n. v.armed n k ≡ w.armed n k) (λ n l. armed_alike one.first other.first n k l) (λ n l. armed_alike one.second other.second n k l)
            (λ n l. one.is_sound.absent_armed n k (node_beyond v one.dimension n l) ∙ sym (other.is_sound.absent_armed n k (node_beyond w other.dimension n l))) n i;
      }

  -- and have the same bytes.
  pub says_same : AllBytes d → AllBytes e → d ≡ e
  says_same small its =
      sym (encode_view d (pass_tests port_count d one.sound).0 small) ∙ ap encode views_alike ∙ encode_view e (pass_tests port_count e other.sound).0 its

-- So what the words hold of after an accepted call are the bytes that the call leaves.
pub says_exactly : (a b c d : List ℕ) → AllBytes a → AllBytes b → (join_step a b c).result.number ≡ 0 → AllBytes d → JoinSays (view a).dimension a b d → d ≡ (join_step a b c).state
says_exactly a b c d small its z bytes says =
    let r = (join_numbers a b c).accepted.0 z in
    let left = join_represents a b c _ _ (sound_represents port_count a small r.0) (sound_represents port_count b its r.1) z in
    says_same says (join_says a b c small its z) bytes left.bytes.small

-- Two outcomes of both of which the meaning of the numbers holds have one number.
numbers_same : {a b c d e : List ℕ} {n m : ℕ} → JoinNumber a b c n d → JoinNumber a b c m e → n ≡ m
numbers_same {a} {b} {c} {d} {e} {n} {m} one other = ⊎_elim first_passes (λ f. one.first f ∙ sym (other.first f)) (same? (refusal (table_tests port_count a)) 0)
  where
    joins : PassesTests a → PassesTests b → length c ≡ 8705 → (view a).dimension ≡ (view b).dimension → n ≡ m
    joins p q l i =
        ⊎_elim (λ z. one.unjoinable p q l (inr z) ∙ sym (other.unjoinable p q l (inr z))) (λ f. one.accepted.1 (p, q, l, i, f) ∙ sym (other.accepted.1 (p, q, l, i, f)))
        (same? (view a).dimension 8)

    third_passes : PassesTests a → PassesTests b → length c ≡ 8705 → n ≡ m
    third_passes p q l =
        ⊎_elim (joins p q l) (λ f. one.unjoinable p q l (inl f) ∙ sym (other.unjoinable p q l (inl f))) (same? (view a).dimension (view b).dimension)

    second_passes : PassesTests a → PassesTests b → n ≡ m
    second_passes p q = ⊎_elim (third_passes p q) (λ f. one.third p q f ∙ sym (other.third p q f)) (same? (length c) 8705)

    first_passes : PassesTests a → n ≡ m
    first_passes p = ⊎_elim (second_passes p) (λ f. one.second p f ∙ sym (other.second p f)) (same? (refusal (table_tests port_count b)) 0)

-- So a number and bytes of which the meaning of the numbers holds, and where it is accepted the words about its bytes, are those of the call.
pub number_exactly : (a b c : List ℕ) (n : ℕ) (d : List ℕ) → AllBytes a → AllBytes b → JoinNumber a b c n d → (n ≡ 0 → AllBytes d × JoinSays (view a).dimension a b d)
    → (n ≡ (join_step a b c).result.number) × (d ≡ (join_step a b c).state)
number_exactly a b c n d small its meaning says =
    let called = join_numbers a b c in
    let same = numbers_same meaning called in
    (same, ⊎_elim (λ z. says_exactly a b c d small its (sym same ∙ z) (says z).0 (says z).1) (λ f. meaning.unchanged f ∙ sym (called.unchanged (λ z. f (same ∙ z)))) (same? n 0))
