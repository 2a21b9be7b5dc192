-- The test of a whole table from the tests of its entries, and what its answer says.
-- Assumes nothing.
use mathlib.Core.Path.{◌≡◌, refl, ap, sym, ◌∙◌, subst}
use mathlib.Core.Bool.{Bool, true, false, ◌&&◌, not, and-false}
use mathlib.Core.List.{List, [], ◌∷◌}
use mathlib.Core.Logic.{◌⊎◌, inl, inr, ◌≢◌}
use Prim.Native.Nat.{ℕ, ◌+◌, ◌*◌, ◌^◌, ◌≤◌, ◌<◌}
use native.Mathlib.Omega.{arith}
use lib.Dec.{ltb, leb, lit≤}
use lib.ListN.{length, get_or}
use borrow.Author.Tests.{lt-ltb, eq-eqb, ne_eqb, le-leb, lt-leb}
use Rattle.cube.specs.Cube.{largest_dimension, channels, cube_nodes}
use Rattle.common.specs.Decides.{Decides}
use Rattle.common.specs.Tests.{refusal, test}
use Rattle.common.proofs.Tests.{accepted, and, below_or, both, both_below, clash, is_false, passed, refused, same?}
use Rattle.common.specs.Lists.{every}
use Rattle.common.proofs.Every.{at, all}
use Rattle.cube.specs.Bits.{has}
use Rattle.cube.proofs.Bits.{zero_has}
use Rattle.layout.specs.Layout.{length_of, ports_in, in_table, dimension_at, mask_size, mask_number, mask_place, mask_at, enable_part, enabled_at, arm_part, armed_at, entry_at, owner_at, receiver_at}
use Rattle.layout.specs.Resources.{Width, width_in}
use Rattle.entries.specs.EntryContracts.{enable_bits, arm_bits}
use Rattle.paths.specs.CubeNetwork.{LinkOf}
use Rattle.table.specs.TableContracts.{EnablesFit, ArmsFit}
use Rattle.table.specs.View.{View, view, shape_of}
use Rattle.layout.proofs.Entries.{inside}
use Rattle.soundness.specs.Sound.{Sound}
use Rattle.soundness.specs.SoundTest.{mask_bits, link_test, receive_test, sound_test}
use Rattle.soundness.specs.TestContracts.{TableAnswer}
use Rattle.soundness.specs.TableTests.{table_tests}
use Rattle.soundness.proofs.Soundness.{Framed, EntriesPass, sound_entries, entries_sound}

-- a link that the cube lacks is off where the enable bits of its node are those of links of the cube
pub off : (b : List ℕ) (n p : ℕ) → n < 256 → EnablesFit b → (LinkOf (shape_of (view b)) n p → ⊥) → enabled_at b n p ≡ false
unfolding enabled_at mask_at enable_bits EnablesFit
off b n p h fit out = rw (is_false (has (mask_number (ports_in b) b (mask_place (ports_in b) (enable_part (ports_in b)) n)) p) (λ t. out (fit n p h t))) (and-false (in_table (8 * mask_size (ports_in b)) n p))

-- the byte of a node's armed channels is its mask
pub arm_number : (b : List ℕ) (n : ℕ) → arm_bits b n ≡ mask_number 8 b (mask_place 8 (arm_part (ports_in b)) n)
unfolding arm_bits mask_number
arm_number b n = let e : arm_part (ports_in b) + n ≡ mask_place 8 (arm_part (ports_in b)) n = omega arith in ap (λ i. get_or b i 0) e

-- a channel of a node that the cube lacks is not armed where the masks of such nodes are 0
pub unarmed : (b : List ℕ) (D n k : ℕ) → ArmsFit b D → cube_nodes D ≤ n → armed_at b n k ≡ false
unfolding armed_at mask_at ArmsFit
unarmed b D n k fit l = go (in_table 8 n k) refl
  where
    go : (x : Bool) → in_table 8 n k ≡ x → x && has (mask_number 8 b (mask_place 8 (arm_part (ports_in b)) n)) k ≡ false
    go true e = ap (λ y. has y k) (sym (arm_number b n) ∙ fit n l (inside {w = 8} n k e).0) ∙ zero_has k
    go false e = refl

-- the whole test passes where every entry does, and only there
module _ (v : View) where
  all_pass : EntriesPass v → sound_test v ≡ true
  unfolding sound_test
  all_pass e = and e.fold_passes (all 256 (λ n. every mask_bits (link_test v n) && every channels (receive_test v n)) (λ n l.
      and (all 24 (link_test v n) (λ p h. e.links_pass n p l h)) (all 8 (receive_test v n) (λ k h. e.receives_pass n k l h))))

  pass_all : sound_test v ≡ true → EntriesPass v
  unfolding sound_test
  pass_all t = record { fold_passes = (parts t).0; links_pass = λ n p l h. at 24 (link_test v n) (node n l).0 p h; receives_pass = λ n k l h. at 8 (receive_test v n) (node n l).1 k h }
    where
      parts : ltb v.fold (2 ^ v.dimension) && every 256 (λ n. every mask_bits (link_test v n) && every channels (receive_test v n)) ≡ true
          → (ltb v.fold (2 ^ v.dimension) ≡ true) × (every 256 (λ n. every mask_bits (link_test v n) && every channels (receive_test v n)) ≡ true)
      parts e = both _ _ e

      node : (n : ℕ) → n < 256 → (every mask_bits (link_test v n) ≡ true) × (every channels (receive_test v n) ≡ true)
      node n l = both (every mask_bits (link_test v n)) (every channels (receive_test v n)) (at 256 (λ n. every mask_bits (link_test v n) && every channels (receive_test v n)) (parts t).1 n l)

  -- so it answers whether the table is sound
  pub tested : v.dimension ≤ largest_dimension → Framed v → Decides (Sound v) (sound_test v)
  tested fits framed =
      record {
        holds = λ t. entries_sound v fits framed (pass_all t);
        fails = λ t s. clash (all_pass (sound_entries v s)) t;
      }

-- nothing lies outside 256 nodes and the entries of a row, or the bits of a mask
pub outside : {v w : ℕ} → v ≤ w → (n p : ℕ) → in_table w n p ≡ false → in_table v n p ≡ false
outside {v} {w} l n p o = is_false (in_table v n p) (λ e. let r = both_below {n = n} {a = 256} {p = p} {b = v} e in clash (and (lt-ltb n 256 r.0) (lt-ltb p w (omega arith))) o)

pub view_framed : (b : List ℕ) → Framed (view b)
unfolding view enabled_at armed_at mask_at owner_at receiver_at entry_at
view_framed b =
    record {
      no_link = λ n p o.
          (rw (outside {v = 8 * mask_size (ports_in b)} {w = 24} (masks_most (width_in b)) n p o) refl, rw (outside {v = ports_in b} {w = 24} (ports_most (width_in b)) n p o) refl);
      no_receive = λ n k o. rw o;
      no_armed = λ n k o. rw o;
    }
  where
    masks_most : {w : ℕ} → Width w → 8 * mask_size w ≤ 24
    masks_most (inl e) = rw e (lit≤ tt)
    masks_most (inr e) = rw e (lit≤ tt)

    ports_most : {w : ℕ} → Width w → w ≤ 24
    ports_most (inl e) = rw e (lit≤ tt)
    ports_most (inr e) = rw e (lit≤ tt)

-- so the test decides whether a table of a cube is sound
pub decided : (b : List ℕ) → dimension_at b ≤ largest_dimension → Decides (Sound (view b)) (sound_test (view b))
unfolding view
decided b h = tested (view b) h (view_framed b)

-- and so any other answer to that is the test's
pub same_answer : {P : Type 0} (x y : Bool) → Decides P x → Decides P y → x ≡ y
same_answer true true d e = refl
same_answer true false d e = absurd (e.fails refl (d.holds refl))
same_answer false true d e = absurd (d.fails refl (e.holds refl))
same_answer false false d e = refl

-- the answers of checking a table
module _ (q : ℕ) (b : List ℕ) where
  earlier : {n : ℕ} → n ≢ 0 → n ≢ 3 → n ≡ refusal (table_tests q b) → TableAnswer q b n
  earlier h k e = record { tests = e; sound = λ z. absurd (h z); not_sound = λ z. absurd (k z) }

  pub wrong_length : length b ≢ length_of q → TableAnswer q b 1
  unfolding table_tests
  wrong_length h = earlier (omega arith) (omega arith) (sym (refused 1 _ (rw (ne_eqb (length b) (length_of q) h))))

  second : length b ≡ length_of q → not (leb 1 (dimension_at b) && leb (dimension_at b) largest_dimension) ≡ true → TableAnswer q b 2
  unfolding table_tests view
  second l e = earlier (omega arith) (omega arith) (sym (passed 1 _ (rw (eq-eqb (length b) (length_of q) l)) ∙ refused 2 _ e))

  pub no_dimension : length b ≡ length_of q → dimension_at b < 1 → TableAnswer q b 2
  no_dimension l h = second l (rw (lt-leb 1 (dimension_at b) h))

  pub large_dimension : length b ≡ length_of q → 1 ≤ dimension_at b → largest_dimension < dimension_at b → TableAnswer q b 2
  large_dimension l k h = second l (rw (le-leb 1 (dimension_at b) k, lt-leb (dimension_at b) 8 h))

  module _ (l : length b ≡ length_of q) (k : 1 ≤ dimension_at b) (h : dimension_at b ≤ largest_dimension) where
    third : refusal (table_tests q b) ≡ refusal (test (not (sound_test (view b))) 3 ∷ [])
    unfolding table_tests view
    third = passed 1 _ (rw (eq-eqb (length b) (length_of q) l)) ∙ passed 2 _ (rw (le-leb 1 (dimension_at b) k, le-leb (dimension_at b) 8 h))

    pub not_sound : sound_test (view b) ≡ false → TableAnswer q b 3
    not_sound e = record { tests = sym (third ∙ refused 3 _ (rw e)); sound = λ e. absurd (omega arith); not_sound = λ z. (decided b h).fails e }

    pub usable : sound_test (view b) ≡ true → TableAnswer q b 0
    usable e = record { tests = sym (third ∙ passed 3 _ (rw e) ∙ accepted); sound = λ z. (decided b h).holds e; not_sound = λ z. absurd (omega arith) }

  -- and what the first test that applies says, whichever it is
  pub answers : TableAnswer q b (refusal (table_tests q b))
  answers = go (same? (length b) (length_of q)) (below_or 1 (dimension_at b)) (below_or 9 (dimension_at b)) (sound_test (view b)) refl
    where
      first_applies : {n : ℕ} → TableAnswer q b n → TableAnswer q b (refusal (table_tests q b))
      first_applies a = subst (TableAnswer q b) a.tests a

      go : (length b ≡ length_of q) ⊎ (length b ≢ length_of q) → (dimension_at b < 1) ⊎ (1 ≤ dimension_at b) → (dimension_at b < 9) ⊎ (9 ≤ dimension_at b)
          → (x : Bool) → sound_test (view b) ≡ x → TableAnswer q b (refusal (table_tests q b))
      go (inr f) d m x e = first_applies (wrong_length f)
      go (inl l) (inl d) m x e = first_applies (no_dimension l d)
      go (inl l) (inr d) (inr m) x e = first_applies (large_dimension l d (omega arith))
      go (inl l) (inr d) (inl m) false e = first_applies (not_sound l d (omega arith) e)
      go (inl l) (inr d) (inl m) true e = first_applies (usable l d (omega arith) e)

-- With these the check proves what a wrong length or dimension answers.
pub ruleset checks = (wrong_length, no_dimension, large_dimension)
