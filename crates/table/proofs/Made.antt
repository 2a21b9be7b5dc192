-- The fills that make a table, and what a made table shows.
-- Assumes nothing.
use mathlib.Core.Path.{◌≡◌, refl, ap, ap₂, sym, ◌∙◌}
use mathlib.Core.Bool.{Bool, true, false, cond, ◌&&◌, true≢false, and-false}
use mathlib.Core.List.{List, ◌∷◌, ◌++◌}
use Prim.Native.Nat.{ℕ, zero, suc, ◌+◌, ◌-◌, ◌*◌, ◌^◌, ◌≤◌, ◌<◌}
use native.Mathlib.Omega.{arith}
use lib.Dec.{ltb, lit≤}
use lib.ListN.{length, get_or, replicate, length-append, length-replicate, get_or-replicate, get_or-append}
use borrow.Author.Tests.{ltb-true, ltb-false, le-ltb}
use Rattle.cube.proofs.PortsInside.{ones}
use Rattle.cube.specs.Cube.{largest_dimension, cube_nodes}
use Rattle.cube.specs.Bits.{has}
use Rattle.cube.proofs.Bits.{zero_has}
use Rattle.cube.proofs.PartnerPorts.{unfolded_present}
use Rattle.cube.proofs.Ports.{most_nodes, below_256}
use Rattle.layout.specs.Layout.{table_length, in_table, dimension_at, mask_number, mask_at, enabled_at, armed_at, entry_place, word_at, entry_at, owner_at, receiver_at}
use Rattle.layout.specs.Resources.{ResourceLaws, narrow_laws, links_laws, channels_laws}
use Rattle.layout.proofs.Entries.{within, inside}
use Rattle.entries.specs.EntryContracts.{put_enabled, put_armed, put_owner, put_receiver}
use Rattle.table.specs.View.{view, fresh}
use Rattle.table.specs.Encode.{encode, Bytes}
use Rattle.layout.proofs.Folds.{fold_none}
use Rattle.table.proofs.Views.{at}
use Rattle.table.proofs.Encoded.{encode_shown}

-- the bytes that the code writes: D, the D bits of each of its 2^D nodes, and nothing else
unfoldable pub made : ℕ → List ℕ
made D = D ∷ replicate (cube_nodes D) (2 ^ D - 1) ++ replicate (table_length - 1 - cube_nodes D) 0

-- a value k times and then zeros
run_front : (k m x j : ℕ) → j < k → get_or (replicate k x ++ replicate m 0) j 0 ≡ x
run_front k m x j h = get_or-append (replicate k x) (replicate m 0) 0 j (rw (length-replicate k x) h) ∙ get_or-replicate k j x 0 h

pub zeros : (m j : ℕ) → get_or {A = ℕ} (replicate m 0) j 0 ≡ 0
zeros zero j = refl
zeros (suc m) zero = refl
zeros (suc m) (suc j) = zeros m j

run_back : (k m x j : ℕ) → k ≤ j → get_or (replicate k x ++ replicate m 0) j 0 ≡ 0
run_back zero m x j h = zeros m j
run_back (suc k) m x zero h = absurd (omega arith)
run_back (suc k) m x (suc j) h = run_back k m x j (omega arith)

module _ (D : ℕ) (h : D ≤ largest_dimension) where
  byte_of : (j : ℕ) → get_or (made D) (suc j) 0 ≡ cond (ltb j (2 ^ D)) (2 ^ D - 1) 0
  unfolding made
  byte_of j = go (ltb j (2 ^ D)) refl
    where
      go : (b : Bool) → ltb j (2 ^ D) ≡ b → get_or (replicate (2 ^ D) (2 ^ D - 1) ++ replicate (8704 - 2 ^ D) 0) j 0 ≡ cond b (2 ^ D - 1) 0
      go true e = run_front (2 ^ D) (8704 - 2 ^ D) (2 ^ D - 1) j (ltb-true j (2 ^ D) e)
      go false e = run_back (2 ^ D) (8704 - 2 ^ D) (2 ^ D - 1) j (ltb-false j (2 ^ D) e)

  byte_zero : (j : ℕ) → 257 ≤ j → get_or (made D) j 0 ≡ 0
  byte_zero zero l = absurd (omega arith)
  byte_zero (suc j) l = byte_of j ∙ rw (le-ltb j (2 ^ D) (omega (arith, most_nodes {D = D} (omega arith))))

  made_enabled : (n p : ℕ) → mask_at 8 1 (made D) n p ≡ ltb n (2 ^ D) && ltb p D
  unfolding mask_at mask_number
  made_enabled n p = let place : 1 + 1 * n ≡ suc n = omega arith in rw (place, byte_of n) (go (in_table 8 n p) refl (ltb n (2 ^ D)) refl)
    where
      go : (x : Bool) → in_table 8 n p ≡ x → (y : Bool) → ltb n (2 ^ D) ≡ y → x && has (cond y (2 ^ D - 1) 0) p ≡ y && ltb p D
      go true e true f = ones D p h (inside n p e).1
      go true e false f = zero_has p
      go false e true f = sym (outside (ltb p D) refl)
        where
          outside : (z : Bool) → ltb p D ≡ z → z ≡ false
          outside true g = absurd (true≢false (sym (within n p (below_256 {D = D} (omega arith) (ltb-true n (2 ^ D) f)) (omega (arith, ltb-true p D g))) ∙ e))
          outside false g = refl
      go false e false f = refl

  made_entry : (part : ℕ) → 257 ≤ part → (n k : ℕ) → entry_at 8 part (made D) n k ≡ 0
  unfolding entry_at
  made_entry part l n k = go (in_table 8 n k)
    where
      word : word_at (made D) (entry_place 8 part n k) ≡ 0
      word = rw (byte_zero (entry_place 8 part n k) (omega arith), byte_zero (entry_place 8 part n k + 1) (omega arith))

      go : (x : Bool) → cond x (word_at (made D) (entry_place 8 part n k)) 0 ≡ 0
      go true = word
      go false = refl

  made_armed : (n k : ℕ) → mask_at 8 8449 (made D) n k ≡ false
  unfolding mask_at mask_number
  made_armed n k = rw (byte_zero (8449 + 1 * n) (omega arith), zero_has k) (and-false (in_table 8 n k))

-- They are bytes,
made_bytes : (D : ℕ) → D ≤ largest_dimension → Bytes (made D)
made_bytes D h = record { long = long; small = small }
  where
    nodes : 2 ^ D ≤ 256
    nodes = most_nodes {D = D} (omega arith)

    long : length (made D) ≡ table_length
    long =
        unfold made in
        ap suc (length-append (replicate (2 ^ D) (2 ^ D - 1)) (replicate (8704 - 2 ^ D) 0)
        ∙ ap₂ ◌+◌ (length-replicate (2 ^ D) (2 ^ D - 1)) (length-replicate (8704 - 2 ^ D) 0) ∙ omega (arith, nodes))

    either : (x : Bool) → cond x (2 ^ D - 1) 0 < 256
    either true = omega (arith, nodes)
    either false = omega arith

    small : (i : ℕ) → get_or (made D) i 0 < 256
    small zero = unfold made in omega arith
    small (suc j) = rw (byte_of D h j) (either (ltb j (2 ^ D)))

-- and show the dimension, every link of its cube enabled, nothing held and none armed.
made_shows : (D : ℕ) → D ≤ largest_dimension → view (made D) ≡ fresh D
unfolding view fresh dimension_at
made_shows D h = λ i.
    record {
      dimension = first i;
      fold = fold_none (made D) long i;
      enabled = λ n p. (at (of_links.enabled_is (made D) long) n p ∙ made_enabled D h n p ∙ ap (ltb n (2 ^ D) &&◌) (sym (unfolded_present D p (omega (arith, h))))) i;
      owner = λ n p. (at (of_links.owner_is (made D) long) n p ∙ made_entry D h 257 (lit≤ tt) n p) i;
      receiver = λ n k. (at (of_channels.owner_is (made D) long) n k ∙ made_entry D h 4353 (lit≤ tt) n k) i;
      armed = λ n k. (at (of_channels.enabled_is (made D) long) n k ∙ made_armed D h n k) i;
    }
  where
    first : get_or (made D) 0 0 ≡ D
    first = unfold made in refl

    long : length (made D) ≡ table_length
    long = (made_bytes D h).long

    of_links : ResourceLaws 8705 8 1 257 enabled_at owner_at put_enabled put_owner
    of_links = links_laws narrow_laws

    of_channels : ResourceLaws 8705 8 8449 4353 armed_at receiver_at put_armed put_receiver
    of_channels = channels_laws narrow_laws

-- So the bytes that the code writes are those that show a made table;
pub made_encoded : (D : ℕ) → D ≤ largest_dimension → made D ≡ encode (fresh D)
made_encoded D m = encode_shown (made D) (fresh D) (made_bytes D m) (made_shows D m)

-- and such bytes are a table that shows it.
pub fresh_bytes : (D : ℕ) → D ≤ largest_dimension → Bytes (encode (fresh D))
fresh_bytes D m = rw (← made_encoded D m) (made_bytes D m)

pub view_made : (D : ℕ) → D ≤ largest_dimension → view (encode (fresh D)) ≡ fresh D
view_made D m = rw (← made_encoded D m) (made_shows D m)
