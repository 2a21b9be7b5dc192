-- Joining rule by rule: what Joined defines of bytes and numbers, said again (proved: JoinNumbers.join_numbers, join_says); of the history: JoinedShows.
-- Assumes nothing.
use Rattle.cube.specs.Cube.{port_count}
use Rattle.std.specs.Prelude.{◌≡◌, ◌≢◌, ◌⊎◌, ◌↔◌, true, List, ℕ, suc, ◌+◌, ◌*◌, ◌<◌, ◌^◌, length}
use Rattle.common.specs.Tests.{refusal}
use Rattle.table.specs.View.{View, view}
use Rattle.soundness.specs.Sound.{Sound}
use Rattle.soundness.specs.TableTests.{table_tests}
use Rattle.ownership.specs.Calls.{tracing}
use Rattle.ownership.specs.OnTable.{table_step}
use Rattle.ownership.specs.History.{History}
use Rattle.ownership.specs.HistoryView.{view_of}
use Rattle.ownership.specs.Invariant.{Valid}
use Rattle.joining.specs.Joined.{joined_view, joined_history}

-- a table passes 1 to 3: it has its length and its dimension, and is sound
abbrev pub PassesTests : List ℕ → Type 0
PassesTests a = refusal (table_tests port_count a) ≡ 0

-- Joining 2: what each number means: those of the first, then of the second, then of the third, then 29. Of any outcome of a call on three tables: number is what it answers, and
-- d are the bytes of the third afterwards. No other number, and where it is refused no other bytes, have all of it (proved: SaysExactly.number_exactly).
pub record JoinNumber (a b c : List ℕ) (number : ℕ) (d : List ℕ) : Type 0 where
  -- 1, 2 and 3 of the first, then of the second, then 1 of the third,
  pub first : (PassesTests a → ⊥) → number ≡ refusal (table_tests port_count a)
  pub second : PassesTests a → (PassesTests b → ⊥) → number ≡ refusal (table_tests port_count b)
  pub third : PassesTests a → PassesTests b → length c ≢ 8705 → number ≡ 1
  -- then Refusals 29
  pub unjoinable : PassesTests a → PassesTests b → length c ≡ 8705 → ((view a).dimension ≢ (view b).dimension) ⊎ ((view a).dimension ≡ 8) → number ≡ 29
  pub accepted : (number ≡ 0) ↔ (PassesTests a × PassesTests b × (length c ≡ 8705) × ((view a).dimension ≡ (view b).dimension) × ((view a).dimension ≢ 8))
  -- refused, the third is as it was
  pub unchanged : number ≢ 0 → d ≡ c

-- Joining 6: what the third table shows of a half of dimension D: x is what the half's own table shows, y what the third shows. Node n of the half is node n + node_gain of the
-- third, and circuit c of the half is circuit c + circuit_gain there; 0 is no circuit in both.
pub record HalfCarried (D : ℕ) (x y : View) (node_gain circuit_gain : ℕ) : Type 0 where
  pub enabled : (n p : ℕ) → n < 2 ^ D → p < D → y.enabled (n + node_gain) p ≡ x.enabled n p
  pub armed : (n k : ℕ) → n < 2 ^ D → y.armed (n + node_gain) k ≡ x.armed n k
  pub unheld : (n p : ℕ) → n < 2 ^ D → p < D → x.owner n p ≡ 0 → y.owner (n + node_gain) p ≡ 0
  pub held : (n p : ℕ) → n < 2 ^ D → p < D → x.owner n p ≢ 0 → y.owner (n + node_gain) p ≡ x.owner n p + circuit_gain
  pub untaken : (n k : ℕ) → n < 2 ^ D → x.receiver n k ≡ 0 → y.receiver (n + node_gain) k ≡ 0
  pub taken : (n k : ℕ) → n < 2 ^ D → x.receiver n k ≢ 0 → y.receiver (n + node_gain) k ≡ x.receiver n k + circuit_gain

-- Of an accepted call on tables of dimension D: d are the bytes of the third afterwards. No other bytes have all of it (proved: SaysExactly.says_exactly).
pub record JoinSays (D : ℕ) (a b d : List ℕ) : Type 0 where
  -- Joining 1: the third has dimension D + 1.
  pub dimension : (view d).dimension ≡ suc D
  -- Joining 3, Joining 4: nodes of the second gain 2^D, and its circuits 8 · 2^D.
  pub first : HalfCarried D (view a) (view d) 0 0
  pub second : HalfCarried D (view b) (view d) (2 ^ D) (8 * 2 ^ D)
  -- Joining 5: the links out of port D are enabled, and nobody holds them.
  pub new_enabled : (n : ℕ) → n < 2 ^ suc D → (view d).enabled n D ≡ true
  pub new_free : (n : ℕ) → n < 2 ^ suc D → (view d).owner n D ≡ 0
  -- Joining 9: a trace of a send channel gives what it gives on the half that the node comes from, number, hops and buffer.
  pub traces_first : (n k : ℕ) (buffer : List ℕ) → n < 2 ^ D → (table_step port_count d (tracing n k buffer)).result ≡ (table_step port_count a (tracing n k buffer)).result
  pub traces_second : (n k : ℕ) (buffer : List ℕ) → n < 2 ^ D → (table_step port_count d (tracing (n + 2 ^ D) k buffer)).result ≡ (table_step port_count b (tracing n k buffer)).result
  -- Joining 9: the third is sound. It passes 1 to 3, and what a sound table is holds of it.
  pub sound : PassesTests d
  pub is_sound : Sound (view d)

-- Joining 10: what the histories of the two halves say is its history. What always holds of a history holds of it, and what it says is what the third table shows (proved:
-- JoinedHistory.joined_shows). It is so of two histories with nothing folded, as those that narrow tables represent are: a history with folded dimensions is that of a wide table,
-- and of wide tables there is no joining (Wide 16).
pub record JoinedShows (h g : History) : Type 0 where
  pub valid : Valid (joined_history h g)
  pub shows : view_of (joined_history h g) ≡ joined_view (view_of h) (view_of g)
