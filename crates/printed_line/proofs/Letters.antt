-- What the printed line of each call shows, field by field (Listing 12 to 15). The call letters are written by their bytes: F is 70, B 66, E 69, S 83, C 67,
-- R 82, D 68 and M 77.
-- Assumes nothing.
use mathlib.Core.Path.{◌≡◌, refl}
use mathlib.Core.Logic.{◌≢◌, ◌⊎◌, inl, inr}
use mathlib.Core.List.{List, [], ◌∷◌}
use mathlib.Core.Option.{some}
use Prim.Native.Nat.{ℕ}
use borrow.Author.Tests.{ne_eqb}
use Rattle.ownership.specs.Calls.{Call, making, blocking, unblocking, opening, closing, arming, disarming, folding, CallResult, receive_of, scouts_of, carries_scouts, After}
use Rattle.text.specs.Row.{Field, nothing, shows, letter, path, in_order}
use Rattle.printed_line.specs.PrintedLine.{call_row, traced_ports, row_for}

-- The eight fields of a call's printed line, in their order: line, call, answer, node, channel, receive, scouts, ports. The call is made on any state.
module _ {S : Type 0} (makes : S → Call → After S) (state : S) (n : ℕ) where
  abbrev shown : Call → List Field
  shown a = in_order (row_for makes state n (some a))

  -- what the call answers
  abbrev answer : Call → CallResult
  answer a = (makes state a).result

  -- F: the number alone
  pub make_shows : (D : ℕ)
      → shown (making D) ≡ shows n ∷ letter 70 ∷ shows (answer (making D)).number ∷ nothing ∷ nothing ∷ nothing ∷ nothing ∷ nothing ∷ []
  unfolding in_order row_for call_row
  make_shows D = refl

  -- B and E: node and port as given
  pub block_shows : (node port : ℕ)
      → shown (blocking node port)
      ≡ shows n ∷ letter 66 ∷ shows (answer (blocking node port)).number ∷ shows node ∷ nothing ∷ nothing ∷ nothing ∷ shows port ∷ []
  unfolding in_order row_for call_row
  block_shows node port = refl

  pub unblock_shows : (node port : ℕ)
      → shown (unblocking node port)
      ≡ shows n ∷ letter 69 ∷ shows (answer (unblocking node port)).number ∷ shows node ∷ nothing ∷ nothing ∷ nothing ∷ shows port ∷ []
  unfolding in_order row_for call_row
  unblock_shows node port = refl

  -- C: node and channel as given
  pub close_shows : (node channel : ℕ)
      → shown (closing node channel)
      ≡ shows n ∷ letter 67 ∷ shows (answer (closing node channel)).number ∷ shows node ∷ shows channel ∷ nothing ∷ nothing ∷ nothing ∷ []
  unfolding in_order row_for call_row
  close_shows node channel = refl

  -- R and D: node and channel as given
  pub arm_shows : (node channel : ℕ)
      → shown (arming node channel)
      ≡ shows n ∷ letter 82 ∷ shows (answer (arming node channel)).number ∷ shows node ∷ shows channel ∷ nothing ∷ nothing ∷ nothing ∷ []
  unfolding in_order row_for call_row
  arm_shows node channel = refl

  pub disarm_shows : (node channel : ℕ)
      → shown (disarming node channel)
      ≡ shows n ∷ letter 68 ∷ shows (answer (disarming node channel)).number ∷ shows node ∷ shows channel ∷ nothing ∷ nothing ∷ nothing ∷ []
  unfolding in_order row_for call_row
  disarm_shows node channel = refl

  -- M: the number alone
  pub fold_shows : (mask : ℕ)
      → shown (folding mask) ≡ shows n ∷ letter 77 ∷ shows (answer (folding mask)).number ∷ nothing ∷ nothing ∷ nothing ∷ nothing ∷ nothing ∷ []
  unfolding in_order row_for call_row
  fold_shows mask = refl

  module _ (node channel target type vector : ℕ) where
    abbrev opens : Call
    opens = opening node channel target type vector

    -- S answered 0: source, channel, receive channel taken, scouts, and the ports that a trace of this channel gives now
    pub acknowledged_shows : (answer opens).number ≡ 0
        → shown opens
        ≡ shows n ∷ letter 83 ∷ shows 0 ∷ shows node ∷ shows channel ∷ shows (receive_of (answer opens)) ∷ shows (scouts_of (answer opens))
        ∷ path (traced_ports makes (makes state opens).state node channel) ∷ []
    unfolding in_order row_for call_row carries_scouts
    acknowledged_shows e = rw e

    -- S answered 10, 11 or 22: the scouts, and `-` for receive channel and ports
    pub rejected_shows : ((answer opens).number ≡ 10) ⊎ ((answer opens).number ≡ 11) ⊎ ((answer opens).number ≡ 22)
        → shown opens
        ≡ shows n ∷ letter 83 ∷ shows (answer opens).number ∷ shows node ∷ shows channel ∷ nothing ∷ shows (scouts_of (answer opens)) ∷ nothing ∷ []
    unfolding in_order row_for call_row carries_scouts
    rejected_shows (inl e) = rw e
    rejected_shows (inr (inl e)) = rw e
    rejected_shows (inr (inr e)) = rw e

    -- S stopped before the search: `-` for the scouts too
    pub stopped_shows : (answer opens).number ≢ 0 → (answer opens).number ≢ 10 → (answer opens).number ≢ 11 → (answer opens).number ≢ 22
        → shown opens ≡ shows n ∷ letter 83 ∷ shows (answer opens).number ∷ shows node ∷ shows channel ∷ nothing ∷ nothing ∷ nothing ∷ []
    unfolding in_order row_for call_row carries_scouts
    stopped_shows e f g h = rw (ne_eqb _ 0 e, ne_eqb _ 10 f, ne_eqb _ 11 g, ne_eqb _ 22 h)
