-- What the answer of a send tells.
-- Assumes nothing.
use mathlib.Core.Path.{◌≡◌, refl}
use mathlib.Core.Logic.{◌≢◌}
use mathlib.Core.Bool.{Bool, true, false}
use mathlib.Core.List.{List}
use Prim.Native.Nat.{ℕ}
use native.Mathlib.Omega.{arith}
use Rattle.paths.specs.Send.{Outcome, acknowledged, route_rejected, receive_rejected, send_goes_on}
use Rattle.answers.specs.SendOnTable.{answer_on_bytes, answer_of_outcome}
use Rattle.answers.specs.SendAnswer.{bytes_after_send, send_answer}

-- What the answer of a send tells: whether another pass follows, as one does after a route rejection alone; that a rejection leaves each byte as it was;
-- and its scouts.
module _ (b : List ℕ) (c s t : ℕ) where
  pub sent_stops : (o : Outcome) (m : ℕ) {x h k n : ℕ} {b₁ : List ℕ} → answer_on_bytes x h k n b₁ ≡ send_answer true b c s t (record { outcome = o; scouts = m }) → x ≢ 10 → send_goes_on o ≡ false
  unfolding send_answer bytes_after_send answer_of_outcome send_goes_on
  sent_stops (acknowledged w j) m q f = refl
  sent_stops route_rejected m {x} q f = let y : x ≡ 10 = cc in absurd (f y)
  sent_stops receive_rejected m q f = refl

  pub sent_goes_on : (o : Outcome) (m : ℕ) {x h k n : ℕ} {b₁ : List ℕ} → answer_on_bytes x h k n b₁ ≡ send_answer true b c s t (record { outcome = o; scouts = m }) → x ≡ 10 → send_goes_on o ≡ true
  unfolding send_answer bytes_after_send answer_of_outcome send_goes_on
  sent_goes_on (acknowledged w j) m {x} q z = let y : x ≡ 0 = cc in absurd (omega arith)
  sent_goes_on route_rejected m q z = refl
  sent_goes_on receive_rejected m {x} q z = let y : x ≡ 11 = cc in absurd (omega arith)

  pub sent_leaves : (helps : Bool) (o : Outcome) (m : ℕ) {x h k n : ℕ} {b₁ : List ℕ} → answer_on_bytes x h k n b₁ ≡ send_answer helps b c s t (record { outcome = o; scouts = m }) → x ≢ 0 → b₁ ≡ b
  unfolding send_answer bytes_after_send answer_of_outcome
  sent_leaves helps (acknowledged w j) m {x} q f = let y : x ≡ 0 = cc in absurd (f y)
  sent_leaves helps route_rejected m q f = cc
  sent_leaves helps receive_rejected m q f = cc

  -- the bytes are those of its outcome
  pub sent_bytes : (helps : Bool) (o : Outcome) (m : ℕ) {x h k n : ℕ} {b₁ : List ℕ} → answer_on_bytes x h k n b₁ ≡ send_answer helps b c s t (record { outcome = o; scouts = m }) → b₁ ≡ bytes_after_send b c s t o
  unfolding send_answer answer_of_outcome
  sent_bytes helps (acknowledged w j) m q = cc
  sent_bytes helps route_rejected m q = cc
  sent_bytes helps receive_rejected m q = cc

  -- and so are the numbers
  pub sent_numbers : (helps : Bool) (o : Outcome) (m : ℕ) {x h k n : ℕ} {b₁ : List ℕ} → answer_on_bytes x h k n b₁ ≡ send_answer helps b c s t (record { outcome = o; scouts = m }) → answer_on_bytes x h k n b₁ ≡ answer_of_outcome helps o n b₁
  unfolding send_answer answer_of_outcome
  sent_numbers helps (acknowledged w j) m q = cc
  sent_numbers helps route_rejected m q = cc
  sent_numbers helps receive_rejected m q = cc

  pub sent_scouts : (helps : Bool) (o : Outcome) (m : ℕ) {x h k n : ℕ} {b₁ : List ℕ} → answer_on_bytes x h k n b₁ ≡ send_answer helps b c s t (record { outcome = o; scouts = m }) → n ≡ m
  unfolding send_answer bytes_after_send answer_of_outcome
  sent_scouts helps (acknowledged w j) m q = cc
  sent_scouts helps route_rejected m q = cc
  sent_scouts helps receive_rejected m q = cc

  -- the same answer with other scouts
  pub sent_counted : (o : Outcome) (m j : ℕ) {x h k n : ℕ} {b₁ : List ℕ} → answer_on_bytes x h k n b₁ ≡ send_answer true b c s t (record { outcome = o; scouts = m }) → answer_on_bytes x h k j b₁ ≡ send_answer true b c s t (record { outcome = o; scouts = j })
  unfolding send_answer bytes_after_send answer_of_outcome
  sent_counted (acknowledged w i) m j q = cc
  sent_counted route_rejected m j q = cc
  sent_counted receive_rejected m j q = cc

-- A route rejection is judged by whether waiting helps, and everything else is handed on.
module _ (b : List ℕ) (c s t : ℕ) {x h k n : ℕ} {b₁ : List ℕ} where
  -- an answer that is no route rejection is the same, whether waiting helps or not
  pub other_kept : (helps : Bool) (o : Outcome) (m : ℕ) → answer_on_bytes x h k n b₁ ≡ send_answer true b c s t (record { outcome = o; scouts = m }) → x ≢ 10
      → answer_on_bytes x h k n b₁ ≡ send_answer helps b c s t (record { outcome = o; scouts = m })
  unfolding send_answer bytes_after_send answer_of_outcome
  other_kept helps (acknowledged w j) m q f = q
  other_kept helps route_rejected m q f = let y : x ≡ 10 = cc in absurd (f y)
  other_kept helps receive_rejected m q f = q

  -- a route rejection has no hops, no channel and its scouts, and leaves each byte
  pub rejected_as : (o : Outcome) (m : ℕ) → answer_on_bytes x h k n b₁ ≡ send_answer true b c s t (record { outcome = o; scouts = m }) → x ≡ 10
      → answer_on_bytes 22 0 0 n b₁ ≡ send_answer false b c s t (record { outcome = o; scouts = m })
  unfolding send_answer bytes_after_send answer_of_outcome
  rejected_as (acknowledged w j) m q z = let y : x ≡ 0 = cc in absurd (omega arith)
  rejected_as route_rejected m q z = let i : n ≡ m = cc in let e : b₁ ≡ b = cc in rw (i, e) refl
  rejected_as receive_rejected m q z = let y : x ≡ 11 = cc in absurd (omega arith)
