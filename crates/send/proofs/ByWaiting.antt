-- What a send makes of the answer of its search: a route rejection is judged by whether waiting helps, and everything else is handed on.
-- Assumes nothing.
use mathlib.Core.Path.{◌≡◌, refl, sym, ◌∙◌}
use mathlib.Core.Logic.{◌≢◌}
use mathlib.Core.Bool.{Bool, true, false}
use mathlib.Core.List.{List}
use Prim.Native.Nat.{ℕ}
use native.Mathlib.Omega.{arith}
use Rattle.cube.specs.RoutingTypes.{routing_number, SentAs}
use Rattle.cube.specs.declared.routing_type.RoutingType.{RoutingType}
use Rattle.paths.proofs.SentAs.{attempts_sent}
use Rattle.paths.specs.Waiting.{some_attempt}
use Rattle.paths.specs.CubeNetwork.{attempts, send}
use Rattle.table.specs.View.{view, net, shape_of}
use Rattle.reach.specs.Marks.{MayAsk}
use Rattle.answers.specs.SendOnTable.{answer_on_bytes, waiting_helps}
use Rattle.answers.specs.SendAnswer.{sent_on_bytes, searched, MaySendIn, BoardIn}
use Rattle.answers.proofs.SendAnswer.{sent_leaves, other_kept, rejected_as}

-- what is asked after a search that leaves each byte as it was
may_ask : {long q w f : ℕ} {b : List ℕ} {s t c vector : ℕ} → BoardIn q w f (view b) → MaySendIn long b s t c vector → MayAsk long q w f b s t vector
may_ask board may = record { sweep = record { board = board; bytes = may.bytes; fits = may.fits; target = may.target }; source = may.source; ports = may.ports }

module _ (b : List ℕ) (s t c type vector : ℕ) {x h k n : ℕ} {b₁ : List ℕ} (got : answer_on_bytes x h k n b₁ ≡ searched b s t c type vector) where
  pub search_leaves : x ≡ 10 → b₁ ≡ b
  unfolding searched
  search_leaves z = sent_leaves b c s t true _ _ got (λ y. omega (arith, y, z))

  pub may_ask_after : {long q w f : ℕ} → BoardIn q w f (view b) → MaySendIn long b s t c vector → x ≡ 10 → MayAsk long q w f b₁ s t vector
  may_ask_after board may z = rw (search_leaves z) (may_ask board may)

  pub judged_kept : x ≢ 10 → answer_on_bytes x h k n b₁ ≡ sent_on_bytes b s t c type vector
  unfolding searched sent_on_bytes
  judged_kept f = other_kept b c s t (waiting_helps (view b) s t type vector) _ _ got f

  module _ (z : x ≡ 10) {r : Bool} (asked : r ≡ some_attempt (net (view b₁)) (view b₁).enabled s t (attempts (shape_of (view b₁)) type vector)) where
    answer : r ≡ waiting_helps (view b) s t type vector
    unfolding waiting_helps
    answer = rw (search_leaves z) at asked

    pub judged_helps : r ≡ true → answer_on_bytes x h k n b₁ ≡ sent_on_bytes b s t c type vector
    unfolding searched sent_on_bytes
    judged_helps e = rw (sym answer ∙ e) got

    pub judged_blocked : r ≡ false → answer_on_bytes 22 0 0 n b₁ ≡ sent_on_bytes b s t c type vector
    unfolding searched sent_on_bytes
    judged_blocked e = rw (sym answer ∙ e) (rejected_as b c s t _ _ got z)

-- A number is sent by the search of its type.
pub searched_as : (b : List ℕ) (s t c n vector : ℕ) (type : RoutingType) → SentAs n type → searched b s t c (routing_number type) vector ≡ searched b s t c n vector
unfolding searched send
searched_as b s t c n vector type as_type = rw (attempts_sent (shape_of (view b)) n vector type as_type) refl
