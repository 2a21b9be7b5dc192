-- Promises 3 and 4, in one statement about a send on a table.
-- Assumes nothing.
use Rattle.std.specs.Prelude.{◌≡◌, ◌↔◌, ◌≢◌, true, false, List, ℕ, ◌≤◌, ◌<◌}
use Rattle.common.specs.Lists.{◌∈◌}
use Rattle.paths.specs.Network.{Path}
use Rattle.paths.specs.Send.{Outcome, Attempt}
use Rattle.paths.specs.Sentences.{Free, Tries, AttemptsSay}
use Rattle.paths.specs.Waiting.{EveryPathBlocked, SomePathEnabled}
use Rattle.paths.specs.CubeNetwork.{attempts}
use Rattle.table.specs.View.{View, view, receive, available, net, shape_of}
use Rattle.table.specs.Encode.{encode_over, AllBytes}
use Rattle.answers.specs.SendOnTable.{free_in, view_after_send, waiting_helps, answer_on_bytes, answer_of_outcome}
use Rattle.cube.specs.Cube.{channels}

-- a path from s to t that an attempt tries, free in what a table shows
abbrev pub FreeRoute : View → ℕ → ℕ → Attempt → Type 0
FreeRoute v s t a = (w : Path) × Tries (net v) s t a w × Free (net v) (free_in v) s w

-- one of the attempts has such a path
abbrev pub SomeRoute : View → ℕ → ℕ → List Attempt → Type 0
SomeRoute v s t xs = (a : Attempt) × (a ∈ xs) × FreeRoute v s t a

-- Searches 13: one of them has a path without a blocked link; or each path of the type has one.
abbrev pub CouldRoute : View → ℕ → ℕ → List Attempt → Type 0
CouldRoute v s t xs = SomePathEnabled (net v) v.enabled s t xs

abbrev pub BlockedRoutes : View → ℕ → ℕ → List Attempt → Type 0
BlockedRoutes v s t xs = EveryPathBlocked (net v) v.enabled s t xs

-- Cube 14: a receive channel is available at a target. Searches 9: the lowest one that is.
abbrev pub Available : View → ℕ → Type 0
Available v t = (k : ℕ) × (k < channels) × (available v t k ≡ true)

pub record Lowest (v : View) (t k : ℕ) : Type 0 where
  pub small : k < channels
  pub is_available : available v t k ≡ true
  pub first : (j : ℕ) → j < k → available v t j ≡ false

-- What a send of circuit c from s to t answers, and the bytes after it, on a table with q ports to a node and the bytes b. An acknowledgement is number 0, a route
-- rejection 10 or 22, a receive rejection 11.
pub record SendSays (q : ℕ) (b : List ℕ) (s t c type vector : ℕ) (number hops receives scouts : ℕ) (after : List ℕ) : Type 0 where
  pub outcome : Outcome
  -- Searches 14, Scouts 6: the outcome and the scouts are those of the type's attempts (AnswerSays): in a pass the first free permitted path and the free beginnings
  -- up to it; of helix paths the first that is free and the free hops at the front of each path tried.
  pub says : AttemptsSay (net (view b)) s t (free_in (view b)) (receive (view b) t) (attempts (shape_of (view b)) type vector) outcome scouts
  -- the number, the hops and the receive channel are those of that outcome
  pub answer : answer_on_bytes number hops receives scouts after ≡ answer_of_outcome (waiting_helps (view b) s t type vector) outcome scouts after
  -- Searches 10: what the table shows afterwards is what that outcome makes of it: an acknowledged path's links and its receive channel are held, nothing else
  -- changes; and, where each number of the list is a byte, as in every lent table, its bytes are those that show it.
  pub shows : view after ≡ view_after_send (view b) c s t outcome
  pub written : AllBytes b → after ≡ encode_over q (view_after_send (view b) c s t outcome)
  -- Promises 3: it is acknowledged exactly when one of its attempts has a free path that it tries and the target has a receive channel available;
  pub exactly : (number ≡ 0) ↔ (SomeRoute (view b) s t (attempts (shape_of (view b)) type vector) × Available (view b) t)
  -- 10 exactly when none of them has such a path, and some path that they try has no blocked link, so that closing circuits could help;
  pub rejected_route : (number ≡ 10) ↔ ((SomeRoute (view b) s t (attempts (shape_of (view b)) type vector) → ⊥) × CouldRoute (view b) s t (attempts (shape_of (view b)) type vector))
  -- 22 exactly when each of the paths has a blocked link;
  pub rejected_blocked : (number ≡ 22) ↔ BlockedRoutes (view b) s t (attempts (shape_of (view b)) type vector)
  -- 11 exactly when one of them has, and the target has no receive channel available.
  pub rejected_receive : (number ≡ 11) ↔ (SomeRoute (view b) s t (attempts (shape_of (view b)) type vector) × (Available (view b) t → ⊥))
  pub lowest : number ≡ 0 → Lowest (view b) t receives
  -- Searches 16: a rejected search leaves each byte as it was.
  pub unchanged : number ≢ 0 → after ≡ b
  -- Scouts 8: with nothing folded; and Scouts 9: whatever is folded.
  pub bounded : (view b).fold ≡ 0 → scouts ≤ 123300
  pub bounded_folded : scouts ≤ 35099560
