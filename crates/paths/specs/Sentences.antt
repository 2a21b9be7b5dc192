-- What Searches and Scouts say of a pass, of helix paths and of a send, rule by rule, over the plain predicates. That the computed ones say it is
-- proved (Sentences, Tried, Send).
-- Assumes nothing.
use Rattle.std.specs.Prelude.{◌≡◌, ◌⊎◌, ◌≢◌, ◌↔◌, Bool, true, List, [], ◌∷◌, ◌++◌, ℕ, ◌+◌, length}
use Rattle.common.specs.Lists.{◌∈◌, Pairwise}
use Rattle.paths.specs.Network.{Network, Path, free_path}
use Rattle.paths.specs.Permitted.{Permitted, Beginning, ComesBefore}
use Rattle.paths.specs.Pass.{PassResult, none, found}
use Rattle.paths.specs.Helix.{IsHelix, HelixPaths, TriedSays}
use Rattle.paths.specs.Send.{Receive, lowest_available, none_available, Outcome, acknowledged, route_rejected, receive_rejected, Attempt, pass_over, helix_paths}

-- Scouts 2: each counts once. c is the number of paths with P: a list holds exactly those, each once, and is c long.
pub record Number (P : Path → Type 0) (c : ℕ) : Type 0 where
  pub list : List Path
  pub holds : (b : Path) → (b ∈ list) ↔ P b
  pub once : Pairwise ◌≢◌ list
  pub long : length list ≡ c

-- Scouts 2: those that Order puts before the path found, and its own beginnings, of which it is one itself.
abbrev pub UpTo : Path → Path → Type 0
UpTo b w = ComesBefore b w ⊎ ((v : Path) × (b ++ v ≡ w))

abbrev pub Free : Network → (ℕ → ℕ → Bool) → ℕ → Path → Type 0
Free N free s w = free_path N free s w ≡ true

module _ (N : Network) (free : ℕ → ℕ → Bool) (s : ℕ) (vector : List ℕ) (t : ℕ) where
  -- Searches 2, Scouts 2: the first free permitted path, and the number of free beginnings up to it
  pub record FoundSays (w : Path) (c : ℕ) : Type 0 where
    pub permitted : Permitted N s vector t w
    pub is_free : Free N free s w
    pub first : (v : Path) → Permitted N s vector t v → Free N free s v → (v ≡ w) ⊎ ComesBefore w v
    pub scouts : Number (λ b. Beginning N s vector t b × Free N free s b × UpTo b w) c

  -- Scouts 3: no free permitted path exists, and all free beginnings count
  pub record NoneSays (c : ℕ) : Type 0 where
    pub nothing : (v : Path) → Permitted N s vector t v → Free N free s v → ⊥
    pub scouts : Number (λ b. Beginning N s vector t b × Free N free s b) c

  abbrev pub Says : PassResult → Type 0
  Says (none c) = NoneSays c
  Says (found w c) = FoundSays w c

-- What the answer of one attempt says, given what its search says and what the target's receive channels are: Searches 9 to 12. The scouts are the
-- search's in each case (Scouts 5).
pub data AnswerSays (Search : PassResult → Type 0) (r : Receive) : Outcome → ℕ → Type 0 where
  says_acknowledged : {w : Path} {k c : ℕ} → r ≡ lowest_available k → Search (found w c) → AnswerSays Search r (acknowledged w k) c
  says_receive_rejected : {w : Path} {c : ℕ} → r ≡ none_available → Search (found w c) → AnswerSays Search r receive_rejected c
  says_route_rejected : {c : ℕ} → Search (none c) → AnswerSays Search r route_rejected c

module _ (N : Network) (s t : ℕ) where
  -- the paths that an attempt tries
  unfoldable pub Tries : Attempt → Path → Type 0
  Tries (pass_over ports) w = Permitted N s ports t w
  Tries (helix_paths ports) w = (p : ℕ) × (p ∈ ports) × IsHelix N s t p w

  module _ (free : ℕ → ℕ → Bool) where
    -- what its search says: of a pass (Searches 2), and of the helix paths of its ports tried in their order (Searches 8)
    unfoldable pub SearchSays : Attempt → PassResult → Type 0
    SearchSays (pass_over ports) x = Says N free s ports t x
    SearchSays (helix_paths ports) x = (paths : List Path) × HelixPaths N s t ports paths × TriedSays N free s paths x

    module _ (r : Receive) where
      abbrev pub AttemptSays : Attempt → Outcome → ℕ → Type 0
      AttemptSays a = AnswerSays (SearchSays a) r

      -- What a send says that makes the attempts of a list in turn. After a route rejection the next attempt is made (Searches 1), and the scouts are
      -- added (Scouts 6). An acknowledgement ends the send, and so does a receive rejection (Searches 11).
      pub data AttemptsSay : List Attempt → Outcome → ℕ → Type 0 where
        last : {a : Attempt} {o : Outcome} {n : ℕ} → AttemptSays a o n → AttemptsSay (a ∷ []) o n
        ends : {a : Attempt} {later : List Attempt} {o : Outcome} {n : ℕ} → AttemptSays a o n → o ≢ route_rejected → AttemptsSay (a ∷ later) o n
        goes_on : {a : Attempt} {later : List Attempt} {o₂ : Outcome} {n₂ : ℕ} (n : ℕ) → AttemptSays a route_rejected n
            → AttemptsSay later o₂ n₂ → AttemptsSay (a ∷ later) o₂ (n + n₂)
