-- Searches 13: whether a send that found no free path could find one once circuits are closed. The attempts are those of the send; `enabled n p`, whether
-- the link out of port p of node n is not blocked, stands where the search has `free n p`. Beside the computed test the rule by paths; that both say the
-- same is proved (Waiting).
-- Assumes nothing.
use Rattle.std.specs.Prelude.{◌≡◌, Bool, true, false, List, map, ℕ}
use Rattle.common.specs.Lists.{◌∈◌, any}
use Rattle.paths.specs.Network.{Network, Path, Link, links}
use Rattle.paths.specs.Pass.{PassResult, none, found}
use Rattle.paths.specs.Send.{Attempt, attempted}
use Rattle.paths.specs.Sentences.{Tries}

-- an attempt found a path
unfoldable pub finds_path : PassResult → Bool
finds_path (none c) = false
finds_path (found w c) = true

-- one of the attempts of a list does, where `allowed` says which links may be taken
unfoldable pub some_attempt : Network → (ℕ → ℕ → Bool) → ℕ → ℕ → List Attempt → Bool
some_attempt N allowed s t xs = any finds_path (map (attempted N allowed s t) xs)

module _ (N : Network) (enabled : ℕ → ℕ → Bool) (s : ℕ) where
  -- a path from s that has a blocked link, and one that has none
  unfoldable pub CrossesBlocked : Path → Type 0
  CrossesBlocked w = (l : Link) × (l ∈ links N s w) × (enabled l.0 l.1 ≡ false)

  unfoldable pub AllEnabled : Path → Type 0
  AllEnabled w = (l : Link) → l ∈ links N s w → enabled l.0 l.1 ≡ true

  module _ (t : ℕ) (xs : List Attempt) where
    -- Searches 13, answer 22: each of the type's paths has a blocked link.
    unfoldable pub EveryPathBlocked : Type 0
    EveryPathBlocked = (a : Attempt) → a ∈ xs → (w : Path) → Tries N s t a w → CrossesBlocked w

    -- Searches 13, answer 10: one of them has none, so closing circuits could help.
    unfoldable pub SomePathEnabled : Type 0
    SomePathEnabled = (a : Attempt) × (a ∈ xs) × ((w : Path) × Tries N s t a w × AllEnabled w)
