-- The choice of a receive channel: what the one chosen says, and what it says that none was.
-- Assumes nothing.
use mathlib.Core.Path.{◌≡◌, refl, ap, sym, ◌∙◌}
use mathlib.Core.Logic.{◌≢◌}
use mathlib.Core.Bool.{Bool, true, false, cond}
use Prim.Native.Nat.{ℕ, ◌<◌}
use native.Mathlib.Omega.{arith}
use lib.Dec.{eqb}
use borrow.Author.Tests.{eqb-true, eqb-false}
use Rattle.std.specs.Prelude.{Some, None}
use Rattle.cube.specs.Cube.{channels}
use Rattle.common.specs.Lists.{lowest}
use Rattle.common.specs.SomeBelow.{some_below}
use Rattle.common.proofs.Lowest.{lowest_most, lowest_passes, lowest_before, some_is, none_is}
use Rattle.paths.specs.Send.{lowest_available, none_available, lowest_of}
use Rattle.table.specs.View.{View, available}
use Rattle.table.specs.TableContracts.{lowest_channel}

-- it is one of eight, passes, and none below it does
pub chosen : (f : ℕ → Bool) (k : ℕ) → lowest_of f ≡ lowest_available k → (k < channels) × (f k ≡ true) × ((j : ℕ) → j < k → f j ≡ false)
unfolding lowest_of
chosen f k e = go (eqb (lowest f 8 0) 8) refl e
  where
    go : (x : Bool) → eqb (lowest f 8 0) 8 ≡ x → cond x none_available (lowest_available (lowest f 8 0)) ≡ lowest_available k → (k < channels) × (f k ≡ true) × ((j : ℕ) → j < k → f j ≡ false)
    go true q z = let y : ◌≡◌ {A = ℕ} 0 1 = cc in absurd (omega arith)
    go false q z =
        let u : lowest f 8 0 ≡ k = cc in
        let l : lowest f 8 0 < 8 = omega (arith, lowest_most f 8 0, eqb-false (lowest f 8 0) 8 q) in
        (omega (arith, u, l), sym (ap f u) ∙ lowest_passes f 8 0 l, λ j h. lowest_before f 8 0 j (omega arith) (omega (arith, u, h)))

-- none of eight passes
pub none_chosen : (f : ℕ → Bool) → lowest_of f ≡ none_available → (j : ℕ) → j < channels → f j ≡ false
unfolding lowest_of
none_chosen f e j h = go (eqb (lowest f 8 0) 8) refl e
  where
    go : (x : Bool) → eqb (lowest f 8 0) 8 ≡ x → cond x none_available (lowest_available (lowest f 8 0)) ≡ none_available → f j ≡ false
    go true q z = lowest_before f 8 0 j (omega arith) (let y = eqb-true (lowest f 8 0) 8 q in omega (arith, y, h))
    go false q z = let y : ◌≡◌ {A = ℕ} 0 1 = cc in absurd (omega arith)

-- what `available_channel` answers: the lowest channel, or that there is none
pub channel_taken : (v : View) (n : ℕ) {k : ℕ} → Some k ≡ some_below channels (lowest_channel v n) → (k ≡ lowest_channel v n) × (k ≢ channels)
channel_taken v n e = let f = some_is e in (f.0, λ z. omega arith)

pub channel_missing : (v : View) (n : ℕ) → None ≡ some_below channels (lowest_channel v n) → lowest_channel v n ≡ channels
unfolding lowest_channel
channel_missing v n e = let f = none_is e in let g = lowest_most (available v n) channels 0 in omega arith
