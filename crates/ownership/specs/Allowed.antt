-- The other side of Refusals: what has to hold of the arguments of each call for no test of the call to stop it.
-- That this is exactly when none does is proved (Allowed).
-- Assumes nothing.
use Rattle.std.specs.Prelude.{◌≡◌, ◌⊎◌, ◌≢◌, true, false, [], map, ℕ, ◌-◌, ◌*◌, ◌^◌, ◌%◌, ◌≤◌, ◌<◌, length}
use Rattle.cube.specs.Bits.{has}
use Rattle.std.specs.List.{list_all}
use Rattle.book.specs.Book.{hop_count}
use Rattle.book.specs.Lookup.{well_formed}
use Rattle.judging.specs.Judged.{judge_net, circuits_in, circuit_fits, links_fit, all_links, targets_fit, target_in}
use Rattle.judging.specs.Loadable.{PortOf}
use Rattle.ownership.specs.Calls.{Call, making, blocking, unblocking, opening, closing, tracing, arming, disarming, opening_all, booking, judging, folding, CallFacts, judged_by}

unfoldable pub Allowed : CallFacts → Call → Type 0
Allowed a (making D) = (1 ≤ D) × (D ≤ 8)
Allowed a (blocking n p) = (n < 2 ^ a.dimension) × PortOf a.dimension a.fold p × (a.held n p ≡ false)
Allowed a (unblocking n p) = (n < 2 ^ a.dimension) × PortOf a.dimension a.fold p
Allowed a (opening s c t y v) =
    (s < 2 ^ a.dimension) × (t < 2 ^ a.dimension) × (c < 8) × (v ≢ 0) × ((p : ℕ) → a.dimension ≤ p → has v p ≡ false) × (a.is_open s c ≡ false)
    × ((y ≡ 0) ⊎ (y ≡ 1) ⊎ (y ≡ 3) ⊎ (y ≡ 4))
Allowed a (closing s c) = (s < 2 ^ a.dimension) × (c < 8) × (a.is_open s c ≡ true)
Allowed a (tracing s c buffer) = (s < 2 ^ a.dimension) × (c < 8) × (a.is_open s c ≡ true) × (9 ≤ length buffer)
Allowed a (arming n k) = (n < 2 ^ a.dimension) × (k < 8)
Allowed a (disarming n k) = (n < 2 ^ a.dimension) × (k < 8) × (a.is_taken n k ≡ false)
Allowed a (opening_all sends) = (length sends % 10 ≡ 0) × (length sends ≤ 640)
Allowed a (booking ports index) = (hop_count a.book ≤ length ports) × (6 * length a.book ≤ length index)
-- No bit of the mask is at or above D, and no node's partner link is held of a dimension that is folded and would be so no more.
Allowed a (folding mask) =
    ((p : ℕ) → a.dimension ≤ p → has mask p ≡ false)
    × ((p : ℕ) → p < a.dimension → has a.fold p ≡ true → has mask p ≡ false → (n : ℕ) → n < 2 ^ a.dimension → a.held n (17 - p) ≡ false)
-- These are the four tests themselves, and so no second statement of what they ask; that is judging/Loadable.
Allowed a (judging ports index circuits hops) =
    let xs = circuits_in ports index circuits in
    let N = judge_net (judged_by a) in
    (well_formed ports index circuits hops ≡ true) × (list_all (circuit_fits (judged_by a)) xs ≡ true) × (links_fit a.free [] (all_links N xs) ≡ true)
    × (targets_fit a.available [] (map (target_in N) xs) ≡ true)
