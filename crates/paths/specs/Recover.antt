-- Soundness 9: the path of a circuit, recovered from the links that it holds. Behind its first hop a permitted path takes no axis twice, so
-- (Paths 8) the ports left to take bound the way. That this gives the path back (Paths 11) is proved (Recover).
-- Assumes nothing.
use Rattle.std.specs.Prelude.{Bool, not, ◌&&◌, List, [], ◌++◌, ℕ, zero, suc, eqb}
use Rattle.common.specs.Lists.{keep, any}
use Rattle.cube.specs.Axes.{positions, axis}
use Rattle.paths.specs.Network.{Network, Path, take_first}
use Rattle.paths.specs.CubeNetwork.{Shape, ports, network}

-- the ports of a list that have another axis than p
unfoldable pub drop_axis : ℕ → List ℕ → List ℕ
drop_axis p left = keep (λ q. not (eqb (axis q) (axis p))) left

-- from n by the lowest port left whose link is owned, and so on over the axes left, until there is none; at most k hops
unfoldable pub walk_from : ℕ → Network → List ℕ → (ℕ → ℕ → Bool) → ℕ → Path
walk_from zero N left own n = []
walk_from (suc k) N left own n = take_first (keep (own n) left) (λ p. walk_from k N (drop_axis p left) own (N.next n p))

-- a link back over the axis of port a is owned
unfoldable pub way_back : Network → List ℕ → (ℕ → ℕ → Bool) → ℕ → ℕ → Bool
way_back N ports own s a = any (λ b. eqb (axis b) (axis a) && own (N.next s a) b) ports

-- the ports that the first hop from s is looked for among: first those whose way back is owned too, since a path that passes its source
-- again comes straight back over the axis that it left by
unfoldable pub first_hop_choices : Network → List ℕ → (ℕ → ℕ → Bool) → ℕ → List ℕ
first_hop_choices N ports own s = keep (way_back N ports own s) (keep (own s) ports) ++ keep (own s) ports

unfoldable pub path_of_links : Shape → (ℕ → ℕ → Bool) → ℕ → Path
path_of_links S own s =
    take_first (first_hop_choices (network S) (ports S) own s) (λ a. walk_from positions (network S) (ports S) own ((network S).next s a))
