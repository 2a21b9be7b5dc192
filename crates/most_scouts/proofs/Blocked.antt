-- Where the links into the target are the only ones that are not free, a pass sends a scout for each beginning that has not arrived, and finds nothing.
-- Assumes nothing.
use mathlib.Core.Path.{◌≡◌, refl, ap, ◌∙◌}
use mathlib.Core.Bool.{Bool, true, false, cond, not, and-true}
use mathlib.Core.List.Memᴰ
use mathlib.Core.List.{List, [], ◌∷◌}
use Prim.Native.Nat.{ℕ, suc, ◌+◌, ◌≤◌}
use native.Mathlib.Omega.{arith}
use lib.Dec.{eqb}
use lib.ListN.{length}
use borrow.Author.Tests.{ne_eqb}
use Rattle.std.specs.List.{sum_by}
use Rattle.common.specs.Lists.{◌∈◌, keep}
use Rattle.cube.specs.Cube.{largest_dimension, next}
use Rattle.paths.specs.Network.{Path, end, free_path}
use Rattle.paths.specs.Pass.{none, found, scan, whole, beginnings, pass}
use Rattle.paths.specs.CubeNetwork.{Shape, Node, ports, network}
use Rattle.paths.proofs.Beginnings.{Climb, beginning_climb, beginning_hop}
use Rattle.paths.proofs.CubeNetwork.{port_inside, offered_port, cube_nearing, cube_leading}
use Rattle.most_scouts.specs.Unarrived.{most_sent}
use Rattle.most_scouts.proofs.Walks.{short_beginnings}
use Rattle.most_scouts.proofs.Weight.{weight, weight_counts, all_ports}

-- a scan of members that pass the first test exactly where they do not pass the second
scan_short : (f g : Path → Bool) (ws : List Path) (c : ℕ) → ((w : Path) → w ∈ ws → f w ≡ not (g w)) → scan f g c ws ≡ none (c + length (keep (λ w. not (g w)) ws))
unfolding keep scan
scan_short f g [] c h = ap none (omega arith)
scan_short f g (w ∷ ws) c h = rw (h w (Memᴰ.head refl)) (go (g w) (scan_short f g ws (suc c) (λ v m. h v (Memᴰ.tail m))) (scan_short f g ws c (λ v m. h v (Memᴰ.tail m))))
  where
    rest : List Path
    rest = keep (λ w. not (g w)) ws

    go : (b : Bool) → scan f g (suc c) ws ≡ none (suc c + length rest) → scan f g c ws ≡ none (c + length rest)
        → cond (not b) (cond b (found w (suc c)) (scan f g (suc c) ws)) (scan f g c ws) ≡ none (c + length (cond (not b) (w ∷ rest) rest))
    go true i j = j
    go false i j = i ∙ ap none (omega arith)

module _ (S : Shape) (free : ℕ → ℕ → Bool) (t : ℕ) (but_into : (n p : ℕ) → Node S n → p ∈ ports S → free n p ≡ not (eqb (next n p) t)) where
  -- a hop and a climb behind it are free exactly where they have not arrived
  climb_free : (n p : ℕ) (w : Path) → Node S n → p ∈ ports S → Climb (network S) t ((network S).next n p) w
      → free_path (network S) free n (p ∷ w) ≡ not (whole (network S) t n (p ∷ w))
  unfolding Climb free_path whole end network
  climb_free n p [] i m o = and-true (free n p) ∙ but_into n p i m
  climb_free n p (q ∷ v) i m o =
      let on = climb_free (next n p) q v (port_inside S n p i m) (offered_port S t (next n p) q o.1).0 o.2 in
      rw (but_into n p i m, ne_eqb (next n p) t o.0) on

  module _ (h : S.dimension ≤ largest_dimension) (s : ℕ) (source : Node S s) (target : Node S t) where
    -- So the pass over all ports comes to nothing, with as many scouts.
    pub pass_reaches : pass (network S) free s (ports S) t ≡ none (most_sent S s t)
    unfolding pass
    pass_reaches =
        let count : length (keep (λ w. not (whole (network S) t s w)) (beginnings (network S) s (ports S) t)) ≡ sum_by (λ q. weight S t ((network S).next s q)) (ports S) =
        short_beginnings (network S) t (cube_nearing S t) (cube_leading S h t target) (weight_counts S t h target) s (ports S) (λ q m. port_inside S s q source m) in
        scan_short (free_path (network S) free s) (whole (network S) t s) _ 0 each ∙ ap none (omega (arith, count, all))
      where
        all : sum_by (λ q. weight S t ((network S).next s q)) (ports S) ≡ most_sent S s t
        all = unfold network in all_ports S t h s

        each : (w : Path) → w ∈ beginnings (network S) s (ports S) t → free_path (network S) free s w ≡ not (whole (network S) t s w)
        each [] m = absurd (beginning_hop (network S) s (ports S) t m)
        each (p ∷ w) m = let o = beginning_climb (network S) s (ports S) t p w m in climb_free s p w source o.0 o.1
