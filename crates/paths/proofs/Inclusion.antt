-- What a send of one routing type acknowledges, a send of another does too, where they are alike but for the type.
-- Assumes nothing.
use mathlib.Core.Path.{◌≡◌, refl, subst}
use mathlib.Core.Logic.{◌≢◌}
use mathlib.Core.Bool.{Bool}
use mathlib.Core.List.Memᴰ
use mathlib.Core.List.{List, [], ◌∷◌}
use Prim.Native.Nat.{ℕ, ◌≤◌}
use native.Mathlib.Omega.{arith}
use lib.ListN.{take, drop, take-append-drop}
use Rattle.cube.specs.Cube.{largest_dimension}
use Rattle.common.specs.Lists.{◌∈◌}
use Rattle.paths.specs.Network.{Network, Path}
use Rattle.paths.specs.Permitted.{Permitted}
use Rattle.paths.specs.Helix.{IsHelix}
use Rattle.paths.specs.Send.{Receive, lowest_available, none_available, Outcome, acknowledged, route_rejected, receive_rejected, Acknowledged, Attempt, pass_over, helix_paths}
use Rattle.paths.specs.Sentences.{Free, Tries, AttemptsSay}
use Rattle.paths.specs.CubeNetwork.{Shape, Node, network, send_ports, attempts, send}
use Rattle.paths.proofs.Helix.{helix_permitted}
use Rattle.paths.proofs.Attempts.{Route, acknowledged_route, route_acknowledged}
use Rattle.paths.proofs.Send.{send_says}

-- For one test of free links: some helix path of the ports of a list is free, and some permitted path of a vector.
abbrev pub FreeHelix : Network → (ℕ → ℕ → Bool) → ℕ → ℕ → List ℕ → Type 0
FreeHelix N free s t ps = (p : ℕ) × (p ∈ ps) × ((w : Path) × IsHelix N s t p w × Free N free s w)

abbrev pub FreePermitted : Network → (ℕ → ℕ → Bool) → ℕ → List ℕ → ℕ → Type 0
FreePermitted N free s vector t = (w : Path) × Permitted N s vector t w × Free N free s w

module _ (N : Network) (free : ℕ → ℕ → Bool) (s t : ℕ) (ps : List ℕ) where
  -- Where the helix path of the lowest port is free, some helix path is;
  pub lowest_in_helix : FreeHelix N free s t (take 1 ps) → FreeHelix N free s t ps
  lowest_in_helix h = (h.0, rw (take-append-drop 1 ps) at (Memᴰ.append_left (drop 1 ps) h.1), h.2)

  -- and where some helix path is free, some permitted path of the vector is.
  pub helix_in_permitted : FreeHelix N free s t ps → FreePermitted N free s ps t
  helix_in_permitted h = (h.2.0, helix_permitted N s t h.0 h.2.1 ps h.1, h.2.2)

-- a route of the only attempt
only_route : (N : Network) (s t : ℕ) (free : ℕ → ℕ → Bool) (r : Receive) (a : Attempt) → Route N s t free r (a ∷ [])
    → (w : Path) × Tries N s t a w × Free N free s w
only_route N s t free r a x = subst (λ b. (w : Path) × Tries N s t b w × Free N free s w) (Memᴰ.eq_of_singleton x.1) x.2

-- A free path that type 3 may try is one that type 1 may try, and one of type 1 is one of type 0.
module _ (S : Shape) (free : ℕ → ℕ → Bool) (r : Receive) (s vector t : ℕ) where
  pub fixed_route : Route (network S) s t free r (attempts S 3 vector) → Route (network S) s t free r (attempts S 1 vector)
  unfolding attempts Tries
  fixed_route x =
      let y = only_route (network S) s t free r (helix_paths (take 1 (send_ports S vector))) x in
      let z = lowest_in_helix (network S) free s t (send_ports S vector) (y.1.0, y.1.1, (y.0, y.1.2, y.2)) in
      (helix_paths (send_ports S vector), Memᴰ.head refl, (z.2.0, (z.0, z.1, z.2.1), z.2.2))

  pub helix_route : Route (network S) s t free r (attempts S 1 vector) → Route (network S) s t free r (attempts S 0 vector)
  unfolding attempts Tries
  helix_route x =
      let y = only_route (network S) s t free r (helix_paths (send_ports S vector)) x in
      let z = helix_in_permitted (network S) free s t (send_ports S vector) (y.1.0, y.1.1, (y.0, y.1.2, y.2)) in
      (pass_over (send_ports S vector), Memᴰ.head refl, z)

-- Sends over one network, free links, receive channel, source, vector and target, of two routing types:
module _ (S : Shape) (fits : S.dimension ≤ largest_dimension) (free : ℕ → ℕ → Bool) (r : Receive) (s vector t : ℕ) (source : Node S s) (target : Node S t) where
  abbrev AnswerOf : ℕ → Outcome
  AnswerOf type = (send type S free r s vector t).outcome

  abbrev RouteOf : ℕ → Type 0
  RouteOf type = Route (network S) s t free r (attempts S type vector)

  says : (type : ℕ) → AttemptsSay (network S) s t free r (attempts S type vector) (AnswerOf type) (send type S free r s vector t).scouts
  says type = send_says S free r s vector t type fits source target

  -- where the one has no free path that the other has not, the other acknowledges all that it does.
  more_routes : (type other : ℕ) → (RouteOf type → RouteOf other) → Acknowledged (AnswerOf type) → Acknowledged (AnswerOf other)
  more_routes type other more = go (AnswerOf type) refl
    where
      go : (o : Outcome) → AnswerOf type ≡ o → Acknowledged o → Acknowledged (AnswerOf other)
      go (acknowledged w k) e a =
          let x = acknowledged_route (network S) s t free r _ w k _ (rw e at (says type)) in
          route_acknowledged (network S) s t free r _ _ _ (says other) (more x.0) (some_receive x.1)
        where
          some_receive : r ≡ lowest_available k → r ≢ none_available
          some_receive e h = let z : ◌≡◌ {A = ℕ} 0 1 = cc in omega arith
      go route_rejected e a = unfold Acknowledged in absurd a
      go receive_rejected e a = unfold Acknowledged in absurd a

  -- Promises 7: type 1 acknowledges what type 3 does,
  pub fixed_in_helix : Acknowledged (AnswerOf 3) → Acknowledged (AnswerOf 1)
  fixed_in_helix = more_routes 3 1 (fixed_route S free r s vector t)

  -- and type 0 what type 1 does.
  pub helix_in_maze : Acknowledged (AnswerOf 1) → Acknowledged (AnswerOf 0)
  helix_in_maze = more_routes 1 0 (helix_route S free r s vector t)
