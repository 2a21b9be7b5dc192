-- What few failing links cannot do, in any cube and whatever its state is. Each statement is the contract of a function of this crate (src/lib.rt), and is proved with it.
-- Assumes nothing.
use Rattle.std.specs.Prelude.{◌≡◌, ◌≢◌, Bool, ℕ, ◌*◌, ◌≤◌, ◌<◌, not, eqb}
use Rattle.common.specs.Lists.{◌∈◌}
use Rattle.cube.specs.Cube.{largest_dimension}
use Rattle.paths.specs.Network.{Link, links}
use Rattle.paths.specs.Helix.{helix_path}
use Rattle.paths.specs.Send.{Receive, route_rejected}
use Rattle.paths.specs.CubeNetwork.{Shape, unfolded, Node, network, send}
use Rattle.faults.specs.Faults.{failing, full_vector, MazeType, EachPortType, AllFolded}

-- Where nothing is folded, the helix paths of two ports share no link, whatever their source and target are, the same node too.
abbrev pub HelixPathsApart : Type 0
HelixPathsApart =
    (D : ℕ) → D ≤ largest_dimension → (s t : ℕ) → Node (unfolded D) s → Node (unfolded D) t → (p q : ℕ) → p < D → q < D → (l : Link)
    → l ∈ links (network (unfolded D)) s (helix_path (network (unfolded D)) s t p) → l ∈ links (network (unfolded D)) s (helix_path (network (unfolded D)) s t q) → p ≡ q

-- a send over every port from one node of a cube to another that is not route rejected, whatever receive channel the target has to give
abbrev pub NotRejected : Shape → (ℕ → ℕ → Bool) → (ℕ → Type 0) → Type 0
NotRejected S free OfType =
    (r : Receive) (s t y : ℕ) → Node S s → Node S t → OfType y → (send y S free r s (full_vector S.dimension) t).outcome ≢ route_rejected

-- So fewer than D links that are not free never route-reject such a send of type 0, 1 or 4.
abbrev pub FewNeverReject : Type 0
FewNeverReject = (D : ℕ) → D ≤ largest_dimension → (free : ℕ → ℕ → Bool) → failing (unfolded D) free < D → NotRejected (unfolded D) free EachPortType

-- D links can: those out of one node route-reject all its sends, whatever their type and vector.
abbrev pub EnoughReject : Type 0
EnoughReject =
    (D : ℕ) → D ≤ largest_dimension → (s : ℕ) → Node (unfolded D) s
    → (failing (unfolded D) (λ n p. not (eqb n s)) ≡ D) × ((r : Receive) (y v t : ℕ) → Node (unfolded D) t → (send y (unfolded D) (λ n p. not (eqb n s)) r s v t).outcome ≡ route_rejected)

-- Whatever is folded, fewer than D do not stop one of type 0 or 4; and where every dimension is folded, fewer than 2 D do not.
abbrev pub FoldedNeverReject : Type 0
FoldedNeverReject = (S : Shape) → S.dimension ≤ largest_dimension → (free : ℕ → ℕ → Bool) → failing S free < S.dimension → NotRejected S free MazeType

abbrev pub AllFoldedNeverReject : Type 0
AllFoldedNeverReject =
    (S : Shape) → S.dimension ≤ largest_dimension → AllFolded S → (free : ℕ → ℕ → Bool) → failing S free < 2 * S.dimension → NotRejected S free MazeType
