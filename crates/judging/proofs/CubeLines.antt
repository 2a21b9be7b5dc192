-- Lines whose circuits lie in a cube: of the first, what the code asks, and the others are such lines too.
-- Assumes nothing.
use mathlib.Core.Path.{◌≡◌, refl}
use mathlib.Core.List.Memᴰ
use mathlib.Core.List.{List, ◌∷◌}
use Prim.Native.Nat.{ℕ, ◌≤◌, ◌<◌}
use native.Mathlib.Omega.{arith}
use lib.ListN.{get_or}
use Rattle.common.proofs.Lists.{at_member}
use Rattle.cube.specs.Cube.{largest_dimension, source_of}
use Rattle.cube.proofs.Ports.{below_256}
use Rattle.paths.specs.CubeNetwork.{Shape, Node}
use Rattle.book.specs.Lookup.{IndexLine, ports_of_line}
use Rattle.judging.specs.JudgeContracts.{LineInCube, LinesInCube, PortsOf, leads_to}
use Rattle.judging.proofs.LeadsTo.{leads_inside}

module _ {S : Shape} {ports : List ℕ} where
  module _ {x : IndexLine} {xs ys : List IndexLine} (e : xs ≡ x ∷ ys) (all : LinesInCube S ports xs) where
    -- the first is such a line,
    pub first_line_in : LineInCube S ports x
    first_line_in = all x (rw e (Memᴰ.head refl))

    -- and so are the others
    pub other_lines_in : LinesInCube S ports ys
    other_lines_in y m = all y (rw e (Memᴰ.tail m))

  module _ {x : IndexLine} (line : LineInCube S ports x) where
    -- its source is a node of the cube,
    pub source_in : {s : ℕ} → s ≡ source_of x.number → Node S s
    source_in e = omega (arith, e, line.line.least, line.source)

    -- its ports are the cube's,
    pub ports_in : {w : List ℕ} → w ≡ ports_of_line ports x → PortsOf S w
    ports_in {w} e i l = line.there (get_or w i 0) (rw (← e) (at_member w i l))

    -- and they lead to a node of the cube, of which there are no more than 256.
    pub target_small : S.dimension ≤ largest_dimension → {s t : ℕ} {w : List ℕ} → s ≡ source_of x.number → w ≡ ports_of_line ports x → t ≡ leads_to s w → t < 256
    target_small fits {s} {t} {w} f g h = rw h (below_256 fits (leads_inside S s w (source_in f) (ports_in g)))
