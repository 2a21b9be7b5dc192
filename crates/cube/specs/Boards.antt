-- The two boards keep the laws of every board.
-- Assumes nothing.
use Rattle.std.specs.Prelude.{refl}
use Rattle.std.proofs.Common.{lit≤}
use Rattle.cube.specs.CubeContracts.{BoardLaws}

pub narrow_laws : BoardLaws 8 7
narrow_laws = record { least = lit≤ tt; most = lit≤ tt; last = refl }

pub wide_laws : BoardLaws 18 17
wide_laws = record { least = lit≤ tt; most = lit≤ tt; last = refl }
