-- `reach::some_path_enabled` meets its contract: each routing type by the function that answers for its paths.
use mathlib.Core.Path.{ap}
use Prim.Native.Nat.{◌-◌}
use Rattle.cube.proofs.Ports.{count_of}
use Rattle.reach.proofs.Asks.{fixed_finds, helix_finds, alternate_finds, maze_finds}
use Rattle.reach.proofs.some_path_enabled.Goals as goal

pub returns-in-Maze : goal.returns-in-Maze
returns-in-Maze g c = maze_finds c.requires.may_ask c.in-Maze.ensures c.any_path.ensures

pub returns-in-Helix : goal.returns-in-Helix
returns-in-Helix g c = helix_finds c.requires.may_ask c.in-Helix.ensures c.any_helix.ensures

pub returns-in-Fixed : goal.returns-in-Fixed
returns-in-Fixed g c = fixed_finds c.requires.may_ask c.in-Fixed.ensures c.lowest_helix.ensures

pub returns-in-AlternateMaze : goal.returns-in-AlternateMaze
returns-in-AlternateMaze g c =
    let count = count_of c.dimension.ensures c.node_count-vector.ensures.value in
    alternate_finds c.requires.may_ask c.in-AlternateMaze.ensures (ap (◌- 1) count) c.any_path-in-AlternateMaze.ensures
