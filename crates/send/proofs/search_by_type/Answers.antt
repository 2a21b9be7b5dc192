-- `send::search_by_type` meets its contract: the attempts of its routing type.
use mathlib.Core.Path.{◌∙◌}
use Rattle.send.proofs.ByWaiting.{searched_as}
use Rattle.send.proofs.search_by_type.Goals as goal

pub returns-in-Maze : goal.returns-in-Maze
returns-in-Maze g c = c.maze.ensures ∙ searched_as _ _ _ _ _ _ _ c.in-Maze.ensures

pub returns-in-Helix : goal.returns-in-Helix
returns-in-Helix g c = c.try_each.ensures ∙ searched_as _ _ _ _ _ _ _ c.in-Helix.ensures

pub returns-in-Fixed : goal.returns-in-Fixed
returns-in-Fixed g c = c.try_lowest.ensures ∙ searched_as _ _ _ _ _ _ _ c.in-Fixed.ensures

pub returns-in-AlternateMaze : goal.returns-in-AlternateMaze
returns-in-AlternateMaze g c = c.alternate_maze.ensures ∙ searched_as _ _ _ _ _ _ _ c.in-AlternateMaze.ensures
