-- What a failure of the program says of what was written.
-- Assumes nothing.
use Rattle.maze_list.specs.declared.Failed.{Failed}
use Rattle.maze_list.specs.declared.Failed.TheVariants.{Reading, Writing}

-- where reading failed, a fact holds
abbrev pub IfReading : Failed → Type 0 → Type 0
IfReading (Reading error) P = P
IfReading (Writing error) P = Unit {0}
