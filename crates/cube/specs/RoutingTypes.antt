-- The routing types of a send, and their numbers.
-- Assumes nothing.
use Rattle.std.specs.Prelude.{◌≡◌, ◌≢◌, ℕ, eqb, Result, Ok, Err}
use Rattle.common.specs.declared.refusal.Refusal.{Refusal}
use Rattle.common.specs.declared.refusal.Refusal.TheVariants as Refused
use Rattle.cube.specs.declared.routing_type.RoutingType.{RoutingType}
use Rattle.cube.specs.declared.routing_type.RoutingType.TheVariants.{Maze, Helix, Fixed, AlternateMaze}

-- the number of each type: Searches 8 has 1, Searches 7 has 3, Searches 3 and Searches 4 have 0 and 4
abbrev pub routing_number : RoutingType → ℕ
routing_number Maze = 0
routing_number Helix = 1
routing_number Fixed = 3
routing_number AlternateMaze = 4

-- Refusals 7: a number read as a type; one that is none of these is refused.
abbrev pub ReadsType : ℕ → Result RoutingType Refusal → Type 0
ReadsType n (Ok type) = n ≡ routing_number type
ReadsType n (Err e) = (e ≡ Refused.RoutingType) × (n ≢ 0) × (n ≢ 1) × (n ≢ 3) × (n ≢ 4)

-- the type as which a number is sent: a number that is none of 1, 3 and 4 is sent as type 0
pub record SentAs (n : ℕ) (type : RoutingType) : Type 0 where
  pub fixed : eqb n 3 ≡ eqb (routing_number type) 3
  pub helix : eqb n 1 ≡ eqb (routing_number type) 1
  pub alternate : eqb n 4 ≡ eqb (routing_number type) 4
