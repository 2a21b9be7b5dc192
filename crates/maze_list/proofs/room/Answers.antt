-- As many zeros as are repeated; over any number of them, since the checker would unfold a numeral to its list.
use Rattle.std.proofs.Common.{◌≡◌, ℕ, sym, length}
use lib.ListN.{replicate, length-replicate}
use Rattle.maze_list.proofs.room.Goals as goal

long : (n : ℕ) → n ≡ length (replicate {A = ℕ} n 0)
long n = sym (length-replicate n 0)

pub returns : goal.returns
returns c = long 1440075
