-- `table_book::put_circuit` meets its contract: the path behind the ports, and its line behind the index.
use mathlib.Core.Path.{◌≡◌, sym}
use mathlib.Core.List.{List, append_assoc}
use Prim.Native.Nat.{ℕ, ◌+◌, ◌-◌, ◌≤◌}
use native.Mathlib.Omega.{arith}
use borrow.Rule.Slice.PartMut.{put_mid}
use lib.ListN.{length, take, drop}
use lib.Seq.{sets, sets-eq, drop-drop}
use Rattle.table_book.proofs.put_circuit.Goals as goal

copied : (b w : List ℕ) (at : ℕ) → at + length w ≤ length b → put_mid at (at + length w - at) b w ≡ sets b at w
copied b w at h = let k : at + length w - at ≡ length w = omega arith in rw (k, drop-drop (length w) at b, ← append_assoc (take at b) w (drop (at + length w) b)) (sym (sets-eq w b at h))

pub returns-clause-ports_after : goal.returns-clause-ports_after
returns-clause-ports_after c = rw (c.copy_from_slice.ensures.after, c.from-at.ensures) (copied _ _ _ c.requires.room.0)
