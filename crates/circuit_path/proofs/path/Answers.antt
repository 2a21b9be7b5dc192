-- `circuit_path::path` meets its contract: the front of the buffer is the path.
use mathlib.Core.Path.{◌≡◌, ap, ◌∙◌}
use mathlib.Core.List.{List}
use Prim.Native.Nat.{ℕ}
use native.Mathlib.Omega.{arith}
use lib.ListN.{length, take, drop}
use lib.Seq.{take-append_seam}
use Rattle.circuit_path.specs.Traced.{traced_into}
use Rattle.circuit_path.proofs.path.Goals as goal

-- the front of a buffer that a path was written to is the path
front : (w buffer : List ℕ) {after : List ℕ} {n : ℕ} → n ≡ length w → after ≡ traced_into w buffer → take n after ≡ w
unfolding traced_into
front w buffer e f = rw (e, f) (take-append_seam w (drop (length w) buffer))

pub returns-clause-ports_value : goal.returns-clause-ports_value
returns-clause-ports_value g c = front _ _ (c.from.ensures ∙ c.write_path-written.ensures.hops_value) c.write_path-written.ensures.buffer_after

pub returns-clause-few : goal.returns-clause-few
returns-clause-few g c = let path = front _ _ (c.from.ensures ∙ c.write_path-written.ensures.hops_value) c.write_path-written.ensures.buffer_after in omega (arith, ap length path, c.write_path-written.ensures.hops_value, c.write_path-written.ensures.few)
