-- The path that a trace tells is a permitted one, or empty.
-- Assumes nothing.
use mathlib.Core.Path.{◌≡◌, refl, ap, sym, subst, ◌∙◌}
use mathlib.Core.Logic.{◌≢◌, ⊎_elim}
use mathlib.Core.List.{List, []}
use Prim.Native.Nat.{ℕ, ◌≤◌}
use native.Mathlib.Omega.{arith}
use lib.ListN.{length, take, drop}
use lib.Seq.{take-append_seam}
use Rattle.common.proofs.Tests.{same?}
use Rattle.cube.specs.Cube.{largest_dimension, circuit_of}
use Rattle.layout.specs.Layout.{length_of}
use Rattle.paths.specs.Network.{Path}
use Rattle.paths.proofs.Apart.{permitted_ports}
use Rattle.paths.proofs.CubeNetwork.{path_hops, port_there}
use Rattle.table.specs.View.{view, shape_of}
use Rattle.circuit_path.specs.PathOf.{path_of}
use Rattle.circuit_path.specs.Traced.{traced_into}
use Rattle.circuit_path.proofs.CircuitSound.{path_is}
use Rattle.answers.proofs.AfterSend.{PortsThere}
use Rattle.ownership.specs.Calls.{Call, tracing, CallResult, hops_of, buffer_of, result_of}
use Rattle.ownership.specs.OnTable.{facts_of, stopped_at, table_step}
use Rattle.ownership.specs.Allowed.{Allowed}
use Rattle.ownership.proofs.Allowed.{allowed}
use Rattle.ownership.proofs.Stops.{none_stops, none_stops_lent, pass_tests}
use Rattle.ownership.proofs.Steps.{table_step_lem}
use Rattle.ownership.proofs.OnSound.{open_stands}
use Rattle.printed_line.specs.PrintedLine.{zero_buffer, traced_ports}

module _ (q : ℕ) (b : List ℕ) (s c : ℕ) where
  abbrev trace : Call
  trace = tracing s c zero_buffer

  followed : stopped_at q b trace ≡ 0 → traced_ports (table_step q) b s c ≡ path_of (view b) (circuit_of s c)
  unfolding traced_ports result_of facts_of traced_into
  followed e =
      ap (λ (x : CallResult). take (hops_of x) (buffer_of x)) ((table_step_lem q b trace).result e)
      ∙ take-append_seam (path_of (view b) (circuit_of s c)) (drop (length (path_of (view b) (circuit_of s c))) zero_buffer)

  no_path : stopped_at q b trace ≢ 0 → traced_ports (table_step q) b s c ≡ []
  unfolding traced_ports
  no_path e = rw ((table_step_lem q b trace).stopped e)

  -- What holds of no path, and of each path of at most nine hops over ports of the cube of a table of this kind, holds of the path that a trace tells.
  pub traced_path : (P : Path → Type 0) → P [] → ((w : Path) → length b ≡ length_of q → (view b).dimension ≤ largest_dimension → length w ≤ 9 → PortsThere (shape_of (view b)) w → P w) → P (traced_ports (table_step q) b s c)
  unfolding Allowed facts_of view PortsThere
  traced_path P nil each = ⊎_elim found (λ e. subst P (sym (no_path e)) nil) (same? (stopped_at q b trace) 0)
    where
      found : stopped_at q b trace ≡ 0 → P (traced_ports (table_step q) b s c)
      found e =
          let t = pass_tests q b (none_stops_lent q b trace refl e) in
          let stands = (open_stands (view b) t.3 s c).0 (allowed (facts_of (view b)) trace (none_stops q b trace e)).2 in
          let S = shape_of (view b) in
          let hops = (path_hops S _ _ _ stands.path stands.permitted).1 in
          let there : PortsThere S stands.path = λ p m. port_there S p (permitted_ports S _ _ stands.path stands.permitted p m) in
          subst P (sym (followed e ∙ path_is (view b) (circuit_of s c) stands)) (each stands.path t.0 t.2 (omega (arith, hops, t.2)) there)
