-- A circuit of a book fits a table where its source is the cube's, its path fits, and it is not open: as the code tests it.
-- Assumes nothing.
use mathlib.Core.Path.{◌≡◌, refl, sym, ◌∙◌}
use mathlib.Core.Bool.{Bool, true, false, not, ◌&&◌}
use Prim.Native.Nat.{ℕ, ◌^◌, ◌≤◌, ◌<◌}
use lib.Dec.{ltb}
use borrow.Author.Tests.{lt-ltb, le-ltb}
use Rattle.std.specs.List.{list_all}
use Rattle.cube.specs.Axes.{present}
use Rattle.cube.specs.Cube.{source_of}
use Rattle.cube.proofs.Circuits.{circuit_of_parts}
use Rattle.paths.specs.Network.{Path}
use Rattle.table.specs.View.{View, shape_of}
use Rattle.circuit_path.specs.OpenCircuit.{is_open_in}
use Rattle.book.specs.Book.{BookCircuit}
use Rattle.judging.specs.Judged.{judge_facts, judge_net, target_in, is_permitted, in_cube, circuit_fits}
use Rattle.judging.specs.JudgeContracts.{path_fits}
use Rattle.judging.proofs.AxesOnce.{fits_exactly}

-- Circuit c of a book with its path, in a table that shows v; the code has its source as s.
module _ (v : View) (c : ℕ) (path : Path) where
  abbrev fits : Bool
  fits = circuit_fits (judge_facts v) (record { number = c; ports = path })

  -- the tests of the ports and of the path are one
  parts : (a l p o : Bool) → ((a && l) && (p && o)) ≡ (a && ((l && p) && o))
  parts true true p o = refl
  parts true false p o = refl
  parts false l p o = refl

  whole : 0 < c → (ltb (source_of c) (2 ^ v.dimension) && (path_fits (shape_of v) path && not (is_open_in v c))) ≡ fits
  unfolding circuit_fits in_cube
  whole known =
      let x : BookCircuit = record { number = c; ports = path } in
      sym (parts (ltb (source_of c) (2 ^ v.dimension)) (list_all (present v.dimension v.fold) path) (is_permitted (judge_net (judge_facts v)) (source_of c) (target_in (judge_net (judge_facts v)) x) path) (not (is_open_in v c))
      ∙ rw (fits_exactly (shape_of v) (source_of c) path) refl) ∙ rw (circuit_of_parts c known) refl

  module _ (known : 0 < c) {s : ℕ} (source : s ≡ source_of c) where
    -- a source that the cube lacks,
    pub source_outside : 2 ^ v.dimension ≤ s → false ≡ fits
    source_outside h = rw (← source, le-ltb s (2 ^ v.dimension) h) at (whole known)

    -- and else the path decides, and whether the circuit is open
    pub path_decides : s < 2 ^ v.dimension → {b : Bool} → b ≡ path_fits (shape_of v) path → (b && not (is_open_in v c)) ≡ fits
    path_decides h e = rw (e) (rw (← source, lt-ltb s (2 ^ v.dimension) h) at (whole known))
