-- The lines of a well-formed book lie inside its buffer of ports; and where their circuits fit a table, their sources and ports are in its cube.
-- Assumes nothing.
use mathlib.Core.Path.{◌≡◌, sym, subst, ◌∙◌}
use mathlib.Core.Logic.{⊎_elim}
use mathlib.Core.Bool.{true}
use mathlib.Core.List.Memᴰ
use mathlib.Core.List.{List, [], ◌∷◌, map}
use Prim.Native.Nat.{ℕ, ◌+◌, ◌^◌, ◌≤◌}
use native.Mathlib.Omega.{arith}
use lib.Dec.{ltb}
use lib.ListN.{length}
use borrow.Author.Tests.{ltb-true}
use Rattle.std.specs.List.{list_all}
use Rattle.std.proofs.lemmas.List.Folds.{list_all-map}
use Rattle.common.proofs.Tests.{both}
use Rattle.cube.specs.Axes.{present}
use Rattle.cube.specs.Cube.{source_of}
use Rattle.book.specs.Lookup.{IndexLine, index_lines, line_fits, lines_fit, well_formed, ports_of_line}
use Rattle.book.proofs.Lines.{line_fits_lem, at_most, formed}
use Rattle.judging.specs.Judged.{JudgeFacts, judge_shape, circuit_on, in_cube, circuit_fits}
use Rattle.judging.proofs.AllPass.{all_pass}
use Rattle.judging.specs.JudgeContracts.{LineInside, LinesInside, LineInCube, LinesInCube}

module _ (ports : List ℕ) where
  -- of lines that fit behind each other the ports end before the count, and so inside a buffer that has room for as many
  all_inside : (above at total : ℕ) (xs : List IndexLine) → lines_fit above at xs total ≡ true → total ≤ length ports → LinesInside ports xs
  unfolding lines_fit
  all_inside above at total [] e h x m = absurd (Memᴰ.not-nil m)
  all_inside above at total (y ∷ xs) e h x m =
      let r = both (line_fits above at y) _ e in
      let f = line_fits_lem above at y r.0 in
      let ends = at_most y.number (at + y.hops) xs total r.1 in
      let here : LineInside ports y = record { least = omega (arith, f.rises); most = f.most; some = f.some; few = f.few; inside = omega (arith, f.begins, ends) } in
      ⊎_elim (λ q. subst (LineInside ports) (sym q) here) (all_inside y.number (at + y.hops) total xs r.1 h x) (Memᴰ.cases_cons m)

  -- so it is with a well-formed book
  pub lines_inside : (index : List ℕ) (circuits hops : ℕ) → well_formed ports index circuits hops ≡ true → LinesInside ports (index_lines circuits index)
  lines_inside index circuits hops e = let f = formed ports index circuits hops e in all_inside 0 0 hops (index_lines circuits index) f.2 f.1

  -- a circuit that fits has its source and its ports in the cube,
  line_in_cube : (a : JudgeFacts) (x : IndexLine) → LineInside ports x → circuit_fits a (circuit_on ports x) ≡ true → LineInCube (judge_shape a) ports x
  unfolding circuit_fits in_cube
  line_in_cube a x h e =
      let c = both (in_cube a (circuit_on ports x)) _ e in
      let r = both (ltb (source_of x.number) (2 ^ a.dimension)) _ c.0 in
      let s = ltb-true (source_of x.number) (2 ^ a.dimension) r.0 in
      record { line = h; source = omega arith; there = all_pass (present a.dimension a.fold) (ports_of_line ports x) r.1 }

  -- and so have all of a list that fit
  pub lines_in_cube : (a : JudgeFacts) (xs : List IndexLine) → LinesInside ports xs
      → list_all (circuit_fits a) (map (circuit_on ports) xs) ≡ true → LinesInCube (judge_shape a) ports xs
  lines_in_cube a xs h e x m =
      line_in_cube a x (h x m) (all_pass (λ x. circuit_fits a (circuit_on ports x)) xs (sym (list_all-map (circuit_fits a) (circuit_on ports) xs) ∙ e) x m)
