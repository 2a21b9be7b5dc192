-- A conversion of a table into one of the other kind, from narrow to wide and back where nothing is folded.
-- Assumes nothing.
use Rattle.std.specs.Prelude.{cond, ◌&&◌, not, List, [], ◌∷◌, ◌++◌, ℕ, eqb}
use Rattle.common.specs.Tests.{Test, test, refusal}
use Rattle.cube.specs.Cube.{port_count}
use Rattle.layout.specs.Layout.{wide_ports}
use Rattle.table.specs.View.{View, view}
use Rattle.table.specs.Encode.{encode_over}
use Rattle.soundness.specs.TableTests.{length_test, table_tests}
use Rattle.ownership.specs.Calls.{After}
use Rattle.ownership.specs.OnTable.{done}

-- Refusals 24: going back, the fold mask is not zero; a narrow table, which r says of the table written, has no fold mask
abbrev pub fold_test : ℕ → View → Test
fold_test r v = test (eqb r port_count && not (eqb v.fold 0)) 24

-- Wide 12: the tests of the table read, which is to have q ports to a node, then the length of the one written, which is to have r.
unfoldable pub convert_tests : (q r : ℕ) → (read written : List ℕ) → List Test
convert_tests q r a c = table_tests q a ++ length_test r c ∷ fold_test r (view a) ∷ []

-- What a conversion does to the bytes of the table written, and its number: it shows then what the table read shows, whatever it held. Where the conversion is refused, it
-- is unchanged (Wide 12). The table read is only read (Lending 10).
unfoldable pub convert_step : (q r : ℕ) → (read written : List ℕ) → After (List ℕ)
convert_step q r a c = let n = refusal (convert_tests q r a c) in done (cond (eqb n 0) (encode_over r (view a)) c) n [] []

-- Wide 10: narrow to wide. Wide 11: and back.
abbrev pub widen_step : (narrow wide : List ℕ) → After (List ℕ)
widen_step a c = convert_step port_count wide_ports a c

abbrev pub narrow_step : (wide narrow : List ℕ) → After (List ℕ)
narrow_step a c = convert_step wide_ports port_count a c
