-- `text::row::write` meets its contract: what is left to write behind what was written are the fields, each behind a space.
use mathlib.Core.Path.{◌≡◌, ap}
use mathlib.Core.List.{[], ◌∷◌, map}
use native.Mathlib.Omega.{arith}
use lib.ListN.{length, length-append, drop, get_or}
use Prim.Native.Nat.{◌+◌}
use Rattle.std.proofs.Common.{rules, Some, None}
use Rattle.text.specs.declared.row.Field.TheVariants.{Number}
use Rattle.text.specs.Text.{space}
use Rattle.text.specs.Row.{shows, field_bytes}
use Rattle.text.specs.Written.{field_of, width}
use Rattle.text.proofs.Writing.{◌then◌, retext, left_more, left_none}
use Rattle.text.proofs.Rows.{behind_spaces, behind_more, behind_none, row_text_lem, row_parts}
use Rattle.text.proofs.row.write.Goals as goal

pub decimal-end-requires : goal.decimal-end-requires
decimal-end-requires c =
    let r = c.args.row in
    let w = c.args.ports.now in
    let n : c.from-2.result ≡ r.line = search rules in
    rw n (omega (arith, c.requires, row_parts r.line (field_of w r.call) r.answer (field_of w r.node) (field_of w r.channel) (field_of w r.receive) (field_of w r.scouts) (field_of w r.ports)))

pub write_next-end-requires : goal.write_next-end-requires
write_next-end-requires c =
    let r = c.args.row in
    let w = c.args.ports.now in
    let i = c.loop-field.field-index in
    let line : c.from-2.result ≡ r.line = search rules in
    let answer : c.from.result ≡ r.answer = search rules in
    let n = ap (λ m. width (shows m)) line in
    let a = ap (λ m. width (shows m)) answer in
    let fs = r.call ∷ Some (Number c.from.result) ∷ r.node ∷ r.channel ∷ r.receive ∷ r.scouts ∷ r.ports ∷ [] in
    let step = ap length (behind_more (field_of w) fs i None c.loop-field-test.true) in
    let two = length-append (space ∷ field_bytes (field_of w (get_or fs i None))) (behind_spaces (map (field_of w) (drop (i + 1) fs))) in
    let all = row_parts c.from-2.result (field_of w r.call) c.from.result (field_of w r.node) (field_of w r.channel) (field_of w r.receive) (field_of w r.scouts) (field_of w r.ports) in
    omega (arith, n, a, step, two, all, c.loop-field.invariant.place, c.loop-field.invariant.long, c.decimal-end.ensures.place, c.decimal-end.auto.out, c.requires)

pub loop-field-preserved : goal.loop-field-preserved
loop-field-preserved c = left_more _ c.loop-field.invariant (behind_more _ _ c.loop-field.field-index None c.loop-field-test.true) c.write_next-end.auto.out c.write_next-end.ensures

pub byte-requires : goal.byte-requires
byte-requires c =
    let r = c.args.row in
    let w = c.args.ports.now in
    let line : c.from-2.result ≡ r.line = search rules in
    let answer : c.from.result ≡ r.answer = search rules in
    let n = ap (λ m. width (shows m)) line in
    let a = ap (λ m. width (shows m)) answer in
    let all = row_parts c.from-2.result (field_of w r.call) c.from.result (field_of w r.node) (field_of w r.channel) (field_of w r.receive) (field_of w r.scouts) (field_of w r.ports) in
    omega (arith, n, a, all, c.loop-field.invariant.place, c.loop-field.invariant.long, c.decimal-end.ensures.place, c.decimal-end.auto.out, c.requires)

pub returns : goal.returns
returns c =
    let n : c.from-2.result ≡ c.args.row.line = search rules in
    let a : c.from.result ≡ c.args.row.answer = search rules in
    rw (← n, ← a) (retext (row_text_lem _ _ _ _ _ _ _ _) (c.decimal-end.ensures then left_none c.loop-field.invariant (behind_none _ _ c.loop-field.field-index (omega (arith, c.loop-field-test.false))) then c.byte.ensures))
