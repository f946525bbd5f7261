use Rattle.std.proofs.Common.{◌<◌, ◌++◌, ◌∙◌, [], ◌∷◌, ap, arith, length, map, string_bytes, List, ℕ}
use Rattle.std.proofs.lemmas.List.{length-map}
use Rattle.commands.specs.Commands.{is_spelt}
use Rattle.commands.proofs.CommandLaw.{readable_at}
use Rattle.dict_files.proofs.Turns.{arg-turn}
use Rattle.audit_top.specs.Translated.{typed_strokes}
use Rattle.audit_top.proofs.Typed.{parts-more, typed-more}
use Rattle.audit_top.proofs.explain.read_typed.Goals as goal

pub read_readable-requires-clause-short : goal.read_readable-requires-clause-short
read_readable-requires-clause-short c =
    let args = map string_bytes c.args.outlines.now in
    let within : c.loop-outline.outline-index < length args = omega (arith, length-map c.args.outlines.now string_bytes, c.loop-outline-test.true) in
    let turn = arg-turn c.args.outlines.now c.loop-outline.outline-index c.outline-item.result c.outline-item.is c.loop-outline-test.true in
    let short = c.requires.short c.loop-outline.outline-index [] within in
    let count = ap length (c.as_str.ensures.value ∙ turn) in
    omega (arith, short, count)

pub read_readable-requires-clause-readable : goal.read_readable-requires-clause-readable
read_readable-requires-clause-readable c =
    let args = map string_bytes c.args.outlines.now in
    let within : c.loop-outline.outline-index < length args = omega (arith, length-map c.args.outlines.now string_bytes, c.loop-outline-test.true) in
    let turn = arg-turn c.args.outlines.now c.loop-outline.outline-index c.outline-item.result c.outline-item.is c.loop-outline-test.true in
    ap is_spelt (c.as_str.ensures.value ∙ turn) ∙ readable_at args c.loop-outline.outline-index c.requires.readable within

pub loop-outline-preserved : goal.loop-outline-preserved
loop-outline-preserved c =
    let args = map string_bytes c.args.outlines.now in
    let i = c.loop-outline.outline-index in
    let within : i < length args = omega (arith, length-map c.args.outlines.now string_bytes, c.loop-outline-test.true) in
    let turn = arg-turn c.args.outlines.now i c.outline-item.result c.outline-item.is c.loop-outline-test.true in
    let read = c.in_ok-read.ensures.strokes ∙ ap typed_strokes (c.as_str.ensures.value ∙ turn) in
    let strokes = typed-more args i c.loop-outline.strokes.items c.in_ok-read.read.items within c.loop-outline.invariant.0 read in
    let parts = parts-more args i c.loop-outline.parts.items c.in_ok-read.read.items within c.loop-outline.invariant.1 read in (
      c.in_ok-extend_from_slice.ensures.items ∙ ap (λ (l : List ℕ). c.loop-outline.strokes.items ++ l) c.deref.ensures.value ∙ strokes,
      c.in_ok-push.ensures.items ∙ ap (λ (n : ℕ). c.loop-outline.parts.items ++ (n ∷ [])) (c.len.ensures ∙ c.in_ok-read.read.ok.0) ∙ parts,
    )
