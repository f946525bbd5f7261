use Rattle.std.proofs.Common.{◌∙◌, All, refl, subst, sym}
use Rattle.std.proofs.lemmas.Result.{err_from_is_err_and}
use Rattle.report.specs.Replays.{pieces_text}
use Rattle.typed_view.specs.Covers.{IsCoverOf, covers_of}
use Rattle.typed_view.specs.CoverLines.{covers_text}
use Rattle.typed_view.proofs.CoverNumbers.{covers-of_entries}
use Rattle.audit_top.proofs.Puts.{puts-as, puts-cut, puts-second}
use Rattle.audit_top.proofs.Typed.{typed_text-is}
use Rattle.audit_top.proofs.explain.write_explained.Goals as goal

pub write_covers-requires : goal.write_covers-requires
write_covers-requires g c =
    let outlines = c.args.stack.now.outlines in
    subst (All (IsCoverOf outlines)) (sym (c.deref.ensures.value ∙ c.in_ok-covers.ensures)) (covers-of_entries outlines c.args.parts.now c.args.pieces.now c.requires.entries)

pub returns-in_err-write_replay : goal.returns-in_err-write_replay
returns-in_err-write_replay g c =
    let stack = c.args.stack.now in
    let strokes = c.args.strokes.now in
    let parts = c.args.parts.now in
    let found = c.args.pieces.now in
    let p = err_from_is_err_and c.from_residual-in_err-write_replay.result c.from_residual-in_err-write_replay.ensures.1 in
    puts-as _ _ _ _ _ _ _ (typed_text-is stack strokes parts found (covers_of parts found) c.requires.pieces refl)
    (puts-cut (pieces_text stack strokes found) (covers_text stack.outlines (covers_of parts found)) c.in_err-write_replay.field-0.0 p.0 _ _ _ _ _ p.1 p.2 c.in_err-write_replay.ensures)

pub returns : goal.returns
returns g c =
    let stack = c.args.stack.now in
    let strokes = c.args.strokes.now in
    let is = typed_text-is stack strokes c.args.parts.now c.args.pieces.now c.deref.result.now c.requires.pieces (c.deref.ensures.value ∙ c.in_ok-covers.ensures) in
    puts-as _ _ _ _ _ _ _ is
    (puts-second (pieces_text stack strokes c.args.pieces.now) (covers_text stack.outlines c.deref.result.now) _ _ _ _ _ _ _ c.in_ok-write_replay.ensures.all (c.in_ok-write_replay.ensures.steady refl) c.write_covers.ensures)
