use Rattle.std.proofs.Common.{Some, ◌∙◌, ap, ap₂, refl, sym}
use Rattle.std.proofs.lemmas.Result.{err_from_is_err_and}
use Rattle.stroke.specs.Pieces.{pieces}
use Rattle.report.specs.Replays.{pieces_text}
use Rattle.audit_top.specs.Outcomes.{prints}
use Rattle.audit_top.specs.Translated.{IsReplay}
use Rattle.audit_top.specs.declared.status.Status.TheVariants.{Clean}
use Rattle.audit_top.proofs.Reports.{replay-is, strokes-stopped}
use Rattle.audit_top.proofs.Stops.{put-stopped, put-whole}
use Rattle.audit_top.proofs.replay.replay_pieces.Goals as goal

pub returns-in_err-strokes : goal.returns-in_err-strokes
returns-in_err-strokes g c =
    let p = err_from_is_err_and c.from_residual.result c.from_residual.ensures.1 in
    strokes-stopped _ c.args.outline.now _ _ p.0 c.in_err-strokes.field-0.0 c.requires.readable c.in_err-strokes.ensures.err p.1 p.2

pub returns-in_err-write_replay : goal.returns-in_err-write_replay
returns-in_err-write_replay g c =
    let stack = c.args.stack.now in
    let read = c.in_ok-strokes.ensures.ok ∙ ap Some (sym c.deref-2.ensures.value) in
    let found = c.deref-3.ensures.value ∙ c.in_ok-pieces.ensures.pieces ∙ ap₂ pieces c.requires.trie (c.deref.ensures.value ∙ sym c.deref-2.ensures.value) in
    let may = replay-is stack c.args.outline.now c.deref-2.result.now c.deref-3.result.now read found in
    let p = err_from_is_err_and c.from_residual-in_err-write_replay.result c.from_residual-in_err-write_replay.ensures.1 in
    put-stopped (IsReplay c.args.outline.now stack) _ _ (prints Clean (pieces_text stack c.deref-2.result.now c.deref-3.result.now)) _ _ p.0 may c.in_err-write_replay.ensures p.1 p.2

pub returns : goal.returns
returns g c =
    let stack = c.args.stack.now in
    let read = c.in_ok-strokes.ensures.ok ∙ ap Some (sym c.deref-2.ensures.value) in
    let found = c.deref-3.ensures.value ∙ c.in_ok-pieces.ensures.pieces ∙ ap₂ pieces c.requires.trie (c.deref.ensures.value ∙ sym c.deref-2.ensures.value) in
    let may = replay-is stack c.args.outline.now c.deref-2.result.now c.deref-3.result.now read found in
    put-whole (IsReplay c.args.outline.now stack) _ _ (prints Clean (pieces_text stack c.deref-2.result.now c.deref-3.result.now)) _ may refl refl c.in_ok-write_replay.ensures.all (c.in_ok-write_replay.ensures.steady refl)
