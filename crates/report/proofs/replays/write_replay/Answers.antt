use Rattle.std.proofs.Common.{[], sym, append-nil}
use Rattle.report.specs.Replays.{pieces_text}
use Rattle.pages.proofs.PageSteps.{adding_all, adding_as, adding_more, puts_last}
use Rattle.report.proofs.replays.write_replay.Goals as goal

pub returns : goal.returns
returns g c =
    let text = pieces_text c.args.stack.now c.args.strokes.now c.args.pieces.now in
    let none = adding_more _ _ _ text text [] tt (adding_as _ _ text text _ (sym (append-nil text)) (adding_all _ text)) c.in_ok-write_pieces.ensures in
    puts_last _ _ _ [] _ _ text _ c.in_ok-page.ensures c.deref.ensures.value none c.write_all.ensures
