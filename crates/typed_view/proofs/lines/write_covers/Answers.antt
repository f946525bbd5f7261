use Rattle.std.proofs.Common.{[], sym, append-nil}
use Rattle.typed_view.specs.CoverLines.{covers_text}
use Rattle.pages.proofs.PageSteps.{adding_all, adding_as, adding_more, puts_last}
use Rattle.typed_view.proofs.lines.write_covers.Goals as goal

pub returns : goal.returns
returns g c =
    let text = covers_text c.args.stack.now.outlines c.args.covers.now in
    let none = adding_more _ _ _ text text [] tt (adding_as _ _ text text _ (sym (append-nil text)) (adding_all _ text)) c.in_ok-write_lines.ensures in
    puts_last _ _ _ [] _ _ text _ c.in_ok-page.ensures c.deref.ensures.value none c.write_all.ensures
