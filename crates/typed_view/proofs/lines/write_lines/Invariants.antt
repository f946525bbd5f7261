use Rattle.std.proofs.Common.{◌+◌, drop}
use Rattle.pages.specs.Pages.{progress}
use Rattle.pages.proofs.PageSteps.{IsAdding}
use Rattle.typed_view.specs.CoverLines.{covers_text, lines_from}
use Rattle.typed_view.proofs.lines.write_lines.Given as goal

-- the boundaries that are left are to be written
abbrev pub invariant-loop-i : goal.invariant-loop-i
invariant-loop-i g l =
    IsAdding (progress (g.S.Sink.text l.initial.sink) (g.S.Sink.faults l.initial.sink) l.initial.page.items)
    (progress (g.S.Sink.text l.sink) (g.S.Sink.faults l.sink) l.page.items)
    (covers_text l.stack.outlines l.covers)
    (lines_from l.stack.outlines (l.i + 1) (drop l.i l.covers))
