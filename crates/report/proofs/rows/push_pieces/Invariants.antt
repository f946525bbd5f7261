use Rattle.std.proofs.Common.{◌≡◌, ◌++◌, take, drop}
use Rattle.std.specs.List.{concat}
use Rattle.steno_rules.specs.Segments.{segments}
use Rattle.report.specs.Reports.{pieces_shown}
use Rattle.report.proofs.rows.push_pieces.Given as goal

-- the pieces so far, and the strokes of the others
abbrev pub invariant-loop-place : goal.invariant-loop-place
invariant-loop-place l = record {
  page : l.page.items ≡ l.initial.page.items ++ pieces_shown l.index (take l.place (segments l.index.outlines l.strokes));
  rest : l.rest ≡ concat (drop l.place (segments l.index.outlines l.strokes));
}
