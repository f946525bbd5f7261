use Rattle.std.proofs.Common.{◌-◌, ◌≤◌, List, ℕ, false}
use Rattle.outside.specs.Files.{FilesView}
use Rattle.certificate.specs.inside.Pieces.{PiecesView, PassesOver}
use Rattle.certificate.proofs.LongRows.{IsRowSoFar}
use Rattle.certificate.proofs.Skips.{HasPassed}
use Rattle.certificate.proofs.next_line.long_row.Given as goal

-- what was passed over of the row, and its numbers
pub record IsReading (done room : ℕ) (numbers : List ℕ) (old now : PiecesView) (before after : FilesView) : Type 0 where
  pub text : List ℕ
  pub passes : PassesOver text false old now before after
  pub so_far : HasPassed done room text
  pub some : 2 ≤ done
  pub row : IsRowSoFar text numbers

abbrev pub invariant-loop-body : goal.invariant-loop-body
invariant-loop-body g l = IsReading l.done l.room l.numbers.items l.fn.pieces l.pieces (g.F.Files.view l.fn.files) (g.F.Files.view l.files)

abbrev pub decreases-loop-body : goal.decreases-loop-body
decreases-loop-body g l = l.room - l.done
