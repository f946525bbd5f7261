use Rattle.std.proofs.Common.{◌-◌, List, ℕ, false}
use Rattle.outside.specs.Files.{FilesView}
use Rattle.certificate.specs.inside.Pieces.{PiecesView, PassesOver}
use Rattle.certificate.proofs.Skips.{HasPassed}
use Rattle.certificate.proofs.next_line.skip_line.Given as goal

-- what was passed over of the line
pub record IsSkipping (done room : ℕ) (old now : PiecesView) (before after : FilesView) : Type 0 where
  pub text : List ℕ
  pub passes : PassesOver text false old now before after
  pub so_far : HasPassed done room text

abbrev pub invariant-loop-body : goal.invariant-loop-body
invariant-loop-body g l = IsSkipping l.done l.room l.fn.pieces l.pieces (g.F.Files.view l.fn.files) (g.F.Files.view l.files)

abbrev pub decreases-loop-body : goal.decreases-loop-body
decreases-loop-body g l = l.room - l.done
