use Rattle.std.proofs.Common.{◌-◌, ◌≡◌, ◌≤◌, length, take, false, []}
use Rattle.text_rules.specs.Lines.{has_byte}
use Rattle.certificate.specs.inside.Pieces.{PassesOver, piece_size}
use Rattle.certificate.proofs.pieces.Pieces.reach.Given as goal

abbrev pub invariant-loop-place : goal.invariant-loop-place
invariant-loop-place g l = record {
  seen : l.seen ≤ length l.self.left;
  plain : has_byte 10 (take l.seen l.self.left) ≡ false;
  passes : PassesOver [] false l.fn.self l.self (g.F.Files.view l.fn.files) (g.F.Files.view l.files);
}

abbrev pub decreases-loop-place : goal.decreases-loop-place
decreases-loop-place g l = piece_size - length l.self.left
