use Rattle.std.proofs.Common.{ap}
use Rattle.certificate.proofs.Passing.{held_behind}
use Rattle.certificate.proofs.pieces.Pieces.pass.Goals as goal

pub returns : goal.returns
returns c =
    rw (← c.self.view_is)
    (ap (λ left. record { left = left; taken = c.self.inside.taken })
    (held_behind c.self.inside.buffer.items c.self.inside.start c.self.inside.end c.args.count (rw (← c.self.view_is) at c.requires)))
