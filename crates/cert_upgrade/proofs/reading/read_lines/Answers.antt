use Rattle.std.proofs.Common.{subst, sym}
use Rattle.cert_upgrade.specs.inside.Stages.{IsWholeRead}
use Rattle.cert_upgrade.proofs.reading.read_lines.Goals as goal

pub returns-in-Err-read_rows-clause-fault : goal.returns-in-Err-read_rows-clause-fault
returns-in-Err-read_rows-clause-fault g c bytes told = c.in-Err-read_rows.ensures.err bytes (c.in-Ok.ensures.read bytes told)

pub returns-in-Err-read_end-clause-fault : goal.returns-in-Err-read_end-clause-fault
returns-in-Err-read_end-clause-fault g c bytes told = c.in-Err-read_end.ensures.err bytes c.read_rows.new.lines.items _ (c.in_default.ensures.read bytes (c.in-Ok.ensures.read bytes told))

pub returns-in-Ok-push-clause-read : goal.returns-in-Ok-push-clause-read
returns-in-Ok-push-clause-read g c bytes told =
    subst (λ ls. IsWholeRead bytes ls c.in-Ok.read.1) (sym c.in-Ok-push.ensures.items) (c.in_default-read_end.ensures.read bytes c.read_rows.new.lines.items c.in-Ok.read.1 (c.in_default.ensures.read bytes (c.in-Ok.ensures.read bytes told)))
