use Rattle.audit_top.specs.Runs.{output}
use Rattle.audit_top.proofs.Stacks.{no-command}
use Rattle.audit_top.proofs.top.answer_given.Goals as goal

pub returns-in-None : goal.returns-in-None
returns-in-None g c = rw c.in-None.is (no-command (g.F.Files.view c.args.files.now) (output (g.S.Sink.text c.args.out.now) (g.S.Sink.faults c.args.out.now)))
