use Rattle.std.proofs.Common.{option_map, subst}
use Rattle.commands.specs.Commands.{command_view}
use Rattle.audit_top.specs.Runs.{IsRun, output}
use Rattle.audit_top.proofs.Ends.{run-finished}
use Rattle.audit_top.proofs.Stacks.{at}
use Rattle.audit_top.proofs.top.run_given.Goals as goal

pub answer_given-answered-requires : goal.answer_given-answered-requires
answer_given-answered-requires g c = (c.type_bounds.sync-R, (c.type_bounds.sync-K, c.read_words.ensures.written))

pub returns : goal.returns
returns g c =
    let before = at (g.F.Files.view c.args.files.now) (output (g.S.Sink.text c.args.out.now) (g.S.Sink.faults c.args.out.now)) in
    let files = g.F.Files.view c.answer_given-answered.new.files in
    let mid = output (g.S.Sink.text c.answer_given-answered.new.out) (g.S.Sink.faults c.answer_given-answered.new.out) in
    let after = output (g.S.Sink.text c.finish.new.out) (g.S.Sink.faults c.finish.new.out) in
    let run = subst (λ o. IsRun o before (at files after) c.finish.result) c.read_words.ensures.is
    (run-finished (option_map command_view c.read_words.result) before files mid after c.answer_given-answered.result c.finish.result c.answer_given-answered.ensures c.finish.ensures) in
    run
