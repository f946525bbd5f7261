use Rattle.std.proofs.Common.{◌∙◌, ap, option_map, subst}
use Rattle.commands.specs.Commands.{command_view}
use Rattle.audit_top.specs.Runs.{IsRun, output}
use Rattle.audit_top.proofs.Ends.{run-finished}
use Rattle.audit_top.proofs.Stacks.{at}
use Rattle.commands.specs.Inputs.{searches}
use Rattle.audit_top.proofs.top.run_given_plain.Goals as goal

pub answer_given_plain-answered-requires-clause-plain : goal.answer_given_plain-answered-requires-clause-plain
answer_given_plain-answered-requires-clause-plain g c = ap searches c.read_words.ensures.is ∙ c.requires.plain

pub returns : goal.returns
returns g c =
    let before = at (g.F.Files.view c.args.files.now) (output (g.S.Sink.text c.args.out.now) (g.S.Sink.faults c.args.out.now)) in
    let files = g.F.Files.view c.answer_given_plain-answered.new.files in
    let mid = output (g.S.Sink.text c.answer_given_plain-answered.new.out) (g.S.Sink.faults c.answer_given_plain-answered.new.out) in
    let after = output (g.S.Sink.text c.finish.new.out) (g.S.Sink.faults c.finish.new.out) in
    let run = subst (λ o. IsRun o before (at files after) c.finish.result) c.read_words.ensures.is
    (run-finished (option_map command_view c.read_words.result) before files mid after c.answer_given_plain-answered.result c.finish.result c.answer_given_plain-answered.ensures c.finish.ensures) in
    run
