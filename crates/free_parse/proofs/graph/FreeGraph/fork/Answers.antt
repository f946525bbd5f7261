use Rattle.std.proofs.Common.{sym, ◌∙◌, ◌-◌, ap, arith}
use Rattle.steno_rules.specs.Nodes.{nodes}
use Rattle.reading_laws.specs.ForkNumbers.{fork_start}
use Rattle.free_parse.specs.inside.Forks.{open_in_part}
use Rattle.free_parse.proofs.DecodeLemmas.{fork_of_owner, past_end, shut_part}
use Rattle.free_parse.proofs.graph.FreeGraph.fork.Goals as goal

pub returns-then-number-end-clause-is : goal.returns-then-number-end-clause-is
returns-then-number-end-clause-is c = past_end c.args.self.now.entries c.args.self.now.words c.args.number (omega (arith, c.if-number-end.true, c.end.ensures.end))

pub returns-then-opens-clause-is : goal.returns-then-opens-clause-is
returns-then-opens-clause-is c =
    let g = c.args.self.now in
    c.fork_at.ensures.is ∙ ap (λ start. open_in_part g.entries g.words c.owner-longer.result (c.args.number - start)) c.part.ensures.start
    ∙ fork_of_owner g.entries g.words c.args.number c.owner-longer.result c.owner-longer.ensures

pub returns-else-opens-clause-is : goal.returns-else-opens-clause-is
returns-else-opens-clause-is c =
    let g = c.args.self.now in
    let owner = c.owner-longer.ensures in
    let place = c.args.number - fork_start (nodes g.entries) c.owner-longer.result in
    shut_part g.entries g.words c.owner-longer.result place (omega (arith, owner.from, owner.to)) (sym c.if-opens.ensures)
    ∙ fork_of_owner g.entries g.words c.args.number c.owner-longer.result owner
