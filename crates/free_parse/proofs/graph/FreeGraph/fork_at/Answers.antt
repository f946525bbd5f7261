use Rattle.std.proofs.Common.{sym}
use Rattle.free_parse.proofs.DecodeLemmas.{decode_found, decode_none, decode_shut, nodes_found}
use Rattle.free_parse.proofs.graph.FreeGraph.fork_at.Goals as goal

pub returns-then-opens-clause-is : goal.returns-then-opens-clause-is
returns-then-opens-clause-is c =
    decode_found c.args.self.now.entries c.args.self.now.words c.args.longer c.args.place c.in-Some.shorter c.if-place-eq0.false c.requires.place c.requires.opens c.in-Some.ensures (sym c.if-opens.ensures)

pub returns-then-opens-clause-nodes : goal.returns-then-opens-clause-nodes
returns-then-opens-clause-nodes c = nodes_found c.args.self.now.entries c.args.longer c.args.place c.in-Some.shorter c.requires.node c.if-place-eq0.false c.requires.place c.in-Some.ensures

pub returns-else-opens-clause-is : goal.returns-else-opens-clause-is
returns-else-opens-clause-is c =
    decode_shut c.args.self.now.entries c.args.self.now.words c.args.longer c.args.place c.in-Some.shorter c.if-place-eq0.false c.requires.place c.requires.opens c.in-Some.ensures (sym c.if-opens.ensures)

pub returns-in-None-clause-is : goal.returns-in-None-clause-is
returns-in-None-clause-is c = decode_none c.args.self.now.entries c.args.self.now.words c.args.longer c.args.place c.requires.words c.if-place-eq0.false c.requires.place c.requires.opens c.in-None.ensures
