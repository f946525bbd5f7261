use Rattle.std.proofs.Common.{◌&&◌, ◌+◌, false, arith}
use Rattle.reading_laws.specs.ForkNumbers.{fork_count}
use Rattle.free_parse.proofs.TargetLemmas.{four_below, numbers_of_same}
use Rattle.free_parse.proofs.graph.FreeGraph.targets_of_one.Goals as goal

pub returns-clause-targets : goal.returns-clause-targets
returns-clause-targets c =
    let g = c.args.self.now in
    rw (c.number_if.ensures, c.number_if-2.ensures, c.number_if-3.ensures)
    (numbers_of_same g.entries g.words c.args.child c.part-start.result c.opens-opens.result c.is_word-is_word.result c.opens-opens.ensures c.is_word-is_word.ensures c.requires c.part-start.ensures.start)

pub returns-clause-below : goal.returns-clause-below
returns-clause-below c =
    let g = c.args.self.now in
    let within = c.part-start.ensures.within in
    rw (c.number_if.ensures, c.number_if-2.ensures, c.number_if-3.ensures)
    (four_below (fork_count g.entries) c.opens-opens.result c.is_word-is_word.result (c.opens-opens.result && c.is_word-is_word.result) false c.part-start.result 0 (c.part-start.result + 1) 0
    (omega (arith, within)) (omega arith) (omega (arith, within)) (omega arith))
