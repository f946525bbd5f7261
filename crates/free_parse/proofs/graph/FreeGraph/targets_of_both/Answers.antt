use Rattle.std.proofs.Common.{◌&&◌, ◌+◌, arith}
use Rattle.reading_laws.specs.ForkNumbers.{fork_count}
use Rattle.free_parse.proofs.TargetLemmas.{four_below, numbers_of_two}
use Rattle.free_parse.proofs.graph.FreeGraph.targets_of_both.Goals as goal

pub returns-clause-targets : goal.returns-clause-targets
returns-clause-targets c =
    let g = c.args.self.now in
    rw (c.number_if.ensures, c.number_if-2.ensures, c.number_if-3.ensures, c.number_if-4.ensures)
    (numbers_of_two g.entries g.words c.args.longer c.args.shorter c.part-start.result c.part.result c.depth.result c.end.result
    c.opens-longer_opens.result c.is_word-longer_ends.result c.opens-shorter_opens.result c.is_word-shorter_ends.result
    c.opens-longer_opens.ensures c.is_word-longer_ends.ensures c.opens-shorter_opens.ensures c.is_word-shorter_ends.ensures
    c.requires.longer c.requires.shorter c.part-start.ensures.start c.part.ensures.start c.depth.ensures.depth c.end.ensures.end)

pub returns-clause-below : goal.returns-clause-below
returns-clause-below c =
    let g = c.args.self.now in
    let longer = c.part-start.ensures.within in
    let shorter = c.part.ensures.within in
    rw (c.number_if.ensures, c.number_if-2.ensures, c.number_if-3.ensures, c.number_if-4.ensures)
    (four_below (fork_count g.entries) (c.opens-longer_opens.result && c.opens-shorter_opens.result) (c.opens-longer_opens.result && c.is_word-shorter_ends.result) (c.opens-shorter_opens.result && c.is_word-longer_ends.result) (c.is_word-longer_ends.result && c.is_word-shorter_ends.result)
    (c.part-start.result + 1 + c.depth.result) (c.part-start.result + 1) (c.part.result + 1) c.end.result
    (omega (arith, longer, c.depth.ensures.depth, c.requires.fewer)) (omega (arith, longer)) (omega (arith, shorter)) (omega (arith, c.end.ensures.end)))
