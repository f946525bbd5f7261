use Rattle.std.proofs.Common.{◌∙◌, slice_index, ap, sym, refl, arith}
use Rattle.reading_laws.proofs.ChosenReadingLemmas.{IsFree-word}
use Rattle.reading_laws.proofs.ForkNumberLemmas.{length-fork_lists}
use Rattle.free_parse.proofs.walk.readings.Goals as goal

pub bounds-table-end : goal.bounds-table-end
bounds-table-end c = let g = c.args.graph.now in omega (arith, c.end.ensures.end, c.requires.settled.count, length-fork_lists g.entries g.words)

pub returns-then-word-clause-free : goal.returns-then-word-clause-free
returns-then-word-clause-free c =
    let g = c.args.graph.now in
    let unreached = sym (ap (slice_index c.args.table.now) c.end.ensures.end) ∙ c.if-word.true in
    (λ same. (IsFree-word g.entries g.words c.args.table.now c.end.ensures.words (omega (arith, c.end.ensures.end, c.end.ensures.few)) c.requires.settled).1 unreached, λ free. refl)
