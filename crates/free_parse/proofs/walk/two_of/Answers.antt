use Rattle.std.proofs.Common.{◌-◌, ◌/◌, ◌%◌, subst, sym, arith}
use Rattle.free_parse.specs.FoundReadings.{AreBothNumbers, AreChosenTwo, AreFewest}
use Rattle.free_parse.specs.inside.Walks.{IsShortestWalkTo}
use Rattle.free_parse.proofs.WalkLemmas.{reached_end, word_read}
use Rattle.free_parse.proofs.walk.two_of.Goals as goal

pub overflow_sub-strokes : goal.overflow_sub-strokes
overflow_sub-strokes c =
    let h = reached_end c.args.graph.now c.args.table.now c.args.word c.requires.words c.requires.few c.requires.settled c.requires.word c.requires.reached in
    omega (arith, h.is)

pub walk_back-requires : goal.walk_back-requires
walk_back-requires c =
    let h = reached_end c.args.graph.now c.args.table.now c.args.word c.requires.words c.requires.few c.requires.settled c.requires.word c.requires.reached in
    subst (λ w. IsShortestWalkTo c.args.graph.now c.args.table.now (w % 4294967296) (c.args.word / 4294967296 - 1)) (sym c.requires.word) h.walk

pub returns-clause-fewest : goal.returns-clause-fewest
returns-clause-fewest c =
    let g = c.args.graph.now in
    let h = reached_end g c.args.table.now c.args.word c.requires.words c.requires.few c.requires.settled c.requires.word c.requires.reached in
    let read = word_read g c.args.table.now c.args.word c.in_ok-path.path.items c.in_ok-halves.halves h c.requires.word c.in_ok-path.ensures c.in_ok-halves.ensures in
    subst (AreFewest g.entries g.words) (sym c.new.ensures) read.fewest

pub returns-clause-chosen : goal.returns-clause-chosen
returns-clause-chosen c =
    let g = c.args.graph.now in
    let h = reached_end g c.args.table.now c.args.word c.requires.words c.requires.few c.requires.settled c.requires.word c.requires.reached in
    let read = word_read g c.args.table.now c.args.word c.in_ok-path.path.items c.in_ok-halves.halves h c.requires.word c.in_ok-path.ensures c.in_ok-halves.ensures in
    subst (AreChosenTwo g.entries g.words c.args.table.now) (sym c.new.ensures) read.chosen

pub returns-clause-numbers : goal.returns-clause-numbers
returns-clause-numbers c =
    let g = c.args.graph.now in
    let h = reached_end g c.args.table.now c.args.word c.requires.words c.requires.few c.requires.settled c.requires.word c.requires.reached in
    let read = word_read g c.args.table.now c.args.word c.in_ok-path.path.items c.in_ok-halves.halves h c.requires.word c.in_ok-path.ensures c.in_ok-halves.ensures in
    subst (AreBothNumbers g.entries) (sym c.new.ensures) read.numbers
