use Rattle.std.proofs.Common.{◌+◌, get_or, take, drop, take_all, subst, sym, arith}
use Rattle.std.proofs.lemmas.List.{take_more}
use Rattle.closure_state.proofs.RowLemmas.{child_inside}
use Rattle.free_parse.proofs.EndingLemmas.{NoneEnds, child_at, child_some, first_found, none_at_start, none_found, none_more, split_at}
use Rattle.free_parse.proofs.graph.FreeGraph.ending.Goals as goal

pub loop-pair-init : goal.loop-pair-init
loop-pair-init c = none_at_start c.args.self.now.entries c.args.self.now.words c.args.longer c.args.shorter

pub are_words-requires-clause-child : goal.are_words-requires-clause-child
are_words-requires-clause-child c =
    let es = c.args.self.now.entries in
    let kids = c.children-pair-items.result.now in
    let pair = get_or kids c.loop-pair.pair-index (0, 0) in
    child_inside es c.args.longer pair.0 pair.1 (child_at es c.args.longer kids c.loop-pair.pair-index c.children-pair-items.ensures.children c.loop-pair-test.true)

pub are_words-requires-clause-some : goal.are_words-requires-clause-some
are_words-requires-clause-some c =
    let es = c.args.self.now.entries in
    let kids = c.children-pair-items.result.now in
    let pair = get_or kids c.loop-pair.pair-index (0, 0) in
    child_some es c.args.longer pair.0 pair.1 (child_at es c.args.longer kids c.loop-pair.pair-index c.children-pair-items.ensures.children c.loop-pair-test.true)

pub returns-then-are_words : goal.returns-then-are_words
returns-then-are_words c =
    let g = c.args.self.now in
    let kids = c.children-pair-items.result.now in
    let i = c.loop-pair.pair-index in
    let inside = c.loop-pair-test.true in
    let children = c.children-pair-items.ensures.children in
    first_found g.entries g.words c.args.longer c.args.shorter kids (take i kids) (drop (i + 1) kids) (get_or kids i (0, 0)) c.children-pair-items.ensures.words children
    (split_at kids i inside) c.loop-pair.invariant (child_at g.entries c.args.longer kids i children inside) c.if-are_words.ensures

pub loop-pair-preserved : goal.loop-pair-preserved
loop-pair-preserved c =
    let g = c.args.self.now in
    let kids = c.children-pair-items.result.now in
    let i = c.loop-pair.pair-index in
    let inside = c.loop-pair-test.true in
    subst (NoneEnds g.entries g.words c.args.longer c.args.shorter) (sym (take_more kids i (0, 0) inside))
    (none_more g.entries g.words c.args.longer c.args.shorter (take i kids) (get_or kids i (0, 0)) c.loop-pair.invariant (child_at g.entries c.args.longer kids i c.children-pair-items.ensures.children inside) c.if-are_words.ensures)

pub returns : goal.returns
returns c =
    let g = c.args.self.now in
    let kids = c.children-pair-items.result.now in
    let all = take_all c.loop-pair.pair-index kids (omega (arith, c.loop-pair-test.false)) in
    none_found g.entries g.words c.args.longer c.args.shorter kids c.children-pair-items.ensures.words c.children-pair-items.ensures.children
    (subst (NoneEnds g.entries g.words c.args.longer c.args.shorter) all c.loop-pair.invariant)
