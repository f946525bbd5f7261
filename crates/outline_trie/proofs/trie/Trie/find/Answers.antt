use Rattle.std.proofs.Common.{sym, arith}
use Rattle.std.proofs.lemmas.List.{get_or_read}
use Rattle.outline_trie.proofs.LookLemmas.{found_none, found_more, found_all, lost}
use Rattle.outline_trie.proofs.trie.Trie.find.Goals as goal

pub loop-stroke-init : goal.loop-stroke-init
loop-stroke-init c = found_none c.args.self.now c.args.strokes.now

pub loop-stroke-preserved : goal.loop-stroke-preserved
loop-stroke-preserved c =
    found_more c.args.self.now c.args.strokes.now c.loop-stroke.stroke-index c.loop-stroke.node c.stroke-item.result c.in-Some.next c.loop-stroke.invariant c.loop-stroke-test.true
    (get_or_read c.args.strokes.now c.loop-stroke.stroke-index c.stroke-item.result c.loop-stroke-test.true c.stroke-item.is 0) (sym c.in-Some.ensures)

pub returns-in-None : goal.returns-in-None
returns-in-None c =
    sym (lost c.args.self.now c.args.strokes.now c.loop-stroke.stroke-index c.loop-stroke.node c.stroke-item.result c.loop-stroke.invariant c.loop-stroke-test.true
    (get_or_read c.args.strokes.now c.loop-stroke.stroke-index c.stroke-item.result c.loop-stroke-test.true c.stroke-item.is 0) (sym c.in-None.ensures))

pub returns : goal.returns
returns c = sym (found_all c.args.self.now c.args.strokes.now c.loop-stroke.stroke-index c.loop-stroke.node c.loop-stroke.invariant (omega arith))
