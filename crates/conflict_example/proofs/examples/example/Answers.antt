use Rattle.closure_laws.specs.Examples.{trail}
use Rattle.conflict_example.proofs.Spellings.{spelt_more, spelt_none}
use Rattle.conflict_example.proofs.examples.example.Goals as goal

pub loop-number-init : goal.loop-number-init
loop-number-init c =
    rw (c.in_ok-walk_back.ensures, c.new-made.ensures.items)
    (spelt_none c.args.numbering.now.entries c.args.numbering.now.words (trail c.args.words.now c.args.distance c.args.number))

pub loop-number-preserved : goal.loop-number-preserved
loop-number-preserved c =
    spelt_more c.args.numbering.now.entries c.args.numbering.now.words (trail c.args.words.now c.args.distance c.args.number)
    c.loop-number.scratch.path.items c.loop-number.node c.loop-number.made.items c.in-Some.number c.pop.new.self.items c.in_ok-node.node c.spell.new.made.items
    c.loop-number.invariant c.in-Some.ensures.items c.in_ok-node.ensures.node c.in_ok-node.ensures.words
