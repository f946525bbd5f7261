use Rattle.std.proofs.Common.{length, ap, ◌∙◌, arith}
use Rattle.round_core.proofs.Samples.{lists_count}
use Rattle.round_core.proofs.tests.agree.Goals as goal

pub word-requires : goal.word-requires
word-requires c =
    let g = c.args.graph.now in let count = lists_count g.count g.degree g.factor g.turn g.shift in
    let lists = ap length (c.drive.ensures ∙ ap (λ v. v.lists) c.in_ok-machine.ensures) in
    let words = c.requires in let below = c.loop-state-test.true in
    omega (arith, count, lists, words, below)
