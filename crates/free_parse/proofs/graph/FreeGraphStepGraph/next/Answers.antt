use Rattle.std.proofs.Common.{◌<◌, subst, arith, sym}
use Rattle.reading_laws.specs.ForkNumbers.{fork_count}
use Rattle.reading_laws.proofs.ForkNumberLemmas.{length-fork_lists}
use Rattle.std.specs.Prelude.{MatchOption}
use Rattle.free_parse.specs.Cursors.{AreForkNumbers}
use Rattle.free_parse.specs.inside.Waits.{waits_for}
use Rattle.free_parse.proofs.TargetLemmas.{taken_below}
use Rattle.free_parse.proofs.graph.FreeGraphStepGraph.next.Goals as goal

pub returns-in-Some-clause-below : goal.returns-in-Some-clause-below
returns-in-Some-clause-below c =
    let g = c.args.self.now in
    let all = subst (AreForkNumbers (fork_count g.entries)) c.in-Some.ensures c.requires.below in
    omega (arith, all.0, length-fork_lists g.entries g.words)

pub returns-clause-below : goal.returns-clause-below
returns-clause-below c =
    let g = c.args.self.now in
    subst (λ n. MatchOption c.take-2.result (Unit {0}) (λ t. t < n)) (sym (length-fork_lists g.entries g.words))
    (taken_below (fork_count g.entries) (waits_for c.refill.new.cursor.waiting) c.take-2.result _ c.take-2.ensures c.refill.ensures.owns.below)
