use Rattle.std.proofs.Common.{◌≡◌, ◌+◌, ◌<◌, length, suc, ap, subst, arith, ◌∙◌, inl, inr}
use Rattle.round_core.proofs.Searches.{Passing, passing_start, passing_end, enter, make_by, leave, state_best}
use Rattle.round_core.proofs.Places.{read_old, take_old}
use Rattle.round_core.proofs.search.relax_round.Goals.{then-word-found, then-found+in_ok-push, else-found, else-word-found}
use Rattle.round_core.proofs.search.relax_round.Goals as goal

pub loop-at-init : goal.loop-at-init
loop-at-init g c = passing_start _ _ c.args.distance c.args.begin c.args.words.now.items c.args.queue.now.items c.requires.few.0 c.requires.ready

pub first-cursor-requires : goal.first-cursor-requires
first-cursor-requires g c =
    let a = c.len-end.ensures in let b = c.loop-at-test.true in
    let lt : c.loop-at.at < length c.args.queue.now.items = omega (arith, a, b) in
    let is = read_old c.args.queue.now.items c.loop-at.invariant.noted c.loop-at.queue.items c.loop-at.at c.index-state.result.now c.loop-at.invariant.queue_is lt c.index-state.ensures in
    (state_best _ _ c.args.distance c.args.begin c.loop-at.at c.index-state.result.now c.args.queue.now.items c.requires.ready.front c.loop-at.auto.at lt is).0

pub loop-target-init : goal.loop-target-init
loop-target-init g c =
    let a = c.len-end.ensures in let b = c.loop-at-test.true in
    let lt : c.loop-at.at < length c.args.queue.now.items = omega (arith, a, b) in
    let is = read_old c.args.queue.now.items c.loop-at.invariant.noted c.loop-at.queue.items c.loop-at.at c.index-state.result.now c.loop-at.invariant.queue_is lt c.index-state.ensures in
    record {
      owned = c.first-cursor.ensures.mine;
      state = is;
      making = enter _ _ c.args.distance c.args.begin c.loop-at.at c.index-state.result.now c.args.queue.now.items (g.G.StepGraph.left c.args.graph.now c.first-cursor.result) c.loop-at.words.items c.loop-at.queue.items c.loop-at.moves
          lt is c.first-cursor.ensures.whole c.first-cursor.ensures.few c.loop-at.invariant;
    }

pub loop-target-preserved : goal.loop-target-preserved
loop-target-preserved g c =
    let a = c.len-end.ensures in let b = c.loop-at-test.true in
    let lt : c.loop-at.at < length c.args.queue.now.items = omega (arith, a, b) in
    let best = (state_best _ _ c.args.distance c.args.begin c.loop-at.at c.index-state.result.now c.args.queue.now.items c.requires.ready.front c.loop-at.auto.at lt c.loop-target.invariant.state).1 in
    record {
      owned = c.in-Some.ensures.mine;
      state = c.loop-target.invariant.state;
      making = make_by _ _ c.args.distance c.args.begin c.loop-at.at c.index-state.result.now c.in-Some.target c.word_after-word.result c.index-found.result.now c.args.queue.now.items
          (g.G.StepGraph.left c.args.graph.now c.loop-target.cursor) (g.G.StepGraph.left c.args.graph.now c.next.new.cursor) c.loop-target.words.items c.loop-target.queue.items c.if-word-found.words.items c.if-word-found.queue.items c.loop-target.moves
          c.requires.few.0 c.requires.few.1 c.in-Some.ensures.below best c.in-Some.ensures.next c.word_after-word.ensures c.index-found.ensures
          (elim c.if-word-found.branch [
            | then-word-found w ↦ elim w.if-found.branch [
              | then-found+in_ok-push v ↦ inr (inr (w.if-word-found.true, ap (λ q. q.items) w.words-is, v.if-found.true, ap (λ q. q.items) (w.queue-is ∙ v.queue-is) ∙ v.in_ok-push.ensures.items))
              | else-found v ↦ inr (inl (w.if-word-found.true, ap (λ q. q.items) w.words-is, v.if-found.false, ap (λ q. q.items) (w.queue-is ∙ v.queue-is)))
            ]
            | else-word-found w ↦ inl (w.if-word-found.false, ap (λ q. q.items) w.words-is, ap (λ q. q.items) w.queue-is)
          ])
          c.loop-target.invariant.making;
    }

pub loop-at-preserved : goal.loop-at-preserved
loop-at-preserved g c = subst (λ n. Passing (g.G.StepGraph.origin c.args.graph.now) (g.G.StepGraph.lists c.args.graph.now) c.args.distance c.args.begin n c.args.queue.now.items c.loop-target.words.items c.loop-target.queue.items c.loop-target.moves) (let e : suc c.loop-at.at ≡ c.loop-at.at + 1 = omega arith in e)
    (leave _ _ c.args.distance c.args.begin c.loop-at.at c.index-state.result.now c.args.queue.now.items (g.G.StepGraph.left c.args.graph.now c.loop-target.cursor) c.loop-target.words.items c.loop-target.queue.items c.loop-target.moves c.in_default.ensures.next.0 c.loop-target.invariant.making)

pub returns-clause-ready : goal.returns-clause-ready
returns-clause-ready g c =
    let a = c.len-end.ensures in let b = c.loop-at-test.false in let within = c.requires.few.2 in
    let end = c.loop-at.auto.at-end (omega (arith, a, within)) in
    passing_end _ _ c.args.distance c.args.begin c.args.queue.now.items c.loop-at.words.items c.loop-at.queue.items c.loop-at.moves c.requires.few.0 c.requires.few.1
    (subst (λ n. Passing (g.G.StepGraph.origin c.args.graph.now) (g.G.StepGraph.lists c.args.graph.now) c.args.distance c.args.begin n c.args.queue.now.items c.loop-at.words.items c.loop-at.queue.items c.loop-at.moves) (let e : c.loop-at.at ≡ length c.args.queue.now.items = omega (arith, a, b, end) in e) c.loop-at.invariant)

pub returns-clause-longer : goal.returns-clause-longer
returns-clause-longer g c = take_old c.args.queue.now.items c.loop-at.invariant.noted c.loop-at.queue.items c.loop-at.invariant.queue_is
