use Rattle.std.proofs.Common.{ℕ, ◌+◌, ◌≤◌, List, [], ◌∷◌, drop, get_or, ap, arith, sym, subst, ◌∙◌, inl, inr, append-nil}
use Rattle.std.proofs.lemmas.List.{drop_more}
use Rattle.std.proofs.Math.ListN.{drop_of_length-le}
use Rattle.graph_rules.specs.Graphs.{row, moved}
use Rattle.round_core.specs.Rounds.{Has}
use Rattle.steal_rounds.proofs.Spreads.{Spreading, begins, listed_target, all_at, steps_on, noted_last, notes_it, makes_goes, adds_by_more}
use Rattle.steal_rounds.proofs.spread.relax_all.Goals.{then-reply-value+in_ok-push, else-reply-value}
use Rattle.steal_rounds.proofs.spread.relax_all.Goals as goal

pub loop-target-init : goal.loop-target-init
loop-target-init g c =
    let t = c.args.table.now in let s = c.args.state in let notes = c.args.notes.now.items in
    subst (λ (l : List ℕ). Spreading t c.args.distance s c.args.pass.now c.args.pass.now notes notes (row t.lists s) l 0) (sym c.requires.targets)
    (begins t c.args.distance s c.args.pass.now notes (row t.lists s) c.requires.pass)

pub relax-reply-requires-clause-below : goal.relax-reply-requires-clause-below
relax-reply-requires-clause-below g c =
    let xs = c.args.targets.now in let n = c.loop-target.target-index in
    c.requires.inside c.args.state (get_or xs n 0) (listed_target c.args.table.now c.args.state xs n c.requires.targets (omega arith))

pub relax-reply-requires-clause-walk : goal.relax-reply-requires-clause-walk
relax-reply-requires-clause-walk g c =
    (c.requires.state.1, listed_target c.args.table.now c.args.state c.args.targets.now c.loop-target.target-index c.requires.targets (omega arith))

pub loop-target-preserved : goal.loop-target-preserved
loop-target-preserved g c =
    let t = c.args.table.now in let k = c.args.distance in let s = c.args.state in
    let xs = c.args.targets.now in let n = c.loop-target.target-index in let u = get_or xs n 0 in
    let notes = c.loop-target.notes.items in
    let edge = listed_target t s xs n c.requires.targets (omega arith) in
    let step = steps_on t c.args.pass.now c.loop-target.pass c.relax-reply.new.pass c.args.notes.now.items notes c.if-reply-value.notes.items (row t.lists s) (drop n xs) (drop (n + 1) xs) u k s c.relax-reply.result n
    c.loop-target.invariant (drop_more xs n 0 (omega arith)) c.relax-reply.ensures.call c.relax-reply.ensures.stands in
    elim c.if-reply-value.branch [
      | then-reply-value+in_ok-push w ↦
          let more = ap (λ q. q.items) w.notes-is ∙ w.in_ok-push.ensures.items in
          let le : moved k s ≤ c.relax-reply.result = omega (arith, w.if-reply-value.true, c.word_after-value.ensures) in
          step (u ∷ [], sym more) (inr (noted_last notes c.if-reply-value.notes.items u more))
          (notes_it t c.loop-target.pass c.relax-reply.new.pass notes c.if-reply-value.notes.items u k s c.relax-reply.result more edge c.relax-reply.ensures.call le)
      | else-reply-value w ↦
          let same = ap (λ q. q.items) w.notes-is in
          step ([], append-nil notes ∙ sym same) (inl (omega (arith, w.if-reply-value.false, c.word_after-value.ensures)))
          (λ v has. inl (subst (λ (l : List ℕ). Has l v) same has))
    ]

pub returns-in_err-push-clause-adds : goal.returns-in_err-push-clause-adds
returns-in_err-push-clause-adds g c =
    let i = c.loop-target.invariant in
    λ u has. adds_by_more c.args.table.now c.args.distance c.args.state c.args.pass.now.seen c.loop-target.pass.seen c.relax-reply.new.pass.seen c.args.notes.now.items c.loop-target.notes.items i.adds
    (makes_goes c.args.table.now c.loop-target.pass c.relax-reply.new.pass _ _ _ i.goes.0 c.relax-reply.ensures.call).2 u
    (subst (λ (l : List ℕ). Has l u) c.in_err-push.ensures.items has)

pub returns-clause-made : goal.returns-clause-made
returns-clause-made g c =
    all_at c.args.table.now c.args.distance c.args.state _ _ c.loop-target.pass.seen c.loop-target.notes.items
    (drop_of_length-le c.args.targets.now (omega arith)) c.loop-target.invariant.passing
