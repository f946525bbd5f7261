use Rattle.std.proofs.Common.{◌≡◌, ℕ, List, Some, sym, subst, rules, true≢false, ap, ◌∙◌, ⊎_elim, inl, inr}
use Rattle.std.specs.Prelude.{slice_get}
use Rattle.steal_rounds.specs.inside.Moves.{Worked, AddsFound}
use Rattle.round_core.specs.inside.InRounds.{moves_of}
use Rattle.steal_rounds.specs.inside.Crews.{Took, batch_moves}
use Rattle.steal_rounds.proofs.Takings.{batch_get, works_same, works_more, works_short}
use Rattle.steal_rounds.proofs.work.work_one.Goals as goal

pub returns-in_default-clause-works : goal.returns-in_default-clause-works
returns-in_default-clause-works g c = works_same c.args.table.now c.args.distance c.args.frontier.now c.args.member.now c.next_batch.new.member c.in_default.ensures.same
    (λ b took. ⊎_elim (λ none. absurd (true≢false (sym none.1))) (λ (old : Took c.args.member.now b). old) (c.in_default.ensures.took b took)) c.in_default.ensures.none c.requires.pass

pub spread_all-requires-clause-round : goal.spread_all-requires-clause-round
spread_all-requires-clause-round g c = (c.requires.round.0, (λ i s at. let j = batch_get c.args.frontier.now c.in-Some.receipt.batch i s (subst (λ (l : List ℕ). slice_get l i ≡ Some s) c.batch_states-states.ensures.states at) in c.requires.round.1 j.0 s j.1), c.requires.round.2)

pub returns-in-Some-checked_add-clause-works : goal.returns-in-Some-checked_add-clause-works
returns-in-Some-checked_add-clause-works g c =
    let batch = c.in-Some.receipt.batch in
    let e = c.batch_states-states.ensures.states in
    let now = c.spread_all.new.pass.seen in
    let notes = c.spread_all.new.notes.items in
    works_more c.args.table.now c.args.distance c.args.frontier.now c.args.member.now c.next_batch.new.member c.spread_all.new.pass c.spread_all.new.notes batch c.in-Some-checked_add.sum c.in-Ok.moves
    c.in-Some.ensures.same c.in-Ok.ensures.pass c.in-Ok.ensures.notes
    (subst (λ (l : List ℕ). AddsFound c.args.table.now c.args.distance l c.next_batch.new.member.pass.seen now c.next_batch.new.member.notes.items notes) e c.in-Ok.ensures.adds)
    (λ b took. ⊎_elim (λ new. inl new.0) (λ (old : Took c.args.member.now b). inr old) (c.in-Some.ensures.took b took))
    (c.in-Some.ensures.some (batch_moves c.args.table.now.lists c.args.frontier.now))
    (subst (λ (l : List ℕ). Worked c.args.table.now c.args.distance now notes l) e c.in-Ok.ensures.made)
    (c.in-Ok.ensures.count ∙ ap (λ (l : List ℕ). moves_of c.args.table.now.lists l) e)
    (search rules)

pub returns-in-None-clause-works : goal.returns-in-None-clause-works
returns-in-None-clause-works g c =
    works_short c.args.table.now c.args.distance c.args.frontier.now c.args.member.now c.next_batch.new.member c.spread_all.new.pass c.spread_all.new.notes c.in-Some.receipt.batch
    c.in-Some.ensures.same c.in-Ok.ensures.pass c.in-Ok.ensures.notes
    (subst (λ (l : List ℕ). AddsFound c.args.table.now c.args.distance l c.next_batch.new.member.pass.seen c.spread_all.new.pass.seen c.next_batch.new.member.notes.items c.spread_all.new.notes.items) c.batch_states-states.ensures.states c.in-Ok.ensures.adds)

pub returns-in-Err-clause-works : goal.returns-in-Err-clause-works
returns-in-Err-clause-works g c =
    works_short c.args.table.now c.args.distance c.args.frontier.now c.args.member.now c.next_batch.new.member c.spread_all.new.pass c.spread_all.new.notes c.in-Some.receipt.batch
    c.in-Some.ensures.same c.in-Err.ensures.pass c.in-Err.ensures.notes
    (subst (λ (l : List ℕ). AddsFound c.args.table.now c.args.distance l c.next_batch.new.member.pass.seen c.spread_all.new.pass.seen c.next_batch.new.member.notes.items c.spread_all.new.notes.items) c.batch_states-states.ensures.states c.in-Err.ensures.adds)
