use Rattle.std.proofs.Common.{rules, ◌≡◌, ◌+◌, [], List, length, length-set, set, arith, ap, sym, subst, ◌∙◌}
use Rattle.steal_batches.specs.Deques.{DequeView, ThiefView}
use Rattle.steal_rounds.specs.inside.Records.{AreHeld, AreReturned}
use Rattle.steal_rounds.proofs.Lists.{at_get, get_set_other}
use Rattle.steal_rounds.proofs.Returns.{popped, step_returns, step_held, right_victim, thief_left}
use Rattle.steal_rounds.proofs.give_back.take_back.Goals as goal

pub take_back-requires : goal.take_back-requires
take_back-requires c =
    let xs = c.args.crew.now.items in
    let m = c.index_mut.result.now in let d = c.index_mut-in-Some.result.now in
    let at = at_get xs c.args.worker m c.requires.below.1 c.index_mut.ensures.value in
    let ys = set xs c.args.worker (popped m c.pop.new.self) in
    let len : length ys ≡ length xs = length-set xs c.args.worker (popped m c.pop.new.self) in
    let there = sym (get_set_other xs c.args.worker (popped m c.pop.new.self) c.args.victim (λ s. c.requires.below.2 (sym s))) ∙ at_get ys c.args.victim d (let b = c.requires.below.0 in omega (arith, b, len)) c.index_mut-in-Some.ensures.value in
    right_victim xs c.args.victim c.args.worker m d c.pop.new.self c.in-Some.thief at there c.requires.below.2 c.in-Some.ensures.items c.requires.held

pub returns-in-Some-clause-held : goal.returns-in-Some-clause-held
returns-in-Some-clause-held c =
    let xs = c.args.crew.now.items in
    let m = c.index_mut.result.now in let d = c.index_mut-in-Some.result.now in
    let at = at_get xs c.args.worker m c.requires.below.1 c.index_mut.ensures.value in
    let ys = set xs c.args.worker (popped m c.pop.new.self) in
    let len : length ys ≡ length xs = length-set xs c.args.worker (popped m c.pop.new.self) in
    let there = sym (get_set_other xs c.args.worker (popped m c.pop.new.self) c.args.victim (λ s. c.requires.below.2 (sym s))) ∙ at_get ys c.args.victim d (let b = c.requires.below.0 in omega (arith, b, len)) c.index_mut-in-Some.ensures.value in
    subst (λ (q : DequeView). AreHeld c.args.victim (c.args.worker + 1) (set ys c.args.victim (record d { deque = q }))) (sym c.take_back.ensures)
    (step_held xs c.args.victim c.args.worker m d c.pop.new.self c.in-Some.thief at there c.requires.below.2 c.in-Some.ensures.items c.requires.held)

pub returns-in-Some-clause-same : goal.returns-in-Some-clause-same
returns-in-Some-clause-same c =
    let xs = c.args.crew.now.items in
    let m = c.index_mut.result.now in let d = c.index_mut-in-Some.result.now in
    let at = at_get xs c.args.worker m c.requires.below.1 c.index_mut.ensures.value in
    let ys = set xs c.args.worker (popped m c.pop.new.self) in
    let len : length ys ≡ length xs = length-set xs c.args.worker (popped m c.pop.new.self) in
    let there = sym (get_set_other xs c.args.worker (popped m c.pop.new.self) c.args.victim (λ s. c.requires.below.2 (sym s))) ∙ at_get ys c.args.victim d (let b = c.requires.below.0 in omega (arith, b, len)) c.index_mut-in-Some.ensures.value in
    subst (λ (q : DequeView). AreReturned xs (set ys c.args.victim (record d { deque = q }))) (sym c.take_back.ensures)
    (step_returns xs c.args.victim c.args.worker m d c.pop.new.self c.in-Some.thief at there c.requires.below.2 c.in-Some.ensures.items)

pub returns-in_default-clause-held : goal.returns-in_default-clause-held
returns-in_default-clause-held c =
    let xs = c.args.crew.now.items in
    let m = c.index_mut.result.now in
    let at = at_get xs c.args.worker m c.requires.below.1 c.index_mut.ensures.value in
    let e : m.thieves.items ≡ [] = search rules in
    let some = thief_left xs c.args.victim c.args.worker m at c.requires.below.0 c.requires.below.2 c.requires.held in
    let l = ap (λ (x : List ThiefView). length x) e in
    absurd (omega (arith, some, l))

pub returns-in_default-clause-same : goal.returns-in_default-clause-same
returns-in_default-clause-same c =
    let xs = c.args.crew.now.items in
    let m = c.index_mut.result.now in
    let at = at_get xs c.args.worker m c.requires.below.1 c.index_mut.ensures.value in
    let e : m.thieves.items ≡ [] = search rules in
    let some = thief_left xs c.args.victim c.args.worker m at c.requires.below.0 c.requires.below.2 c.requires.held in
    let l = ap (λ (x : List ThiefView). length x) e in
    absurd (omega (arith, some, l))
