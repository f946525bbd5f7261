use Rattle.std.proofs.Common.{◌≡◌, length, length-set, set, arith, sym, subst, ◌∙◌}
use Rattle.steal_batches.specs.Deques.{DequeView}
use Rattle.steal_rounds.specs.inside.Records.{AreHeld, AreBlank, AreOffered}
use Rattle.steal_rounds.proofs.Lists.{at_get, get_set_other}
use Rattle.steal_rounds.proofs.Makes.{hiring, armed, hired_held, hired_blank, hired_offered}
use Rattle.steal_rounds.proofs.make.hire.Goals as goal

pub returns-clause-held : goal.returns-clause-held
returns-clause-held c =
    let xs = c.args.crew.now.items in let v = c.args.victim in let w = c.args.worker in
    let d = c.index_mut.result.now in let m = c.index_mut-2.result.now in let q = c.thief.new.self in let ts = c.push.new.self in
    let ne = c.requires.below.2 in
    let there = at_get xs v d c.requires.below.0 c.index_mut.ensures.value in
    let ys = set xs v (hiring d q) in
    let len : length ys ≡ length xs = length-set xs v (hiring d q) in
    let at = sym (get_set_other xs v (hiring d q) w ne) ∙ at_get ys w m (let b = c.requires.below.1 in omega (arith, b, len)) c.index_mut-2.ensures.value in
    let is = c.in_ok-push.ensures.items in
    let own = c.in_ok-thief.ensures in
    let back = sym c.in_ok-thief.ensures.deque in
    subst (λ (z : DequeView). AreHeld v w (set (set xs v (hiring d z)) w (armed m ts))) back
    (hired_held xs v w m d ts c.in_ok-thief.thief at there ne is own.victim.0 own.fresh.1 c.requires.held)

pub returns-clause-blank : goal.returns-clause-blank
returns-clause-blank c =
    let xs = c.args.crew.now.items in let v = c.args.victim in let w = c.args.worker in
    let d = c.index_mut.result.now in let m = c.index_mut-2.result.now in let q = c.thief.new.self in let ts = c.push.new.self in
    let ne = c.requires.below.2 in
    let there = at_get xs v d c.requires.below.0 c.index_mut.ensures.value in
    let ys = set xs v (hiring d q) in
    let len : length ys ≡ length xs = length-set xs v (hiring d q) in
    let at = sym (get_set_other xs v (hiring d q) w ne) ∙ at_get ys w m (let b = c.requires.below.1 in omega (arith, b, len)) c.index_mut-2.ensures.value in
    let is = c.in_ok-push.ensures.items in
    let own = c.in_ok-thief.ensures in
    let back = sym c.in_ok-thief.ensures.deque in
    λ t p h. subst (λ (z : DequeView). AreBlank t p (set (set xs v (hiring d z)) w (armed m ts))) back
    (hired_blank xs v w m d ts c.in_ok-thief.thief at there ne is own.victim.0 own.fresh.1 t p h)

pub returns-clause-offered : goal.returns-clause-offered
returns-clause-offered c =
    let xs = c.args.crew.now.items in let v = c.args.victim in let w = c.args.worker in
    let d = c.index_mut.result.now in let m = c.index_mut-2.result.now in let q = c.thief.new.self in let ts = c.push.new.self in
    let ne = c.requires.below.2 in
    let there = at_get xs v d c.requires.below.0 c.index_mut.ensures.value in
    let ys = set xs v (hiring d q) in
    let len : length ys ≡ length xs = length-set xs v (hiring d q) in
    let at = sym (get_set_other xs v (hiring d q) w ne) ∙ at_get ys w m (let b = c.requires.below.1 in omega (arith, b, len)) c.index_mut-2.ensures.value in
    let is = c.in_ok-push.ensures.items in
    let own = c.in_ok-thief.ensures in
    let back = sym c.in_ok-thief.ensures.deque in
    λ b h. subst (λ (z : DequeView). AreOffered b (set (set xs v (hiring d z)) w (armed m ts))) back
    (hired_offered xs v w m d ts c.in_ok-thief.thief at there ne is own.victim.0 own.fresh.1 b h)
