use Rattle.std.proofs.Common.{rules, ◌≡◌, ℕ, ◌+◌, ◌++◌, ◌∷◌, [], List, take, arith, subst, sym, ap, ◌∙◌}
use Rattle.std.proofs.lemmas.List.{take_more}
use Rattle.steal_rounds.specs.declared.member.CrewMember.{CrewMember}
use Rattle.steal_rounds.specs.inside.Records.{AreCollected}
use Rattle.steal_rounds.proofs.Turns.{collected_next}
use Rattle.steal_rounds.proofs.gather.collect.Goals as goal

pub loop-member-preserved : goal.loop-member-preserved
loop-member-preserved c =
    let m = c.member-item.result in
    let more : c.extend_from_slice.new.self.items ≡ c.loop-member.notes.items ++ m.notes.items = search rules in
    let sum : c.in-Some.sum ≡ c.loop-member.moves + m.moves = search rules in
    let i = c.loop-member.member-index in let xs = c.args.crew.now in
    let e = take_more xs i m (let t = c.loop-member-test.true in omega (arith, t)) ∙ ap (λ (x : CrewMember). take i xs ++ x ∷ []) (sym c.member-item.is) in
    subst (λ (l : List CrewMember). AreCollected l c.extend_from_slice.new.self.items c.in-Some.sum) (sym e)
    (subst (λ (n : ℕ). AreCollected (take i xs ++ m ∷ []) c.extend_from_slice.new.self.items n) (sym sum)
    (subst (λ (l : List ℕ). AreCollected (take i xs ++ m ∷ []) l (c.loop-member.moves + m.moves)) (sym more) (collected_next (take i xs) c.loop-member.notes.items c.loop-member.moves m c.loop-member.invariant c.if-member.false)))
