use Rattle.std.proofs.Common.{rules, ◌↔◌, IsTrue, ◌≡◌, ℕ, ◌+◌, ◌∙◌, Bool, true, false, true≢false, List, [], is_lt, Ordering, Less, Equal, Greater, arith, ap, sym, refl}
use Rattle.std.specs.List.{IsAllAdjacentAnswer}
use Rattle.std.proofs.lemmas.List.Sorted.{answers_always}
use Rattle.steno_rules.specs.Outlines.{AreRising, outline_cmp}
use Rattle.steno_rules.proofs.Lists.{pairs_of_neighbours}
use Rattle.steno_rules.proofs.Numbers.{below_trans}
use Rattle.stroke.proofs.entries.are_rising.Goals as goal

less : (o : Ordering) → true ≡ is_lt o → o ≡ Less
less Less is = refl
less Equal is = cc
less Greater is = cc

-- what a look at all neighbours answers
neighbours : (outlines : List (List ℕ)) (answer : Bool) → IsAllAdjacentAnswer (λ x y b. b ≡ is_lt (outline_cmp x y)) outlines answer → IsTrue answer ↔ AreRising outlines
neighbours outlines true next = (λ _. pairs_of_neighbours (λ x y. outline_cmp x y ≡ Less) below_trans outlines (λ k d below. less _ (next k d below)), λ _. refl)
neighbours outlines false apart = (λ is. absurd (true≢false (sym is)), λ rising. absurd (true≢false (sym (apart.2 [] ∙ ap is_lt (rising apart.0 (apart.0 + 1) [] (omega arith) apart.1)))))

pub returns : goal.returns
returns c = neighbours c.args.outlines.now c.is_sorted_by.result (c.is_sorted_by.ensures.cases (λ x y. is_lt (outline_cmp x y)) (answers_always _ _ _ (λ f a r g called. search rules)))
