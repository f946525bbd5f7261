use Rattle.std.proofs.Common.{◌≡◌, ◌∙◌, ◌++◌, ◌∷◌, [], sym, ap, subst, rules, length, take, map-id}
use Rattle.std.proofs.lemmas.List.{length-map}
use Rattle.std.proofs.lemmas.Iterator.Consumers.{YieldsList-turn, YieldsList-so_far}
use Rattle.std.proofs.lemmas.Iterator.Adapters.{YieldsList-from_vec}
use Rattle.dict_stack.specs.inside.Candidates.{AreSorted, some_word}
use Rattle.dict_stack.proofs.CountLemmas.{next_sorted}
use Rattle.dict_stack.proofs.columns.standing.Goals as goal

pub add-requires : goal.add-requires
add-requires c = ap length c.loop-candidate.invariant.words_are ∙ length-map c.loop-candidate.columns.outlines.items (some_word c.loop-candidate.yielded)

pub loop-candidate-preserved : goal.loop-candidate-preserved
loop-candidate-preserved c =
    let turn = YieldsList-turn (YieldsList-from_vec {s = c.into_iter-candidate-iterator.result} c.args.candidates.items (search rules) (search rules))
    c.loop-candidate.yielded c.loop-candidate.candidate-iterator c.loop-candidate.yielded_by c.next.result c.next.new.self c.in-Some.candidate c.in-Some.is c.next.ensures.steps in
    let so_far = YieldsList-so_far (YieldsList-from_vec {s = c.into_iter-candidate-iterator.result} c.args.candidates.items (search rules) (search rules))
    c.loop-candidate.yielded c.loop-candidate.candidate-iterator c.loop-candidate.yielded_by in
    let are : c.loop-candidate.yielded ≡ take (length c.loop-candidate.yielded) c.args.candidates.items = sym (map-id c.loop-candidate.yielded) ∙ so_far in
    c.in_ok-add.ensures.adds c.loop-candidate.yielded c.loop-candidate.invariant
    (subst (λ l. AreSorted (l ++ c.in-Some.candidate ∷ [])) (sym are) (next_sorted c.args.candidates.items (length c.loop-candidate.yielded) c.in-Some.candidate c.requires turn.0 turn.1))
