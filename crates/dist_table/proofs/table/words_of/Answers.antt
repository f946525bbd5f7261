use Rattle.std.proofs.Common.{◌≡◌, ℕ, suc, ◌+◌, List, [], ◌∷◌, ◌++◌, take, arith, ap, ◌∙◌}
use Rattle.std.specs.Mem.Slots.{slots_items}
use Rattle.dist_table.proofs.StepLemmas.{take_next}
use Rattle.dist_table.proofs.table.words_of.Goals as goal

pub loop-i-preserved : goal.loop-i-preserved
loop-i-preserved c =
    let all : List ℕ = slots_items c.args.closed.now.words in
    let next = take_next all c.loop-i.i c.word.result c.word.ensures in
    let further : suc c.loop-i.i ≡ c.loop-i.i + 1 = omega arith in
    c.in_ok-push.ensures.items ∙ (ap (λ (l : List ℕ). l ++ c.word.result ∷ []) c.loop-i.invariant ∙ (next ∙ ap (λ (n : ℕ). take n all) further))
