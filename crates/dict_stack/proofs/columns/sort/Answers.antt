use Rattle.std.proofs.Common.{rules}
use Rattle.std.specs.Ordering.{is_lt}
use Rattle.std.specs.Cmp.Lexicographic.{nat_list_cmp_total}
use Rattle.std.proofs.lemmas.Fn.{always_returns_same}
use Rattle.std.proofs.lemmas.List.Sorted.{ranks_by}
use Rattle.std.proofs.lemmas.Result.{on_ok_weaker}
use Rattle.steno_rules.specs.Outlines.{outline_cmp}
use Rattle.dict_stack.specs.inside.Candidates.{candidate_outline}
use Rattle.dict_stack.proofs.columns.sort.Goals as goal

pub returns-clause-sorted : goal.returns-clause-sorted
returns-clause-sorted c =
    on_ok_weaker c.sort_by.result
    (λ sorts. sorts (λ x y. is_lt (outline_cmp (candidate_outline x) (candidate_outline y))) (ranks_by nat_list_cmp_total candidate_outline)
    (always_returns_same _ _ _ (λ a r q k. search rules)))
    c.sort_by.ensures.sorted

pub returns-clause-stable : goal.returns-clause-stable
returns-clause-stable c =
    c.sort_by.ensures.stable (λ x y. is_lt (outline_cmp (candidate_outline x) (candidate_outline y))) (ranks_by nat_list_cmp_total candidate_outline)
    (always_returns_same _ _ _ (λ a r q k. search rules))
