use Rattle.std.proofs.Common.{◌≡◌, ◌<◌, ◌≤◌, ◌∙◌, ap, subst, map, length}
use Rattle.steno_rules.specs.Nodes.{in_order}
use Rattle.dict_stack.specs.Stacks.{most_entries}
use Rattle.dict_stack.specs.inside.Candidates.{candidate_outline}
use Rattle.dict_stack.proofs.StableLemmas.{merged_of_sorted, ordered_same}
use Rattle.dict_stack.proofs.columns.merge.Goals as goal

pub returns-then-count-gt-MAX_ENTRIES-clause-err : goal.returns-then-count-gt-MAX_ENTRIES-clause-err
returns-then-count-gt-MAX_ENTRIES-clause-err c =
    let count : c.live_count-count.result ≡ length (in_order (map candidate_outline c.args.candidates.items)) =
    c.live_count-count.ensures ∙ ap length (ap (λ l. in_order (map candidate_outline l)) c.deref.ensures.value ∙ ordered_same c.args.candidates.items c.sort.new.candidates.items c.in_ok-sort.ensures.permutation) in
    (subst (λ n. most_entries < n) count c.if-count-gt-MAX_ENTRIES.true, count)

pub returns-clause-merged : goal.returns-clause-merged
returns-clause-merged c =
    merged_of_sorted c.args.candidates.items c.sort.new.candidates.items c.in_ok-standing.field-0 c.in_ok-sort.ensures.permutation c.in_ok-sort.ensures.stable c.in_ok-standing.ensures

pub returns-clause-few : goal.returns-clause-few
returns-clause-few c =
    let count : c.live_count-count.result ≡ length (in_order (map candidate_outline c.args.candidates.items)) =
    c.live_count-count.ensures ∙ ap length (ap (λ l. in_order (map candidate_outline l)) c.deref.ensures.value ∙ ordered_same c.args.candidates.items c.sort.new.candidates.items c.in_ok-sort.ensures.permutation) in
    subst (λ n. n ≤ most_entries) count c.if-count-gt-MAX_ENTRIES.false
