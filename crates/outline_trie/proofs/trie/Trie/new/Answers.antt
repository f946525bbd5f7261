use Rattle.std.proofs.Common.{◌<◌, List, ℕ, length, All, ap, sym, subst, arith}
use Rattle.outline_trie.proofs.LookLemmas.{root_inside}
use Rattle.outline_trie.proofs.ExtendLemmas.{parents_below}
use Rattle.outline_trie.proofs.MadeLemmas.{trie_made}
use Rattle.outline_trie.proofs.trie.Trie.new.Goals as goal

pub rows_of-requires-clause-some : goal.rows_of-requires-clause-some
rows_of-requires-clause-some c = omega (arith, root_inside c.args.entries.now, c.in_ok-table.ensures.table.parents_long, ap length c.as_slice.ensures.value)

pub rows_of-requires-clause-few : goal.rows_of-requires-clause-few
rows_of-requires-clause-few c = omega (arith, c.in_ok-table.ensures.table.parents_long, ap length c.as_slice.ensures.value, c.count_nodes-count.ensures, c.if-count-gt-MAX_NODES.false)

pub rows_of-requires-clause-long : goal.rows_of-requires-clause-long
rows_of-requires-clause-long c = omega (arith, c.in_ok-table.ensures.table.parents_long, c.in_ok-table.ensures.table.strokes_long, ap length c.as_slice.ensures.value, ap length c.as_slice-2.ensures.value)

pub rows_of-requires-clause-below : goal.rows_of-requires-clause-below
rows_of-requires-clause-below c = subst (λ (xs : List ℕ). All (λ p. p < length xs) xs) (sym c.as_slice.ensures.value) (parents_below _ _ _ _ c.in_ok-table.ensures.table)

pub invariant_of-result : goal.invariant_of-result
invariant_of-result c =
    trie_made _ c.args.entries.now _ _ _ _ c.as_slice.result.now c.as_slice-2.result.now _ _ c.longest_and_history-longest.ensures.history c.requires.entries c.requires.few (omega (arith, c.count_nodes-count.ensures, c.if-count-gt-MAX_NODES.false))
    c.in_ok-table.ensures.table c.in_ok-table.ensures.numbers c.as_slice.ensures.value c.as_slice-2.ensures.value c.in_ok-rows.ensures.long c.in_ok-rows.ensures.rows c.longest_and_history-longest.ensures.longest c.longest_and_history-longest.ensures.short
