use Rattle.std.proofs.Common.{◌≡◌, ◌-◌, length, sym, ap, subst, ◌∙◌, arith, List, replicate, false, refl, ◌+◌}
use Rattle.std.proofs.lemmas.List.{length-replicate}
use Rattle.steno_rules.specs.Outlines.{flagged_entries}
use Rattle.closure_state.specs.declared.word_set.Flags.{Flags}
use Rattle.closure_state.specs.inside.NodeFlags.{AreFlags, flags_at}
use Rattle.closure_state.proofs.FlagLemmas.{flags_start, flags_more, set_of_flags}
use Rattle.closure_state.proofs.word_set.WordSet.new.Goals as goal

pub loop-done-init : goal.loop-done-init
loop-done-init c =
    let filled : c.in_ok-flags.flags.items ≡ replicate c.node_count-count.result (record { is_word = false; opens = false }) = c.in_ok-flags.ensures.items_if_clones_equal (λ y e. e) in
    flags_start c.args.trie.now (flagged_entries c.args.trie.now c.args.words.now) (c.node_count-count.result - 0) c.in_ok-flags.flags.items
    (ap length filled ∙ length-replicate c.node_count-count.result (record { is_word = false; opens = false }) ∙ c.node_count-count.ensures.count) (omega (arith, c.node_count-count.ensures.count))

pub flags_of-requires-clause-behind : goal.flags_of-requires-clause-behind
flags_of-requires-clause-behind c = λ k up inside.
    subst (λ (l : List Flags). AreFlags c.args.trie.now (flagged_entries c.args.trie.now c.args.words.now) k (flags_at l k)) (sym c.deref.ensures.value)
    (c.loop-done.invariant.each k (omega (arith, up)) inside)

pub loop-done-preserved : goal.loop-done-preserved
loop-done-preserved c =
    flags_more c.args.trie.now (flagged_entries c.args.trie.now c.args.words.now) (c.node_count-count.result - c.loop-done.done) (c.node_count-count.result - 1 - c.loop-done.done) (c.node_count-count.result - (c.loop-done.done + 1)) c.loop-done.flags.items _ c.flags_of.result
    c.loop-done.invariant (omega (arith, c.loop-done-test.true)) (omega arith) (omega (arith, c.loop-done-test.true, c.node_count-count.ensures.count)) c.flags_of.ensures refl

pub returns-clause-set : goal.returns-clause-set
returns-clause-set c =
    (set_of_flags c.args.trie.now c.args.words.now c.loop-done.flags.items (c.node_count-count.result - c.loop-done.done) c.node_count-count.ensures.entries (omega (arith, c.loop-done-test.false)) c.loop-done.invariant).0

pub returns-clause-words : goal.returns-clause-words
returns-clause-words c =
    (set_of_flags c.args.trie.now c.args.words.now c.loop-done.flags.items (c.node_count-count.result - c.loop-done.done) c.node_count-count.ensures.entries (omega (arith, c.loop-done-test.false)) c.loop-done.invariant).1
