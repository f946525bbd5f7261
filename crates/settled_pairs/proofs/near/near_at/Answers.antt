use Rattle.std.proofs.Common.{◌≡◌, false, get_or, take, take_all, subst, sym, arith, ◌∙◌}
use Rattle.std.proofs.lemmas.List.{take_more}
use Rattle.steno_rules.specs.Outlines.{is_word}
use Rattle.steno_rules.specs.WordSets.{words_in}
use Rattle.outline_trie.specs.Tries.{node_strokes}
use Rattle.closure_state.proofs.WaitLemmas.{is_word_flag}
use Rattle.settled_pairs.proofs.NearLemmas.{NearAmong, near_among_more, near_among_none, near_by_children}
use Rattle.settled_pairs.proofs.near.near_at.Goals as goal

pub loop-pair-init : goal.loop-pair-init
loop-pair-init c = near_among_none c.args.near.now _

pub loop-pair-preserved : goal.loop-pair-preserved
loop-pair-preserved c =
    let kids = c.children-pair-items.result.now in
    let i = c.loop-pair.pair-index in
    rw (take_more kids i (0, 0) c.loop-pair-test.true, c.min-least.ensures, c.nearest.ensures)
    (near_among_more c.args.near.now (take i kids) (get_or kids i (0, 0)) c.loop-pair.least c.loop-pair.invariant)

pub returns : goal.returns
returns c =
    let entries = c.args.trie.now in
    let words = words_in entries c.args.words.now in
    let kids = c.children-pair-items.result.now in
    let all = take_all c.loop-pair.pair-index kids (omega (arith, c.loop-pair-test.false)) in
    let none : is_word words (node_strokes entries c.args.node) ≡ false = sym (is_word_flag entries c.args.words.now c.args.node c.requires.node) ∙ sym c.is_word.ensures ∙ c.if-is_word.false in
    near_by_children entries words c.args.near.now c.args.node c.loop-pair.least c.saturating_add.result kids c.requires.words.are_words c.requires.near c.children-pair-items.ensures none
    (subst (λ l. NearAmong c.args.near.now l c.loop-pair.least) all c.loop-pair.invariant) (omega (arith, c.saturating_add.ensures))
