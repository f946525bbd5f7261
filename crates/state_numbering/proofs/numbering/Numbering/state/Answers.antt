use Rattle.std.proofs.Common.{◌≡◌, ap, sym, subst, ◌∙◌, arith, refl, true, false}
use Rattle.steno_rules.specs.Outlines.{AreWords}
use Rattle.steno_rules.specs.StateNumbers.{number_count}
use Rattle.steno_rules.specs.States.{is_open}
use Rattle.outline_trie.specs.Tries.{IsNode, node_strokes}
use Rattle.translation_laws.proofs.WordSetLemmas.{word_set-open}
use Rattle.state_numbering.specs.Numberings.{NumberingView}
use Rattle.state_numbering.proofs.DecodeLemmas.{found_candidate, none_answered, past_count, suffix_inside, no_window, no_word, not_open, decoded}
use Rattle.state_numbering.proofs.numbering.Numbering.state.Goals as goal

pub returns-then-number-count : goal.returns-then-number-count
returns-then-number-count c =
    let parts_are = c.self.invariant.parts_are ∙ ap (λ (v : NumberingView). v.entries) c.self.view_is in
    let are = subst (λ (v : NumberingView). AreWords v.entries v.words) c.self.view_is c.self.invariant.words_are.are_words in
    past_count c.args.self.now.entries c.args.self.now.words c.args.number are (omega (arith, c.count.ensures.count, c.if-number-count.true, ap number_count parts_are))

pub returns-in_err-window : goal.returns-in_err-window
returns-in_err-window c =
    let E = c.args.self.now.entries in
    let parts_are = c.self.invariant.parts_are ∙ ap (λ (v : NumberingView). v.entries) c.self.view_is in
    let are = subst (λ (v : NumberingView). AreWords v.entries v.words) c.self.view_is c.self.invariant.words_are.are_words in
    let found = found_candidate _ E c.args.number c.node_of-node.result c.part-part.result c.lengths_at-lengths.result parts_are c.node_of-node.ensures c.part-part.ensures c.lengths_at-lengths.ensures in
    none_answered c.args.self.now c.args.number c.from_residual.result c.from_residual.ensures (no_window E c.args.self.now.words c.args.number c.node_of-node.result c.lengths_at-lengths.result are found.0 (omega (arith, found.1)) (sym c.in_err-window.was ∙ c.end_of.ensures))

pub returns-in_err-word : goal.returns-in_err-word
returns-in_err-word c =
    let E = c.args.self.now.entries in
    let parts_are = c.self.invariant.parts_are ∙ ap (λ (v : NumberingView). v.entries) c.self.view_is in
    let are = subst (λ (v : NumberingView). AreWords v.entries v.words) c.self.view_is c.self.invariant.words_are.are_words in
    let found = found_candidate _ E c.args.number c.node_of-node.result c.part-part.result c.lengths_at-lengths.result parts_are c.node_of-node.ensures c.part-part.ensures c.lengths_at-lengths.ensures in
    none_answered c.args.self.now c.args.number c.from_residual-in_err-word.result c.from_residual-in_err-word.ensures (no_word E c.args.self.now.words c.args.number c.node_of-node.result c.lengths_at-lengths.result are found.0 (omega (arith, found.1)) (sym c.in_err-word.was ∙ c.end_of-2.ensures))

pub returns-then-opens : goal.returns-then-opens
returns-then-opens c =
    let E = c.args.self.now.entries in
    let W = c.args.self.now.words in
    let word = c.in_ok-word.word in
    let parts_are = c.self.invariant.parts_are ∙ ap (λ (v : NumberingView). v.entries) c.self.view_is in
    let are = subst (λ (v : NumberingView). AreWords v.entries v.words) c.self.view_is c.self.invariant.words_are.are_words in
    let found = found_candidate _ E c.args.number c.node_of-node.result c.part-part.result c.lengths_at-lengths.result parts_are c.node_of-node.ensures c.part-part.ensures c.lengths_at-lengths.ensures in
    let there = sym c.in_ok-word.was ∙ c.end_of-2.ensures in
    let inside = subst (λ es. IsNode es word) (ap (λ (v : NumberingView). v.entries) (sym c.self.view_is)) (suffix_inside E c.node_of-node.result c.lengths_at-lengths.result.word word (omega (arith, found.1)) there) in
    let opens = sym (c.opens.ensures ∙ word_set-open c.self.inside.trie.now c.self.inside.words.now word c.self.invariant.words_are inside) ∙ c.if-opens.true in
    decoded c.args.self.now c.args.number c.node_of-node.result c.lengths_at-lengths.result (record { window = c.in_ok-window.window; word = word; mark = c.lengths_at-lengths.result.mark }) are found.0 found.1 (sym c.in_ok-window.was ∙ c.end_of.ensures) there refl
    (subst (λ (v : NumberingView). is_open v.words (node_strokes v.entries word) ≡ true) c.self.view_is opens)

pub returns-else-opens : goal.returns-else-opens
returns-else-opens c =
    let E = c.args.self.now.entries in
    let W = c.args.self.now.words in
    let word = c.in_ok-word.word in
    let parts_are = c.self.invariant.parts_are ∙ ap (λ (v : NumberingView). v.entries) c.self.view_is in
    let are = subst (λ (v : NumberingView). AreWords v.entries v.words) c.self.view_is c.self.invariant.words_are.are_words in
    let found = found_candidate _ E c.args.number c.node_of-node.result c.part-part.result c.lengths_at-lengths.result parts_are c.node_of-node.ensures c.part-part.ensures c.lengths_at-lengths.ensures in
    let there = sym c.in_ok-word.was ∙ c.end_of-2.ensures in
    let inside = subst (λ es. IsNode es word) (ap (λ (v : NumberingView). v.entries) (sym c.self.view_is)) (suffix_inside E c.node_of-node.result c.lengths_at-lengths.result.word word (omega (arith, found.1)) there) in
    let shut = sym (c.opens.ensures ∙ word_set-open c.self.inside.trie.now c.self.inside.words.now word c.self.invariant.words_are inside) ∙ c.if-opens.false in
    not_open E W c.args.number c.node_of-node.result word c.lengths_at-lengths.result are found.0 (omega (arith, found.1)) there
    (subst (λ (v : NumberingView). is_open v.words (node_strokes v.entries word) ≡ false) c.self.view_is shut)
