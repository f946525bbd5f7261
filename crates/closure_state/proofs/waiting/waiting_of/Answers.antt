use Rattle.std.proofs.Common.{◌≡◌, Some, map, sym, ap, ap₂, subst, ◌∙◌, refl}
use Rattle.std.specs.List.{AllByRecursion}
use Rattle.steno_rules.specs.WordSets.{words_in}
use Rattle.outline_trie.specs.Tries.{IsNode, node_strokes, child_of}
use Rattle.closure_state.specs.NodeStates.{state_at, IsNodeState}
use Rattle.closure_state.specs.inside.Waits.{AreTargetsBy}
use Rattle.closure_state.proofs.RowsLemmas.{no_child}
use Rattle.closure_state.proofs.RowLemmas.{child_ends, child_inside}
use Rattle.closure_state.proofs.WaitLemmas.{made, waiting_is, waiting_states, root_or_not, is_word_flag, word_open_flag}
use Rattle.closure_state.proofs.waiting.waiting_of.Goals as goal

pub returns-in_default : goal.returns-in_default
returns-in_default c =
    let entries = c.args.trie.now in
    let words = words_in entries c.args.words.now in record {
      targets = ap (map (state_at entries)) c.none.ensures ∙ sym (no_child entries words (state_at entries c.args.state) c.args.state.word c.args.step.code c.requires.words.are_words refl (sym c.requires.step.1.word ∙ c.in_default.is));
      each = subst (AllByRecursion (IsNodeState entries words)) (sym c.none.ensures) tt;
    }

pub later-later-requires : goal.later-later-requires
later-later-requires c = c.requires.step.1.window.inside

pub returns : goal.returns
returns c =
    let entries = c.args.trie.now in
    let words = words_in entries c.args.words.now in
    let s = c.args.state in
    let code = c.args.step.code in
    let w = c.args.step.window in
    let y = c.in-Some.word in
    let opens = c.flags-flags.result.opens in
    let is_word = c.flags-flags.result.is_word in
    let found : child_of entries s.word code ≡ Some y = sym c.requires.step.1.word ∙ c.in-Some.is in
    let inside : IsNode entries y = child_inside entries s.word code y found in
    let targets = waiting_is entries words (state_at entries s) code w y opens is_word c.later-later.result c.is_marked.result
    c.requires.step.1.window.is (child_ends entries s.word code y found)
    (c.flags-flags.ensures.opens ∙ word_open_flag entries c.args.words.now y c.requires.words inside) (c.flags-flags.ensures.word ∙ is_word_flag entries c.args.words.now y inside)
    c.later-later.ensures
    (c.is_marked.ensures (node_strokes entries w) (root_or_not entries w c.requires.step.1.window.inside)) in
    let each = waiting_states entries words (state_at entries s) code w y opens is_word c.later-later.result c.is_marked.result c.requires.state.state c.requires.step.1.window.inside inside targets in
    subst (AreTargetsBy entries words s code) (ap₂ (λ stays mark. made opens is_word w y stays mark c.is_marked.result) (sym c.is_some-stays.ensures) (sym c.unwrap_or.ensures)) (record { targets = targets; each = each })
