use Rattle.std.proofs.Common.{◌≡◌, true, true≢false, sym, ◌∙◌, arith}
use Rattle.steno_rules.specs.WordSets.{words_in}
use Rattle.steno_rules.specs.States.{is_open}
use Rattle.outline_trie.specs.Tries.{IsNode, node_strokes}
use Rattle.closure_state.proofs.StateLemmas.{node_state}
use Rattle.closure_state.proofs.WaitLemmas.{word_open_flag}
use Rattle.closure_state.proofs.state.is_state.Goals.{then-opens, else-opens}
use Rattle.closure_state.proofs.state.is_state.Goals as goal

pub returns-then-is_mark : goal.returns-then-is_mark
returns-then-is_mark c =
    let s = c.args.state.now in
    let entries = c.args.trie.now in
    let window : IsNode entries s.window = omega (arith, c.if-state-count.false, c.node_count-count.ensures.count) in
    let word : IsNode entries s.word = omega (arith, c.if-state-count-2.false, c.node_count-count.ensures.count) in
    elim c.if-opens.branch [
      | then-opens w ↦
          let opens : is_open (words_in entries c.args.words.now) (node_strokes entries s.word) ≡ true = sym (c.opens.ensures ∙ word_open_flag entries c.args.words.now s.word c.requires word) ∙ w.if-opens.true in (
            λ t. node_state entries (words_in entries c.args.words.now) s window word opens (c.is_end.ensures.0 t) (w.is_mark.ensures.0 (sym w.value-is ∙ c.if-is_mark.true)),
            λ is. c.is_end.ensures.1 is.state.ends,
          )
      | else-opens w ↦ absurd (true≢false (sym c.if-is_mark.true ∙ w.value-is ∙ w.if-opens.false))
    ]
