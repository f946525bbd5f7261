use Rattle.std.proofs.Common.{◌≡◌, sym, ap, subst, ◌∙◌}
use Rattle.outline_trie.specs.Tries.{child_of, suffix_of}
use Rattle.closure_state.proofs.RowLemmas.{alone_child}
use Rattle.closure_state.proofs.step.word_by.Goals as goal

pub returns-then-node-eq0 : goal.returns-then-node-eq0
returns-then-node-eq0 c = λ x code ends.
    subst (λ es. c.alone.result ≡ suffix_of es c.args.other 1) c.requires.windows c.alone.ensures ∙ alone_child c.args.trie.now c.args.other x code ends
    ∙ ap (λ n. child_of c.args.trie.now n code) (sym c.if-node-eq0.true)
