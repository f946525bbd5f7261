use Rattle.std.proofs.Common.{◌≡◌, subst, sym, ap, ◌∙◌}
use Rattle.outline_trie.specs.Tries.{node_strokes, suffix_of}
use Rattle.match_window.specs.Ends.{next_window}
use Rattle.closure_state.proofs.ChainLemmas.{end_of, end_fewer}
use Rattle.closure_state.proofs.RowLemmas.{child_ends, window_found, window_alone, same_shorter}
use Rattle.closure_state.proofs.step.window_by.Goals.{then-loop-end-test+else-end-ne0, else-loop-end-test}
use Rattle.closure_state.proofs.step.window_by.Goals as goal

pub returns-in-Some : goal.returns-in-Some
returns-in-Some c = λ code of.
    window_found c.args.trie.now c.args.node c.loop-end.end code c.in-Some.next (c.loop-end.invariant.same code of)
    (sym (c.in-Some.ensures (node_strokes c.args.trie.now c.args.opened) code (child_ends c.args.trie.now c.args.opened code c.args.child of)))

pub loop-end-smaller : goal.loop-end-smaller
loop-end-smaller c =
    end_fewer c.args.trie.now c.loop-end.end c.shorter_end-end.result (end_of c.args.windows.now c.args.trie.now c.loop-end.end c.shorter_end-end.result c.requires.windows c.loop-end.invariant.inside c.if-end-ne0.true c.shorter_end-end.ensures.node c.shorter_end-end.ensures.end)

pub loop-end-preserved : goal.loop-end-preserved
loop-end-preserved c =
    let e = end_of c.args.windows.now c.args.trie.now c.loop-end.end c.shorter_end-end.result c.requires.windows c.loop-end.invariant.inside c.if-end-ne0.true c.shorter_end-end.ensures.node c.shorter_end-end.ensures.end in record {
      inside = e.inside;
      same = λ code of. c.loop-end.invariant.same code of ∙ same_shorter c.args.trie.now c.loop-end.end c.shorter_end-end.result code e
          (sym (c.in-None.ensures (node_strokes c.args.trie.now c.args.opened) code (child_ends c.args.trie.now c.args.opened code c.args.child of)));
    }

pub returns-then-end-opened : goal.returns-then-end-opened
returns-then-end-opened c = λ code of.
    window_found c.args.trie.now c.args.node c.args.opened code c.args.child (c.loop-end.invariant.same code of ∙ ap (λ n. next_window c.args.trie.now (node_strokes c.args.trie.now n) code) c.if-end-opened.true) of

pub returns-else-end-opened : goal.returns-else-end-opened
returns-else-end-opened c = λ code of.
    let root : c.loop-end.end ≡ 0 = elim c.loop-end-test.branch [
      | then-loop-end-test+else-end-ne0 w ↦ w.if-end-ne0.false
      | else-loop-end-test w ↦ absurd (c.if-end-opened.false w.loop-end-test.false)
    ] in
    window_alone c.args.trie.now c.args.node c.args.opened code c.args.child c.alone.result c.unwrap_or.result (c.loop-end.invariant.same code of ∙ ap (λ n. next_window c.args.trie.now (node_strokes c.args.trie.now n) code) root) of
    (subst (λ es. c.alone.result ≡ suffix_of es c.args.child 1) c.requires.windows c.alone.ensures) c.unwrap_or.ensures
