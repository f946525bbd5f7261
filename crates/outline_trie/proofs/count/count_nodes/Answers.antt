use Rattle.std.proofs.Common.{◌≡◌, ap, ◌∙◌, arith, [], length}
use Rattle.std.proofs.lemmas.List.{get_or_read}
use Rattle.steno_rules.specs.Outlines.{outline_of}
use Rattle.outline_trie.specs.inside.Tables.{shared, outline_before}
use Rattle.outline_trie.proofs.LengthLemmas.{length_more}
use Rattle.outline_trie.proofs.count.count_nodes.Goals as goal

pub overflow_add-count : goal.overflow_add-count
overflow_add-count c = omega (arith, ap length c.strokes-strokes.ensures.strokes, c.strokes-strokes.ensures.few, c.loop-number.invariant.bound, c.requires.few)

pub loop-number-preserved : goal.loop-number-preserved
loop-number-preserved c =
    let e : c.strokes-strokes.result.now ≡ outline_of c.args.entries.now c.loop-number.number =
    c.strokes-strokes.ensures.strokes ∙ get_or_read c.args.entries.now c.loop-number.number _ c.loop-number-test.true c.index-entries-number.is [] in
    let s : c.shared_len.result ≡ shared (outline_before c.args.entries.now c.loop-number.number) (outline_of c.args.entries.now c.loop-number.number) =
    c.shared_len.ensures.is ∙ ap (λ xs. shared xs c.strokes-strokes.result.now) c.strokes_before.ensures ∙ ap (shared (outline_before c.args.entries.now c.loop-number.number)) e in
    record {
      is = omega (arith, c.loop-number.invariant.is, length_more c.args.entries.now c.loop-number.number c.requires.entries c.loop-number-test.true, ap length e, s);
      bound = omega (arith, ap length c.strokes-strokes.ensures.strokes, c.strokes-strokes.ensures.few, c.loop-number.invariant.bound);
    }
