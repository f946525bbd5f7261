use Rattle.std.proofs.Common.{◌≡◌, ◌+◌, ◌-◌, ◌∙◌, sym, ap, subst, arith, get_or, length, List, ℕ}
use Rattle.steno_rules.specs.Outlines.{outline_of}
use Rattle.steno_rules.specs.WordSets.{words_in}
use Rattle.pair_slots.specs.Slots.{IsInside, slot_of}
use Rattle.state_numbering.specs.Numberings.{NumberingView, numbering_of}
use Rattle.conflict_example.specs.inside.Closures.{IsClosure}
use Rattle.settled_pairs.proofs.FoundRows.{slot_none}
use Rattle.settled_pairs.proofs.RowSteps.{rows_with, rows_without}
use Rattle.settled_pairs.proofs.rows.push_rows.Goals as goal
use Rattle.settled_pairs.proofs.rows.push_rows.Goals.{then-hit+in_ok-row+in_ok-push, else-hit}

pub loop-place-preserved : goal.loop-place-preserved
loop-place-preserved c =
    let entries = c.args.trie.now in
    let words = words_in entries c.args.words.now in
    let e = c.args.entry in
    let place = c.loop-place.place in
    let closure : IsClosure (numbering_of entries c.args.words.now) c.args.table.now = subst (λ (v : NumberingView). IsClosure v c.args.table.now) c.requires.numbering c.requires.closure in
    let outlines = ap (λ (l : List (List ℕ)). outline_of l e) c.requires.entries in
    let long = ap length (c.strokes.ensures.strokes ∙ c.outline.ensures.outline) in
    let inside : IsInside entries e place = record {
      entry = c.requires.entry;
      after_start = omega (arith, c.loop-place.invariant.some);
      before_end = omega (arith, c.loop-place-test.true, long, ap length outlines);
    } in
    let slot : get_or c.args.slots.0.now e 0 + (place - 1) ≡ slot_of entries e place = ap (λ k. k + (place - 1)) (c.requires.starts.each e (omega (arith, inside.entry))) in
    let first = c.requires.least.each e place inside in
    record {
      some = omega arith;
      fits = omega arith;
      rows = elim c.if-hit.branch [
        | then-hit+in_ok-row+in_ok-push w ↦
            rw (w.rows-is, w.in_ok-push.ensures.items)
            (rows_with entries words c.args.table.now e place c.loop-place.rows.items w.in_ok-row.field-0 inside.after_start
            w.in_ok-row.ensures.found w.in_ok-row.ensures.entry w.in_ok-row.ensures.place c.loop-place.invariant.rows)
        | else-hit w ↦
            rw w.rows-is
            (rows_without entries words c.args.table.now e place c.loop-place.rows.items
            (slot_none entries words c.args.table.now e place (get_or c.args.slots.1.now (slot_of entries e place) 0) closure.are_words closure.few closure.settled first
            (ap (λ k. get_or c.args.slots.1.now k 0) (sym slot) ∙ w.if-hit.false)) c.loop-place.invariant.rows)
      ];
    }
