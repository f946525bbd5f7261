use Rattle.std.proofs.Common.{◌≡◌, ◌+◌, ◌-◌, ◌∙◌, sym, ap, arith, get_or, length, List, ℕ, []}
use Rattle.std.proofs.lemmas.List.{get_or_read}
use Rattle.steno_rules.specs.Outlines.{outline_of}
use Rattle.pair_slots.specs.Slots.{IsInside, slot_of}
use Rattle.conflict_example.proofs.Noted.{slot_none}
use Rattle.conflict_example.proofs.RowSteps.{rows_on, rows_with, rows_without}
use Rattle.conflict_example.proofs.rows.push_rows.Goals as goal
use Rattle.conflict_example.proofs.rows.push_rows.Goals.{then-hit+in_ok-row+in_ok-push, else-hit}

pub loop-place-preserved : goal.loop-place-preserved
loop-place-preserved c =
    let v = c.args.numbering.now in
    let e = c.args.entry in
    let place = c.loop-place.place in
    let read : c.index-entries-entry.result ≡ outline_of c.args.entries.now e = get_or_read c.args.entries.now e c.index-entries-entry.result c.requires.entry c.index-entries-entry.is [] in
    let long = ap length (c.strokes.ensures.strokes ∙ read ∙ ap (λ (l : List (List ℕ)). outline_of l e) (sym c.requires.entries)) in
    let inside : IsInside v.entries e place = record {
      entry = omega (arith, c.requires.entry, ap length c.requires.entries);
      after_start = omega (arith, c.loop-place.invariant.some);
      before_end = omega (arith, c.loop-place-test.true, long);
    } in
    let slot : get_or c.args.slots.0.now e 0 + (place - 1) ≡ slot_of v.entries e place = ap (λ k. k + (place - 1)) (c.requires.starts.each e (omega (arith, inside.entry))) in
    let first = c.requires.best.each e place inside in
    record {
      some = omega arith;
      fits = omega arith;
      rows = λ from within before. elim c.if-hit.branch [
        | then-hit+in_ok-row+in_ok-push w ↦
            rw (w.rows-is, w.in_ok-push.ensures.items)
            (rows_with v.entries v.words c.args.words.now from e place c.loop-place.rows.items w.in_ok-row.field-0 inside.after_start within
            w.in_ok-row.ensures.found w.in_ok-row.ensures.entry w.in_ok-row.ensures.place (c.loop-place.invariant.rows from within before))
        | else-hit w ↦
            rw w.rows-is
            (rows_without v.entries v.words c.args.words.now from e place c.loop-place.rows.items
            (slot_none v c.args.words.now e place (get_or c.args.slots.1.now (slot_of v.entries e place) 0) c.requires.closure first
            (ap (λ k. get_or c.args.slots.1.now k 0) (sym slot) ∙ w.if-hit.false)) (c.loop-place.invariant.rows from within before))
      ];
    }

pub returns : goal.returns
returns c =
    let v = c.args.numbering.now in
    let e = c.args.entry in
    let read : c.index-entries-entry.result ≡ outline_of c.args.entries.now e = get_or_read c.args.entries.now e c.index-entries-entry.result c.requires.entry c.index-entries-entry.is [] in
    let long = ap length (c.strokes.ensures.strokes ∙ read ∙ ap (λ (l : List (List ℕ)). outline_of l e) (sym c.requires.entries)) in
    λ from within before.
    rows_on v.entries v.words c.args.words.now from e c.loop-place.place c.loop-place.rows.items (omega (arith, c.requires.entry, ap length c.requires.entries))
    (omega (arith, c.loop-place-test.false, c.loop-place.invariant.fits, long)) (c.loop-place.invariant.rows from within before)
