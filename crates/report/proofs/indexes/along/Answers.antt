use Rattle.std.proofs.Common.{◌≡◌, ◌<◌, ◌∙◌, ap, sym, subst, arith, length, get_or, ℕ, Option, None, true, false}
use Rattle.std.proofs.lemmas.List.{get_or_read}
use Rattle.steno_rules.specs.Outlines.{begins_with, outline_of}
use Rattle.report.specs.inside.Indexes.{IsBegunFrom}
use Rattle.report.proofs.Chains.{begun_found, begun_next, link_inside}
use Rattle.report.proofs.indexes.along.Goals as goal

pub returns-then-starts_with-clause-longest : goal.returns-then-starts_with-clause-longest
returns-then-starts_with-clause-longest c =
    let entries = c.args.outlines.now in
    let x = c.args.strokes.now in
    let e = c.in-Some.entry in
    let inside : e < length c.args.shorter.now = rw c.in-Some.is at c.loop-at.invariant.inside in
    let read : c.index-outlines-entry.result ≡ outline_of entries e = get_or_read entries e c.index-outlines-entry.result (omega (arith, c.requires.fits)) c.index-outlines-entry.is _ in
    let begins : begins_with x (outline_of entries e) ≡ true = ap (begins_with x) (sym (c.strokes.ensures.strokes ∙ read)) ∙ sym c.starts_with.ensures.value ∙ c.if-starts_with.true in
    λ count fits from. begun_found entries x count e begins (subst (λ (o : Option ℕ). IsBegunFrom entries count x o) c.in-Some.is (c.loop-at.invariant.begun count fits from))

pub loop-at-preserved : goal.loop-at-preserved
loop-at-preserved c =
    let entries = c.args.outlines.now in
    let x = c.args.strokes.now in
    let e = c.in-Some.entry in
    let inside : e < length c.args.shorter.now = rw c.in-Some.is at c.loop-at.invariant.inside in
    let read : c.index-outlines-entry.result ≡ outline_of entries e = get_or_read entries e c.index-outlines-entry.result (omega (arith, c.requires.fits)) c.index-outlines-entry.is _ in
    let apart : begins_with x (outline_of entries e) ≡ false = ap (begins_with x) (sym (c.strokes.ensures.strokes ∙ read)) ∙ sym c.starts_with.ensures.value ∙ c.if-starts_with.false in
    let link = c.requires.shorter.each e inside in
    record {
      inside = link_inside entries (outline_of entries e) e (length c.args.shorter.now) (get_or c.args.shorter.now e None) (omega arith) link;
      begun = λ count fits from.
          begun_next entries x count e (get_or c.args.shorter.now e None) c.requires.entries.rising fits apart link
          (subst (λ (o : Option ℕ). IsBegunFrom entries count x o) c.in-Some.is (c.loop-at.invariant.begun count fits from));
    }

pub returns-clause-longest : goal.returns-clause-longest
returns-clause-longest c =
    λ count fits from. subst (λ (o : Option ℕ). IsBegunFrom c.args.outlines.now count c.args.strokes.now o) c.in_default.is (c.loop-at.invariant.begun count fits from)
