use Rattle.std.proofs.Common.{◌≡◌, ◌∙◌, arith, sym, subst, ℕ, List, Option}
use Rattle.std.proofs.lemmas.List.{get_or_read}
use Rattle.steno_rules.specs.Outlines.{outline_of}
use Rattle.report.specs.inside.Indexes.{IsBegunFrom, IsLongestOf}
use Rattle.report.proofs.Chains.{begun_before, shorter_more}
use Rattle.report.proofs.indexes.shorter_of.Goals as goal

pub loop-entry-preserved : goal.loop-entry-preserved
loop-entry-preserved c =
    let entries = c.args.outlines.now in
    let e = c.loop-entry.entry in
    let read : c.index-outlines-entry.result ≡ outline_of entries e = get_or_read entries e c.index-outlines-entry.result (omega arith) c.index-outlines-entry.is _ in
    let x : c.strokes.result.now ≡ outline_of entries e = c.strokes.ensures.strokes ∙ read in
    let begun = subst (λ (y : List ℕ). IsBegunFrom entries e y c.place_before.result) (sym x)
    (subst (λ (o : Option ℕ). IsBegunFrom entries e (outline_of entries e) o) (sym c.place_before.ensures) (begun_before entries e c.requires.entries.rising (omega arith))) in
    let longest = subst (λ (y : List ℕ). IsLongestOf entries e y c.along-found.result) x (c.along-found.ensures.longest e (omega arith) begun) in
    record {
      fits = omega arith;
      shorter = rw c.in_ok-push.ensures.items (shorter_more entries e c.loop-entry.shorter.items c.along-found.result c.loop-entry.invariant.shorter longest);
    }
