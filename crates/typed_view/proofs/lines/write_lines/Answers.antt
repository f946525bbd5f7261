use Rattle.std.proofs.Common.{◌+◌, arith, drop, get_or, refl}
use Rattle.std.proofs.lemmas.Result.{err_from_is_err_and}
use Rattle.typed_view.specs.CoverLines.{cover_line, covers_text, lines_from}
use Rattle.typed_view.specs.declared.boundaries.Cover.TheVariants.{Kept}
use Rattle.typed_view.proofs.LineLemmas.{next_line}
use Rattle.pages.proofs.PageSteps.{adding_as, adding_more, adds_early}
use Rattle.typed_view.proofs.lines.write_lines.Goals as goal

pub loop-i-preserved : goal.loop-i-preserved
loop-i-preserved g c =
    let entries = c.args.stack.now.outlines in
    let covers = c.args.covers.now in
    let i = c.loop-i.i in
    let cover = get_or covers i Kept in
    let next = next_line entries covers i Kept cover (omega arith) refl in
    adding_more _ _ _ (covers_text entries covers) (cover_line entries (i + 1) cover) (lines_from entries (i + 1 + 1) (drop (i + 1) covers)) tt
    (adding_as _ _ (covers_text entries covers) (lines_from entries (i + 1) (drop i covers)) _ next c.loop-i.invariant) c.in_ok-write_cover.ensures

pub returns-in_err-write_cover : goal.returns-in_err-write_cover
returns-in_err-write_cover g c =
    let entries = c.args.stack.now.outlines in
    let covers = c.args.covers.now in
    let i = c.loop-i.i in
    let cover = get_or covers i Kept in
    let next = next_line entries covers i Kept cover (omega arith) refl in
    let p = err_from_is_err_and c.from_residual.result c.from_residual.ensures.1 in
    adds_early _ _ _ (covers_text entries covers) (cover_line entries (i + 1) cover) (lines_from entries (i + 1 + 1) (drop (i + 1) covers)) _ _ p.0
    (adding_as _ _ (covers_text entries covers) (lines_from entries (i + 1) (drop i covers)) _ next c.loop-i.invariant) c.in_err-write_cover.ensures p.1 p.2
