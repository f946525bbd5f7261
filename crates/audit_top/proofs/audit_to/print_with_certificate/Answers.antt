use Rattle.std.proofs.Common.{length, refl, ◌<◌, ℕ}
use Rattle.std.proofs.lemmas.List.Elements.{All-weaker}
use Rattle.std.proofs.lemmas.Result.{err_from_is_err_and}
use Rattle.longest_match.specs.Rows.{IsSmall, Row}
use Rattle.report_json.proofs.InnerPlaces.{inner_places}
use Rattle.conflict_example.specs.Chosen.{words_in_stack}
use Rattle.audit_top.proofs.Writing.{AreFound, fits-as, leaves-as, whole-as, write-cut, write-stopped, write-whole}
use Rattle.audit_top.proofs.audit_to.print_with_certificate.Goals as goal

pub write_certificate-requires-clause-words : goal.write_certificate-requires-clause-words
write_certificate-requires-clause-words g c =
    let rows = c.args.rows.now in
    All-weaker (IsSmall c.args.stack.now.outlines) (λ (row : Row). 0 < length row.words) (λ row small. small.some) rows c.requires.small.each

pub write_found-requires-clause-inner : goal.write_found-requires-clause-inner
write_found-requires-clause-inner g c =
    let stack = c.args.stack.now in
    inner_places stack.outlines (words_in_stack stack) c.args.rows.now c.requires.outlines c.requires.exact

pub returns-in_err-write_certificate : goal.returns-in_err-write_certificate
returns-in_err-write_certificate g c =
    let name = c.args.certificate.now in
    let stack = c.args.stack.now in
    let searched = c.args.searched.now in
    let rows = c.args.rows.now in
    let p = err_from_is_err_and c.from_residual.result c.from_residual.ensures.1 in
    let e = c.in_err-write_certificate.ensures in
    let found : AreFound stack searched rows = record { exact = c.requires.exact; chosen = c.requires.chosen; search = c.requires.search } in
    write-stopped name stack searched rows found ℕ _ _ _ c.in_err-write_certificate.field-0.0 _ _
    (leaves-as name stack searched rows c.entry_count.result c.words.result.now c.entry_count.ensures.count c.words.ensures c.in_err-write_certificate.field-0.0 _ _ e.leaves) e.writes p.1 p.2

pub returns-in_err-write_found : goal.returns-in_err-write_found
returns-in_err-write_found g c =
    let name = c.args.certificate.now in
    let stack = c.args.stack.now in
    let searched = c.args.searched.now in
    let rows = c.args.rows.now in
    let p = err_from_is_err_and c.from_residual-in_err-write_found.result c.from_residual-in_err-write_found.ensures.1 in
    let w = c.in_ok-write_certificate.ensures in
    let found : AreFound stack searched rows = record { exact = c.requires.exact; chosen = c.requires.chosen; search = c.requires.search } in
    let fits = fits-as name stack searched rows c.entry_count.result c.words.result.now c.entry_count.ensures.count c.words.ensures w.fits in
    let whole = whole-as name stack searched rows c.entry_count.result c.words.result.now c.entry_count.ensures.count c.words.ensures _ _ w.whole in
    write-cut name stack searched rows found _ _ _ _ _ _ p.0 fits whole w.writes c.in_err-write_found.ensures p.1 p.2

pub returns : goal.returns
returns g c =
    let name = c.args.certificate.now in
    let stack = c.args.stack.now in
    let searched = c.args.searched.now in
    let rows = c.args.rows.now in
    let w = c.in_ok-write_certificate.ensures in
    let found : AreFound stack searched rows = record { exact = c.requires.exact; chosen = c.requires.chosen; search = c.requires.search } in
    let fits = fits-as name stack searched rows c.entry_count.result c.words.result.now c.entry_count.ensures.count c.words.ensures w.fits in
    let whole = whole-as name stack searched rows c.entry_count.result c.words.result.now c.entry_count.ensures.count c.words.ensures _ _ w.whole in
    write-whole name stack searched rows found _ _ _ _ _ fits whole w.writes c.status_of.ensures c.in_ok-write_found.ensures.all (c.in_ok-write_found.ensures.steady refl)
