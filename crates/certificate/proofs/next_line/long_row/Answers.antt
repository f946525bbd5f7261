use Rattle.std.proofs.Common.{◌+◌, ◌-◌, ◌++◌, ◌∙◌, ap, arith, sym, subst, length, take, false, true, refl, []}
use Rattle.std.specs.Prelude.{codes}
use Rattle.std.proofs.lemmas.List.{length-take, length-take-le}
use Rattle.std.proofs.lemmas.Result.{err_from_is_err_and}
use Rattle.text_rules.specs.Lines.{parts_between}
use Rattle.certificate.specs.inside.Pieces.{PassesOver}
use Rattle.certificate.specs.inside.Reads.{IsRowPiece, row_with}
use Rattle.certificate.proofs.LongRows.{IsRowSoFar, row_begins, row_given_up, row_goes_on}
use Rattle.certificate.proofs.Passing.{counts_on, passes_none, passes_on, passes_over, takes_same, takes_then}
use Rattle.certificate.proofs.Reaching.{at_end, at_full, at_line, plain_take}
use Rattle.certificate.proofs.Skips.{passed_more, read_held, read_last, read_skipped, skipped_long}
use Rattle.certificate.proofs.next_line.long_row.Goals as goal

pub loop-body-init : goal.loop-body-init
loop-body-init g c =
    let pieces = c.args.pieces.now in
    let files = g.F.Files.view c.args.files.now in
    let two = ap length c.requires.row in
    let len = length-take 2 pieces.left in
    record {
      text = codes "r ";
      passes =
          subst (λ xs. PassesOver xs false pieces c.pass.new.self files files) c.requires.row
          (passes_over [] 2 false pieces pieces c.pass.new.self files files (omega arith) c.pass.ensures (passes_none false pieces files files refl (takes_same files)));
      so_far = record { plain = refl; len = refl; within = let some = c.requires.some in omega arith };
      some = omega arith;
      row = subst (λ ns. IsRowSoFar (codes "r ") ns) (sym c.clear.ensures.items) row_begins;
    }

pub returns-in-Line-clause-read : goal.returns-in-Line-clause-read
returns-in-Line-clause-read g c =
    let so_far = c.loop-body.invariant in
    let left = c.reach.new.self.left in
    read_held _ (row_with c.loop-body.numbers.items (parts_between 32 (take c.in-Line.body left))) so_far.text c.loop-body.done c.args.room c.in-Line.body _ _ _ _ _
    (passes_on _ _ _ _ _ _ _ _ so_far.passes c.in_ok-body.ensures.passes) so_far.so_far (at_line _ _ _ _ c.in_ok-body.ensures.reached c.in-Line.is)
    (so_far.row (take c.in-Line.body left)) c.in_ok-row_end-in-Line.ensures.found

pub returns-in-End-clause-read : goal.returns-in-End-clause-read
returns-in-End-clause-read g c =
    let so_far = c.loop-body.invariant in
    let some = so_far.some in
    let end = at_end _ _ _ c.in_ok-body.ensures.reached c.in-End.is in
    let len = ap length c.bytes.ensures.bytes in
    read_last _ so_far.text c.loop-body.done c.args.room (c.loop-body.done + length c.bytes.result.now) _ _ _ _ (passes_on _ _ _ _ _ _ _ _ so_far.passes c.in_ok-body.ensures.passes)
    so_far.so_far end.0 end.1 (omega arith) (omega arith) c.unread.ensures

pub returns-in-Full-clause-read : goal.returns-in-Full-clause-read
returns-in-Full-clause-read g c =
    let so_far = c.loop-body.invariant in
    let full = at_full _ _ _ c.in_ok-body.ensures.reached c.in-Full.is in
    let len = full.1 in
    let over = c.if-done-room.true in
    skipped_long so_far.text c.loop-body.done c.args.room _ _ _ _ (passes_on _ _ _ _ _ _ _ _ so_far.passes c.in_ok-body.ensures.passes) so_far.so_far
    full.0 (omega arith)

pub loop-body-preserved : goal.loop-body-preserved
loop-body-preserved g c =
    let so_far = c.loop-body.invariant in
    let full = at_full _ _ _ c.in_ok-body.ensures.reached c.in-Full.is in
    let len = full.1 in
    let within = c.if-done-room.false in
    let left = c.reach.new.self.left in
    let count = c.in-Some.count in
    let numbers = c.row_piece.new.numbers.items in
    let piece = subst (λ o. IsRowPiece o c.loop-body.numbers.items numbers c.reach.new.self c.row_piece.new.pieces) c.in-Some.is c.in_ok-count-in-Full-2.ensures.piece in
    let count_is = piece.1 in
    let at = piece.3 in
    let below = at.within in
    record {
      text = so_far.text ++ take count left;
      passes = passes_over so_far.text count false _ _ _ _ _ (omega arith) piece.2 (passes_on _ _ _ _ _ _ _ _ so_far.passes c.in_ok-body.ensures.passes);
      so_far = passed_more c.loop-body.done count c.args.room so_far.text (take count left) so_far.so_far (plain_take count left full.0) (length-take-le count left (omega arith)) (omega arith);
      some = let before = so_far.some in omega arith;
      row = subst (λ n. IsRowSoFar (so_far.text ++ take n left) numbers) (sym count_is) (row_goes_on so_far.text c.loop-body.numbers.items numbers left piece.0 so_far.row at piece.4);
    }

pub returns-in-None-clause-read : goal.returns-in-None-clause-read
returns-in-None-clause-read g c =
    let so_far = c.loop-body.invariant in
    let full = at_full _ _ _ c.in_ok-body.ensures.reached c.in-Full.is in
    let len = full.1 in
    let within = c.if-done-room.false in
    let piece = subst (λ o. IsRowPiece o c.loop-body.numbers.items c.row_piece.new.numbers.items c.reach.new.self c.row_piece.new.pieces) c.in-None.is c.in_ok-count-in-Full-2.ensures.piece in
    let given_up = row_given_up so_far.text c.loop-body.numbers.items c.row_piece.new.numbers.items c.loop-body.done c.args.room _ _ _ _ _ _ (passes_on _ _ _ _ _ _ _ _ so_far.passes c.in_ok-body.ensures.passes) so_far.so_far so_far.row piece full.0 full.1 within c.pass-in-None.ensures in
    read_skipped _ _ (c.loop-body.done + 65536) c.args.room (c.args.room - c.loop-body.done - 65536) _ _ _ _ _ _ given_up.passes given_up.so_far (omega arith) (omega arith) given_up.hopeless
    c.in_ok-skip_line-in-None.ensures.skipped

pub returns-in-None-clause-counts : goal.returns-in-None-clause-counts
returns-in-None-clause-counts g c =
    counts_on _ _ _ _ _ (g.F.Files.view c.reach.new.files).rest _ (ap (λ v. v.taken) c.pass-in-None.ensures ∙ c.row_piece.ensures.taken)
    (passes_on _ _ _ _ _ _ _ _ c.loop-body.invariant.passes c.in_ok-body.ensures.passes).most c.in_ok-skip_line-in-None.ensures.counts

pub returns-in-None-clause-takes : goal.returns-in-None-clause-takes
returns-in-None-clause-takes g c =
    takes_then _ _ _ _ (passes_on _ _ _ _ _ _ _ _ c.loop-body.invariant.passes c.in_ok-body.ensures.passes).takes c.in_ok-skip_line-in-None.ensures.takes

pub returns-in_err-skip_line-in-None-clause-counts : goal.returns-in_err-skip_line-in-None-clause-counts
returns-in_err-skip_line-in-None-clause-counts g c =
    counts_on _ _ _ _ _ (g.F.Files.view c.reach.new.files).rest _ (ap (λ v. v.taken) c.pass-in-None.ensures ∙ c.row_piece.ensures.taken)
    (passes_on _ _ _ _ _ _ _ _ c.loop-body.invariant.passes c.in_ok-body.ensures.passes).most c.in_err-skip_line-in-None.ensures.counts

pub returns-in_err-skip_line-in-None-clause-takes : goal.returns-in_err-skip_line-in-None-clause-takes
returns-in_err-skip_line-in-None-clause-takes g c =
    let made = err_from_is_err_and c.from_residual-in_err-skip_line-in-None.result c.from_residual-in_err-skip_line-in-None.ensures.1 in
    rw (made.1, made.2) (takes_then true _ _ _ (passes_on _ _ _ _ _ _ _ _ c.loop-body.invariant.passes c.in_ok-body.ensures.passes).takes c.in_err-skip_line-in-None.ensures.takes)
