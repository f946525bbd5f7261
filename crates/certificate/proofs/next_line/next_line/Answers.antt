use Rattle.std.proofs.Common.{◌-◌, ap, arith, length, take, refl, []}
use Rattle.std.proofs.lemmas.Result.{IfOk-weaker}
use Rattle.text_rules.specs.Lines.{parts_between}
use Rattle.certificate.specs.CertReading.{of_words}
use Rattle.certificate.proofs.LongRows.{give_up, not_row, not_row_hopeless}
use Rattle.certificate.proofs.Passing.{counts_on}
use Rattle.certificate.proofs.Reaching.{at_end, at_full, at_line}
use Rattle.certificate.proofs.Skips.{not_empty, passed_none, read_held, read_last, read_on, read_skipped, skipped_long}
use Rattle.certificate.proofs.next_line.next_line.Goals as goal

pub returns-in_ok-held_line-in-Line-clause-read : goal.returns-in_ok-held_line-in-Line-clause-read
returns-in_ok-held_line-in-Line-clause-read g c =
    let left = c.reach.new.self.left in
    read_held _ (of_words (parts_between 32 (take c.in-Line.body left))) [] 0 c.args.room c.in-Line.body _ _ _ _ _
    c.in_ok-body.ensures.passes (passed_none c.args.room) (at_line _ _ _ _ c.in_ok-body.ensures.reached c.in-Line.is) refl c.in_ok-held_line-in-Line.ensures.found

pub returns-in-End-2-clause-read : goal.returns-in-End-2-clause-read
returns-in-End-2-clause-read g c =
    let end = at_end _ _ _ c.in_ok-body.ensures.reached c.in-End.is in
    let some = not_empty c.bytes.result.now c.if-is_empty.ensures in
    let first = ap length c.bytes.ensures.bytes in
    let len = ap length c.bytes-in-End-2.ensures.bytes in
    read_last _ [] 0 c.args.room (length c.bytes-in-End-2.result.now) _ _ _ _ c.in_ok-body.ensures.passes (passed_none c.args.room)
    end.0 end.1 (omega arith) (omega arith) c.unread.ensures

pub returns-in-Full-clause-read : goal.returns-in-Full-clause-read
returns-in-Full-clause-read g c =
    let full = at_full _ _ _ c.in_ok-body.ensures.reached c.in-Full.is in
    let len = full.1 in
    let over = c.if-room.true in
    skipped_long [] 0 c.args.room _ _ _ _ c.in_ok-body.ensures.passes (passed_none c.args.room) full.0 (omega arith)

pub returns-in-Full-2-clause-read : goal.returns-in-Full-2-clause-read
returns-in-Full-2-clause-read g c =
    IfOk-weaker c.long_row.result _ _ (λ read is. read_on read c.args.room c.args.pieces.now c.reach.new.self c.long_row.new.pieces _ _ _ c.in_ok-body.ensures.passes is) c.long_row.ensures.read

pub returns-in_ok-skip_line-in-Full-3-clause-read : goal.returns-in_ok-skip_line-in-Full-3-clause-read
returns-in_ok-skip_line-in-Full-3-clause-read g c =
    let full = at_full _ _ _ c.in_ok-body.ensures.reached c.in-Full.is in
    let len = full.1 in
    let within = c.if-room.false in
    let other = not_row c.reach.new.self.left c.if-begins_row.ensures in
    let given_up = give_up [] 0 c.args.room _ _ _ _ _ c.in_ok-body.ensures.passes (passed_none c.args.room) full.0 full.1 within c.pass.ensures
    (not_row_hopeless c.reach.new.self.left (omega arith) full.0 other) in
    read_skipped _ _ 65536 c.args.room (c.args.room - 65536) _ _ _ _ _ _ given_up.passes given_up.so_far (omega arith) refl given_up.hopeless
    c.in_ok-skip_line-in-Full-3.ensures.skipped

pub returns-in_ok-skip_line-in-Full-3-clause-counts : goal.returns-in_ok-skip_line-in-Full-3-clause-counts
returns-in_ok-skip_line-in-Full-3-clause-counts g c =
    counts_on _ _ _ _ _ (g.F.Files.view c.reach.new.files).rest _ (ap (λ v. v.taken) c.pass.ensures) c.in_ok-body.ensures.passes.most c.in_ok-skip_line-in-Full-3.ensures.counts

pub returns-in_err-skip_line-in-Full-3-clause-counts : goal.returns-in_err-skip_line-in-Full-3-clause-counts
returns-in_err-skip_line-in-Full-3-clause-counts g c =
    counts_on _ _ _ _ _ (g.F.Files.view c.reach.new.files).rest _ (ap (λ v. v.taken) c.pass.ensures) c.in_ok-body.ensures.passes.most c.in_err-skip_line-in-Full-3.ensures.counts
