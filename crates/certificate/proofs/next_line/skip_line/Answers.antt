use Rattle.std.proofs.Common.{◌++◌, ap, arith, length, take, false}
use Rattle.std.proofs.lemmas.List.{length-take-le}
use Rattle.certificate.proofs.Passing.{passes_on, passes_over}
use Rattle.certificate.proofs.Reaching.{at_end, at_full, at_line, plain_take}
use Rattle.certificate.proofs.Skips.{passed_more, skipped_line, skipped_long, skipped_open}
use Rattle.certificate.proofs.next_line.skip_line.Goals as goal

pub returns-in-Line-clause-skipped : goal.returns-in-Line-clause-skipped
returns-in-Line-clause-skipped g c =
    let so_far = c.loop-body.invariant in
    skipped_line _ so_far.text c.loop-body.done c.args.room c.in-Line.body _ _ _ _ (passes_on _ _ _ _ _ _ _ _ so_far.passes c.in_ok-body.ensures.passes) so_far.so_far
    (at_line _ _ _ _ c.in_ok-body.ensures.reached c.in-Line.is) c.unread.ensures

pub returns-in-End-clause-skipped : goal.returns-in-End-clause-skipped
returns-in-End-clause-skipped g c =
    let so_far = c.loop-body.invariant in
    let end = at_end _ _ _ c.in_ok-body.ensures.reached c.in-End.is in
    skipped_open _ so_far.text c.loop-body.done c.args.room (length c.bytes.result.now) _ _ _ _ (passes_on _ _ _ _ _ _ _ _ so_far.passes c.in_ok-body.ensures.passes) so_far.so_far
    end.0 end.1 (ap length c.bytes.ensures.bytes) c.unread-in-End.ensures

pub returns-in-Full-clause-skipped : goal.returns-in-Full-clause-skipped
returns-in-Full-clause-skipped g c =
    let so_far = c.loop-body.invariant in
    let full = at_full _ _ _ c.in_ok-body.ensures.reached c.in-Full.is in
    let len = full.1 in
    let over = c.if-done-room.true in
    skipped_long so_far.text c.loop-body.done c.args.room _ _ _ _ (passes_on _ _ _ _ _ _ _ _ so_far.passes c.in_ok-body.ensures.passes) so_far.so_far
    full.0 (omega arith)

pub loop-body-preserved : goal.loop-body-preserved
loop-body-preserved g c =
    let so_far = c.loop-body.invariant in
    let full = at_full _ _ _ c.in_ok-body.ensures.reached c.in-Full.is in
    let len = full.1 in
    let left = c.reach.new.self.left in
    record {
      text = so_far.text ++ take 65536 left;
      passes = passes_over so_far.text 65536 false _ _ _ _ _ (omega arith) c.pass.ensures (passes_on _ _ _ _ _ _ _ _ so_far.passes c.in_ok-body.ensures.passes);
      so_far = passed_more c.loop-body.done 65536 c.args.room so_far.text (take 65536 left) so_far.so_far (plain_take 65536 left full.0) (length-take-le 65536 left (omega arith)) c.if-done-room.false;
    }
