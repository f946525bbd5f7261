use Rattle.std.proofs.Common.{◌∙◌, ap, sym, arith, true, length, take}
use Rattle.std.proofs.lemmas.Result.{err_from_is_err_and}
use Rattle.text_rules.specs.Lines.{has_byte}
use Rattle.certificate.proofs.Passing.{passes_then}
use Rattle.certificate.proofs.Reaching.{first_seen, none_seen, grows_none}
use Rattle.certificate.proofs.pieces.Pieces.reach.Goals as goal

pub returns-in-Some-clause-reached : goal.returns-in-Some-clause-reached
returns-in-Some-clause-reached g c =
    first_seen c.loop-place.self.left c.bytes.result.now c.loop-place.seen c.in-Some.place c.bytes.ensures.bytes
    c.loop-place.invariant.seen c.loop-place.invariant.plain c.in-Some.ensures

pub returns-then-seen-eq-PIECE-clause-reached : goal.returns-then-seen-eq-PIECE-clause-reached
returns-then-seen-eq-PIECE-clause-reached g c = (
  none_seen c.loop-place.self.left c.bytes.result.now c.loop-place.seen c.bytes.ensures.bytes c.loop-place.invariant.plain c.in_default.ensures,
  ap length (sym c.bytes-seen.ensures.bytes) ∙ c.if-seen-eq-PIECE.true,
)

pub returns-in_err-fill-clause-passes : goal.returns-in_err-fill-clause-passes
returns-in_err-fill-clause-passes g c =
    let made = err_from_is_err_and c.from_residual.result c.from_residual.ensures.1 in
    rw made.1 (passes_then _ _ true _ _ _ _ _ _ c.loop-place.invariant.passes c.in_err-fill.ensures.passes)

pub returns-then-branch-eq0-clause-reached : goal.returns-then-branch-eq0-clause-reached
returns-then-branch-eq0-clause-reached g c = (
  ap (has_byte 10) (grows_none _ _ _ c.in_ok-fill.ensures.grows c.if-branch-eq0.true)
      ∙ none_seen c.loop-place.self.left c.bytes.result.now c.loop-place.seen c.bytes.ensures.bytes c.loop-place.invariant.plain c.in_default.ensures,
  c.in_ok-fill.ensures.end c.if-branch-eq0.true,
)

pub returns-then-branch-eq0-clause-passes : goal.returns-then-branch-eq0-clause-passes
returns-then-branch-eq0-clause-passes g c = passes_then _ _ _ _ _ _ _ _ _ c.loop-place.invariant.passes c.in_ok-fill.ensures.passes

pub loop-place-preserved : goal.loop-place-preserved
loop-place-preserved g c =
    let more = c.in_ok-fill.ensures.grows.more in
    let same = c.bytes-seen.ensures.bytes in
    record {
      seen = let len = ap length same in omega arith;
      plain =
          ap (λ xs. has_byte 10 (take (length xs) c.fill.new.self.left)) same ∙ ap (has_byte 10) c.in_ok-fill.ensures.grows.same
          ∙ none_seen c.loop-place.self.left c.bytes.result.now c.loop-place.seen c.bytes.ensures.bytes c.loop-place.invariant.plain c.in_default.ensures;
      passes = passes_then _ _ _ _ _ _ _ _ _ c.loop-place.invariant.passes c.in_ok-fill.ensures.passes;
    }
