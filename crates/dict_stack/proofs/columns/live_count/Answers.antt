use Rattle.std.proofs.Common.{◌∙◌, ◌+◌, sym, ap, ap₂, arith, not, nat_eq, cond}
use Rattle.std.specs.Cmp.Lexicographic.{pointwise}
use Rattle.dict_stack.specs.inside.Candidates.{candidate_outline}
use Rattle.dict_stack.proofs.CountLemmas.{count_other, count_first}
use Rattle.dict_stack.proofs.columns.live_count.Goals as goal
use Rattle.dict_stack.proofs.columns.live_count.Goals.{then-place-eq0, then-place-eq0-via-then-place-eq0, then-place-eq0-via-else-place-eq0+then-ne, else-place-eq0+else-ne}

pub loop-place-preserved : goal.loop-place-preserved
loop-place-preserved c = elim c.if-place-eq0.branch [
  | then-place-eq0 w ↦ record {
    is = w.count-is ∙ ap (λ n. n + 1) c.loop-place.invariant.is ∙ sym (elim w.then-place-eq0.branch [
      | then-place-eq0-via-then-place-eq0 v ↦ count_first c.args.candidates.now c.loop-place.place c.index-candidates-place.result c.requires c.loop-place-test.true c.index-candidates-place.is v.if-place-eq0.true
      | then-place-eq0-via-else-place-eq0+then-ne v ↦
          count_other c.args.candidates.now c.loop-place.place v.index-candidates-place-else-place-eq0.result c.index-candidates-place.result v.ne.result c.requires (omega (arith, v.if-place-eq0.false)) c.loop-place-test.true
          v.index-candidates-place-else-place-eq0.is c.index-candidates-place.is (v.ne.ensures ∙ ap₂ (λ a b. not (pointwise nat_eq a b)) (v.outline.ensures ∙ ap candidate_outline (sym v.index-candidates-place-else-place-eq0.is)) v.outline-else-place-eq0.ensures)
          ∙ ap (λ b. _ + cond b 1 0) v.if-ne.true
    ]);
    few = omega (arith, w.count-is, c.loop-place.invariant.few);
  }
  | else-place-eq0+else-ne w ↦ record {
    is = w.count-is ∙ c.loop-place.invariant.is ∙ sym (count_other c.args.candidates.now c.loop-place.place w.index-candidates-place-else-place-eq0.result c.index-candidates-place.result w.ne.result c.requires (omega (arith, w.if-place-eq0.false)) c.loop-place-test.true
        w.index-candidates-place-else-place-eq0.is c.index-candidates-place.is (w.ne.ensures ∙ ap₂ (λ a b. not (pointwise nat_eq a b)) (w.outline.ensures ∙ ap candidate_outline (sym w.index-candidates-place-else-place-eq0.is)) w.outline-else-place-eq0.ensures)
        ∙ ap (λ b. _ + cond b 1 0) w.if-ne.false ∙ omega arith);
    few = omega (arith, w.count-is, c.loop-place.invariant.few);
  }
]
