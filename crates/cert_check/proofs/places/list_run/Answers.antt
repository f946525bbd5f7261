use Rattle.std.proofs.Common.{arith, subst, ◌∙◌, sym, ◌≡◌, ◌+◌, ◌-◌, ◌++◌, take, replicate, length, true, false, ap}
use Rattle.std.specs.Prelude.{is_some}
use Rattle.cert_check.proofs.RunLemmas.{IsRun, run_begin, run_next, run_done, run_refused, run_first, run_unknown, known_below, state_told}
use Rattle.cert_check.proofs.places.list_run.Goals as goal
use Rattle.cert_check.proofs.places.list_run.Goals.{then-first-len-via-then-first-len, then-first-len-via-else-first-len+then-last-count}

pub returns-then-first-len : goal.returns-then-first-len
returns-then-first-len c = run_refused _ _ _ _ _ _ _ _ (λ are ends. elim c.then-first-len.branch [
  | then-first-len-via-then-first-len w ↦ run_first c.args.numbering.now.entries c.args.numbering.now.words c.args.places.now.items c.args.first c.args.last c.args.place.distance ends c.requires.order (let t = w.if-first-len.true in let l = c.len.ensures in let k = c.args.places.now.ok.0 in omega (arith, t, l, k))
  | then-first-len-via-else-first-len+then-last-count w ↦ run_unknown c.args.numbering.now.entries c.args.numbering.now.words _ c.args.first c.args.last c.args.last c.args.place.distance c.requires.order (omega arith) (known_below c.args.numbering.now.entries c.args.numbering.now.words c.args.last are (let t = w.if-last-count.true in let k = w.count.ensures.count in omega (arith, t, k)))
])

pub loop-state-init : goal.loop-state-init
loop-state-init c =
    let v = c.args.places.now in
    let len : c.len.result ≡ length v.items = c.len.ensures ∙ v.ok.0 in
    let guard = c.if-first-len.false in
    let begun = run_begin c.args.numbering.now.entries c.args.numbering.now.words c.args.place.line c.args.first c.args.place.distance v.items (omega (arith, guard, len)) in
    subst (IsRun c.args.numbering.now.entries c.args.numbering.now.words c.args.place.line c.args.first c.args.first c.args.place.distance v.items)
    (sym (c.in_ok-resize.ensures.items ∙ ap (λ n. take c.args.first v.items ++ replicate (c.args.first - n) (record { line = 0; distance = 0 })) v.ok.0)) begun

pub returns-then-is_none : goal.returns-then-is_none
returns-then-is_none c = run_refused _ _ _ _ _ _ _ _ (λ are ends.
    let t = c.loop-state-test.true in
    run_unknown c.args.numbering.now.entries c.args.numbering.now.words _ c.args.first c.args.last c.loop-state.state c.args.place.distance c.loop-state.auto.state (omega (arith, t)) (sym (state_told c.args.numbering.now c.loop-state.state c.state.result c.state.ensures) ∙ c.if-is_none.ensures))

pub loop-state-preserved : goal.loop-state-preserved
loop-state-preserved c =
    let known : is_some c.state.result ≡ true = c.if-is_none.ensures in
    subst (IsRun c.args.numbering.now.entries c.args.numbering.now.words c.args.place.line c.args.first (c.loop-state.state + 1) c.args.place.distance c.args.places.now.items) (sym c.in_ok-push.ensures.items)
    (run_next c.args.numbering.now.entries c.args.numbering.now.words c.args.place.line c.args.first c.loop-state.state c.args.place.distance c.args.places.now.items c.loop-state.places.items c.requires.line c.loop-state.auto.state (sym (state_told c.args.numbering.now c.loop-state.state c.state.result c.state.ensures) ∙ known) c.loop-state.invariant)

pub returns : goal.returns
returns c =
    let guard = c.if-first-len.false in
    let len : c.len.result ≡ length c.args.places.now.items = c.len.ensures ∙ c.args.places.now.ok.0 in
    let below = c.if-last-count.false in
    let count = c.count.ensures.count in
    let stop = c.loop-state-test.false in
    let end = c.loop-state.auto.state-end in
    let order = c.requires.order in
    let at : c.loop-state.state ≡ c.args.last + 1 = (let e = end (omega (arith, order)) in omega (arith, e, stop)) in
    run_done c.args.numbering.now.entries c.args.numbering.now.words c.args.place.line c.args.first c.args.last c.args.place.distance c.args.places.now.items c.loop-state.places.items order (omega (arith, guard, len)) (omega (arith, below, count))
    (subst (λ n. IsRun c.args.numbering.now.entries c.args.numbering.now.words c.args.place.line c.args.first n c.args.place.distance c.args.places.now.items c.loop-state.places.items) at c.loop-state.invariant)
