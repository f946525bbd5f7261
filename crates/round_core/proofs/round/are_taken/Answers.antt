use Rattle.std.proofs.Common.{◌≡◌, sym, ap, arith, ◌∙◌, drop, suc, ◌+◌, false, Some}
use Rattle.std.proofs.lemmas.Option.{slice_get-get_or}
use Rattle.round_core.proofs.Enabled.{idle_false, idle_step, idle_end}
use Rattle.round_core.specs.Machines.{none_untaken}
use Rattle.round_core.proofs.round.are_taken.Goals as goal

pub returns-then-flag : goal.returns-then-flag
returns-then-flag c = sym (idle_false c.args.untaken.now c.loop-flag.flag-index (slice_get-get_or c.args.untaken.now c.loop-flag.flag-index false c.loop-flag-test.true ∙ ap Some c.if-flag.true))

pub loop-flag-preserved : goal.loop-flag-preserved
loop-flag-preserved c = ap (λ n. none_untaken (drop n c.args.untaken.now)) (let e : c.loop-flag.flag-index + 1 ≡ suc c.loop-flag.flag-index = omega arith in e) ∙ sym (idle_step c.args.untaken.now c.loop-flag.flag-index c.loop-flag-test.true c.if-flag.false) ∙ c.loop-flag.invariant

pub returns : goal.returns
returns c = sym (idle_end c.args.untaken.now c.loop-flag.flag-index c.loop-flag-test.false) ∙ c.loop-flag.invariant
