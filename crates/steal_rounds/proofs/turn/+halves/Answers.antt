use Rattle.std.proofs.Common.{◌++◌, sym, subst}
use Rattle.steal_rounds.specs.inside.Lists.{Each}
use Rattle.steal_rounds.proofs.Eaches.{each_append}
use Rattle.steal_rounds.proofs.turn.+halves.Goals as goal

pub turn_all-returns-then-crew-ge2 : goal.turn_all-returns-then-crew-ge2
turn_all-returns-then-crew-ge2 g t c =
    let both = c.turn_both.ensures in
    subst (λ l. Each (g.T.Turn.turns c.args.job.now) l (c.turn_both.new.low ++ c.turn_both.new.high)) (sym c.split_at_mut-low.ensures.value)
    (each_append (g.T.Turn.turns c.args.job.now) _ _ _ _ both.low both.high)
