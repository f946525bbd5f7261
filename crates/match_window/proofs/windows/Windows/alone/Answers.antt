use Rattle.std.proofs.Common.{subst}
use Rattle.match_window.specs.inside.Alone.{AreAlone}
use Rattle.match_window.proofs.AloneLemmas.{alone_zero}
use Rattle.match_window.proofs.windows.Windows.alone.Goals as goal

pub returns-then-found-eq0 : goal.returns-then-found-eq0
returns-then-found-eq0 c = (alone_zero c.args.self.now c.self.inside.alone.items c.args.node c.index-found.result.now (subst (λ es. AreAlone es c.self.inside.alone.items) c.self.view_is c.self.invariant.1) c.requires c.index-found.ensures).0 c.if-found-eq0.true

pub returns-else-found-eq0 : goal.returns-else-found-eq0
returns-else-found-eq0 c = (alone_zero c.args.self.now c.self.inside.alone.items c.args.node c.index-found.result.now (subst (λ es. AreAlone es c.self.inside.alone.items) c.self.view_is c.self.invariant.1) c.requires c.index-found.ensures).1 c.if-found-eq0.false
