use Rattle.std.proofs.Common.{◌<◌, ℕ, List, length, ap, sym, subst, ◌∙◌}
use Rattle.dist_table.specs.Tables.{TableView, PassView}
use Rattle.dist_table.proofs.StepLemmas.{spares_as}
use Rattle.dist_table.proofs.table.DistTable.spare.Goals as goal

pub load-found-requires : goal.load-found-requires
load-found-requires g c =
    let i = c.self.invariant in
    let is = c.self.view_is in
    let lists = ap (λ (t : TableView). t.lists) is in (
      ap (λ (p : PassView). p.table.id) c.pass.view_is ∙ ap (λ (t : TableView). t.id) (c.requires.pass ∙ sym is),
      subst (λ (n : ℕ). c.args.target < n) (sym (i.1 ∙ ap (λ (l : List (List ℕ)). length l) lists)) c.requires.below,
      spares_as _ _ _ _ (ap g.G.StepGraph.origin i.0 ∙ ap (λ (t : TableView). t.origin) is) (ap g.G.StepGraph.lists i.0 ∙ lists)
          _ _ c.args.target _ c.requires.below c.pass.invariant.1,
    )
