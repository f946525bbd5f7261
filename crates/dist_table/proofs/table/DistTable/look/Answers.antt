use Rattle.std.proofs.Common.{◌<◌, ℕ, List, length, ap, sym, subst, ◌∙◌}
use Rattle.dist_table.specs.Tables.{TableView, PassView}
use Rattle.dist_table.proofs.StepLemmas.{looks_as}
use Rattle.dist_table.proofs.table.DistTable.look.Goals as goal

pub load-requires : goal.load-requires
load-requires g c =
    let i = c.self.invariant in
    let is = c.self.view_is in
    let lists = ap (λ (t : TableView). t.lists) is in (
      ap (λ (p : PassView). p.table.id) c.pass.view_is ∙ ap (λ (t : TableView). t.id) (c.requires.pass ∙ sym is),
      subst (λ (n : ℕ). c.args.state < n) (sym (i.1 ∙ ap (λ (l : List (List ℕ)). length l) lists)) c.requires.below,
      looks_as _ _ _ _ (ap g.G.StepGraph.origin i.0 ∙ ap (λ (t : TableView). t.origin) is) (ap g.G.StepGraph.lists i.0 ∙ lists)
          _ _ c.args.state _ c.requires.below c.pass.invariant.1,
    )
