use Rattle.std.proofs.Common.{◌<◌, ℕ, List, length, arith, ap, sym, subst, ◌∙◌}
use Rattle.graph_rules.proofs.Distances.{source_below}
use Rattle.dist_table.specs.Tables.{TableView, PassView}
use Rattle.dist_table.proofs.StepLemmas.{relaxes_as}
use Rattle.dist_table.proofs.table.DistTable.relax.Goals as goal

pub aim-requires-clause-below : goal.aim-requires-clause-below
aim-requires-clause-below g c = source_below c.args.self.now.lists c.args.source c.args.target c.requires.walk.1

pub fetch_min-requires : goal.fetch_min-requires
fetch_min-requires g c =
    let i = c.self.invariant in
    let is = c.self.view_is in
    let lists = ap (λ (t : TableView). t.lists) is in
    let same = c.pass.view_is ∙ c.in-None.ensures.none ∙ c.aim.ensures in (
      ap (λ (p : PassView). p.table.id) same ∙ ap (λ (t : TableView). t.id) (c.requires.pass ∙ sym is),
      subst (λ (n : ℕ). c.args.target < n) (sym (i.1 ∙ ap (λ (l : List (List ℕ)). length l) lists)) c.requires.below,
      relaxes_as _ _ _ _ (ap g.G.StepGraph.origin i.0 ∙ ap (λ (t : TableView). t.origin) is) (ap g.G.StepGraph.lists i.0 ∙ lists)
          _ _ c.args.target c.args.distance c.args.source _ _ c.requires.below c.pass.invariant.1 c.requires.walk.0 c.requires.walk.1 (omega arith) c.word_after-word.ensures,
    )
