use Rattle.std.proofs.Common.{arith, ap, sym, ◌∙◌}
use Rattle.dist_table.specs.Tables.{TableView, PassView}
use Rattle.dist_table.proofs.StepLemmas.{reserves_at, cuts}
use Rattle.dist_table.proofs.table.DistTable.split.Goals as goal

pub load-requires : goal.load-requires
load-requires g c =
    let i = c.self.invariant in (
      ap (λ (p : PassView). p.table.id) c.pass.view_is ∙ ap (λ (t : TableView). t.id) (c.requires ∙ sym c.self.view_is),
      omega (arith, i.1, i.3),
      reserves_at _ _ _ _ 0 _ c.pass.invariant.1,
    )

pub split_seat-seat-requires : goal.split_seat-seat-requires
split_seat-seat-requires g c =
    let i = c.self.invariant in (
      c.load.ensures.0 ∙ ap (λ (p : PassView). p.table.id) c.pass.view_is ∙ ap (λ (t : TableView). t.id) (c.requires ∙ sym c.self.view_is),
      omega (arith, i.1, i.3),
      cuts _ _ _ _,
    )
