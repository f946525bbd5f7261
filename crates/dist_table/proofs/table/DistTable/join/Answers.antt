use Rattle.std.proofs.Common.{◌≡◌, ℕ, Some, List, arith, ap, sym, subst, ◌∙◌}
use Rattle.dist_table.specs.declared.knowledge.Knowledge.{Knowledge}
use Rattle.dist_table.specs.Tables.{TableView, PassView}
use Rattle.dist_table.specs.inside.Steps.{pass_number}
use Rattle.dist_table.proofs.StepLemmas.{joins, settles_at}
use Rattle.dist_table.proofs.table.DistTable.join.Goals as goal

pub join_seat-requires : goal.join_seat-requires
join_seat-requires g c =
    let i = c.self.invariant in (
      ap (λ (p : PassView). p.table.id) c.pass.view_is ∙ ap (λ (t : TableView). t.id) (c.requires.pass ∙ sym c.self.view_is),
      ap (λ (p : PassView). p.table.id) c.other.view_is ∙ ap (λ (t : TableView). t.id) (c.requires.other ∙ sym c.self.view_is),
      c.other.invariant.0,
      omega (arith, i.1, i.3),
      joins _ _ _ _ _ _,
    )

pub load-requires : goal.load-requires
load-requires g c =
    let i = c.self.invariant in
    let j = c.join_seat.ensures in (
      j.0 ∙ ap (λ (p : PassView). p.table.id) c.pass.view_is ∙ ap (λ (t : TableView). t.id) (c.requires.pass ∙ sym c.self.view_is),
      omega (arith, i.1, i.3),
      settles_at _ _ _ _ 0 _ (subst (λ (m : Knowledge × List (ℕ × ℕ)). m.0.number ≡ Some (pass_number m.0)) (sym j.2) c.pass.invariant.1),
    )
