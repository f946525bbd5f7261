use Rattle.std.proofs.Common.{◌≡◌, ℕ, Some, List, Vec, Global, Result, Ok, Err, IfOk, ap, sym, subst, ◌∙◌}
use Rattle.std.specs.Mem.Slots.{slots_items}
use Rattle.dist_table.specs.Tables.{TableView, PassView, LeavesWords}
use Rattle.dist_table.proofs.StepLemmas.{ends}
use Rattle.dist_table.proofs.table.DistTable.close.Goals as goal

if_ok : {E : Type 0} (r : Result (Vec ℕ Global) E) (xs : List ℕ) (P : List ℕ → Type 0) → IfOk r (λ w. w.items ≡ xs) → P xs → IfOk r (λ w. P w.items)
if_ok (Ok w) xs P e p = subst P (sym e) p
if_ok (Err x) xs P e p = tt

pub returns : goal.returns
returns g c =
    let key = c.self.invariant.0 in
    if_ok c.words_of-words.result (slots_items c.close_with-closed.result.words) (LeavesWords c.args.pass) c.words_of-words.ensures
    (ends c.args.pass _ _ (ap g.G.StepGraph.origin key ∙ ap (λ (t : TableView). t.origin) (c.self.view_is ∙ sym c.requires))
    (ap g.G.StepGraph.lists key ∙ ap (λ (t : TableView). t.lists) (c.self.view_is ∙ sym c.requires))
    _ _ (ap (λ (p : PassView). p.seen) c.pass.view_is) (c.pass.invariant.1 ∙ ap (λ (p : PassView). Some p.number) c.pass.view_is) _ _ c.close_with-closed.ensures.values.2)
