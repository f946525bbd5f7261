use Rattle.std.proofs.Common.{sym, subst, ◌∙◌}
use Rattle.round_core.specs.Searches.{SettledView, IsSearched}
use Rattle.steal_rounds.proofs.Steps.{is_searched}
use Rattle.steal_rounds.proofs.searches.search.Goals as goal

pub returns : goal.returns
returns g c =
    let a = c.in_ok-table.ensures in let b = c.in_ok-searched.ensures in let n = c.new-2.ensures in let t = c.in_ok-table.table in
    let s : SettledView = record { words = c.in_ok-words.words.items; rounds = c.in_ok-searched.searched.rounds; relaxed = c.in_ok-searched.searched.relaxed } in
    subst (λ (v : SettledView). IsSearched (g.G.StepGraph.origin c.args.graph.now) (g.G.StepGraph.lists c.args.graph.now) v) (sym n)
    (is_searched t _ _ c.search_on.new.pass c.in_ok-words.words.items s (b.pass.0 ∙ a.pass.0) a.origin a.lists a.valid.few b.moves c.in_ok-words.ensures (λ i. c.in_ok-words.words.items) b.rounds b.relaxed)
