use Rattle.std.proofs.Common.{rules, ◌≡◌, ℕ, List, length, ap, sym, subst, ◌∙◌, replicate, set, [], ◌∷◌}
use Rattle.graph_rules.specs.Graphs.{unreached}
use Rattle.dist_table.specs.Histories.{opening_words}
use Rattle.dist_table.specs.Rules.{KeepsHistory, first_pass}
use Rattle.dist_table.proofs.StepLemmas.{begins}
use Rattle.dist_table.proofs.table.DistTable.new.Goals as goal

pub of_words-requires : goal.of_words-requires
of_words-requires g c =
    let n = c.count-count.result in
    let all : c.in_ok-words.words.items ≡ replicate n unreached = search rules in
    let words : c.as_slice.result.now ≡ opening_words (g.G.StepGraph.origin c.args.graph.now) (length (g.G.StepGraph.lists c.args.graph.now)) =
    c.as_slice.ensures.value ∙ ap (λ (l : List ℕ). set l c.start-start.result 0) all ∙ ap (λ (m : ℕ). set (replicate n unreached) m 0) c.start-start.ensures.start
    ∙ ap (λ (m : ℕ). set (replicate m unreached) (g.G.StepGraph.origin c.args.graph.now) 0) c.count-count.ensures.count in
    subst (λ (ws : List ℕ). KeepsHistory (g.G.StepGraph.origin c.args.graph.now) (g.G.StepGraph.lists c.args.graph.now) ws (first_pass (g.G.StepGraph.origin c.args.graph.now) (g.G.StepGraph.lists c.args.graph.now) ∷ [])) (sym words)
    (begins _ _ c.start-start.ensures.below)
