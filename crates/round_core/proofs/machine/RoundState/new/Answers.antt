use Rattle.std.proofs.Common.{◌≡◌, ℕ, length, List, [], ◌∷◌, ◌++◌, set, sym, ap, subst, arith, ◌∙◌, replicate}
use Rattle.round_core.proofs.Steps.{free_owned, opening_is, viewed}
use Rattle.graph_rules.specs.Graphs.{unreached}
use Rattle.round_core.specs.Hands.{Owned}
use Rattle.round_core.proofs.machine.RoundState.new.Goals as goal

pub invariant_of-result : goal.invariant_of-result
invariant_of-result g c =
    let o = g.G.StepGraph.origin c.args.graph.now in let ls = g.G.StepGraph.lists c.args.graph.now in let left = g.G.StepGraph.left c.args.graph.now in
    let all : c.in_ok-words.words.items ≡ replicate c.count-count.result unreached = c.in_ok-words.ensures.items_if_clones_equal (λ y e. e) in
    let words : set c.in_ok-words.words.items c.start-start.result 0 ≡ set (replicate (length ls) unreached) o 0 =
    ap (λ (l : List ℕ). set l c.start-start.result 0) all ∙ ap (λ (m : ℕ). set (replicate c.count-count.result unreached) m 0) c.start-start.ensures.start
    ∙ ap (λ (m : ℕ). set (replicate m unreached) o 0) c.count-count.ensures.count in
    let front : c.push.new.self.items ≡ o ∷ [] = c.in_ok-push.ensures.items ∙ ap (λ (l : List ℕ). l ++ c.start-start.result ∷ []) c.in_ok-front.ensures.items ∙ ap (λ (m : ℕ). m ∷ []) c.start-start.ensures.start in
    let is = opening_is left ls o c.args.workers (set c.in_ok-words.words.items c.start-start.result 0) c.push.new.self.items c.in_ok-noted.noted.items c.in_ok-untaken.untaken.items c.in_ok-hands.hands.items
    words front c.in_ok-noted.ensures.items c.in_ok-untaken.ensures.items c.in_ok-hands.ensures in
    let n = c.count-count.ensures.count in let a = c.in_ok-front.ensures.exact in let b = c.in_ok-push.ensures.capacity in let d = c.in_ok-noted.ensures.exact in let e = c.in_ok-untaken.ensures.exact in
    record {
      graph = record { few = c.count-count.ensures.most; start = c.start-start.ensures.below; targets = c.count-count.ensures.targets };
      reached = (c.args.workers, [], is);
      owned = subst (λ l. Owned (g.G.StepGraph.owns c.args.graph.now) l) (sym c.in_ok-hands.ensures) (free_owned (g.G.StepGraph.owns c.args.graph.now) c.args.workers);
      front = omega (arith, n, a, b);
      noted = omega (arith, n, d);
      untaken = omega (arith, n, e);
    }

pub returns : goal.returns
returns g c =
    let o = g.G.StepGraph.origin c.args.graph.now in let ls = g.G.StepGraph.lists c.args.graph.now in let left = g.G.StepGraph.left c.args.graph.now in
    let all : c.in_ok-words.words.items ≡ replicate c.count-count.result unreached = c.in_ok-words.ensures.items_if_clones_equal (λ y e. e) in
    let words : set c.in_ok-words.words.items c.start-start.result 0 ≡ set (replicate (length ls) unreached) o 0 =
    ap (λ (l : List ℕ). set l c.start-start.result 0) all ∙ ap (λ (m : ℕ). set (replicate c.count-count.result unreached) m 0) c.start-start.ensures.start
    ∙ ap (λ (m : ℕ). set (replicate m unreached) o 0) c.count-count.ensures.count in
    let front : c.push.new.self.items ≡ o ∷ [] = c.in_ok-push.ensures.items ∙ ap (λ (l : List ℕ). l ++ c.start-start.result ∷ []) c.in_ok-front.ensures.items ∙ ap (λ (m : ℕ). m ∷ []) c.start-start.ensures.start in
    ap (viewed o ls) (opening_is left ls o c.args.workers (set c.in_ok-words.words.items c.start-start.result 0) c.push.new.self.items c.in_ok-noted.noted.items c.in_ok-untaken.untaken.items c.in_ok-hands.hands.items
    words front c.in_ok-noted.ensures.items c.in_ok-untaken.ensures.items c.in_ok-hands.ensures)
