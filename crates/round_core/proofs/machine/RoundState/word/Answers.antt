use Rattle.std.proofs.Common.{◌≡◌, ◌<◌, length, get_or, sym, ap, subst, arith, ◌∙◌}
use Rattle.round_core.specs.Hands.{machine_of}
use Rattle.round_core.proofs.Steps.{reached_good, words_count, reached_stands}
use Rattle.std.proofs.lemmas.Grind.{get_or_default_zero}
use Rattle.graph_rules.specs.Graphs.{Stands}
use Rattle.round_core.proofs.machine.RoundState.word.Goals as goal

pub index-requires : goal.index-requires
index-requires g c =
    let s = c.self.inside in let o = g.G.StepGraph.origin s.graph.now in let ls = g.G.StepGraph.lists s.graph.now in let left = g.G.StepGraph.left s.graph.now in
    let m = machine_of left ls s.words.items s.front.items s.closed s.begun s.noted.items s.size s.untaken.items s.hands.items in
    let good = reached_good o ls m c.self.invariant.graph c.self.invariant.reached in
    let count = words_count o ls m good in
    let below : c.args.state < length ls = subst (λ v. c.args.state < length v.lists) (sym c.self.view_is) c.requires in
    omega (arith, count, below)

pub returns-clause-word : goal.returns-clause-word
returns-clause-word g c =
    let s = c.self.inside in let o = g.G.StepGraph.origin s.graph.now in let ls = g.G.StepGraph.lists s.graph.now in let left = g.G.StepGraph.left s.graph.now in
    let m = machine_of left ls s.words.items s.front.items s.closed s.begun s.noted.items s.size s.untaken.items s.hands.items in
    let good = reached_good o ls m c.self.invariant.graph c.self.invariant.reached in
    let count = words_count o ls m good in
    let below : c.args.state < length ls = subst (λ v. c.args.state < length v.lists) (sym c.self.view_is) c.requires in
    let read : c.index.result.now ≡ get_or s.words.items c.args.state 0 = c.index.ensures ∙ get_or_default_zero s.words.items c.args.state c.index.result.now (omega (arith, count, below)) in
    read ∙ ap (λ v. get_or v.now.words c.args.state 0) c.self.view_is

pub returns-clause-stands : goal.returns-clause-stands
returns-clause-stands g c =
    let s = c.self.inside in let o = g.G.StepGraph.origin s.graph.now in let ls = g.G.StepGraph.lists s.graph.now in let left = g.G.StepGraph.left s.graph.now in
    let m = machine_of left ls s.words.items s.front.items s.closed s.begun s.noted.items s.size s.untaken.items s.hands.items in
    let good = reached_good o ls m c.self.invariant.graph c.self.invariant.reached in
    let count = words_count o ls m good in
    let below : c.args.state < length ls = subst (λ v. c.args.state < length v.lists) (sym c.self.view_is) c.requires in
    let read : c.index.result.now ≡ get_or s.words.items c.args.state 0 = c.index.ensures ∙ get_or_default_zero s.words.items c.args.state c.index.result.now (omega (arith, count, below)) in
    subst (λ v. Stands v.origin v.lists c.args.state c.index.result.now) c.self.view_is (subst (λ x. Stands o ls c.args.state x) (sym read) (reached_stands o ls m c.args.state c.self.invariant.graph c.self.invariant.reached below))
