use Rattle.std.proofs.Common.{◌≡◌, ap, ◌∙◌, Some}
use Rattle.closure_state.specs.inside.Chains.{lesser}
use Rattle.closure_state.proofs.ChainLemmas.{chain_step, step_of}
use Rattle.closure_state.proofs.chain.Chain.next.Goals as goal

pub returns-in-Some-clause-step : goal.returns-in-Some-clause-step
returns-in-Some-clause-step c = λ x chain.
    let same : c.lesser-found.result ≡ Some (c.in-Some.code, c.in-Some.field-0-1) = c.in-Some.is in
    let found : c.lesser-found.result ≡ lesser c.args.self.now.top.now (lesser c.args.self.now.low.now c.least_below-third.result) = c.lesser-found.ensures ∙ ap (lesser c.args.self.now.top.now) c.lesser.ensures in
    let step = chain_step c.args.trie.now c.args.self.now.depth x chain.mid c.args.self.now.below c.args.bound c.args.self.now.top.now c.args.self.now.low.now c.least_below-third.result c.lesser-found.result (c.in-Some.code, c.in-Some.field-0-1) c.past-self.result.now c.past-self-in-Some.result.now
    chain.first chain.second c.least_below-third.ensures found same c.past-self.ensures c.past-self-in-Some.ensures in
    step_of c.args.trie.now x c.args.bound c.lesser-found.result (c.in-Some.code, c.in-Some.field-0-1) _ same step.0 (record { mid = chain.mid; first = step.1; second = step.2 })
