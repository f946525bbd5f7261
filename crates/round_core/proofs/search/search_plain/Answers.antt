use Rattle.std.proofs.Common.{◌≡◌, ◌+◌, ◌≤◌, length, take, ℕ, List, [], ◌∷◌, ◌++◌, sym, ap, subst, arith, ◌∙◌, inl, inr, refl, set, replicate}
use Rattle.round_core.specs.inside.InRounds.{IsReady, moves_of}
use Rattle.round_core.specs.Searches.{IsSearched}
use Rattle.graph_rules.specs.Graphs.{row, unreached}
use Rattle.round_core.proofs.Searches.{ready_start, ready_short, all_settled, all_rounds, last_made}
use Rattle.round_core.proofs.Places.{longer_than, take_past}
use Rattle.round_core.proofs.search.search_plain.Goals as goal

pub loop-at-init : goal.loop-at-init
loop-at-init g c =
    let all : c.in_ok-words.words.items ≡ replicate c.count-count.result unreached = c.in_ok-words.ensures.items_if_clones_equal (λ y e. e) in
    let words : set c.in_ok-words.words.items c.start-start.result 0 ≡ set (replicate (length (g.G.StepGraph.lists c.args.graph.now)) unreached) (g.G.StepGraph.origin c.args.graph.now) 0 =
    ap (λ (l : List ℕ). set l c.start-start.result 0) all ∙ ap (λ (m : ℕ). set (replicate c.count-count.result unreached) m 0) c.start-start.ensures.start
    ∙ ap (λ (m : ℕ). set (replicate m unreached) (g.G.StepGraph.origin c.args.graph.now) 0) c.count-count.ensures.count in
    let queue : c.push.new.self.items ≡ g.G.StepGraph.origin c.args.graph.now ∷ [] =
    c.in_ok-push.ensures.items ∙ ap (λ (l : List ℕ). l ++ c.start-start.result ∷ []) c.in_ok-queue.ensures.items ∙ ap (λ (m : ℕ). m ∷ []) c.start-start.ensures.start in
    record {
      ready = subst (λ (q : List ℕ). IsReady (g.G.StepGraph.origin c.args.graph.now) (g.G.StepGraph.lists c.args.graph.now) 0 0 (set c.in_ok-words.words.items c.start-start.result 0) q) (sym queue)
          (ready_start _ _ (set c.in_ok-words.words.items c.start-start.result 0) c.start-start.ensures.below words);
      within = omega arith;
      few = omega arith;
      relaxed = refl;
      last = inl (refl, (let n = ap length queue in omega (arith, n)));
      bound = omega arith;
    }

pub relax_round-requires-clause-few : goal.relax_round-requires-clause-few
relax_round-requires-clause-few g c =
    let n = c.count-count.ensures.count in let most = c.count-count.ensures.most in let i = c.loop-at.invariant in
    let short = ready_short _ _ c.loop-at.rounds c.loop-at.at c.loop-at.words.items c.loop-at.queue.items i.ready in
    let few = i.few in let within = i.within in let len = c.len.ensures in let lt = c.loop-at-test.true in
    (most, omega (arith, short, few, within, len, lt, most), within, omega (arith, short, most))

pub overflow_add-relaxed : goal.overflow_add-relaxed
overflow_add-relaxed g c =
    let most = c.count-count.ensures.most in let i = c.loop-at.invariant in
    let short = ready_short _ _ c.loop-at.rounds c.loop-at.at c.loop-at.words.items c.loop-at.queue.items i.ready in
    let moves = c.in_ok-relaxed.ensures.bound in let bound = i.bound in
    omega (arith, most, short, moves, bound)

pub overflow_add-rounds : goal.overflow_add-rounds
overflow_add-rounds g c =
    let most = c.count-count.ensures.most in let i = c.loop-at.invariant in
    let short = ready_short _ _ c.loop-at.rounds c.loop-at.at c.loop-at.words.items c.loop-at.queue.items i.ready in
    let few = i.few in let within = i.within in
    omega (arith, most, short, few, within)

pub loop-at-smaller : goal.loop-at-smaller
loop-at-smaller g c =
    let i = c.loop-at.invariant in
    let short = ready_short _ _ c.loop-at.rounds c.loop-at.at c.loop-at.words.items c.loop-at.queue.items i.ready in
    let len = c.len.ensures in let end = c.len-end.ensures in let lt = c.loop-at-test.true in
    omega (arith, short, len, end, lt)

pub loop-at-preserved : goal.loop-at-preserved
loop-at-preserved g c =
    let i = c.loop-at.invariant in let len = c.len.ensures in let end = c.len-end.ensures in let lt = c.loop-at-test.true in
    let few = i.few in let sum = i.relaxed in let low = i.bound in
    let old = c.in_ok-relaxed.ensures.longer in
    let is : length c.loop-at.queue.items ≡ c.len-end.result = omega (arith, end) in
    let more = longer_than c.loop-at.queue.items c.relax_round.new.queue.items old in
    let moves = c.in_ok-relaxed.ensures.moves in let bound = c.in_ok-relaxed.ensures.bound in
    let front = ap (moves_of (g.G.StepGraph.lists c.args.graph.now)) (ap (λ n. take n c.relax_round.new.queue.items) (sym is) ∙ old) in
    record {
      ready = subst (λ n. IsReady (g.G.StepGraph.origin c.args.graph.now) (g.G.StepGraph.lists c.args.graph.now) (c.loop-at.rounds + 1) n c.relax_round.new.words.items c.relax_round.new.queue.items) is c.in_ok-relaxed.ensures.ready;
      within = omega (arith, is, more);
      few = omega (arith, few, lt, len, end);
      relaxed = omega (arith, sum, moves, front);
      last = inr (last_made _ _ c.loop-at.rounds c.loop-at.at c.loop-at.words.items c.loop-at.queue.items i.ready (omega (arith, len, lt)));
      bound = omega (arith, low, bound, is);
    }

pub returns : goal.returns
returns g c =
    let i = c.loop-at.invariant in let len = c.len.ensures in let ge = c.loop-at-test.false in
    let past : length c.loop-at.queue.items ≤ c.loop-at.at = omega (arith, len, ge) in
    let sum = i.ready.sums (λ s. length (row (g.G.StepGraph.lists c.args.graph.now) s)) in
    let all = i.relaxed ∙ ap (moves_of (g.G.StepGraph.lists c.args.graph.now)) (take_past c.loop-at.at c.loop-at.queue.items past) ∙ sum in
    let searched : IsSearched (g.G.StepGraph.origin c.args.graph.now) (g.G.StepGraph.lists c.args.graph.now) (record { words = c.loop-at.words.items; rounds = c.loop-at.rounds; relaxed = c.loop-at.relaxed }) = record {
      words = all_settled _ _ c.loop-at.rounds c.loop-at.at c.loop-at.words.items c.loop-at.queue.items past i.ready;
      rounds = all_rounds _ _ c.loop-at.rounds c.loop-at.at c.loop-at.words.items c.loop-at.queue.items past i.ready (elim i.last [ inl none ↦ absurd (let a = none.0 in let b = none.1 in omega (arith, a, b, past)) | inr last ↦ last ]);
      relaxed = all;
    } in
    subst (λ s. IsSearched (g.G.StepGraph.origin c.args.graph.now) (g.G.StepGraph.lists c.args.graph.now) s) (sym c.new.ensures) searched
