use Rattle.std.proofs.Common.{◌≡◌, ◌++◌, [], true, map, ap, sym, subst, ◌∙◌, length, arith}
use Rattle.reading_laws.specs.ForkNumbers.{fork_number}
use Rattle.reading_laws.specs.Forks.{fork_targets, has_open_words}
use Rattle.reading_laws.proofs.ForkNumberLemmas.{row_of_fork}
use Rattle.free_parse.proofs.MoveLemmas.{no_row, opens_of_open, targets_of_open}
use Rattle.free_parse.proofs.graph.FreeGraphStepGraph.first.Goals as goal

pub moves-requires-clause-opens : goal.moves-requires-clause-opens
moves-requires-clause-opens c =
    let g = c.args.self.now in
    subst (λ s. has_open_words g.words s ≡ true) (sym c.in-Some.ensures.is) (opens_of_open g.entries g.words c.args.state)

pub returns-in-Some-clause-whole : goal.returns-in-Some-clause-whole
returns-in-Some-clause-whole c =
    let g = c.args.self.now in
    c.moves.ensures.left ∙ ap (λ s. map (fork_number g.entries) (fork_targets g.words s)) c.in-Some.ensures.is
    ∙ ap (map (fork_number g.entries)) (targets_of_open g.entries g.words c.args.state) ∙ sym (row_of_fork g.entries g.words c.args.state)

pub returns-in-Some-clause-few : goal.returns-in-Some-clause-few
returns-in-Some-clause-few c =
    let g = c.args.self.now in
    let whole = c.moves.ensures.left ∙ ap (λ s. map (fork_number g.entries) (fork_targets g.words s)) c.in-Some.ensures.is
    ∙ ap (map (fork_number g.entries)) (targets_of_open g.entries g.words c.args.state) ∙ sym (row_of_fork g.entries g.words c.args.state) in
    omega (arith, ap length whole, c.moves.ensures.few)

pub returns-in-None-clause-whole : goal.returns-in-None-clause-whole
returns-in-None-clause-whole c = let g = c.args.self.now in ap (λ w. w ++ []) c.none.ensures ∙ sym (no_row g.entries g.words c.args.state c.in-None.ensures.is)

pub returns-in-None-clause-few : goal.returns-in-None-clause-few
returns-in-None-clause-few c = let g = c.args.self.now in omega (arith, ap length (no_row g.entries g.words c.args.state c.in-None.ensures.is))
