use Rattle.std.proofs.Common.{ap, sym, ◌∙◌, map, subst}
use Rattle.reading_laws.specs.ForkNumbers.{fork_number}
use Rattle.reading_laws.specs.Forks.{targets_of_two}
use Rattle.outline_trie.specs.Tries.{node_strokes}
use Rattle.free_parse.specs.Cursors.{IsChildOf}
use Rattle.free_parse.specs.inside.Forks.{targets_to}
use Rattle.free_parse.proofs.TargetLemmas.{no_targets_to, other_is}
use Rattle.free_parse.proofs.graph.FreeGraph.targets_by.Goals as goal

pub targets_of_both-requires-clause-fewer : goal.targets_of_both-requires-clause-fewer
targets_of_both-requires-clause-fewer c =
    let es = c.args.self.now.entries in
    (other_is es c.in-Some.shorter c.args.child c.in-Some-child_by.other (subst (λ o. IsChildOf es o c.args.child) c.in-Some.is c.requires) c.in-Some-child_by.ensures.child).fewer

pub returns-in-Some-child_by-clause-targets : goal.returns-in-Some-child_by-clause-targets
returns-in-Some-child_by-clause-targets c =
    let g = c.args.self.now in
    let other = other_is g.entries c.in-Some.shorter c.args.child c.in-Some-child_by.other (subst (λ o. IsChildOf g.entries o c.args.child) c.in-Some.is c.requires) c.in-Some-child_by.ensures.child in
    c.targets_of_both.ensures.targets
    ∙ ap (λ w. map (fork_number g.entries) (targets_of_two g.words (node_strokes g.entries c.args.child) w)) other.is
    ∙ sym (ap (λ o. map (fork_number g.entries) (targets_to g.entries g.words o c.args.child)) c.in-Some.is)

pub returns-in-None-child_by-clause-targets : goal.returns-in-None-child_by-clause-targets
returns-in-None-child_by-clause-targets c =
    let g = c.args.self.now in
    c.none.ensures ∙ sym (ap (map (fork_number g.entries)) (no_targets_to g.entries g.words c.in-Some.shorter c.args.child c.child_by.ensures.words c.in-None-child_by.ensures.child))
    ∙ sym (ap (λ o. map (fork_number g.entries) (targets_to g.entries g.words o c.args.child)) c.in-Some.is)
