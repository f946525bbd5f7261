use Rattle.free_parse.proofs.Limits.{few_fork_words}
use Rattle.conflict_example.specs.Chosen.{words_in_stack}
use Rattle.audit_top.proofs.Parsing.{of-forks, parsed-are}
use Rattle.audit_top.proofs.parse.parse_graph.Goals as goal

pub print_readings-requires-clause-few : goal.print_readings-requires-clause-few
print_readings-requires-clause-few g c =
    let stack = c.args.stack.now in
    let searched = of-forks stack c.args.graph.now c.in_ok-searched.searched c.requires.entries c.requires.words c.in_ok-searched.ensures in
    few_fork_words stack.outlines (words_in_stack stack) c.in_ok-searched.searched.words c.requires.within searched.words

pub print_readings-requires-clause-parsed : goal.print_readings-requires-clause-parsed
print_readings-requires-clause-parsed g c =
    parsed-are c.args.stack.now c.args.graph.now c.in_ok-searched.searched.words c.words.result.now c.in_ok-two.two c.words.ensures c.requires.entries c.requires.words
    c.in_ok-two.ensures.free c.in_ok-two.ensures.fewest c.in_ok-two.ensures.chosen

pub print_readings-requires-clause-search : goal.print_readings-requires-clause-search
print_readings-requires-clause-search g c =
    of-forks c.args.stack.now c.args.graph.now c.in_ok-searched.searched c.requires.entries c.requires.words c.in_ok-searched.ensures
