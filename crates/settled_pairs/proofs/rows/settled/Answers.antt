use Rattle.std.proofs.Common.{arith}
use Rattle.std.proofs.lemmas.Result.{IfOk-weaker}
use Rattle.steno_rules.specs.WordSets.{words_in}
use Rattle.conflict_example.specs.Chosen.{words_in_stack}
use Rattle.settled_pairs.proofs.AtStack.{chosen_of, closure_of, conflicts_of, exact_of, small_of}
use Rattle.settled_pairs.proofs.rows.settled.Goals as goal

pub first_sums-requires-clause-closure : goal.first_sums-requires-clause-closure
first_sums-requires-clause-closure c =
    closure_of c.args.numbering.now c.args.trie.now c.args.words.now c.args.table.now c.requires.numbering c.requires.words (omega (arith, c.count-count.ensures.count, c.count-count.ensures.most)) c.requires.settled

pub all_rows-requires-clause-closure : goal.all_rows-requires-clause-closure
all_rows-requires-clause-closure c =
    closure_of c.args.numbering.now c.args.trie.now c.args.words.now c.args.table.now c.requires.numbering c.requires.words (omega (arith, c.count-count.ensures.count, c.count-count.ensures.most)) c.requires.settled

pub returns-clause-exact : goal.returns-clause-exact
returns-clause-exact c =
    IfOk-weaker c.all_rows.result _ _
    (λ rows h. exact_of c.args.trie.now (words_in c.args.trie.now c.args.words.now) c.args.stack.now.outlines (words_in_stack c.args.stack.now) c.args.table.now rows.items c.requires.entries c.requires.ends h) c.all_rows.ensures

pub returns-clause-conflicts : goal.returns-clause-conflicts
returns-clause-conflicts c =
    IfOk-weaker c.all_rows.result _ _
    (λ rows h. conflicts_of c.args.trie.now (words_in c.args.trie.now c.args.words.now) c.args.stack.now.outlines (words_in_stack c.args.stack.now) c.args.table.now rows.items c.requires.entries c.requires.ends h) c.all_rows.ensures

pub returns-clause-chosen : goal.returns-clause-chosen
returns-clause-chosen c =
    IfOk-weaker c.all_rows.result _ _
    (λ rows h. chosen_of c.args.trie.now (words_in c.args.trie.now c.args.words.now) c.args.stack.now.outlines (words_in_stack c.args.stack.now) c.args.table.now rows.items c.requires.entries c.requires.ends h) c.all_rows.ensures

pub returns-clause-small : goal.returns-clause-small
returns-clause-small c =
    IfOk-weaker c.all_rows.result _ _
    (λ rows h. small_of c.args.trie.now (words_in c.args.trie.now c.args.words.now) c.args.stack.now.outlines c.args.table.now rows.items c.requires.entries c.outlines.ensures.are_outlines c.outlines.ensures.few h) c.all_rows.ensures
