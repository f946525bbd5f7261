use Rattle.conflict_example.specs.Chosen.{words_in_stack}
use Rattle.state_numbering.specs.Numberings.{numbering_of}
use Rattle.steno_rules.specs.WordSets.{words_in}
use Rattle.audit_top.proofs.Keeping.{chosen-of, of-entries, of-numbering, of-table}
use Rattle.audit_top.proofs.Reports.{few-words}
use Rattle.audit_top.proofs.settled.settled_numbered.Goals as goal

pub settled-requires-clause-settled : goal.settled-requires-clause-settled
settled-requires-clause-settled g c =
    let trie = c.args.trie.now in
    let made = numbering_of trie c.args.words.now in
    let searched = of-numbering c.new-graph.result c.args.numbering.now made c.in_ok-searched.searched c.new-graph.ensures c.requires.numbering c.in_ok-searched.ensures in
    of-table trie (words_in trie c.args.words.now) c.in_ok-searched.searched c.words.result.now c.words.ensures searched

pub print_pairs-requires-clause-few : goal.print_pairs-requires-clause-few
print_pairs-requires-clause-few g c =
    let stack = c.args.stack.now in
    let trie = c.args.trie.now in
    let made = numbering_of trie c.args.words.now in
    let searched = of-numbering c.new-graph.result c.args.numbering.now made c.in_ok-searched.searched c.new-graph.ensures c.requires.numbering c.in_ok-searched.ensures in
    let over = of-entries stack trie (words_in trie c.args.words.now) c.in_ok-searched.searched c.requires.entries c.requires.ends searched in
    few-words stack (words_in_stack stack) c.in_ok-searched.searched.words c.requires.within over.words

pub print_pairs-requires-clause-chosen : goal.print_pairs-requires-clause-chosen
print_pairs-requires-clause-chosen g c =
    chosen-of c.args.stack.now c.words.result.now c.in_ok-searched.searched.words c.in_ok-rows.rows.items c.deref.result.now c.words.ensures c.deref.ensures.value c.in_ok-rows.ensures.chosen

pub print_pairs-requires-clause-search : goal.print_pairs-requires-clause-search
print_pairs-requires-clause-search g c =
    let trie = c.args.trie.now in
    let made = numbering_of trie c.args.words.now in
    let searched = of-numbering c.new-graph.result c.args.numbering.now made c.in_ok-searched.searched c.new-graph.ensures c.requires.numbering c.in_ok-searched.ensures in
    of-entries c.args.stack.now trie (words_in trie c.args.words.now) c.in_ok-searched.searched c.requires.entries c.requires.ends searched
