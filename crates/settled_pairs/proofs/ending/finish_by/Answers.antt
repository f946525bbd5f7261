use Rattle.steno_rules.specs.WordSets.{words_in}
use Rattle.settled_pairs.proofs.FinishLemmas.{finish_at_root, finish_found, finish_lost, word_long}
use Rattle.settled_pairs.proofs.ending.finish_by.Goals as goal

pub returns-then-state-eq0-clause-finish : goal.returns-then-state-eq0-clause-finish
returns-then-state-eq0-clause-finish c = finish_at_root c.args.trie.now (words_in c.args.trie.now c.args.words.now) c.args.state.now c.if-state-eq0.true

pub nearest_way-requires-clause-some : goal.nearest_way-requires-clause-some
nearest_way-requires-clause-some c = word_long c.args.trie.now (words_in c.args.trie.now c.args.words.now) c.args.state.now c.requires.opened.state c.if-state-eq0.false

pub returns-in-Some-clause-finish : goal.returns-in-Some-clause-finish
returns-in-Some-clause-finish c = finish_found c.args.trie.now (words_in c.args.trie.now c.args.words.now) c.args.state.now _ _ c.requires.opened.state c.if-state-eq0.false c.in-Some.ensures.ways

pub returns-in-None-clause-finish : goal.returns-in-None-clause-finish
returns-in-None-clause-finish c = finish_lost c.args.trie.now (words_in c.args.trie.now c.args.words.now) c.args.state.now c.requires.opened.state c.if-state-eq0.false c.in-None.ensures.ways
