use Rattle.std.proofs.Common.{◌++◌, arith, length-append}
use Rattle.steno_rules.specs.WordSets.{words_in}
use Rattle.outline_trie.specs.Tries.{node_strokes}
use Rattle.settled_pairs.proofs.WayLemmas.{word_short}
use Rattle.settled_pairs.proofs.ending.nearest_way.Goals as goal

pub returns-clause-ways : goal.returns-clause-ways
returns-clause-ways c left z way =
    let entries = c.args.trie.now in
    let front = node_strokes entries c.args.node in
    let short = word_short entries (words_in entries c.args.words.now) (front ++ z) c.requires.words.are_words way.word in
    c.loop-strokes.invariant left (omega (arith, short, length-append front z, c.requires.some, way.long, c.longest_entry-strokes-end.ensures.longest, c.loop-strokes-test.false)) z way
