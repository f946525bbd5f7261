use Rattle.std.proofs.Common.{◌∙◌}
use Rattle.steno_rules.specs.Outlines.{flagged_entries}
use Rattle.steno_rules.proofs.FlaggedWords.{flagged-are}
use Rattle.outline_trie.specs.Tries.{node_strokes}
use Rattle.closure_state.proofs.FlagLemmas.{word_none, word_some, opens_told, opens_root, children_below, is_zero}
use Rattle.closure_state.proofs.word_set.flags_of.Goals.{in-Some, in-None}
use Rattle.closure_state.proofs.word_set.flags_of.Goals as goal

pub opens_by-opens-requires : goal.opens_by-opens-requires
opens_by-opens-requires c = children_below c.args.trie.now c.args.node _ c.children.result.now c.children.ensures c.requires.flags

pub returns-then-node-eq0 : goal.returns-then-node-eq0
returns-then-node-eq0 c = record {
  word = elim c.match-entry.branch [
    | in-Some w ↦ w.is_word-is ∙ word_some c.args.trie.now c.args.words.now (node_strokes c.args.trie.now c.args.node) w.in-Some.entry c.requires.entries w.in-Some.ensures
    | in-None w ↦ w.is_word-is ∙ word_none c.args.trie.now c.args.words.now (node_strokes c.args.trie.now c.args.node) c.requires.entries w.in-None.ensures
  ];
  opens = opens_root c.args.trie.now (flagged_entries c.args.trie.now c.args.words.now) c.args.node _ c.if-node-eq0.true (is_zero c.args.node c.if-node-eq0.true);
}

pub returns-else-node-eq0 : goal.returns-else-node-eq0
returns-else-node-eq0 c = record {
  word = elim c.match-entry.branch [
    | in-Some w ↦ w.is_word-is ∙ word_some c.args.trie.now c.args.words.now (node_strokes c.args.trie.now c.args.node) w.in-Some.entry c.requires.entries w.in-Some.ensures
    | in-None w ↦ w.is_word-is ∙ word_none c.args.trie.now c.args.words.now (node_strokes c.args.trie.now c.args.node) c.requires.entries w.in-None.ensures
  ];
  opens = opens_told c.args.trie.now (flagged_entries c.args.trie.now c.args.words.now) c.args.node c.args.flags.now c.children.result.now (flagged-are c.args.trie.now c.args.words.now c.requires.entries) c.requires.node c.if-node-eq0.false c.children.ensures c.requires.behind c.opens_by-opens.result c.opens_by-opens.ensures;
}
