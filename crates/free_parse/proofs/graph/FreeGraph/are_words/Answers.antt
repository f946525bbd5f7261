use Rattle.std.proofs.Common.{◌++◌, ap, sym, ◌∙◌}
use Rattle.steno_rules.specs.Nodes.{nodes}
use Rattle.steno_rules.specs.Outlines.{is_word}
use Rattle.steno_rules.proofs.Numbers.{entry_number-Some}
use Rattle.outline_trie.specs.Tries.{node_strokes}
use Rattle.reading_laws.specs.ChosenReadings.{final_stroke}
use Rattle.free_parse.proofs.EndingLemmas.{and_false, and_true}
use Rattle.free_parse.proofs.TargetLemmas.{no_word_none}
use Rattle.free_parse.proofs.graph.FreeGraph.are_words.Goals as goal

pub returns-then-is_word : goal.returns-then-is_word
returns-then-is_word c =
    let g = c.args.self.now in
    let v = node_strokes g.entries c.args.child in
    let w = node_strokes g.entries c.args.shorter ++ final_stroke v in
    let at = entry_number-Some (nodes g.entries) w c.in-Some.other (sym c.in-Some.ensures.child) in
    and_true (is_word g.words v) (is_word g.words w) c.is_word-then-is_word.result c.if-is_word.ensures (c.is_word-then-is_word.ensures ∙ ap (is_word g.words) at.1)

pub returns-in-None : goal.returns-in-None
returns-in-None c =
    let g = c.args.self.now in
    let v = node_strokes g.entries c.args.child in
    let w = node_strokes g.entries c.args.shorter ++ final_stroke v in
    and_false (is_word g.words v) (is_word g.words w) (no_word_none g.entries g.words w c.child_by.ensures.words (sym c.in-None.ensures.child))
