use Rattle.std.proofs.Common.{◌++◌, ap, sym, ◌∙◌}
use Rattle.steno_rules.specs.Nodes.{nodes}
use Rattle.steno_rules.specs.Outlines.{entry_number}
use Rattle.steno_rules.proofs.Numbers.{entry_number-Some}
use Rattle.outline_trie.specs.Tries.{node_strokes}
use Rattle.reading_laws.specs.ChosenReadings.{final_stroke}
use Rattle.free_parse.proofs.EndingLemmas.{no_entry}
use Rattle.free_parse.proofs.graph.FreeGraph.entry_by.Goals as goal

pub returns-in-Some : goal.returns-in-Some
returns-in-Some c =
    let es = c.args.self.now.entries in
    c.entry.ensures ∙ ap (entry_number es) (entry_number-Some (nodes es) (node_strokes es c.args.node ++ final_stroke (node_strokes es c.args.other)) c.in-Some.child (sym c.in-Some.ensures.child)).1

pub returns-in-None : goal.returns-in-None
returns-in-None c =
    let es = c.args.self.now.entries in
    no_entry es (node_strokes es c.args.node ++ final_stroke (node_strokes es c.args.other)) c.in-None.ensures.child
