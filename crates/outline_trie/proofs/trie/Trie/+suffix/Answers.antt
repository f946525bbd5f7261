use Rattle.std.proofs.Common.{get_or, sym, ap, ◌∙◌, arith}
use Rattle.outline_trie.specs.Tries.{suffix_of}
use Rattle.outline_trie.proofs.LookLemmas.{suffix_none, suffix_of_root, suffix_more, suffix_lost, step_now, stroke_there}
use Rattle.outline_trie.proofs.trie.Trie.+suffix.Goals as goal

pub returns-then-len-eq0 : goal.returns-then-len-eq0
returns-then-len-eq0 t c = sym (ap (suffix_of c.args.self.now c.args.node) c.if-len-eq0.true ∙ suffix_none c.args.self.now c.args.node)

pub returns-then-node-eq0 : goal.returns-then-node-eq0
returns-then-node-eq0 t c = sym (suffix_of_root c.args.self.now c.args.node c.args.len c.if-node-eq0.true (omega arith))

pub returns-in-Some : goal.returns-in-Some
returns-in-Some t c =
    let step = step_now _ _ _ _ _ _ _ _ c.self.invariant c.self.view_is c.args.node c.requires (omega arith) c.index.result.now c.index-in-Some.result.now c.index.ensures c.index-in-Some.ensures in
    c.child.ensures ∙ sym (suffix_more c.args.self.now c.args.node c.index.result.now c.index-in-Some.result.now c.args.len c.in-Some.begun step (omega arith) (sym c.in-Some.ensures))

pub returns-in-None : goal.returns-in-None
returns-in-None t c =
    let step = step_now _ _ _ _ _ _ _ _ c.self.invariant c.self.view_is c.args.node c.requires (omega arith) c.index.result.now (get_or c.self.inside.strokes.items c.args.node 1) c.index.ensures (stroke_there _ _ _ _ _ _ _ _ c.self.invariant c.self.view_is c.args.node c.requires) in
    sym (suffix_lost c.args.self.now c.args.node c.index.result.now (get_or c.self.inside.strokes.items c.args.node 1) c.args.len step (omega arith) (sym c.in-None.ensures))
