use Rattle.std.proofs.Common.{rules, ℕ, ap, ◌∙◌}
use Rattle.std.proofs.lemmas.List.Sorted.{answers_always}
use Rattle.outline_trie.specs.Tries.{child_of}
use Rattle.outline_trie.proofs.LookLemmas.{row_children}
use Rattle.outline_trie.proofs.SearchLemmas.{found_there, found_nowhere}
use Rattle.outline_trie.proofs.trie.Trie.child.Goals as goal

pub returns-in-Ok : goal.returns-in-Ok
returns-in-Ok c =
    let children = row_children _ _ _ _ _ _ _ _ c.self.invariant c.self.view_is c.args.node c.requires c.row-row.result.now c.row-row.ensures in
    let by_code = c.in-Ok.ensures.position (λ (pair : ℕ × ℕ). pair.0) (answers_always _ _ _ (λ f a r g called. search rules)) in
    found_there c.args.self.now c.args.node c.row-row.result.now children c.code.result c.in-Ok.place c.in-Ok.ensures.bound by_code ∙ ap (child_of c.args.self.now c.args.node) c.code.ensures.code

pub returns-in-Err : goal.returns-in-Err
returns-in-Err c =
    let children = row_children _ _ _ _ _ _ _ _ c.self.invariant c.self.view_is c.args.node c.requires c.row-row.result.now c.row-row.ensures in
    let by_code = c.in-Err.ensures.position (λ (pair : ℕ × ℕ). pair.0) (answers_always _ _ _ (λ f a r g called. search rules)) in
    found_nowhere c.args.self.now c.args.node c.row-row.result.now children c.code.result c.in-Err.field-0 by_code ∙ ap (child_of c.args.self.now c.args.node) c.code.ensures.code
