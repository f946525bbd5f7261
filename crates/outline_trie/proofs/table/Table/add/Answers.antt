use Rattle.std.proofs.Common.{ℕ, ◌≡◌, ◌-◌, ◌<◌, List, length, take, ap, sym, subst, ◌∙◌, arith, [], All}
use Rattle.std.proofs.lemmas.List.{get_or_read}
use Rattle.steno_rules.specs.Outlines.{outline_of}
use Rattle.steno_rules.proofs.NodeLemmas.{nodes-first}
use Rattle.outline_trie.specs.inside.Tables.{shared, outline_before}
use Rattle.outline_trie.proofs.LengthLemmas.{length_rises}
use Rattle.outline_trie.proofs.ExtendLemmas.{top_at, add_numbers, parents_below}
use Rattle.outline_trie.proofs.table.Table.add.Goals as goal

pub climb-top-requires : goal.climb-top-requires
climb-top-requires c =
    let t = c.requires.table in
    let root = ap length (nodes-first (take c.args.number c.args.entries.now)).1 in
    let bound = length_rises c.args.entries.now (length c.args.entries.now - c.args.number) c.args.number c.requires.entries (omega (arith, c.requires.number)) in
    record {
      some = omega (arith, t.parents_long, root, c.as_slice.ensures.len, ap length c.as_slice.ensures.value);
      few = omega (arith, t.parents_long, bound, c.requires.bound, ap length c.as_slice.ensures.value);
      below = subst (λ (xs : List ℕ). All (λ p. p < length xs) xs) (sym c.as_slice.ensures.value) (parents_below _ _ _ _ t);
    }

pub extend-node-requires-clause-from : goal.extend-node-requires-clause-from
extend-node-requires-clause-from c =
    let e : c.strokes.result.now ≡ outline_of c.args.entries.now c.args.number = c.strokes.ensures.strokes ∙ get_or_read c.args.entries.now c.args.number _ c.requires.number c.index-entries-number.is [] in
    c.shared_len-shared.ensures.is ∙ ap (λ xs. shared xs c.strokes.result.now) c.strokes_before-before.ensures ∙ ap (shared (outline_before c.args.entries.now c.args.number)) e

pub extend-node-requires-clause-inside : goal.extend-node-requires-clause-inside
extend-node-requires-clause-inside c =
    let from = extend-node-requires-clause-from c in
    (top_at c.args.entries.now c.args.number c.requires.entries c.requires.number c.args.self.now.parents.items _ _ c.as_slice.result.now (length c.strokes_before-before.result.now - c.shared_len-shared.result) c.climb-top.result
    c.requires.table c.as_slice.ensures.value (omega (arith, from, ap length c.strokes_before-before.ensures)) c.climb-top.ensures).0

pub extend-node-requires-clause-top : goal.extend-node-requires-clause-top
extend-node-requires-clause-top c =
    let from = extend-node-requires-clause-from c in
    (top_at c.args.entries.now c.args.number c.requires.entries c.requires.number c.args.self.now.parents.items _ _ c.as_slice.result.now (length c.strokes_before-before.result.now - c.shared_len-shared.result) c.climb-top.result
    c.requires.table c.as_slice.ensures.value (omega (arith, from, ap length c.strokes_before-before.ensures)) c.climb-top.ensures).1
    ∙ ap (λ n. take n (outline_of c.args.entries.now c.args.number)) (sym from)

pub returns-clause-numbers : goal.returns-clause-numbers
returns-clause-numbers c = add_numbers c.args.entries.now c.args.number c.requires.entries c.requires.number c.extend-node.new.self.numbers.items c.extend-node.result c.extend-node.ensures.numbers c.extend-node.ensures.inside c.extend-node.ensures.node
