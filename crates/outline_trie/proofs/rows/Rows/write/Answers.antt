use Rattle.std.proofs.Common.{◌<◌, ap, sym, subst, ◌∙◌, arith}
use Rattle.edge_pool.specs.Pools.{Extent, Pool, ListsBlock, written}
use Rattle.outline_trie.specs.inside.RowsOf.{AreRows, rows_at}
use Rattle.outline_trie.proofs.RowLemmas.{seen_inside, seen_some, seen_within, seen_written, written_sound, index_below, block_is, block_listed}
use Rattle.outline_trie.proofs.rows.Rows.write.Goals as goal

pub index-index-requires : goal.index-index-requires
index-index-requires c = omega (arith, seen_inside c.self.inside.pool c.self.inside.blocks.items c.self.inside.indexes.items c.args.node c.args.self.now c.self.view_is c.requires.node)

pub index-block-requires : goal.index-block-requires
index-block-requires c =
    let some = seen_some c.self.inside.pool c.self.inside.blocks.items c.self.inside.indexes.items c.args.node c.args.self.now c.self.view_is c.self.invariant c.args.place c.requires.node c.requires.place in
    omega (arith, index_below c.self.inside.pool c.self.inside.blocks.items c.self.inside.indexes.items c.args.node c.args.self.now c.self.view_is c.self.invariant c.requires.node some c.index-index.result.now c.index-index.ensures)

pub write-requires-clause-listed : goal.write-requires-clause-listed
write-requires-clause-listed c =
    let some = seen_some c.self.inside.pool c.self.inside.blocks.items c.self.inside.indexes.items c.args.node c.args.self.now c.self.view_is c.self.invariant c.args.place c.requires.node c.requires.place in
    let block = block_is c.self.inside.pool c.self.inside.blocks.items c.self.inside.indexes.items c.args.node c.args.self.now c.self.view_is c.self.invariant c.requires.node some c.index-index.result.now c.index-index.ensures c.index-block.result.now c.index-block.ensures in
    subst (λ b. ListsBlock c.self.inside.pool b) (sym block) (block_listed c.self.inside.pool c.self.inside.blocks.items c.self.inside.indexes.items c.args.node c.args.self.now c.self.view_is c.self.invariant c.requires.node some)

pub write-requires-clause-within : goal.write-requires-clause-within
write-requires-clause-within c =
    let some = seen_some c.self.inside.pool c.self.inside.blocks.items c.self.inside.indexes.items c.args.node c.args.self.now c.self.view_is c.self.invariant c.args.place c.requires.node c.requires.place in
    let block = block_is c.self.inside.pool c.self.inside.blocks.items c.self.inside.indexes.items c.args.node c.args.self.now c.self.view_is c.self.invariant c.requires.node some c.index-index.result.now c.index-index.ensures c.index-block.result.now c.index-block.ensures in
    subst (λ (b : Extent). c.args.place < b.len) (sym block) (seen_within c.self.inside.pool c.self.inside.blocks.items c.self.inside.indexes.items c.args.node c.args.self.now c.self.view_is c.self.invariant c.args.place c.requires.node c.requires.place)

pub invariant_of-self : goal.invariant_of-self
invariant_of-self c =
    let some = seen_some c.self.inside.pool c.self.inside.blocks.items c.self.inside.indexes.items c.args.node c.args.self.now c.self.view_is c.self.invariant c.args.place c.requires.node c.requires.place in
    let block = block_is c.self.inside.pool c.self.inside.blocks.items c.self.inside.indexes.items c.args.node c.args.self.now c.self.view_is c.self.invariant c.requires.node some c.index-index.result.now c.index-index.ensures c.index-block.result.now c.index-block.ensures in
    let pool = c.write.ensures.written ∙ ap (λ b. written c.self.inside.pool b c.args.place c.args.pair) block in
    subst (λ (p : Pool). AreRows p c.self.inside.blocks.items c.self.inside.indexes.items) (sym pool)
    (written_sound c.self.inside.pool c.self.inside.blocks.items c.self.inside.indexes.items c.args.node c.self.invariant (seen_inside c.self.inside.pool c.self.inside.blocks.items c.self.inside.indexes.items c.args.node c.args.self.now c.self.view_is c.requires.node) some c.args.place c.args.pair)

pub returns : goal.returns
returns c =
    let some = seen_some c.self.inside.pool c.self.inside.blocks.items c.self.inside.indexes.items c.args.node c.args.self.now c.self.view_is c.self.invariant c.args.place c.requires.node c.requires.place in
    let block = block_is c.self.inside.pool c.self.inside.blocks.items c.self.inside.indexes.items c.args.node c.args.self.now c.self.view_is c.self.invariant c.requires.node some c.index-index.result.now c.index-index.ensures c.index-block.result.now c.index-block.ensures in
    let pool = c.write.ensures.written ∙ ap (λ b. written c.self.inside.pool b c.args.place c.args.pair) block in
    ap (λ (p : Pool). rows_at p c.self.inside.blocks.items c.self.inside.indexes.items) pool ∙ seen_written c.self.inside.pool c.self.inside.blocks.items c.self.inside.indexes.items c.args.node c.args.self.now c.self.view_is c.self.invariant c.args.place c.args.pair c.requires.node c.requires.place
