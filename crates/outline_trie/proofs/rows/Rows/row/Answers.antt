use Rattle.std.proofs.Common.{sym, subst, arith}
use Rattle.edge_pool.specs.Pools.{ListsBlock}
use Rattle.outline_trie.proofs.RowLemmas.{seen_inside, index_below, block_is, block_listed, some_index}
use Rattle.outline_trie.proofs.rows.Rows.row.Goals as goal

pub index-index-requires : goal.index-index-requires
index-index-requires c = omega (arith, seen_inside c.self.inside.pool c.self.inside.blocks.items c.self.inside.indexes.items c.args.node c.args.self.now c.self.view_is c.requires)

pub index-requires : goal.index-requires
index-requires c =
    let some = some_index c.self.inside.pool c.self.inside.blocks.items c.self.inside.indexes.items c.args.node c.args.self.now c.self.view_is c.requires c.index-index.result.now c.index-index.ensures c.if-index.false in
    omega (arith, index_below c.self.inside.pool c.self.inside.blocks.items c.self.inside.indexes.items c.args.node c.args.self.now c.self.view_is c.self.invariant c.requires some c.index-index.result.now c.index-index.ensures)

pub cells-requires : goal.cells-requires
cells-requires c =
    let some = some_index c.self.inside.pool c.self.inside.blocks.items c.self.inside.indexes.items c.args.node c.args.self.now c.self.view_is c.requires c.index-index.result.now c.index-index.ensures c.if-index.false in
    let block = block_is c.self.inside.pool c.self.inside.blocks.items c.self.inside.indexes.items c.args.node c.args.self.now c.self.view_is c.self.invariant c.requires some c.index-index.result.now c.index-index.ensures c.index.result.now c.index.ensures in
    subst (λ b. ListsBlock c.self.inside.pool b) (sym block) (block_listed c.self.inside.pool c.self.inside.blocks.items c.self.inside.indexes.items c.args.node c.args.self.now c.self.view_is c.self.invariant c.requires some)
