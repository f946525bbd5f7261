use Rattle.std.proofs.Common.{length, ap, arith}
use Rattle.steno_rules.proofs.NodeLemmas.{nodes-first}
use Rattle.outline_trie.proofs.table.table_of.Goals as goal

pub root_table-requires : goal.root_table-requires
root_table-requires c = omega (arith, c.requires.count, ap length (nodes-first c.args.entries.now).1)
