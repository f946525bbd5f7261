use Rattle.steno_rules.proofs.NodeLemmas.{nodes-rising, nodes-Contains}
use Rattle.translation_laws.proofs.NodesOnly.{nodes-only, nodes-root}
use Rattle.translation_laws.proofs.trie_nodes.Goals as goal

pub returns : goal.returns
returns c = record { rising = nodes-rising; prefixes = nodes-Contains; only = nodes-only; first = nodes-root }
