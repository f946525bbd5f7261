-- The parts of the nodes, one after another.
use Rattle.std.proofs.Common.{◌≡◌, ℕ, zero, suc, ◌+◌, ◌<◌, ◌≤◌, List, length, ap, arith, inl, inr}
use Rattle.std.proofs.lemmas.Bool.{cases_lt}
use Rattle.steno_rules.specs.Nodes.{nodes}
use Rattle.steno_rules.specs.StateNumbers.{part_size, part_start, number_count}
use Rattle.closure_laws.proofs.StateNumberLemmas.{start_step}
use Rattle.outline_trie.proofs.LookLemmas.{root_inside}
use Rattle.outline_trie.specs.Tries.{node_strokes}
use Rattle.state_numbering.specs.declared.part.Part.{Part}
use Rattle.state_numbering.specs.inside.Parts.{AreNodeParts, IsInPart}
use Rattle.state_numbering.specs.inside.Blocks.{IsLastBegun}

-- Each part has a number.
starts_up : (ns : List (List ℕ)) (k : ℕ) → k ≤ length ns → k ≤ part_start ns k
starts_up ns zero inside = omega arith
starts_up ns (suc k) inside = omega (arith, starts_up ns k (omega (arith, inside)), start_step ns k inside, ap (part_start ns) (more k))
  where
    more : (k : ℕ) → k + 1 ≡ suc k
    more k = omega arith

-- There are no more nodes than numbers,
pub nodes_within : (entries : List (List ℕ)) → length (nodes entries) ≤ number_count entries
nodes_within entries = starts_up (nodes entries) (length (nodes entries)) (omega arith)

-- and one number at least.
pub count_some : (entries : List (List ℕ)) → 0 < number_count entries
count_some entries = omega (arith, nodes_within entries, root_inside entries)

-- The last part that begins at or before a number has it.
pub in_part : (entries : List (List ℕ)) (parts : List Part) (number node : ℕ) → AreNodeParts entries parts → number < number_count entries →
    IsLastBegun parts number node → IsInPart entries number node
in_part entries parts number node are below last =
    let ns : List (List ℕ) = nodes entries in
    let inside : node < length ns = omega (arith, last.begun.inside, are.long) in
    let step : part_start ns (node + 1) ≡ part_start ns node + part_size (length (node_strokes entries node)) = start_step ns node inside in
    record {
      inside = inside;
      from = omega (arith, last.begun.from, (are.each node (record { start = 0; depth = 0 }) inside).start);
      before = elim (cases_lt (node + 1) (length parts)) [
        | inl lt ↦ omega (arith, last.next lt, (are.each (node + 1) (record { start = 0; depth = 0 }) (omega (arith, lt, are.long))).start, step)
        | inr past ↦
            let end : node + 1 ≡ length ns = omega (arith, past, inside, are.long) in
            omega (arith, below, step, ap (part_start ns) end)
      ];
    }
