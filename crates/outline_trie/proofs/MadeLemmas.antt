-- The fields that a trie is made of fit together.
use Rattle.std.proofs.Common.{◌≡◌, ℕ, ◌<◌, ◌≤◌, ◌^◌, List, [], length, get_or, sym, ap, subst, ◌∙◌, arith}
use Rattle.steno_rules.specs.Outlines.{AreEntries}
use Rattle.steno_rules.specs.Nodes.{nodes}
use Rattle.outline_trie.specs.inside.Tables.{IsTable, IsNumbered}
use Rattle.outline_trie.specs.inside.Children.{children_among}
use Rattle.outline_trie.specs.Tries.{AreChildren, longest_of}
use Rattle.outline_trie.specs.inside.Invariants.{IsTrie}
use Rattle.outline_trie.proofs.ChildLemmas.{children_are}

pub trie_made : (told entries : List (List ℕ)) (parents strokes depths numbers ps ss : List ℕ) (rows : List (List (ℕ × ℕ))) (longest : ℕ) → told ≡ entries → AreEntries entries → length entries < 2 ^ 31 → length (nodes entries) ≤ 4194304 →
    IsTable (nodes entries) parents strokes depths → IsNumbered entries (nodes entries) numbers → ps ≡ parents → ss ≡ strokes → length rows ≡ length ps →
    ((node : ℕ) → node < length ps → get_or rows node [] ≡ children_among ps ss node (length ps)) → longest ≡ longest_of entries → longest ≤ 64 → IsTrie told parents strokes depths numbers rows longest
trie_made told entries parents strokes depths numbers ps ss rows longest same are few bound t h same_ps same_ss long each most short =
    subst (λ es. IsTrie es parents strokes depths numbers rows longest) (sym same) (record {
      are_entries = are;
      few = few;
      bound = bound;
      table = t;
      numbered = h;
      rows_long = omega (arith, long, ap length same_ps, t.parents_long);
      children = λ node inside. subst (AreChildren entries node) (sym (row node inside)) (children_are entries parents strokes depths t node inside);
      most = most;
      short = short;
    })
  where
    row : (node : ℕ) → node < length (nodes entries) → get_or rows node [] ≡ children_among parents strokes node (length (nodes entries))
    row node inside =
        each node (omega (arith, ap length same_ps, t.parents_long)) ∙ ap (λ xs. children_among xs ss node (length xs)) same_ps ∙ ap (λ ys. children_among parents ys node (length parents)) same_ss
        ∙ ap (children_among parents strokes node) t.parents_long
