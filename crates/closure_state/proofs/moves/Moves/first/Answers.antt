use Rattle.std.proofs.Common.{refl, sym, ap, ◌∙◌, map, ◌++◌, subst, true, arith}
use Rattle.std.specs.List.{AllByRecursion}
use Rattle.steno_rules.specs.WordSets.{words_in}
use Rattle.closure_state.specs.NodeStates.{state_at, IsNodeState}
use Rattle.closure_state.specs.inside.Left.{targets_from}
use Rattle.closure_state.proofs.ChainLemmas.{children_from_start}
use Rattle.closure_state.proofs.LeftLemmas.{from_start}
use Rattle.closure_state.proofs.moves.Moves.first.Goals as goal

pub invariant_of-result : goal.invariant_of-result
invariant_of-result c = record {
  windows = c.requires.windows;
  words = c.requires.words;
  state = c.requires.state;
  strokes_are = record {
    fits = omega arith;
    rows_are = record {
      are_words = c.requires.words.are_words;
      by = record { children = children_from_start c.args.trie.now c.args.state.now.word c.children.result.now c.children.ensures; inside = c.requires.state.window; same = λ code. refl };
    };
  };
  waiting_states = subst (AllByRecursion (IsNodeState c.args.trie.now (words_in c.args.trie.now c.args.words.now))) (sym c.none.ensures) tt;
}

pub returns-clause-targets : goal.returns-clause-targets
returns-clause-targets c =
    ap (λ l. map (state_at c.args.trie.now) l ++ targets_from true c.args.trie.now (words_in c.args.trie.now c.args.words.now) (state_at c.args.trie.now c.args.state.now) 0) c.none.ensures
    ∙ from_start c.args.trie.now (words_in c.args.trie.now c.args.words.now) (state_at c.args.trie.now c.args.state.now)
