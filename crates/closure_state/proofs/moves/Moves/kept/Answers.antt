use Rattle.std.proofs.Common.{◌++◌, map, sym, ap, subst, ◌∙◌, arith, false}
use Rattle.std.specs.Prelude.{MatchOption}
use Rattle.std.specs.List.{AllByRecursion}
use Rattle.steno_rules.specs.WordSets.{words_in}
use Rattle.closure_state.specs.NodeStates.{state_at, IsNodeState}
use Rattle.closure_state.specs.inside.Left.{targets_from, IsRowState, IsChainDepth}
use Rattle.closure_state.proofs.LeftLemmas.{from_start_kept, kept_in_row, cut_of_depth, depth_some}
use Rattle.closure_state.proofs.moves.Moves.kept.Goals as goal

pub returns-in_default-clause-targets : goal.returns-in_default-clause-targets
returns-in_default-clause-targets c =
    c.first.ensures.targets ∙ sym (kept_in_row c.args.trie.now (words_in c.args.trie.now c.args.words.now) c.args.state.now c.requires.state (subst (λ o. MatchOption o (IsRowState c.args.state.now) (IsChainDepth c.args.state.now)) c.in_default.is c.chain_depth.ensures))

pub invariant_of-result : goal.invariant_of-result
invariant_of-result c =
    let depth : IsChainDepth c.args.state.now c.in-Some.depth = subst (λ o. MatchOption o (IsRowState c.args.state.now) (IsChainDepth c.args.state.now)) c.in-Some.is c.chain_depth.ensures in record {
      windows = c.requires.windows;
      words = c.requires.words;
      state = c.requires.state;
      strokes_are = record {
        fits = omega arith;
        rows_are = record {
          are_words = c.requires.words.are_words;
          by = record {
            chain_is = c.new.ensures.chain;
            below = c.new.ensures.node;
            some = omega (arith, c.new.ensures.depth, depth_some c.args.state.now c.in-Some.depth depth);
            cut = cut_of_depth c.args.trie.now (words_in c.args.trie.now c.args.words.now) c.args.state.now c.new.result.depth c.requires.state (subst (IsChainDepth c.args.state.now) (sym c.new.ensures.depth) depth);
          };
        };
      };
      waiting_states = subst (AllByRecursion (IsNodeState c.args.trie.now (words_in c.args.trie.now c.args.words.now))) (sym c.none.ensures) tt;
    }

pub returns-clause-targets : goal.returns-clause-targets
returns-clause-targets c =
    ap (λ l. map (state_at c.args.trie.now) l ++ targets_from false c.args.trie.now (words_in c.args.trie.now c.args.words.now) (state_at c.args.trie.now c.args.state.now) 0) c.none.ensures
    ∙ from_start_kept c.args.trie.now (words_in c.args.trie.now c.args.words.now) (state_at c.args.trie.now c.args.state.now)
