use Rattle.std.proofs.Common.{◌≡◌, ◌+◌, ◌<◌, inl, inr, ap, subst, ◌∙◌, arith, length}
use Rattle.steno_rules.specs.Nodes.{nodes}
use Rattle.steno_rules.specs.Outlines.{AreWords}
use Rattle.steno_rules.specs.StateNumbers.{number_count, part_start, state_number}
use Rattle.outline_trie.specs.Tries.{node_strokes}
use Rattle.closure_state.specs.NodeStates.{state_at}
use Rattle.state_numbering.specs.inside.Parts.{IsNodePart}
use Rattle.state_numbering.specs.Numberings.{NumberingView}
use Rattle.state_numbering.proofs.NumberLemmas.{number_is, number_below}
use Rattle.state_numbering.proofs.numbering.Numbering.number.Goals.{then-word-window, else-word-window}
use Rattle.state_numbering.proofs.numbering.Numbering.number.Goals as goal

-- the number that is made is the state's, and below the count
module _ (c : goal.After-row_known-1) where
  entries_are : c.self.inside.trie.now ≡ c.args.self.now.entries
  entries_are = ap (λ (v : NumberingView). v.entries) c.self.view_is

  parts_are : c.self.inside.parts ≡ c.args.self.now.entries
  parts_are = c.self.invariant.parts_are ∙ entries_are

  number : c.if-word-window.start + c.offset_of.result ≡ state_number c.args.self.now.entries (state_at c.args.self.now.entries c.args.state)
  number =
      number_is c.args.self.now.entries c.args.self.now.words c.args.state c.part-window.result c.depth-word.result c.if-word-window.start c.offset_of.result c.requires
      (subst (λ es. IsNodePart es c.args.state.window c.part-window.result) parts_are c.part-window.ensures)
      (subst (λ es. c.depth-word.result ≡ length (node_strokes es c.args.state.word)) entries_are c.depth-word.ensures.depth)
      (elim c.if-word-window.branch [
        | then-word-window w ↦ inl (w.if-word-window.true, w.start-is)
        | else-word-window w ↦ inr (w.if-word-window.false, w.start-is ∙ subst (λ es. w.part.result.start ≡ part_start (nodes es) c.args.state.word) parts_are w.part.ensures.start)
      ])
      c.offset_of.ensures

  below : c.if-word-window.start + c.offset_of.result < number_count c.args.self.now.entries
  below =
      let are = subst (λ (v : NumberingView). AreWords v.entries v.words) c.self.view_is c.self.invariant.words_are.are_words in
      omega (arith, number, number_below c.args.self.now.entries c.args.self.now.words c.args.state are c.requires)

pub overflow_add-result : goal.overflow_add-result
overflow_add-result c = omega (arith, below c, c.self.invariant.within, ap (λ (v : NumberingView). number_count v.entries) c.self.view_is)

pub returns-clause-number : goal.returns-clause-number
returns-clause-number c = number c

pub returns-clause-below : goal.returns-clause-below
returns-clause-below c = below c
