use Rattle.std.proofs.Common.{◌≡◌, ap, subst, ◌∙◌, length}
use Rattle.std.specs.Prelude.{MatchOption}
use Rattle.outline_trie.specs.Tries.{node_strokes, IsLast}
use Rattle.state_numbering.specs.Numberings.{NumberingView}
use Rattle.state_numbering.proofs.StrokeLemmas.{stroke_of_node, longer_window, longer_word}
use Rattle.state_numbering.proofs.numbering.Numbering.stroke_into.Goals as goal

pub returns-then-depth : goal.returns-then-depth
returns-then-depth c =
    let E = c.args.self.now.entries in
    let s = c.in_ok-state.state in
    let same = ap (λ (v : NumberingView). v.entries) c.self.view_is in
    stroke_of_node c.args.self.now c.args.number s.window s c.last.result c.in_ok-state.ensures
    (longer_window E s c.depth-2.result c.depth.result (c.depth-2.ensures.depth ∙ ap (λ es. length (node_strokes es s.window)) same) (c.depth.ensures.depth ∙ ap (λ es. length (node_strokes es s.word)) same) c.if-depth.true)
    (subst (λ es. MatchOption c.last.result (s.window ≡ 0) (IsLast es s.window)) same c.last.ensures)

pub returns-else-depth : goal.returns-else-depth
returns-else-depth c =
    let E = c.args.self.now.entries in
    let s = c.in_ok-state.state in
    let same = ap (λ (v : NumberingView). v.entries) c.self.view_is in
    stroke_of_node c.args.self.now c.args.number s.word s c.last-else-depth.result c.in_ok-state.ensures
    (longer_word E s c.depth-2.result c.depth.result (c.depth-2.ensures.depth ∙ ap (λ es. length (node_strokes es s.window)) same) (c.depth.ensures.depth ∙ ap (λ es. length (node_strokes es s.word)) same) c.if-depth.false)
    (subst (λ es. MatchOption c.last-else-depth.result (s.word ≡ 0) (IsLast es s.word)) same c.last-else-depth.ensures)
