use Rattle.std.proofs.Common.{◌≡◌, ◌∷◌, ◌++◌, [], Some, subst, arith}
use Rattle.std.specs.Prelude.{option_map}
use Rattle.steno_rules.specs.Segments.{last_piece}
use Rattle.stroke.specs.Pieces.{piece_of}
use Rattle.outline_trie.specs.Tries.{IsLast, node_strokes}
use Rattle.closure_state.proofs.RowLemmas.{by_none}
use Rattle.settled_pairs.proofs.WayLemmas.{no_way_by_last, no_way_far}
use Rattle.settled_pairs.proofs.ways.window_by.Goals as goal

pub returns-then-from-left : goal.returns-then-from-left
returns-then-from-left c words x code near is =
    no_way_far c.args.trie.now words x _ code c.args.child c.args.passed c.args.left _ (near c.args.child c.requires.child) is (omega (arith, c.nearest.ensures, c.from.ensures, c.if-from-left.true))

pub returns-in_err-stroke : goal.returns-in_err-stroke
returns-in_err-stroke c words x code near is =
    let root : c.args.child ≡ 0 = c.in_err-stroke.ensures in
    rw c.from_residual.ensures (λ z way. by_none c.args.trie.now c.args.child x code root is)

pub returns-else-next-passed : goal.returns-else-next-passed
returns-else-next-passed c words x code near is =
    let entries = c.args.trie.now in
    let last : IsLast entries c.args.child c.in_ok-stroke.stroke = c.in_ok-stroke.ensures in
    let piece : Some c.advance-next.result.last ≡ option_map (piece_of entries) (last_piece entries (node_strokes entries c.args.window ++ c.in_ok-stroke.stroke ∷ [])) =
    subst (λ es. Some c.advance-next.result.last ≡ option_map (piece_of es) (last_piece es (node_strokes es c.args.window ++ c.in_ok-stroke.stroke ∷ []))) c.requires.windows c.advance-next.ensures.last in
    no_way_by_last entries words x code c.args.child c.args.window c.args.passed c.args.left c.in_ok-stroke.stroke c.advance-next.result.last last is piece c.if-next-passed.false
