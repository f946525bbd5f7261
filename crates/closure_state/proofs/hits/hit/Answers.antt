use Rattle.std.proofs.Common.{◌-◌, ◌≡◌, ap, subst, arith, Some}
use Rattle.std.specs.Prelude.{option_map}
use Rattle.stroke.specs.Pieces.{piece_of}
use Rattle.steno_rules.specs.Segments.{last_piece}
use Rattle.outline_trie.specs.Tries.{node_strokes}
use Rattle.closure_state.proofs.StateLemmas.{no_hit_open, no_hit_lone, piece_short, hit_there}
use Rattle.closure_state.proofs.hits.hit.Goals as goal

pub returns-then-state-ne0 : goal.returns-then-state-ne0
returns-then-state-ne0 c = no_hit_open c.args.trie.now c.args.state.now c.requires.nodes.word c.if-state-ne0.true

pub overflow_cast-result : goal.overflow_cast-result
overflow_cast-result c =
    let entries = c.args.trie.now in
    let x = node_strokes entries c.args.state.now.window in
    let piece : Some c.in-Some-Some.piece ≡ option_map (piece_of entries) (last_piece entries x) = subst (λ es. Some c.in-Some-Some.piece ≡ option_map (piece_of es) (last_piece es (node_strokes es c.args.state.now.window))) c.requires.windows c.in-Some-Some.ensures in
    let short = piece_short entries x c.in-Some-Some.piece piece in
    omega (arith, short, c.depth-depth.ensures.depth, c.depth-depth.ensures.short)

pub returns-in_default-entry : goal.returns-in_default-entry
returns-in_default-entry c =
    let entries = c.args.trie.now in
    let piece : Some c.in-Some-Some.piece ≡ option_map (piece_of entries) (last_piece entries (node_strokes entries c.args.state.now.window)) = subst (λ es. Some c.in-Some-Some.piece ≡ option_map (piece_of es) (last_piece es (node_strokes es c.args.state.now.window))) c.requires.windows c.in-Some-Some.ensures in
    no_hit_lone entries c.args.state.now c.in-Some-Some.piece piece c.in_default-entry.is

pub returns : goal.returns
returns c =
    let entries = c.args.trie.now in
    let piece : Some c.in-Some-Some.piece ≡ option_map (piece_of entries) (last_piece entries (node_strokes entries c.args.state.now.window)) = subst (λ es. Some c.in-Some-Some.piece ≡ option_map (piece_of es) (last_piece es (node_strokes es c.args.state.now.window))) c.requires.windows c.in-Some-Some.ensures in
    hit_there entries c.args.state.now c.in-Some-Some.piece c.in-Some-Some.mark c.in-Some.entry (c.in-Some-Some.piece.len - c.from-2.result) piece c.in-Some.is c.if-state-ne0.false c.in-Some-Some.is-0
    (omega (arith, c.if-mark-eq0.false)) (omega (arith, c.from.ensures, c.if-from-piece.false)) (ap (λ m. c.in-Some-Some.piece.len - m) c.from-2.ensures)
