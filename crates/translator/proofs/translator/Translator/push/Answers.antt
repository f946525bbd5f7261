use Rattle.std.proofs.Common.{◌-◌, ◌++◌, ◌∷◌, [], length, drop, ap, subst, ◌∙◌, arith, reverse}
use Rattle.std.proofs.lemmas.Grind.{reverse_onto}
use Rattle.std.proofs.lemmas.List.{length-map}
use Rattle.stroke.specs.Pieces.{piece_of, pieces as pieces_of}
use Rattle.outline_trie.specs.Tries.{longest_of}
use Rattle.translator.specs.inside.Ends.{lost_ends}
use Rattle.translator.specs.Translations.{Translation, IsMerge}
use Rattle.translator.proofs.EndLemmas.{length-ends_of}
use Rattle.translator.proofs.PushLemmas.{pieces_now, window_short, ends_known, place_within, new_long, pushed, answered}
use Rattle.translator.proofs.translator.Translator.push.Goals as goal

pub advance-place-requires-clause-ends : goal.advance-place-requires-clause-ends
advance-place-requires-clause-ends g c = ends_known c.self.inside.trie.now (reverse c.self.inside.told.items) c.self.inside.ends.items c.self.invariant.are_ends

pub advance-place-requires-clause-room : goal.advance-place-requires-clause-room
advance-place-requires-clause-room g c =
    let strokes = reverse c.self.inside.told.items in
    omega (arith, ap length c.self.invariant.are_ends, length-ends_of c.self.inside.trie.now (pieces_now c.self.inside.trie.now strokes), window_short c.self.inside.trie.now strokes, c.self.invariant.room_of_ends)

pub overflow_sub-replaced : goal.overflow_sub-replaced
overflow_sub-replaced g c =
    let strokes = reverse c.self.inside.told.items in
    omega (
      arith,
      place_within c.self.inside.trie.now strokes c.args.stroke c.advance-place.result c.self.inside.ends.items c.advance-place.new.ends.items c.self.invariant.are_ends c.advance-place.ensures.advance,
      ap length c.self.invariant.are_pieces,
      length-map (pieces_now c.self.inside.trie.now strokes) (piece_of c.self.inside.trie.now),
      c.len.ensures,
    )

pub overflow_cast-replaced : goal.overflow_cast-replaced
overflow_cast-replaced g c =
    let strokes = reverse c.self.inside.told.items in
    omega (
      arith,
      window_short c.self.inside.trie.now strokes,
      ap length c.self.invariant.are_pieces,
      length-map (pieces_now c.self.inside.trie.now strokes) (piece_of c.self.inside.trie.now),
      c.len.ensures,
      c.self.invariant.short,
    )

pub push_reserved-requires : goal.push_reserved-requires
push_reserved-requires g c =
    let strokes = reverse c.self.inside.told.items in
    omega (
      arith,
      window_short c.self.inside.trie.now strokes,
      ap length c.self.invariant.are_pieces,
      length-map (pieces_now c.self.inside.trie.now strokes) (piece_of c.self.inside.trie.now),
      c.truncate.ensures.len,
      c.truncate.ensures.capacity,
      c.self.invariant.room_of_pieces,
    )

pub trim-requires : goal.trim-requires
trim-requires g c =
    let strokes = reverse c.self.inside.told.items in
    omega (
      arith,
      place_within c.self.inside.trie.now strokes c.args.stroke c.advance-place.result c.self.inside.ends.items c.advance-place.new.ends.items c.self.invariant.are_ends c.advance-place.ensures.advance,
      new_long c.self.inside.trie.now strokes c.args.stroke c.advance-place.result c.self.inside.ends.items c.advance-place.new.ends.items c.self.invariant.are_ends c.advance-place.ensures.advance,
      ap length c.self.invariant.are_pieces,
      length-map (pieces_now c.self.inside.trie.now strokes) (piece_of c.self.inside.trie.now),
      c.truncate.ensures.len,
      c.push_reserved.ensures.len,
    )

pub invariant_of-self : goal.invariant_of-self
invariant_of-self g c =
    let strokes = reverse c.self.inside.told.items in
    pushed c.self.inside.trie.now strokes c.args.stroke c.advance-place.result c.self.inside.ends.items c.advance-place.new.ends.items c.self.invariant.are_ends c.advance-place.ensures.advance
    _ c.self.inside.pieces.items c.trim.new.pieces.items c.index.result.now c.piece_of_end-piece.result c.trim.new.ends.items _ _ c.self.invariant.short c.self.invariant.are_pieces
    c.index.ensures c.piece_of_end-piece.ensures (ap reverse c.and-self-inside.ensures ∙ reverse_onto c.self.inside.told.items c.args.stroke [])
    (c.trim.ensures.pieces ∙ ap (drop (lost_ends c.advance-place.new.ends.items)) (c.push_reserved.ensures.items ∙ ap (λ l. l ++ c.piece_of_end-piece.result ∷ []) c.truncate.ensures.items)) c.trim.ensures.ends
    (omega (arith, c.trim.ensures.room_of_pieces, c.push_reserved.ensures.capacity, c.truncate.ensures.capacity, c.self.invariant.room_of_pieces))
    (omega (arith, c.trim.ensures.room_of_ends, c.advance-place.ensures.capacity, c.self.invariant.room_of_ends))

pub returns-clause-merge : goal.returns-clause-merge
returns-clause-merge g c =
    let strokes = reverse c.self.inside.told.items in
    subst (λ (t : Translation). IsMerge (pieces_of t.entries t.strokes) (pieces_of t.entries (t.strokes ++ c.args.stroke ∷ [])) (record { replaced = c.len.result - c.advance-place.result; piece = c.piece_of_end-piece.result })) c.self.view_is
    (answered c.self.inside.trie.now strokes c.args.stroke c.advance-place.result c.self.inside.ends.items c.advance-place.new.ends.items c.self.invariant.are_ends c.advance-place.ensures.advance c.index.result.now
    (record { replaced = c.len.result - c.advance-place.result; piece = c.piece_of_end-piece.result })
    (omega (arith, c.len.ensures, ap length c.self.invariant.are_pieces, length-map (pieces_now c.self.inside.trie.now strokes) (piece_of c.self.inside.trie.now)))
    c.index.ensures c.piece_of_end-piece.ensures)

pub returns-clause-cost : goal.returns-clause-cost
returns-clause-cost g c =
    let strokes = reverse c.self.inside.told.items in
    omega (
      arith,
      c.advance-place.ensures.cost,
      ap length c.self.invariant.are_ends,
      length-ends_of c.self.inside.trie.now (pieces_now c.self.inside.trie.now strokes),
      window_short c.self.inside.trie.now strokes,
      ap (λ (t : Translation). longest_of t.entries) c.self.view_is,
    )
