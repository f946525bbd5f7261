use Rattle.std.proofs.Common.{◌≡◌, ◌≤◌, length, take, vec_capacity}
use Rattle.stroke.specs.Pieces.{pieces as pieces_of}
use Rattle.translator.proofs.whole.collect.Given as goal

abbrev pub invariant-loop-stroke : goal.invariant-loop-stroke
invariant-loop-stroke g l = record {
  stands : l.translator ≡ record { entries = l.trie; strokes = take l.stroke-index l.strokes };
  found : l.pieces.items ≡ pieces_of l.trie (take l.stroke-index l.strokes);
  room : length l.strokes ≤ vec_capacity l.pieces;
}
