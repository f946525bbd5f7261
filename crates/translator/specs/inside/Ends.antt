-- The ends of a translator. A piece's end is the node of the strokes from the piece's start on, if they are one.
--     ends_of entries pieces                      the ends of these pieces
--     IsEnd entries end                           none, or the number of a node
--     longer_end entries code end                      the end with one stroke more
--     is_entry_end entries end                    the end's strokes are an entry
--     piece_at entries end                        the last piece, by its end
--     IsAdvance entries code old new place        one stroke more, up to the first end that is an entry, or the last one
--     lost_ends ends                                   how many ends at the front are no nodes
--     IsTranslator ..                             what the fields of a translator have in common
use Rattle.std.specs.Prelude.{ℕ, ◌≡◌, ◌+◌, ◌<◌, ◌≤◌, ◌∷◌, [], ◌⊎◌, Bool, true, false, List, Option, Some, None, ⊤, get_or, is_some, length, map, take}
use Rattle.std.specs.List.{concat, position_or_len}
use Rattle.stroke.specs.declared.pieces.Piece.{Piece}
use Rattle.stroke.specs.Pieces.{piece_of, pieces as pieces_of}
use Rattle.outline_trie.specs.Tries.{IsNode, child_of, longest_of, node_strokes}
use Rattle.steno_rules.specs.Nodes.{nodes}
use Rattle.steno_rules.specs.Outlines.{entry_number}
use Rattle.steno_rules.specs.Segments.{segments}
use Rattle.steno_rules.specs.Windows.{window}

abbrev pub ends_of : List (List ℕ) → List (List ℕ) → List (Option ℕ)
ends_of entries [] = []
ends_of entries (p ∷ ps) = entry_number (nodes entries) (concat (p ∷ ps)) ∷ ends_of entries ps

abbrev pub IsEnd : List (List ℕ) → Option ℕ → Type 0
IsEnd entries None = ⊤
IsEnd entries (Some node) = IsNode entries node

abbrev pub longer_end : List (List ℕ) → ℕ → Option ℕ → Option ℕ
longer_end entries code None = None
longer_end entries code (Some node) = child_of entries node code

abbrev pub is_entry_end : List (List ℕ) → Option ℕ → Bool
is_entry_end entries None = false
is_entry_end entries (Some node) = is_some (entry_number entries (node_strokes entries node))

abbrev pub piece_at : List (List ℕ) → Option ℕ → Piece
piece_at entries None = record { len = 1; entry = None }
piece_at entries (Some node) = piece_of entries (node_strokes entries node)

pub record IsAdvance (entries : List (List ℕ)) (code : ℕ) (old new : List (Option ℕ)) (place : ℕ) : Type 0 where
  pub inside : place < length old
  pub grew : new ≡ map (longer_end entries code) (take (place + 1) old)
  pub none : (k : ℕ) → k < place → is_entry_end entries (longer_end entries code (get_or old k None)) ≡ false
  pub ends : (place + 1 ≡ length old) ⊎ (is_entry_end entries (longer_end entries code (get_or old place None)) ≡ true)

abbrev pub lost_ends : List (Option ℕ) → ℕ
lost_ends ends = position_or_len is_some ends

pub record IsTranslator (entries : List (List ℕ)) (strokes : List ℕ) (pieces : List Piece) (ends : List (Option ℕ)) (piece_places end_places : ℕ) : Type 0 where
  pub short : longest_of entries ≤ 64
  pub are_pieces : pieces ≡ pieces_of entries (window entries strokes)
  pub are_ends : ends ≡ ends_of entries (segments entries (window entries strokes))
  pub room_of_pieces : longest_of entries + 1 ≤ piece_places
  pub room_of_ends : longest_of entries + 1 ≤ end_places
