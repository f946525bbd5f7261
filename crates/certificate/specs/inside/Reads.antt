-- What reading a line finds.
--     IsGiven read line count len old new          what is passed over of a line
--     IsHeldLine read line body done room old new  what a line is that ends in the held bytes
--     IsRowPiece read numbers more old new         what a piece of a long row is
--     IsSkipped read room old new before after     how a line goes on that can't be read
--     IsNextLine read room old new before after    the next line
use Rattle.std.specs.Prelude.{ℕ, ◌+◌, ◌^◌, ◌<◌, ◌≤◌, ◌≡◌, ◌⊎◌, List, [], ◌∷◌, ◌++◌, true, false, length, take, drop, Option, Some, None, IfSome, option_map, option_and_then, codes}
use Rattle.std.specs.Io.KnownBytes.{prepend_known}
use Rattle.text_rules.specs.Lines.{has_byte, parts_between}
use Rattle.outside.specs.Files.{FilesView}
use Rattle.certificate.specs.declared.lines.CertLine.{CertLine}
use Rattle.certificate.specs.declared.next_line.Read.{Read}
use Rattle.certificate.specs.declared.next_line.Read.TheVariants as read
use Rattle.certificate.specs.CertLines.{line_text, fits}
use Rattle.certificate.specs.CertReading.{named, if_fits, numbers_of}
use Rattle.certificate.specs.Readers.{BeginsBad, BeginsLong}
use Rattle.certificate.specs.inside.Places.{IsPlace}
use Rattle.certificate.specs.inside.Pieces.{PiecesView, PassesOver}

-- the row of these numbers and those of the words
abbrev pub row_with : List ℕ → List (List ℕ) → Option CertLine
row_with numbers words = option_and_then if_fits (option_and_then (λ ns. named (codes "r") (numbers ++ ns)) (numbers_of words))

-- the line was passed over with its line feed, if there is one
abbrev pub IsGiven : Read → Option CertLine → ℕ → ℕ → PiecesView → PiecesView → Type 0
IsGiven (read.Line l n) line count len old new = (line ≡ Some l) × (n ≡ len) × (new ≡ record old { left = drop count old.left })
IsGiven read.Bad line count len old new = (line ≡ None) × (new ≡ old)
IsGiven read.Long line count len old new = ⊥
IsGiven read.End line count len old new = ⊥

-- the line ends behind `done` bytes and `body` more, and is this one, if it's within the room
abbrev pub IsHeldLine : Read → Option CertLine → ℕ → ℕ → ℕ → PiecesView → PiecesView → Type 0
IsHeldLine (read.Line l len) line body done room old new =
    (line ≡ Some l) × (len ≡ done + body + 1) × (len ≤ room) × (new ≡ record old { left = drop (body + 1) old.left })
IsHeldLine read.Bad line body done room old new = (line ≡ None) × (done + body + 1 ≤ room) × (new ≡ old)
IsHeldLine read.Long line body done room old new = (room < done + body + 1) × (new ≡ old)
IsHeldLine read.End line body done room old new = ⊥

-- the text has the line feed that ends a line, or all to the file's end
abbrev pub IsLineEnd : List ℕ → List ℕ → Type 0
IsLineEnd text rest =
    ((body : List ℕ) × (text ≡ body ++ 10 ∷ []) × (has_byte 10 body ≡ false)) ⊎ ((has_byte 10 text ≡ false) × (rest ≡ []))

-- a line ends within this many of these bytes
pub record EndsWithin (most : ℕ) (bytes : List ℕ) : Type 0 where
  pub text : List ℕ
  pub rest : List ℕ
  pub split : bytes ≡ text ++ rest
  pub is_end : IsLineEnd text rest
  pub within : length text ≤ most

-- more bytes were taken than there is room for
abbrev pub TakesMore : ℕ → PiecesView → PiecesView → Type 0
TakesMore room old new = (m : ℕ) → m + room ≤ 2 ^ 33 → m + length old.left ≤ old.taken → m + room < new.taken

-- the line ends within the room, or it doesn't
abbrev pub IsSkipped : Read → ℕ → PiecesView → PiecesView → FilesView → FilesView → Type 0
IsSkipped (read.Line l len) room old new before after = ⊥
IsSkipped read.Bad room old new before after = IfSome (prepend_known old.left before.rest) (EndsWithin room)
IsSkipped read.Long room old new before after = TakesMore room old new × IfSome (prepend_known old.left before.rest) (BeginsLong room)
IsSkipped read.End room old new before after = ⊥

-- the line was passed over, or nothing is ahead, or the next line can't be given
abbrev pub IsNextLine : Read → ℕ → PiecesView → PiecesView → FilesView → FilesView → Type 0
IsNextLine (read.Line l len) room old new before after =
    PassesOver (line_text l) false old new before after × (fits l ≡ true) × (len ≡ length (line_text l)) × (len ≤ room)
IsNextLine read.End room old new before after =
    PassesOver [] false old new before after × IfSome (prepend_known old.left before.rest) (λ bytes. bytes ≡ [])
IsNextLine read.Bad room old new before after = IfSome (prepend_known old.left before.rest) (BeginsBad room)
IsNextLine read.Long room old new before after = TakesMore room old new × IfSome (prepend_known old.left before.rest) (BeginsLong room)

-- numbers up to a space are those of these bytes, and were passed over; or the bytes can't be those of a row
abbrev pub IsRowPiece : Option ℕ → List ℕ → List ℕ → PiecesView → PiecesView → Type 0
IsRowPiece (Some count) numbers more old new = (space : ℕ) × (count ≡ space + 1) × (new ≡ record old { left = drop count old.left })
    × IsPlace 32 old.left space × (option_map (λ ns. numbers ++ ns) (numbers_of (parts_between 32 (take space old.left))) ≡ Some more)
IsRowPiece None numbers more old new = (new ≡ old)
    × ((has_byte 32 old.left ≡ false)
    ⊎ ((space : ℕ) × IsPlace 32 old.left space × (numbers_of (parts_between 32 (take space old.left)) ≡ None)))
