-- What a reader holds of its file.
--     piece_size                                      how many bytes it holds at most
--     PassesOver text failed old new before after     what a call that takes bytes does, and what it passes over
--     IsReachOf reach left rest                       what is held of the next line
use Rattle.std.specs.Prelude.{ℕ, ◌+◌, ◌^◌, ◌≤◌, ◌≡◌, List, [], ◌++◌, Bool, false, length, take, Option, IfSome}
use Rattle.std.specs.Io.KnownBytes.{prepend_known}
use Rattle.text_rules.specs.Lines.{has_byte}
use Rattle.outside.specs.Files.{FilesView}
use Rattle.certificate.specs.Readers.{OnlyTakes, CountsTaken}
use Rattle.certificate.specs.declared.pieces.Reach.{Reach}
use Rattle.certificate.specs.declared.pieces.Reach.TheVariants as reach
use Rattle.certificate.specs.inside.Places.{IsFirstPlace}

-- how many bytes are held at most, and how many are taken at once
abbrev pub piece_size : ℕ
piece_size = 65536

-- what contracts see of the bytes that are held
pub record PiecesView : Type 0 where
  -- the bytes that were taken and not passed over
  pub left : List ℕ
  -- how many bytes were taken, up to the last value of a count
  pub taken : ℕ

-- nothing was taken
abbrev pub no_pieces : PiecesView
no_pieces = record { left = []; taken = 0 }

-- bytes were taken, and of what was ahead this text was passed over
pub record PassesOver (text : List ℕ) (failed : Bool) (old new : PiecesView) (before after : FilesView) : Type 0 where
  pub ahead : prepend_known old.left before.rest ≡ prepend_known (text ++ new.left) after.rest
  -- each byte that is held or was passed over is counted
  pub least : (m : ℕ) → m + length text ≤ 2 ^ 33 → m + length old.left ≤ old.taken → m + length text + length new.left ≤ new.taken
  -- and no others are
  pub most : CountsTaken old.taken new.taken before.rest after.rest
  pub takes : OnlyTakes failed before after

-- as many bytes were added
pub record Grows (count : ℕ) (old new : List ℕ) : Type 0 where
  pub same : take (length old) new ≡ old
  pub more : length new ≡ length old + count

-- what is held of the next line: the line up to its line feed, as many bytes as there is room for, or all to the file's end
abbrev pub IsReachOf : Reach → List ℕ → Option (List ℕ) → Type 0
IsReachOf (reach.Line body) left rest = IsFirstPlace 10 left body
IsReachOf reach.Full left rest = (has_byte 10 left ≡ false) × (length left ≡ piece_size)
IsReachOf reach.End left rest = (has_byte 10 left ≡ false) × IfSome rest (λ more. more ≡ [])
