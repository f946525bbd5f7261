-- What contracts see of a reader of certificates, and what reading leaves of the files.
--     certificate_limit                          the most bytes of a certificate
--     ahead reader files                         what is ahead of a reader
--     IsLineAnswer line old new before after     what a call that isn't refused answers
--     IsLineFault fault old new before           why a call was refused
--     CountsTaken old new before after           how far the bytes that were taken are counted
--     IsOpened name old new                      what is ahead after a file was opened
--     OpensFile name failed old new              what beginning to read does to the files
--     OnlyTakes failed old new                   what reading a line does to the files
use Rattle.std.specs.Prelude.{ℕ, ◌+◌, ◌-◌, ◌^◌, ◌<◌, ◌≤◌, ◌≡◌, ◌⊎◌, List, [], ◌∷◌, ◌++◌, Bool, true, false, length, take, Option, Some, None, option_map, if◌then◌else◌, IfSome, ⊤}
use Rattle.std.specs.Io.KnownBytes.{prepend_known}
use Rattle.text_rules.specs.Lines.{has_byte}
use Rattle.outside.specs.Faults.{Rose, Steady}
use Rattle.outside.specs.Files.{FilesView, LeavesAll, LeavesFiles, IsLastOpened, Both}
use Rattle.outside.specs.declared.fault.Way.TheVariants.{Reading}
use Rattle.certificate.specs.declared.faults.CertFault.{CertFault}
use Rattle.certificate.specs.declared.faults.CertFault.TheVariants as fault
use Rattle.certificate.specs.declared.lines.CertLine.{CertLine}
use Rattle.certificate.specs.CertLines.{line_text, fits}
use Rattle.certificate.specs.CertReading.{read_line}

-- the most bytes of a certificate
abbrev pub certificate_limit : ℕ
certificate_limit = 2 ^ 32

-- what contracts see of a reader
pub record ReaderView : Type 0 where
  -- how many bytes were given as lines
  pub given : ℕ
  -- how many lines these are
  pub lines : ℕ
  -- the most bytes that may be given
  pub limit : ℕ
  -- the bytes that were taken of the file and not given
  pub left : List ℕ
  -- how many bytes were taken of the file, up to the last value of a count
  pub taken : ℕ

-- nothing was taken
abbrev pub new_reader : ℕ → ReaderView
new_reader limit = record { given = 0; lines = 0; limit = limit; left = []; taken = 0 }

-- what is ahead of a reader, where the files tell it
abbrev pub ahead : ReaderView → FilesView → Option (List ℕ)
ahead reader files = prepend_known reader.left files.rest

-- how many bytes of what is ahead are within the limit
abbrev pub room : ReaderView → ℕ
room reader = reader.limit - reader.given

-- the text is a line with its line feed; the last line of a file may lack it
abbrev pub IsLineText : List ℕ → List ℕ → Type 0
IsLineText text rest =
    ((body : List ℕ) × (text ≡ body ++ 10 ∷ []) × (has_byte 10 body ≡ false))
    ⊎ ((0 < length text) × (has_byte 10 text ≡ false) × (rest ≡ []))

-- the first line of these bytes ends within this many of them, and is the text of no line
pub record BeginsBad (most : ℕ) (bytes : List ℕ) : Type 0 where
  pub text : List ℕ
  pub rest : List ℕ
  pub split : bytes ≡ text ++ rest
  pub is_line : IsLineText text rest
  pub within : length text ≤ most
  pub bad : read_line text ≡ None

-- the first line of these bytes doesn't end within so many of them, and there are more
pub record BeginsLong (most : ℕ) (bytes : List ℕ) : Type 0 where
  pub more : most < length bytes
  pub no_end : has_byte 10 (take most bytes) ≡ false

-- the line was given: its text was ahead, and what followed is ahead then
pub record GivesLine (line : CertLine) (old new : ReaderView) (before after : Option (List ℕ)) : Type 0 where
  pub split : before ≡ prepend_known (line_text line) after
  pub fit : fits line ≡ true
  pub given : new.given ≡ old.given + length (line_text line)
  pub lines : new.lines ≡ old.lines + 1
  pub within : new.given ≤ new.limit
  pub few : new.lines ≤ new.given

-- nothing is ahead, and nothing was given
pub record StaysAtEnd (old new : ReaderView) (before after : Option (List ℕ)) : Type 0 where
  pub nothing : IfSome before (λ bytes. bytes ≡ [])
  pub still : after ≡ before
  pub given : new.given ≡ old.given
  pub lines : new.lines ≡ old.lines

-- what a call that isn't refused answers; `before` and `after` are what was ahead and what is then
abbrev pub IsLineAnswer : Option CertLine → ReaderView → ReaderView → Option (List ℕ) → Option (List ℕ) → Type 0
IsLineAnswer (Some line) old new before after = GivesLine line old new before after
IsLineAnswer None old new before after = StaysAtEnd old new before after

-- why a call was refused: the next line is the text of no line, or doesn't end within the limit
abbrev pub IsLineFault : CertFault → ReaderView → ReaderView → Option (List ℕ) → Type 0
IsLineFault (fault.Bad line) old new before = (line ≡ old.lines + 1) × IfSome before (BeginsBad (room old))
IsLineFault fault.TooLong old new before = (new.limit < new.taken) × IfSome before (BeginsLong (room old))
IsLineFault fault.Failed old new before = ⊤
IsLineFault fault.Memory old new before = ⊤

-- the count of bytes that were taken doesn't fall, and no more are counted than were taken, where the files tell it; `before`
-- and `after` are the rests of the file
abbrev pub CountsTaken : ℕ → ℕ → Option (List ℕ) → Option (List ℕ) → Type 0
CountsTaken old new before after = (old ≤ new) × Both (λ rest left. new + length left ≤ old + length rest) before after

-- all of the named file is ahead
pub record IsOpened (name : List ℕ) (old new : FilesView) : Type 0 where
  pub opened : new.opened ≡ Some name
  pub rest : new.rest ≡ option_map (λ held. held name) old.held

-- a call that opens a file to read it: the files stay, its name may be the one last opened then, and a fault is on reading it
pub record OpensFile (name : List ℕ) (failed : Bool) (old new : FilesView) : Type 0 where
  pub leaves : LeavesFiles old new
  pub opened : IsLastOpened name old new
  pub latest : new.latest ≡ (if failed then Some (name, Reading) else old.latest)
  pub later : old.faults ≤ new.faults
  pub rose : failed ≡ true → Rose old.faults new.faults
  pub steady : Steady failed old.faults new.faults

-- a call that only takes bytes: the files stay, and a fault is on reading the name last opened
pub record OnlyTakes (failed : Bool) (old new : FilesView) : Type 0 where
  pub leaves : LeavesAll old new
  pub latest : new.latest ≡ (if failed then option_map (λ name. (name, Reading)) old.opened else old.latest)
  pub later : old.faults ≤ new.faults
  pub rose : failed ≡ true → Rose old.faults new.faults
  pub steady : Steady failed old.faults new.faults
