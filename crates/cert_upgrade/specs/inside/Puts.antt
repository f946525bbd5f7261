-- Lines that are added to the file that is being written, and the file when that has ended.
--     PutsText text result put now old new     what adding a text answers and does, where `put` bytes were put before
--     IsCutOff name text old new               no file changed, or the file has a prefix of the text
use Rattle.std.specs.Prelude.{ℕ, ◌+◌, ◌≡◌, ◌⊎◌, List, false, length, take, MatchResult, Option, Result}
use Rattle.outside.specs.Files.{Both, FilesView, Held, Replaces}
use Rattle.certificate.specs.Writers.{AddsBytes, AddsPrefix, OnlyPuts}
use Rattle.cert_check.specs.Reading.{IsUntold}
use Rattle.cert_check.specs.Verdicts.{is_failing}
use Rattle.cert_check.specs.declared.faults.CheckFault.{CheckFault}

-- all of the text was added
pub record PutsWhole (text : List ℕ) (put now : ℕ) (old new : FilesView) : Type 0 where
  pub added : AddsBytes text old new
  pub count : now ≡ put + length text
  pub puts : OnlyPuts false old new

-- a prefix of the text was added
pub record PutsBeginning (text : List ℕ) (fault : CheckFault) (old new : FilesView) : Type 0 where
  pub added : AddsPrefix text old new
  pub untold : IsUntold fault
  pub puts : OnlyPuts (is_failing fault) old new

-- what adding a text answers and does
abbrev pub PutsText : {T : Type 0} → List ℕ → Result T CheckFault → ℕ → ℕ → FilesView → FilesView → Type 0
PutsText text result put now old new =
    MatchResult result (λ _. PutsWhole text put now old new) (λ fault. PutsBeginning text fault old new)

-- all files are as they were, or a prefix of the text stands in the named file and every other file stays
abbrev pub IsCutOff : List ℕ → List ℕ → Option Held → Option Held → Type 0
IsCutOff name text old new = (new ≡ old) ⊎ ((n : ℕ) × Both (Replaces name (take n text)) old new)
