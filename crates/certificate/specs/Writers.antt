-- What contracts see of a writer of certificates, and what its calls leave of the files.
--     HasWord line                           a row has a word
--     AddsBytes bytes old new                the bytes were added to the file that is being written
--     AddsPrefix bytes old new               a prefix of the bytes was added to it
--     IsWriteFault fault put bytes old new   why a line was refused
--     BeginsFile name result old new         what beginning to write does to the files
--     OnlyPuts failed old new                what writing a line does to the files
--     EndsFile failed old new                what ending does to the files
use Rattle.std.specs.Prelude.{ℕ, ◌+◌, ◌≡◌, ◌<◌, ◌≤◌, ◌⊎◌, List, [], Bool, true, length, None, Some, Result, option_map, if◌then◌else◌, is_ok, IfSome, ⊤}
use Rattle.outside.specs.Faults.{Rose, Steady}
use Rattle.outside.specs.Files.{Both, Extends, ExtendsByPrefix, FilesView}
use Rattle.outside.specs.declared.fault.Way.TheVariants.{Writing}
use Rattle.certificate.specs.CertFaults.{is_cert_failed}
use Rattle.certificate.specs.Readers.{certificate_limit}
use Rattle.certificate.specs.declared.faults.CertFault.{CertFault}
use Rattle.certificate.specs.declared.faults.CertFault.TheVariants as fault
use Rattle.certificate.specs.declared.lines.CertLine.{CertLine}
use Rattle.certificate.specs.declared.lines.CertLine.TheVariants as of

-- a row has a word
abbrev pub HasWord : CertLine → Type 0
HasWord (of.Head version) = ⊤
HasWord (of.Entries n) = ⊤
HasWord (of.States n) = ⊤
HasWord (of.Distance s d) = ⊤
HasWord (of.Run s t d) = ⊤
HasWord (of.Conflicts n) = ⊤
HasWord (of.Row r) = 0 < length r.words
HasWord of.End = ⊤

-- these bytes were added to the file that is being written, and every other file stays
abbrev pub AddsBytes : List ℕ → FilesView → FilesView → Type 0
AddsBytes bytes old new = IfSome old.writing (λ name. Both (Extends name bytes) old.held new.held)

-- a prefix of these bytes was added to it
abbrev pub AddsPrefix : List ℕ → FilesView → FilesView → Type 0
AddsPrefix bytes old new = IfSome old.writing (λ name. ExtendsByPrefix name bytes old.held new.held)

-- why a line was refused, where so many bytes were put before: it would pass the limit, and nothing of it was written; or it
-- is within the limit; memory may also run out before that is known, and then nothing of it was written
abbrev pub IsWriteFault : CertFault → ℕ → ℕ → FilesView → FilesView → Type 0
IsWriteFault fault.TooLong put len old new = (certificate_limit < put + len) × (new.held ≡ old.held)
IsWriteFault fault.Failed put len old new = put + len ≤ certificate_limit
IsWriteFault fault.Memory put len old new = (put + len ≤ certificate_limit) ⊎ (new.held ≡ old.held)
IsWriteFault (fault.Bad line) put len old new = ⊥

-- a call that begins to write a file: a fault is on writing it, and after a refusal no file is being written
pub record BeginsFile (name : List ℕ) {T : Type 0} (result : Result T CertFault) (old new : FilesView) : Type 0 where
  pub writing : new.writing ≡ (if is_ok result then Some name else None)
  pub opened : new.opened ≡ old.opened
  pub rest : new.rest ≡ option_map (λ _. []) old.held
  pub latest : new.latest ≡ (if is_cert_failed result then Some (name, Writing) else old.latest)
  pub later : old.faults ≤ new.faults
  pub rose : is_cert_failed result ≡ true → Rose old.faults new.faults
  pub steady : Steady (is_cert_failed result) old.faults new.faults

-- a call that only puts bytes of the file that is being written: a fault is on writing it
pub record OnlyPuts (failed : Bool) (old new : FilesView) : Type 0 where
  pub writing : new.writing ≡ old.writing
  pub opened : new.opened ≡ old.opened
  pub latest : new.latest ≡ (if failed then option_map (λ name. (name, Writing)) old.writing else old.latest)
  pub later : old.faults ≤ new.faults
  pub rose : failed ≡ true → Rose old.faults new.faults
  pub steady : Steady failed old.faults new.faults

-- a call that ends the writing: no file's bytes change, and a fault is on writing the file
pub record EndsFile (failed : Bool) (old new : FilesView) : Type 0 where
  pub held : new.held ≡ old.held
  pub writing : new.writing ≡ None
  pub opened : new.opened ≡ old.opened
  pub latest : new.latest ≡ (if failed then option_map (λ name. (name, Writing)) old.writing else old.latest)
  pub later : old.faults ≤ new.faults
  pub rose : failed ≡ true → Rose old.faults new.faults
  pub steady : Steady failed old.faults new.faults
