-- An upgrade that a file cut off: no file has changed, or the target has a prefix of the new certificate.
use Rattle.std.proofs.Common.{ℕ, ◌≡◌, ◌≤◌, ◌∙◌, ◌⊎◌, inl, inr, List, ap, sym, subst, take, arith, Option, Some, None, IfSome}
use Rattle.outside.specs.Files.{Both, FilesView, Held, Replaces}
use Rattle.outside.specs.declared.fault.Way.TheVariants.{Writing}
use Rattle.report.specs.Refusals.{RefusalView, certificate_failed, certificate_too_long, file_failed, no_memory, not_json, not_object, not_report, not_text, not_words, outline_too_long, rejected as rejected_line, too_many_bytes, too_many_dictionaries, too_many_entries, too_many_nodes, too_many_states}
use Rattle.certificate_laws.specs.Checks.{CheckOutcome, accepted, rejected, too_long}
use Rattle.cert_upgrade.specs.Forms.{upgrade_outcome}
use Rattle.cert_upgrade.specs.Upgrades.{upgraded_text}
use Rattle.commands.specs.Commands.{upgrade}
use Rattle.audit_top.specs.Expected.{IsExpected}
use Rattle.audit_top.specs.Outcomes.{Expected, Inputs, Written}
use Rattle.audit_top.specs.Promises.{IsUnfinished, LeavesPart}
use Rattle.audit_top.specs.Runs.{Ends, FailedAt, FailsToRead, FileFailed, IsFilePart, IsRun, MayProduce, World, Writes}
use Rattle.audit_top.specs.Upgraded.{IsUpgrade, upgrade_result}
use Rattle.audit_top.specs.declared.status.Status.{Status}
use Rattle.audit_top.specs.declared.status.Status.TheVariants.{File, Memory, Output}
use Rattle.audit_top.proofs.Causes.{fits}

-- an upgrade reads no dictionary and no report
which : (certificate target : List ℕ) (inputs : Inputs) (old new : FilesView) (refusal : RefusalView) → FileFailed (Some (upgrade certificate target)) inputs old new refusal → FailsToRead (Some certificate) old new ⊎ FailedAt (Some target) Writing old new
which certificate target inputs old new (file_failed file) (inl failed) = let first = failed.0.first in let last : file ≤ 0 = failed.0.last in absurd (omega (arith, first, last))
which certificate target inputs old new (file_failed file) (inr failed) = absurd failed.1.0
which certificate target inputs old new certificate_failed failed = failed.failed
which certificate target inputs old new not_words failed = absurd failed
which certificate target inputs old new (not_json file) failed = absurd failed
which certificate target inputs old new (not_object file) failed = absurd failed
which certificate target inputs old new (not_text file key) failed = absurd failed
which certificate target inputs old new (not_report file) failed = absurd failed
which certificate target inputs old new (too_many_dictionaries n) failed = absurd failed
which certificate target inputs old new (too_many_bytes file) failed = absurd failed
which certificate target inputs old new (outline_too_long file key parts) failed = absurd failed
which certificate target inputs old new (too_many_entries n) failed = absurd failed
which certificate target inputs old new (too_many_nodes n) failed = absurd failed
which certificate target inputs old new (too_many_states n) failed = absurd failed
which certificate target inputs old new certificate_too_long failed = absurd failed
which certificate target inputs old new no_memory failed = absurd failed
which certificate target inputs old new (rejected_line at_line why) failed = absurd failed

-- the file that an upgrade is expected to write
written : (target bytes : List ℕ) (outcome : CheckOutcome) (result : Expected) (whole : Written) → result ≡ upgrade_result target bytes outcome → result.file ≡ Some whole → record { name = target; bytes = upgraded_text bytes } ≡ whole
written target bytes (accepted n) result whole is file = let same : Some (record { name = target; bytes = upgraded_text bytes }) ≡ Some whole = sym (ap (λ (r : Expected). r.file) is) ∙ file in cc
written target bytes (rejected at_line why) result whole is file = let none : None ≡ Some whole = sym (ap (λ (r : Expected). r.file) is) ∙ file in absurd cc
written target bytes too_long result whole is file = let none : None ≡ Some whole = sym (ap (λ (r : Expected). r.file) is) ∙ file in absurd cc

-- so a part of it is a prefix of the new certificate
part : (certificate target bytes : List ℕ) (inputs : Inputs) (old new : FilesView) (file : Option Written) → inputs.file ≡ Some bytes → IsFilePart (IsExpected inputs (Some (upgrade certificate target))) file → Writes file old new
    → LeavesPart target (upgraded_text bytes) old.held new.held
part certificate target bytes inputs old new None read is writes = inl writes
part certificate target bytes inputs old new (Some file) read (result, whole, is, whole_is, named, (n, bytes_are)) writes =
    let expected : IsUpgrade target (Some bytes) result = subst (λ (f : Option (List ℕ)). IsUpgrade target f result) read is in
    let same = written target bytes (upgrade_outcome bytes) result whole expected whole_is in
    let name : file.name ≡ target = named ∙ sym (ap (λ (w : Written). w.name) same) in
    let text : file.bytes ≡ take n (upgraded_text bytes) = bytes_are ∙ sym (ap (λ (w : Written). take n w.bytes) same) in
    inr (n, subst (λ (t : List ℕ). Both (Replaces target t) old.held new.held) text (subst (λ (m : List ℕ). Both (Replaces m file.bytes) old.held new.held) name writes))

pub unfinished : (certificate target : List ℕ) (before after : World) (status : Status) → IsRun (Some (upgrade certificate target)) before after status → (held : Held) → before.files.held ≡ Some held → status ≡ File
    → IsUnfinished certificate target (held certificate) before.files after.files
unfinished certificate target before after status run held told failed = by run.ends
  where
    bytes : run.inputs.file ≡ Some (held certificate)
    bytes = subst (λ (t : Option Held). IfSome t (λ held. run.inputs.file ≡ Some (held certificate))) told run.read.file

    cut : (status ≡ Output) ⊎ (status ≡ Memory) → ⊥
    cut (inl is) = let differs : File ≡ Output = sym failed ∙ is in cc
    cut (inr is) = let differs : File ≡ Memory = sym failed ∙ is in cc

    ended : (result : Expected) → MayProduce (Some (upgrade certificate target)) run.inputs before after result → status ≡ result.status → Writes result.file before.files after.files → IsUnfinished certificate target (held certificate) before.files after.files
    ended result (inl is) ends writes = absurd ((fits run.inputs (Some (upgrade certificate target)) result is).file (sym ends ∙ failed))
    ended result (inr failure) ends writes = elim (which certificate target run.inputs before.files after.files failure.refusal failure.failed) [
      | inl read ↦ inl read
      | inr write ↦ inr (write, part certificate target (held certificate) run.inputs before.files after.files result.file bytes failure.file writes)
    ]

    by : Ends (MayProduce (Some (upgrade certificate target)) run.inputs before after) before after status → IsUnfinished certificate target (held certificate) before.files after.files
    by (inl whole) = ended whole.result whole.may whole.ends whole.files
    by (inr is) = absurd (cut is.ends)
