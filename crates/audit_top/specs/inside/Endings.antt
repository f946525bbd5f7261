-- What is put after the answer of a command, and the status.
--     Finishes answer old new status    the run whose command answered so was finished
use Rattle.std.specs.Prelude.{ℕ, ◌≡◌, ◌⊎◌, ◌++◌, take, Result, Ok, Err}
use Rattle.std.specs.Io.KnownBytes.{append_known}
use Rattle.outside.specs.Faults.{Rose}
use Rattle.report.specs.Refusals.{RefusalView, refusal_text, no_memory}
use Rattle.audit_top.specs.Statuses.{refusal_status}
use Rattle.audit_top.specs.Runs.{OutputView}
use Rattle.audit_top.specs.inside.Stops.{Stop, by_memory, by_output, by_refusal, stop_of}
use Rattle.audit_top.specs.declared.refusals.Refusal.{Refusal}
use Rattle.audit_top.specs.declared.status.Status.{Status}
use Rattle.audit_top.specs.declared.status.Status.TheVariants.{Output, Memory}

-- a line was put whole
pub record PutsLine (refusal : RefusalView) (old new : OutputView) (status : Status) : Type 0 where
  pub ends : status ≡ refusal_status refusal
  pub text : new.text ≡ append_known old.text (refusal_text refusal)
  pub steady : new.faults ≡ old.faults

-- the output failed, or memory ran out and the output had no fault
pub record Fails (old new : OutputView) (status : Status) : Type 0 where
  pub ends : (status ≡ Output) ⊎ (status ≡ Memory)
  pub output : status ≡ Output → Rose old.faults new.faults
  pub memory : status ≡ Memory → new.faults ≡ old.faults

-- a line was cut off; where memory ran out, the line that says so follows, or a part of it
pub record CutsLine (refusal : RefusalView) (old new : OutputView) (status : Status) : Type 0 where
  pub fails : Fails old new status
  pub put : ℕ
  pub line : ℕ
  pub text : new.text
      ≡ append_known old.text (take put (refusal_text refusal) ++ take line (refusal_text no_memory))

abbrev pub EndsLine : RefusalView → OutputView → OutputView → Status → Type 0
EndsLine refusal old new status = PutsLine refusal old new status ⊎ CutsLine refusal old new status

-- the line that says that memory ran out was put, or a part of it
pub record EndsMemory (old new : OutputView) (status : Status) : Type 0 where
  pub fails : Fails old new status
  pub line : ℕ
  pub text : new.text ≡ append_known old.text (take line (refusal_text no_memory))

abbrev pub EndsStop : Stop → OutputView → OutputView → Status → Type 0
EndsStop by_output old new status = (status ≡ Output) × (new ≡ old)
EndsStop by_memory old new status = EndsMemory old new status
EndsStop (by_refusal refusal) old new status = EndsLine refusal old new status

abbrev pub Finishes : Result Status Refusal → OutputView → OutputView → Status → Type 0
Finishes (Ok ended) old new status = (status ≡ ended) × (new ≡ old)
Finishes (Err refusal) old new status = EndsStop (stop_of refusal) old new status
