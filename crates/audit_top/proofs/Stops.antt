-- What a part of a run returns that only writes to the output.
use Rattle.std.proofs.Common.{ℕ, ◌≡◌, ◌∙◌, inl, inr, List, [], ap, sym, subst, refl, Option, Some, None, Result, Ok, Err, length, take}
use Rattle.std.specs.Io.KnownBytes.{append_known}
use Rattle.std.proofs.Math.Seq.{take-length}
use Rattle.outside.specs.Sink.{AppendsPrefix, Puts}
use Rattle.outside.proofs.Known.{append_known-empty}
use Rattle.report.specs.Refusals.{RefusalView, refusal_text, no_memory}
use Rattle.outside.specs.declared.fault.OutsideFault.{OutsideFault}
use Rattle.outside.specs.declared.fault.OutsideFault.TheVariants as report
use Rattle.audit_top.specs.Outcomes.{Expected, UnlessRefused, refused}
use Rattle.audit_top.specs.Runs.{IsBegun, OutputView}
use Rattle.audit_top.specs.inside.Answers.{Answers, Begins, Stops}
use Rattle.audit_top.specs.inside.Endings.{EndsMemory}
use Rattle.audit_top.specs.inside.Stops.{Stop, by_memory, by_output, by_refusal, refusal_of_report, stop_of}
use Rattle.audit_top.specs.declared.refusals.Refusal.{Refusal}
use Rattle.audit_top.specs.declared.refusals.Refusal.TheVariants as of
use Rattle.audit_top.specs.declared.status.Status.{Status}
use Rattle.audit_top.specs.declared.status.Status.TheVariants.{Memory}

-- nothing was put
pub begins-nothing : (May : Expected → Type 0) (old : Option (List ℕ)) → Begins May old old
begins-nothing May old = record { begun = []; is_begun = inl refl; added = sym (append_known-empty old) }

-- memory ran out before anything was put
pub ran-out : (May : Expected → Type 0) (out : OutputView) (answer : Result Status Refusal) (refusal : Refusal) → answer ≡ Err refusal → refusal ≡ of.Memory → Answers May out out answer
ran-out May out answer refusal is memory = subst (Answers May out out) (sym (is ∙ ap Err memory)) (begins-nothing May out.text, refl)

-- a refusal before anything was put
pub refused-first : (May : Expected → Type 0) (out : OutputView) (answer : Result Status Refusal) (reason : Refusal) (refusal : RefusalView) → answer ≡ Err reason → stop_of reason ≡ by_refusal refusal → May (refused refusal) → Answers May out out answer
refused-first May out answer reason refusal is stop may = subst (Answers May out out) (sym is) (subst (Stops May out out) (sym stop) (may, refl))

pub prefix-begun : (May : Expected → Type 0) (old new : Option (List ℕ)) (result : Expected) → May result → AppendsPrefix old new result.text → Begins May old new
prefix-begun May old new result may (n, within, added) = record { begun = take n result.text; is_begun = inr (result, may, (n, refl)); added = added }

put_stops : {T : Type 0} (May : Expected → Type 0) (old new : OutputView) (result : Expected) (fault : OutsideFault) → May result
    → Puts result.text {T = T} (Err fault) old.text new.text old.faults new.faults → Stops May old new (stop_of (refusal_of_report fault))
put_stops May old new result report.Failed may puts = (prefix-begun May old.text new.text result may puts.prefix, puts.failed refl)
put_stops May old new result report.Memory may puts = (prefix-begun May old.text new.text result may puts.prefix, puts.steady refl)

-- a text wasn't put whole
pub put-stopped : {T : Type 0} (May : Expected → Type 0) (old new : OutputView) (result : Expected) (fault : OutsideFault)
    (answer : Result Status Refusal) (refusal : Refusal) → May result → Puts result.text {T = T} (Err fault) old.text new.text old.faults new.faults
    → answer ≡ Err refusal → refusal ≡ refusal_of_report fault → Answers May old new answer
put-stopped May old new result fault answer refusal may puts is by =
    subst (Answers May old new) (sym (is ∙ ap Err by)) (put_stops May old new result fault may puts)

-- a text was put whole
pub put-whole : (May : Expected → Type 0) (old new : OutputView) (result : Expected) (status : Status)
    → May result → status ≡ result.status → result.file ≡ None → new.text ≡ append_known old.text result.text → new.faults ≡ old.faults → Answers May old new (Ok status)
put-whole May old new result status may ends no_file text steady = record { result = result; may = may; ends = ends; text = text; no_file = no_file; steady = steady }

-- ---- limits

-- what a part may produce that begins behind a limit
pub begins-weaker : (May May' : Expected → Type 0) (old new : Option (List ℕ)) → ((r : Expected) → May r → May' r) → Begins May old new → Begins May' old new
begins-weaker May May' old new to is = record { begun = is.begun; is_begun = by is.is_begun; added = is.added }
  where
    by : IsBegun May is.begun → IsBegun May' is.begun
    by (inl none) = inl none
    by (inr some) = inr (some.0, to some.0 some.1, some.2)

stops_weaker : (May May' : Expected → Type 0) (old new : OutputView) (stop : Stop) → ((r : Expected) → May r → May' r) → Stops May old new stop → Stops May' old new stop
stops_weaker May May' old new by_output to is = (begins-weaker May May' old.text new.text to is.0, is.1)
stops_weaker May May' old new by_memory to is = (begins-weaker May May' old.text new.text to is.0, is.1)
stops_weaker May May' old new (by_refusal refusal) to is = (to (refused refusal) is.0, is.1)

pub answers-weaker : (May May' : Expected → Type 0) (old new : OutputView) (answer : Result Status Refusal) → ((r : Expected) → May r → May' r) → Answers May old new answer → Answers May' old new answer
answers-weaker May May' old new (Ok status) to is = record { result = is.result; may = to is.result is.may; ends = is.ends; text = is.text; no_file = is.no_file; steady = is.steady }
answers-weaker May May' old new (Err refusal) to is = stops_weaker May May' old new (stop_of refusal) to is

-- within the limit
pub unless-none : (o : Option RefusalView) (Follows : Expected → Type 0) → o ≡ None → (r : Expected) → Follows r → UnlessRefused o Follows r
unless-none o Follows none r is = subst (λ (o : Option RefusalView). UnlessRefused o Follows r) (sym none) is

-- over it
pub unless-some : (o : Option RefusalView) (Follows : Expected → Type 0) (refusal : RefusalView) → o ≡ Some refusal → UnlessRefused o Follows (refused refusal)
unless-some o Follows refusal some = subst (λ (o : Option RefusalView). UnlessRefused o Follows (refused refusal)) (sym some) refl

-- ---- lines

-- the line that says that memory ran out was put whole
pub memory-line : (old new : OutputView) → new.text ≡ append_known old.text (refusal_text no_memory) → new.faults ≡ old.faults → EndsMemory old new Memory
memory-line old new all steady = record {
  fails = record { ends = inr refl; output = λ e. absurd cc; memory = λ e. steady };
  line = length (refusal_text no_memory);
  text = all ∙ ap (append_known old.text) (sym (take-length (refusal_text no_memory)));
}
