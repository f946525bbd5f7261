-- What `upgrade` returns.
use Rattle.std.proofs.Common.{ℕ, ◌≡◌, ◌∙◌, inl, inr, List, [], ap, sym, subst, refl, length, take, Option, Some, None, IfSome, Result, Ok, Err, true, false}
use Rattle.std.specs.Io.KnownBytes.{append_known}
use Rattle.std.proofs.Math.Seq.{take-length}
use Rattle.outside.specs.Files.{Both, FilesView, Held, LeavesFiles, Replaces}
use Rattle.outside.specs.Sink.{AppendsPrefix, Puts}
use Rattle.outside.specs.declared.fault.OutsideFault.{OutsideFault}
use Rattle.outside.specs.declared.fault.OutsideFault.TheVariants as out_of
use Rattle.report.specs.Refusals.{RefusalView, certificate_failed, certificate_too_long, refusal_text}
use Rattle.report.specs.Refusals as of_line
use Rattle.certificate_laws.specs.Checks.{CheckOutcome, accepted, rejected, too_long}
use Rattle.cert_check.specs.Verdicts.{is_check_failed}
use Rattle.cert_check.specs.declared.faults.CheckFault.{CheckFault}
use Rattle.cert_check.specs.declared.faults.CheckFault.TheVariants as fault
use Rattle.cert_upgrade.specs.Forms.{upgrade_outcome}
use Rattle.cert_upgrade.specs.Upgrades.{IsPartWritten, IsPrefixWritten, IsUpgradeCause, IsUpgraded, UpgradesFile, WritesUpgrade, is_refusing, upgraded_text}
use Rattle.commands.specs.Commands.{upgrade}
use Rattle.audit_top.specs.Upgraded.{IsUpgrade, upgrade_result, upgraded_line}
use Rattle.audit_top.specs.Outcomes.{Expected, Written, refused}
use Rattle.audit_top.specs.Runs.{IsFilePart, OutputView, World, Writes, stack_refusal}
use Rattle.audit_top.specs.Statuses.{refusal_status}
use Rattle.audit_top.specs.inside.Answers.{Begun, FailsBehind, Goes, IsAnswered, IsStopped, MayGo, Touched}
use Rattle.audit_top.specs.inside.Stops.{by_refusal, refusal_of_check, refusal_of_report, stop_of}
use Rattle.audit_top.specs.declared.refusals.Refusal.{Refusal}
use Rattle.audit_top.specs.declared.refusals.Refusal.TheVariants as of
use Rattle.audit_top.specs.declared.status.Status.{Status}
use Rattle.audit_top.specs.declared.status.Status.TheVariants.{Clean}
use Rattle.audit_top.proofs.OtherFiles.{IsAlone, opened_as}
use Rattle.audit_top.proofs.Stacks.{at, is-some_file, some_file}
use Rattle.audit_top.proofs.Stops.{begins-nothing, prefix-begun}

module _ (source target : List ℕ) where
  abbrev pub both_named : Touched
  both_named = record { read = Some source; written = Some target }

  -- what may be produced where these files are told
  abbrev pub MayUpgrade : Option Held → Expected → Type 0
  MayUpgrade told = IsUpgrade target (some_file told (Some source))

  -- what comes of the checks is expected
  is_outcome : (told : Option Held) (outcome : CheckOutcome) → IfSome told (λ held. upgrade_outcome (held source) ≡ outcome) → (bytes : List ℕ) → IfSome told (λ held. bytes ≡ held source) → MayUpgrade told (upgrade_result target bytes outcome)
  unfolding some_file
  is_outcome None outcome is bytes same = record { bytes = bytes; outcome = outcome; is = refl }
  is_outcome (Some held) outcome is bytes same =
      ap (λ (b : List ℕ). upgrade_result target b outcome) same ∙ ap (λ (o : CheckOutcome). upgrade_result target (held source) o) (sym is)

  -- the bytes of the source, where they are told
  source_in : Option Held → List ℕ
  source_in None = []
  source_in (Some held) = held source

  source_is : (told : Option Held) → IfSome told (λ held. source_in told ≡ held source)
  unfolding source_in
  source_is None = tt
  source_is (Some held) = refl

  -- what the files have after a refusal
  pub record IsLeftBy (told new : Option Held) : Type 0 where
    pub file : Option Written
    pub part : IsFilePart (MayUpgrade told) file
    pub files : (o n : FilesView) → o.held ≡ told → n.held ≡ new → Writes file o n

  -- a part of what is expected
  part_is : (held : Held) (n conflicts : ℕ) → upgrade_outcome (held source) ≡ accepted conflicts → IsFilePart (MayUpgrade (Some held)) (Some (record { name = target; bytes = take n (upgraded_text (held source)) }))
  unfolding some_file
  part_is held n conflicts form = (
    upgrade_result target (held source) (accepted conflicts),
    record { name = target; bytes = upgraded_text (held source) },
    ap (λ (o : CheckOutcome). upgrade_result target (held source) o) (sym form),
    refl,
    refl,
    (n, refl),
  )

  left : (told new : Option Held) → IsPartWritten source target told new → IsLeftBy told new
  left told new (inl same) = record { file = None; part = tt; files = λ o n before after. after ∙ same ∙ sym before }
  left told new (inr (n, both)) = by told new both
    where
      by : (told new : Option Held) → Both (IsPrefixWritten source target n) told new → IsLeftBy told new
      by None None both = record { file = None; part = tt; files = λ o m before after. after ∙ sym before }
      by None (Some h) both = absurd both
      by (Some held) None both = absurd both
      by (Some held) (Some h) both = record {
        file = Some (record { name = target; bytes = take n (upgraded_text (held source)) });
        part = part_is held n both.conflicts both.form;
        files = λ o m before after. subst (λ (a : Option Held). Both (Replaces target (take n (upgraded_text (held source)))) a m.held) (sym before)
            (subst (λ (b : Option Held). Both (Replaces target (take n (upgraded_text (held source)))) (Some held) b) (sym after) both.replaces);
      }

  some_target : Some target ≡ None → ⊥
  some_target e = cc e

  certificate_differs : of.Certificate ≡ of.Memory → ⊥
  certificate_differs e = cc e

  -- the files that this touches
  upgrade_goes : (old new : FilesView) (before after : OutputView) (answer : Result Status Refusal) → UpgradesFile source target false old new
      → IsAnswered (MayGo certificate_failed None both_named (MayUpgrade old.held) (at old before) (at new after)) (at old before) (at new after) answer
      → Goes certificate_failed None both_named (IsUpgrade target) (at old before) (at new after) answer
  upgrade_goes old new before after answer opens is = record {
    file = some_file old.held (Some source);
    told = is-some_file old.held (Some source);
    is = is;
    memory = λ e. opens.steady refl;
    unchanged = λ (e : Some target ≡ None). absurd (some_target e);
    opened = opened_as source old new opens.opened;
    faults = inl (opens.steady refl);
  }

  -- such a part is one of what may be produced
  part_more : (before after : World) (told : Option Held) (file : Option Written) → IsFilePart (MayUpgrade told) file → IsFilePart (MayGo certificate_failed None both_named (MayUpgrade told) before after) file
  part_more before after told None part = tt
  part_more before after told (Some file) (result, whole, is, same, named, rest) = (result, whole, inl is, same, named, rest)

  -- nothing is written where the certificate is refused
  refused_by : (old new : FilesView) (out : OutputView) (outcome : CheckOutcome) (reason : Refusal) (line : RefusalView) → upgrade_result target (source_in old.held) outcome ≡ refused line → stop_of reason ≡ by_refusal line
      → IfSome old.held (λ held. upgrade_outcome (held source) ≡ outcome) → LeavesFiles old new → UpgradesFile source target false old new
      → Goes certificate_failed None both_named (IsUpgrade target) (at old out) (at new out) (Err reason)
  refused_by old new out outcome reason line is stop told leaves opens =
      upgrade_goes old new out out (Err reason) opens
      (subst (IsStopped (MayGo certificate_failed None both_named (MayUpgrade old.held) (at old out) (at new out)) (at old out) (at new out)) (sym stop) (record {
        result = refused line;
        may = inl (subst (MayUpgrade old.held) is (is_outcome old.held outcome told (source_in old.held) (source_is old.held)));
        ends = refl;
        line = refl;
        out = refl;
        files = leaves.held;
      }))

  by_fault : (old new : FilesView) (out : OutputView) (f : CheckFault) → IfSome old.held (λ held. IsUpgradeCause (held source) f) → (is_refusing f ≡ true → LeavesFiles old new) → IsPartWritten source target old.held new.held
      → UpgradesFile source target (is_check_failed {T = ℕ} (Err f)) old new → Goes certificate_failed None both_named (IsUpgrade target) (at old out) (at new out) (Err (refusal_of_check f))
  by_fault old new out (fault.Rejected at_line why) cause leaves part opens =
      refused_by old new out (rejected at_line why) (of.Rejected at_line why) (of_line.rejected at_line why) refl refl (by old.held cause) (leaves refl) opens
    where
      by : (told : Option Held) → IfSome told (λ held. IsUpgradeCause (held source) (fault.Rejected at_line why)) → IfSome told (λ held. upgrade_outcome (held source) ≡ rejected at_line why)
      by None cause = tt
      by (Some held) cause = cause.outcome
  by_fault old new out fault.TooLong cause leaves part opens =
      refused_by old new out too_long of.CertificateLong certificate_too_long refl refl (by old.held cause) (leaves refl) opens
    where
      by : (told : Option Held) → IfSome told (λ held. IsUpgradeCause (held source) fault.TooLong) → IfSome told (λ held. upgrade_outcome (held source) ≡ too_long)
      by None cause = tt
      by (Some held) cause = cause.outcome
  by_fault old new out fault.Memory cause leaves part opens =
      let l = left old.held new.held part in
      upgrade_goes old new out out (Err of.Memory) opens (
        record {
          text = begins-nothing (MayGo certificate_failed None both_named (MayUpgrade old.held) (at old out) (at new out)) out.text;
          file = l.file;
          part = part_more (at old out) (at new out) old.held l.file l.part;
          files = l.files old new refl refl;
        },
        refl,
      )
  by_fault old new out fault.Failed cause leaves part opens =
      let l = left old.held new.held part in
      let behind : FailsBehind None both_named old new = record { accepted = refl; failed = opens.fault refl } in
      record {
        file = some_file old.held (Some source);
        told = is-some_file old.held (Some source);
        is = record {
          result = record { status = refusal_status certificate_failed; text = refusal_text certificate_failed; file = l.file };
          may = inr (record { behind = behind; status_is = refl; text_is = refl; part = l.part });
          ends = refl;
          line = refl;
          out = refl;
          files = l.files old new refl refl;
        };
        memory = λ (e : Err of.Certificate ≡ Err of.Memory). absurd (certificate_differs cc);
        unchanged = λ (e : Some target ≡ None). absurd (some_target e);
        opened = opened_as source old new opens.opened;
        faults = inr behind;
      }

  pub upgrade-stopped : (old new : FilesView) (out : OutputView) (f : CheckFault) (answer : Result Status Refusal) (refusal : Refusal) → IfSome old.held (λ held. IsUpgradeCause (held source) f) → (is_refusing f ≡ true → LeavesFiles old new) → IsPartWritten source target old.held new.held
      → UpgradesFile source target (is_check_failed {T = ℕ} (Err f)) old new → answer ≡ Err refusal → refusal ≡ refusal_of_check f → Goes certificate_failed None both_named (IsUpgrade target) (at old out) (at new out) answer
  upgrade-stopped old new out f answer refusal cause leaves part opens is by =
      subst (Goes certificate_failed None both_named (IsUpgrade target) (at old out) (at new out)) (sym (is ∙ ap Err by)) (by_fault old new out f cause leaves part opens)

  -- ---- it was written

  pub record IsDone (told new : Option Held) (n : ℕ) : Type 0 where
    pub result : Expected
    pub may : MayUpgrade told result
    pub status : result.status ≡ Clean
    pub text : result.text ≡ upgraded_line n
    pub files : (o m : FilesView) → o.held ≡ told → m.held ≡ new → Writes result.file o m
    pub part : IsFilePart (MayUpgrade told) result.file

  done_as : (told new : Option Held) (n : ℕ) (bytes : List ℕ) → MayUpgrade told (upgrade_result target bytes (accepted n)) → Both (Replaces target (upgraded_text bytes)) told new → IsDone told new n
  done_as told new n bytes may both = record {
    result = upgrade_result target bytes (accepted n);
    may = may;
    status = refl;
    text = refl;
    files = λ o m before after. subst (λ (a : Option Held). Both (Replaces target (upgraded_text bytes)) a m.held) (sym before) (subst (λ (b : Option Held). Both (Replaces target (upgraded_text bytes)) told b) (sym after) both);
    part = (upgrade_result target bytes (accepted n), record { name = target; bytes = upgraded_text bytes }, may, refl, refl, (length (upgraded_text bytes), sym (take-length (upgraded_text bytes))));
  }

  done : (told new : Option Held) (n : ℕ) → IfSome told (λ held. IsUpgraded (held source) (upgraded_text (held source)) n) → WritesUpgrade source target told new → IsDone told new n
  unfolding some_file
  done None None n is both = done_as None None n [] (record { bytes = []; outcome = accepted n; is = refl }) tt
  done None (Some h) n is both = absurd both
  done (Some held) None n is both = absurd both
  done (Some held) (Some h) n is both =
      done_as (Some held) (Some h) n (held source) (ap (λ (o : CheckOutcome). upgrade_result target (held source) o) (sym is.form)) both

  pub upgrade-whole : (old new : FilesView) (before after : OutputView) (n : ℕ) (status : Status) → IfSome old.held (λ held. IsUpgraded (held source) (upgraded_text (held source)) n) → WritesUpgrade source target old.held new.held → UpgradesFile source target false old new
      → status ≡ Clean → after.text ≡ append_known before.text (upgraded_line n) → after.faults ≡ before.faults → Goes certificate_failed None both_named (IsUpgrade target) (at old before) (at new after) (Ok status)
  upgrade-whole old new before after n status is written opens ends text steady =
      let d = done old.held new.held n is written in
      upgrade_goes old new before after (Ok status) opens (record {
        result = d.result;
        may = inl d.may;
        ends = ends ∙ sym d.status;
        text = text ∙ ap (append_known before.text) (sym d.text);
        files = d.files old new refl refl;
        steady = steady;
      })

  begun_by : (old new : FilesView) (before after : OutputView) (n : ℕ) → IsDone old.held new.held n → AppendsPrefix before.text after.text (upgraded_line n)
      → Begun (MayGo certificate_failed None both_named (MayUpgrade old.held) (at old before) (at new after)) (at old before) (at new after)
  begun_by old new before after n d prefix = record {
    text = prefix-begun (MayGo certificate_failed None both_named (MayUpgrade old.held) (at old before) (at new after)) before.text after.text d.result (inl d.may) (subst (AppendsPrefix before.text after.text) (sym d.text) prefix);
    file = Expected.file d.result;
    part = part_more (at old before) (at new after) old.held (Expected.file d.result) d.part;
    files = d.files old new refl refl;
  }

  put_cut : {T : Type 0} (old new : FilesView) (before after : OutputView) (n : ℕ) (f : OutsideFault) → IsDone old.held new.held n → Puts (upgraded_line n) {T = T} (Err f) before.text after.text before.faults after.faults
      → IsStopped (MayGo certificate_failed None both_named (MayUpgrade old.held) (at old before) (at new after)) (at old before) (at new after) (stop_of (refusal_of_report f))
  put_cut old new before after n out_of.Failed d puts = (begun_by old new before after n d puts.prefix, puts.failed refl)
  put_cut old new before after n out_of.Memory d puts = (begun_by old new before after n d puts.prefix, puts.steady refl)

  pub upgrade-cut : {T : Type 0} (old new : FilesView) (before after : OutputView) (n : ℕ) (f : OutsideFault) (answer : Result Status Refusal) (refusal : Refusal) → IfSome old.held (λ held. IsUpgraded (held source) (upgraded_text (held source)) n)
      → WritesUpgrade source target old.held new.held → UpgradesFile source target false old new → Puts (upgraded_line n) {T = T} (Err f) before.text after.text before.faults after.faults → answer ≡ Err refusal → refusal ≡ refusal_of_report f
      → Goes certificate_failed None both_named (IsUpgrade target) (at old before) (at new after) answer
  upgrade-cut {T} old new before after n f answer refusal is written opens puts e by =
      upgrade_goes old new before after answer opens
      (subst (IsAnswered (MayGo certificate_failed None both_named (MayUpgrade old.held) (at old before) (at new after)) (at old before) (at new after)) (sym (e ∙ ap Err by)) (put_cut {T = T} old new before after n f (done old.held new.held n is written) puts))

  -- ---- the command

  pub is-upgrade : IsAlone (Some (upgrade source target)) certificate_failed both_named (IsUpgrade target)
  is-upgrade = record {
    no_dictionaries = refl;
    read = refl;
    written = refl;
    reads = refl;
    needs = refl;
    fails = λ inputs old new none failed. record { accepted = subst (λ (cs : List (List ℕ)). stack_refusal [] cs ≡ None) (sym none) refl; failed = failed };
    expected = λ inputs r is. is;
  }
