-- From the lines above the conflicts to the rows and the end.
use Rattle.std.proofs.Common.{◌≡◌, ℕ, ◌+◌, ◌-◌, ◌≤◌, List, [], ◌∷◌, ◌++◌, length, map, refl, ap, subst, arith, Bool, true, false, cond, ◌∙◌, Option, Some, None, inl}
use Rattle.std.specs.Prelude.{Result, Ok, Err, IfOk, IfErr, IfSome, option_map}
use Rattle.steno_rules.specs.Outlines.{AreEntries}
use Rattle.outside.specs.Files.{Held}
use Rattle.cert_check.specs.declared.faults.CheckDone.{CheckDone}
use Rattle.cert_check.specs.Verdicts.{IsFaultOf, IsAccepted, IsCheckCause, IsInvalidIfRejected, closure_at}
use Rattle.dict_stack.specs.Stacks.{StackView}
use Rattle.outside.specs.Faults.{Rose}
use Rattle.outside.specs.Files.{FilesView}
use Rattle.outside.specs.declared.fault.Way.TheVariants.{Reading}
use Rattle.std.specs.Io.KnownBytes.{prepend_known}
use Rattle.certificate_laws.proofs.LimitLemmas.{valid_at, rejected_invalid}
use Rattle.cert_check.specs.inside.Founds.{IsFoundListing, IsListingFault, AtRows}
use Rattle.cert_check.specs.inside.Left.{AreLeft}
use Rattle.cert_check.specs.Reading.{WhereTold, IsUntold}
use Rattle.cert_check.specs.inside.Uppers.{IsUpperRead, Represents}
use Rattle.certificate.specs.CertReading.{read_lines}
use Rattle.certificate.specs.CertTexts.{Listed}
use Rattle.certificate.specs.Readers.{certificate_limit, ReaderView, ahead, new_reader, OnlyTakes, OpensFile}
use Rattle.certificate_laws.specs.Checks.{Lines, Check, listed_in, readable_lines, can_be_made, announced, accepted, rejected, end_checks, then_check}
use Rattle.certificate_laws.specs.Closures.{Closure}
use Rattle.certificate_laws.specs.Validity.{leads_on_by, listed_on_lines, move_checks, listing_checks, listed_pairs, row_checks, check_outcome}
use Rattle.certificate_laws.proofs.ConflictRows.{valid_rows}
use Rattle.std.proofs.lemmas.List.{length_push}
use Rattle.certificate.specs.declared.lines.CertLine.TheVariants as of
use Rattle.report.specs.declared.faults.Why.TheVariants as why
use Rattle.cert_check.specs.declared.faults.CheckFault.{CheckFault}
use Rattle.cert_check.specs.declared.faults.CheckFault.TheVariants as fault
use Rattle.cert_check.specs.declared.founds.Found.{Found}
use Rattle.cert_check.specs.declared.upper.Upper.{Upper}
use Rattle.cert_check.proofs.ReadLemmas.{reached}
use Rattle.cert_check.proofs.StageLemmas.{AllReached, left_past, left_fails}

AllReached-join : (most : Option ℕ) (xs ys : List Check) → AllReached most xs → AllReached most ys → AllReached most (xs ++ ys)
AllReached-join most [] ys a b = b
AllReached-join most (x ∷ xs) ys a b = (a.0, AllReached-join most xs ys a.1 b)

moves_reached : (most : Option ℕ) (targets : ℕ → List ℕ) (at : ℕ) (all : List Listed) (xs : List (ℕ × Listed)) → ((c : Check) → c.reads ≡ at → can_be_made most c ≡ true) → AllReached most (map (λ s. then_check at s.0 why.Move (leads_on_by targets all s.1)) xs)
moves_reached most targets at all [] can = tt
moves_reached most targets at all (x ∷ xs) can = (can (then_check at x.0 why.Move (leads_on_by targets all x.1)) refl, moves_reached most targets at all xs can)

-- All checks at the conflicts line can be made once it was read.
pub listing_reached : (most : Option ℕ) (closure : Closure) (at : ℕ) (before : Lines) (n : ℕ) → ((c : Check) → c.reads ≡ at → can_be_made most c ≡ true) → AllReached most (listing_checks closure closure.targets at before n)
listing_reached most closure at before n can =
    (can _ refl, AllReached-join most (move_checks closure.targets at before) _ (moves_reached most closure.targets at (listed_in before) (listed_on_lines 1 before) can) (can _ refl, tt))

upper_reached : (closure : Closure) (bytes : List ℕ) (given : ℕ) (u : Upper) (n : ℕ) (ahead : Option (List ℕ)) (h : IsUpperRead closure bytes given u n ahead) → AllReached (readable_lines certificate_limit bytes) (listing_checks closure closure.targets (length h.before + 1) h.before n)
upper_reached closure bytes given u n ahead h =
    listing_reached (readable_lines certificate_limit bytes) closure (length h.before + 1) h.before n
    (λ c reads. reached certificate_limit given bytes (h.before ++ Some (of.Conflicts n) ∷ []) h.rest c h.read (omega (arith, reads, length_push h.before (Some (of.Conflicts n)))))

-- A listing that fails is rejected.
pub listing_fault : (closure : Closure) (bytes : List ℕ) (given : ℕ) (u : Upper) (n : ℕ) (ahead : Option (List ℕ)) (x : CheckFault) → IsUpperRead closure bytes given u n ahead → ((before : Lines) → Represents u before → IsListingFault closure before n x) → IsFaultOf (check_outcome closure bytes) x
listing_fault closure bytes given u n ahead (fault.Rejected line reason) h says =
    left_fails closure bytes (listing_checks closure closure.targets (length h.before + 1) h.before n) _ line reason (says h.before h.represents) (upper_reached closure bytes given u n ahead h) h.left
listing_fault closure bytes given u n ahead fault.TooLong h says = absurd (says h.before h.represents)
listing_fault closure bytes given u n ahead fault.Failed h says = tt
listing_fault closure bytes given u n ahead fault.Memory h says = tt

-- A listing that holds leads to the rows.
pub to_rows : (closure : Closure) (bytes : List ℕ) (given : ℕ) (u : Upper) (n lines : ℕ) (ahead : Option (List ℕ)) (founds : List Found) → IsUpperRead closure bytes given u n ahead → ((before : Lines) → Represents u before → IsFoundListing closure before n founds) →
    lines ≡ u.lines + 1 → (all : List Listed) × AtRows closure all bytes given lines founds ahead
to_rows closure bytes given u n lines ahead founds h says at =
    let f = says h.before h.represents in
    let same : length h.before + 1 ≡ lines = (let c = h.represents.count in omega (arith, c, at)) in (
      listed_in h.before,
      record {
        rest = h.rest;
        is_ahead = h.is_ahead;
        before = h.before ++ Some (of.Conflicts n) ∷ [];
        count = length_push h.before (Some (of.Conflicts n)) ∙ same;
        read = h.read;
        pairs = listed_pairs closure (listed_in h.before);
        are = f.are;
        near = f.near;
        left =
            subst (λ k. AreLeft closure bytes (row_checks closure (listed_in h.before) (read_lines bytes) k (listed_pairs closure (listed_in h.before)) ++ end_checks (read_lines bytes) (k + length (listed_pairs closure (listed_in h.before))))) same
            (left_past closure bytes (listing_checks closure closure.targets (length h.before + 1) h.before n) _ f.hold (upper_reached closure bytes given u n ahead h) h.left);
      },
    )

-- Nothing is left: the number of the conflicts line is announced.
pub all_done : (closure : Closure) (bytes : List ℕ) (given : ℕ) (u : Upper) (n : ℕ) (ahead : Option (List ℕ)) → IsUpperRead closure bytes given u n ahead → AreLeft closure bytes [] → check_outcome closure bytes ≡ accepted n
all_done closure bytes given u n ahead h left = left ∙ ap (λ k. accepted k) h.tells

-- ---- what follows from the outcome

accepted_all : (stack : StackView) (bytes : List ℕ) (n : ℕ) → AreEntries stack.outlines → check_outcome (closure_at stack) bytes ≡ accepted n → IsAccepted stack bytes n
accepted_all stack bytes n are e =
    let at = valid_at (closure_at stack) bytes n e in
    let rows = valid_rows stack.outlines stack.words bytes are (n, at) in
    record { outcome = e; valid = (n, at); conflicts = rows.0; number = rows.1 }

-- What is accepted is valid, and its rows are the conflicts.
pub done_of : (stack : StackView) (r : Result CheckDone CheckFault) (held : Option Held) (name : List ℕ) → AreEntries stack.outlines → IfOk r (λ done. IfSome held (λ h. check_outcome (closure_at stack) (h name) ≡ accepted done.conflicts)) →
    IfOk r (λ done. IfSome held (λ h. IsAccepted stack (h name) done.conflicts))
done_of stack (Ok done) None name are e = tt
done_of stack (Ok done) (Some h) name are e = accepted_all stack (h name) done.conflicts are e
done_of stack (Err x) held name are e = tt

invalid_of : (closure : Closure) (bytes : List ℕ) (x : CheckFault) → IsFaultOf (check_outcome closure bytes) x → IsInvalidIfRejected closure bytes x
invalid_of closure bytes (fault.Rejected line reason) e = rejected_invalid closure bytes line reason e
invalid_of closure bytes fault.TooLong e = tt
invalid_of closure bytes fault.Failed e = tt
invalid_of closure bytes fault.Memory e = tt

-- What is rejected isn't valid.
pub cause_of : (stack : StackView) (r : Result CheckDone CheckFault) (held : Option Held) (name : List ℕ) → IfErr r (λ x. IfSome held (λ h. IsFaultOf (check_outcome (closure_at stack) (h name)) x)) →
    IfErr r (λ x. IfSome held (λ h. IsCheckCause stack (h name) x))
cause_of stack (Ok done) held name e = tt
cause_of stack (Err x) None name e = tt
cause_of stack (Err x) (Some h) name e = record { outcome = e; invalid = invalid_of (closure_at stack) (h name) x e }

-- ---- the file

pub told_of : (P : List ℕ → Type 0) (held : Option Held) (name : List ℕ) (reader : ReaderView) (mid : FilesView) (limit : ℕ) → reader ≡ new_reader limit → mid.rest ≡ option_map (λ h. h name) held → WhereTold (ahead reader mid) P → IfSome held (λ h. P (h name))
told_of P None name reader mid limit begun e f = tt
told_of P (Some h) name reader mid limit begun e f = f (h name) (ap (λ (r : ReaderView). prepend_known r.left mid.rest) begun ∙ ap (prepend_known []) e)

-- What a reader finds from its begin on is said of the file.
pub done_told : (stack : StackView) (r : Result CheckDone CheckFault) (held : Option Held) (name : List ℕ) (reader : ReaderView) (mid : FilesView) (limit : ℕ) → reader ≡ new_reader limit → mid.rest ≡ option_map (λ h. h name) held →
    IfOk r (λ done. WhereTold (ahead reader mid) (λ bytes. check_outcome (closure_at stack) bytes ≡ accepted done.conflicts)) → IfOk r (λ done. IfSome held (λ h. check_outcome (closure_at stack) (h name) ≡ accepted done.conflicts))
done_told stack (Ok done) held name reader mid limit begun e f = told_of (λ bytes. check_outcome (closure_at stack) bytes ≡ accepted done.conflicts) held name reader mid limit begun e f
done_told stack (Err x) held name reader mid limit begun e f = tt

pub fault_told : (stack : StackView) (r : Result CheckDone CheckFault) (held : Option Held) (name : List ℕ) (reader : ReaderView) (mid : FilesView) (limit : ℕ) → reader ≡ new_reader limit → mid.rest ≡ option_map (λ h. h name) held →
    IfErr r (λ x. WhereTold (ahead reader mid) (λ bytes. IsFaultOf (check_outcome (closure_at stack) bytes) x)) → IfErr r (λ x. IfSome held (λ h. IsFaultOf (check_outcome (closure_at stack) (h name)) x))
fault_told stack (Ok done) held name reader mid limit begun e f = tt
fault_told stack (Err x) held name reader mid limit begun e f = told_of (λ bytes. IsFaultOf (check_outcome (closure_at stack) bytes) x) held name reader mid limit begun e f

pub untold : (stack : StackView) (x : CheckFault) (held : Option Held) (name : List ℕ) → IsUntold x → IfSome held (λ h. IsFaultOf (check_outcome (closure_at stack) (h name)) x)
untold stack x None name e = tt
untold stack (fault.Rejected line reason) (Some h) name e = absurd e
untold stack fault.TooLong (Some h) name e = absurd e
untold stack fault.Failed (Some h) name e = tt
untold stack fault.Memory (Some h) name e = tt

-- A file that is opened, and of which bytes are taken then.
pub opens_on : (name : List ℕ) (b : Bool) (old mid new : FilesView) → OpensFile name false old mid → mid.opened ≡ Some name → OnlyTakes b mid new → OpensFile name b old new
opens_on name b old mid new x opened y = record {
  leaves = record { held = y.leaves.held ∙ x.leaves.held; writing = y.leaves.writing ∙ x.leaves.writing };
  opened = inl (y.leaves.opened ∙ opened);
  latest = y.latest ∙ (ap (λ o. cond b (option_map (λ n. (n, Reading)) o) mid.latest) opened ∙ ap (λ l. cond b (Some (name, Reading)) l) x.latest);
  later = (let a = x.later in let c = y.later in omega (arith, a, c));
  rose = λ is. rose_on old.faults mid.faults new.faults x.later (y.rose is);
  steady = λ is. y.steady is ∙ x.steady refl;
}
  where
    rose_on : (a b c : ℕ) → a ≤ b → Rose b c → Rose a c
    rose_on a b c le rose = omega (arith, le, rose)
