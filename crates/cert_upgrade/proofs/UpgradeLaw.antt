-- The new certificate is valid exactly where the old one is.
use Rattle.std.proofs.Common.{◌≡◌, ℕ, ◌+◌, ◌≤◌, List, [], ◌∷◌, ◌++◌, length, map, refl, sym, ap, subst, arith, Bool, true, not, cond, true≢false, Option, Some, None, ◌∙◌, append_assoc, inl, inr}
use Rattle.std.specs.Prelude.{◌&&◌, ◌||◌, ◌==◌, Err, IfErr, IfOk, IfSome, Ok, Result, nat_le, nat_lt}
use Rattle.outside.specs.Files.{Held}
use Rattle.std.specs.List.{position_or_len}
use Rattle.std.proofs.lemmas.Bool.{cases_lt, eqb-true, le-leb, lt-ltb}
use Rattle.std.proofs.lemmas.List.{map-append, length_push}
use Rattle.graph_rules.specs.Graphs.{most_numbers}
use Rattle.steno_rules.specs.Outlines.{AreEntries, flagged_entries}
use Rattle.steno_rules.specs.StateNumbers.{number_count}
use Rattle.steno_rules.proofs.FlaggedWords.{flagged-are}
use Rattle.longest_match.specs.Rows.{Row}
use Rattle.certificate.specs.declared.lines.CertLine.{CertLine}
use Rattle.certificate.specs.declared.lines.CertLine.TheVariants as of
use Rattle.certificate.specs.CertLines.{fits}
use Rattle.certificate.specs.CertReading.{lines_of, read_line, read_lines}
use Rattle.certificate.specs.CertTexts.{Listed, runs_of}
use Rattle.certificate.proofs.LineTexts.{text_read}
use Rattle.report.specs.declared.faults.Why.{Why}
use Rattle.certificate_laws.specs.Checks.{Check, Lines, accepted, announced, conflicts_line, end_checks, first_failure, is_conflicts, line_at, listed_in, outcome_by, rejected, upper_checks, upper_lines}
use Rattle.certificate_laws.specs.Closures.{Closure, Pair, closure_of}
use Rattle.certificate_laws.specs.Validity.{IsValid, all_checks, content_check, listed_pairs, listing_checks, lower_checks, move_checks, row_check, row_checks}
use Rattle.certificate_laws.specs.inside.Holding.{AllHold}
use Rattle.certificate_laws.proofs.HoldLemmas.{AllHold-append, accepted_holds, AllHold-join}
use Rattle.certificate_laws.proofs.LimitLemmas.{accepted_without, holding_stands}
use Rattle.certificate_laws.proofs.UpperLemmas.{line_after, upper_checks-from, upper_from}
use Rattle.audit_certificate.proofs.ReadBack.{AllFit, AllFit-append, read_back}
use Rattle.audit_certificate.proofs.RunLemmas.{longest_runs}
use Rattle.audit_certificate.proofs.UpperHeld.{run_line}
use Rattle.cert_check.specs.Verdicts.{IsFaultOf}
use Rattle.cert_check.specs.declared.faults.CheckFault.{CheckFault}
use Rattle.cert_check.specs.declared.faults.CheckFault.TheVariants as fault
use Rattle.cert_check.proofs.RunLemmas.{known_below}
use Rattle.cert_upgrade.specs.declared.upgrading.Upgraded.{Upgraded}
use Rattle.cert_upgrade.specs.Forms.{form_check, form_checks, lower_forms, row_forms, upgrade_outcome}
use Rattle.cert_upgrade.specs.Upgrades.{IsNeverValid, IsNeverValidIfRejected, IsUpgradeCause, IsUpgraded, upgraded_lines, upgraded_text}
use Rattle.cert_upgrade.specs.inside.Stages.{row_read}
use Rattle.cert_upgrade.specs.inside.Uppers.{new_upper}
use Rattle.cert_upgrade.proofs.Contents.{IsContentValid, heads, headed_of, listing_form, valid_from, valid_to, whole, whole-shaped}
use Rattle.cert_upgrade.proofs.FormStages.{announces, readable}
use Rattle.cert_upgrade.proofs.NewForm.{LinesFit, listing_room, new_listing, runs_fit, runs_listed, runs_plain}
use Rattle.cert_upgrade.proofs.RunJoins.{line_of_run}
use Rattle.cert_upgrade.proofs.Shapes.{HasNoConflicts, IsAbove, IsShaped, ListingHolds, above_back, above_of, announced-shaped, below, listing_rows, position_plain, rows_shape, rows-shaped, upgraded-shaped}

-- ---- the old certificate

-- the parts of a certificate whose form is right
pub record IsForm (lines : Lines) : Type 0 where
  pub v : ℕ
  pub n : ℕ
  pub k : ℕ
  pub listing : Lines
  pub m : ℕ
  pub rows : List Row
  pub split : lines ≡ whole v n k listing m rows
  pub version : ((v == 1) || (v == 2)) ≡ true
  pub plain : HasNoConflicts listing
  pub hold : ListingHolds form_check (heads v n k) listing
  pub number : length rows ≡ m

plain_behind : (before after : Lines) → HasNoConflicts (before ++ after) → HasNoConflicts after
plain_behind [] after h = h
plain_behind (l ∷ before) after h = plain_behind before after h.1

-- A certificate whose form is right has these parts.
pub form_of : (lines : Lines) → AllHold (form_checks lines) → IsForm lines
form_of lines h = by (above_of form_check [] lines (subst AllHold (upper_checks-from form_check lines) parts.0))
  where
    parts : AllHold (upper_checks form_check lines) × AllHold (lower_forms lines (conflicts_line lines) (announced (line_at lines (conflicts_line lines))))
    parts = AllHold-append (upper_checks form_check lines) (lower_forms lines (conflicts_line lines) (announced (line_at lines (conflicts_line lines)))) h

    by : IsAbove form_check [] lines → IsForm lines
    by a =
        let front : Lines = a.listing ++ Some (of.Conflicts a.n) ∷ [] in
        let at : conflicts_line lines ≡ length a.listing + 1 = ap (λ ls. position_or_len is_conflicts ls + 1) a.split ∙ ap (λ i. i + 1) (position_plain a.listing a.n a.rest a.plain) in
        let tells : announced (line_at lines (length a.listing + 1)) ≡ a.n = ap (λ ls. announced (line_at ls (length a.listing + 1))) a.split ∙ ap announced (line_after a.listing (Some (of.Conflicts a.n) ∷ a.rest)) in
        let joined : lines ≡ front ++ a.rest = a.split ∙ sym (append_assoc a.listing (Some (of.Conflicts a.n) ∷ []) a.rest) in
        let long : length a.listing + 1 ≡ length front = sym (length_push a.listing (Some (of.Conflicts a.n))) in
        let low = subst (λ i. AllHold (lower_forms lines i (announced (line_at lines i)))) at parts.1 in
        let low2 = subst (λ i. AllHold (lower_forms lines (length a.listing + 1) i)) tells low in
        let low3 = subst (λ ls. AllHold (lower_forms ls (length a.listing + 1) a.n)) joined low2 in
        let low4 = subst (λ i. AllHold (lower_forms (front ++ a.rest) i a.n)) long low3 in
        let two = AllHold-append (row_forms (front ++ a.rest) (length front) a.n) (end_checks (front ++ a.rest) (length front + a.n)) low4 in
        let r = rows_shape front a.rest a.n two.0 two.1 in
        let hd = headed_of form_check a.listing (let le = a.long in omega (arith, le)) a.hold in
        record {
          v = hd.v;
          n = hd.n;
          k = hd.k;
          listing = hd.others;
          m = a.n;
          rows = r.0;
          split = a.split ∙ (ap (λ ls. ls ++ Some (of.Conflicts a.n) ∷ a.rest) hd.split ∙ ap (λ ls. (heads hd.v hd.n hd.k ++ hd.others) ++ Some (of.Conflicts a.n) ∷ ls) r.2);
          version = hd.version;
          plain = plain_behind (heads hd.v hd.n hd.k) hd.others (subst HasNoConflicts hd.split a.plain);
          hold = hd.hold;
          number = r.1;
        }

-- ---- the lines fit

read_fits : (text : List ℕ) (l : CertLine) → read_line text ≡ Some l → fits l ≡ true
read_fits text l e = (text_read text l e).fit

texts_fit : (texts : List (List ℕ)) → LinesFit (map read_line texts)
texts_fit [] = tt
texts_fit (t ∷ ts) = (λ l e. read_fits t l e, texts_fit ts)

-- Each line of a file that is one fits.
lines_fit : (bytes : List ℕ) → LinesFit (read_lines bytes)
lines_fit bytes = texts_fit (lines_of bytes)

fit_front : (xs ys : Lines) → LinesFit (xs ++ ys) → LinesFit xs
fit_front [] ys h = tt
fit_front (x ∷ xs) ys h = (h.0, fit_front xs ys h.1)

fit_back : (xs ys : Lines) → LinesFit (xs ++ ys) → LinesFit ys
fit_back [] ys h = h
fit_back (x ∷ xs) ys h = fit_back xs ys h.1

rows_fit : (rows : List Row) → LinesFit (map row_read rows) → AllFit (map (λ r. of.Row r) rows)
rows_fit [] h = tt
rows_fit (r ∷ rs) h = (h.0 (of.Row r) refl, rows_fit rs h.1)

map-some : {A : Type 0} (f : A → CertLine) (xs : List A) → map Some (map f xs) ≡ map (λ x. Some (f x)) xs
map-some f [] = refl
map-some f (x ∷ xs) = ap (λ ys. Some (f x) ∷ ys) (map-some f xs)

-- ---- the law

-- checks that hold are accepted
holds_none : (checks : List Check) → AllHold checks → first_failure None checks ≡ None
holds_none [] h = refl
holds_none (c ∷ cs) h = ap (λ b. cond (not (b && true)) (Some c) (first_failure None cs)) h.0 ∙ holds_none cs h.1

valid_by : (closure : Closure) (bytes : List ℕ) → AllHold (all_checks closure (read_lines bytes)) → IsValid closure bytes
valid_by closure bytes h = (
  announced (line_at (read_lines bytes) (conflicts_line (read_lines bytes))),
  ap (outcome_by None (announced (line_at (read_lines bytes) (conflicts_line (read_lines bytes))))) (holds_none (all_checks closure (read_lines bytes)) h),
)

valid_holds : (closure : Closure) (bytes : List ℕ) → IsValid closure bytes → AllHold (all_checks closure (read_lines bytes))
valid_holds closure bytes valid = (accepted_holds (announces bytes) valid.0 (all_checks closure (read_lines bytes)) valid.1).0

module _ (bytes : List ℕ) (n : ℕ) (accept : upgrade_outcome bytes ≡ accepted n) where
  found : AllHold (form_checks (read_lines bytes)) × (announces bytes ≡ n)
  found = accepted_holds (announces bytes) n (form_checks (read_lines bytes)) (accepted_without (readable bytes) (announces bytes) n (form_checks (read_lines bytes)) accept)

  form : IsForm (read_lines bytes)
  form = form_of (read_lines bytes) found.0

  abbrev all : List Listed
  all = listed_in form.listing

  abbrev runs : Lines
  runs = map run_line (runs_of (listed_in form.listing))

  old_shape : IsShaped (whole form.v form.n form.k form.listing form.m form.rows) (heads form.v form.n form.k ++ form.listing) form.m form.rows
  old_shape = whole-shaped form.v form.n form.k form.listing form.m form.rows form.plain (listing_rows form_check (heads form.v form.n form.k) form.listing form.hold) form.number

  shape : IsShaped (read_lines bytes) (heads form.v form.n form.k ++ form.listing) form.m form.rows
  shape = subst (λ ls. IsShaped ls (heads form.v form.n form.k ++ form.listing) form.m form.rows) (sym form.split) old_shape

  new_hold : ListingHolds form_check (heads 2 form.n form.k) runs
  new_hold = new_listing form.v form.n form.k form.listing form.hold

  new_shape : IsShaped (whole 2 form.n form.k runs form.m form.rows) (heads 2 form.n form.k ++ runs) form.m form.rows
  new_shape = whole-shaped 2 form.n form.k runs form.m form.rows (runs_plain (runs_of all)) (listing_rows form_check (heads 2 form.n form.k) runs new_hold) form.number

  -- the new lines
  abbrev made : List CertLine
  made = (new_upper (heads form.v form.n form.k ++ form.listing) ++ of.Conflicts form.m ∷ map (λ r. of.Row r) form.rows) ++ of.End ∷ []

  made_is : made ≡ upgraded_lines (read_lines bytes)
  made_is = upgraded-shaped (read_lines bytes) (heads form.v form.n form.k ++ form.listing) form.m form.rows shape

  fit : LinesFit (whole form.v form.n form.k form.listing form.m form.rows)
  fit = subst LinesFit form.split (lines_fit bytes)

  fit_listing : LinesFit form.listing
  fit_listing = fit_front form.listing (below form.m form.rows) fit.1.1.1

  fit_below : LinesFit (below form.m form.rows)
  fit_below = fit_back form.listing (below form.m form.rows) fit.1.1.1

  made_fit : AllFit made
  made_fit =
      AllFit-append (new_upper (heads form.v form.n form.k ++ form.listing) ++ of.Conflicts form.m ∷ map (λ r. of.Row r) form.rows) (of.End ∷ [])
      (AllFit-append (new_upper (heads form.v form.n form.k ++ form.listing)) (of.Conflicts form.m ∷ map (λ r. of.Row r) form.rows)
      (refl, (fit.1.0 (of.Entries form.n) refl, (fit.1.1.0 (of.States form.k) refl, runs_fit all (listing_room form.listing fit_listing))))
      (fit_below.0 (of.Conflicts form.m) refl, rows_fit form.rows (fit_front (map row_read form.rows) (Some of.End ∷ []) fit_below.1)))
      (refl, tt)

  -- The new certificate is read as these lines,
  new_lines : read_lines (upgraded_text bytes) ≡ map Some (upgraded_lines (read_lines bytes))
  new_lines = read_back (upgraded_lines (read_lines bytes)) (subst AllFit made_is made_fit)

  made_read : map Some made ≡ whole 2 form.n form.k runs form.m form.rows
  made_read =
      map-append Some (new_upper (heads form.v form.n form.k ++ form.listing) ++ of.Conflicts form.m ∷ map (λ r. of.Row r) form.rows) (of.End ∷ [])
      ∙ (ap (λ ls. ls ++ Some of.End ∷ []) (map-append Some (new_upper (heads form.v form.n form.k ++ form.listing)) (of.Conflicts form.m ∷ map (λ r. of.Row r) form.rows))
      ∙ (append_assoc (map Some (new_upper (heads form.v form.n form.k ++ form.listing))) (Some (of.Conflicts form.m) ∷ map Some (map (λ r. of.Row r) form.rows)) (Some of.End ∷ [])
      ∙ (ap (λ ls. map Some (new_upper (heads form.v form.n form.k ++ form.listing)) ++ Some (of.Conflicts form.m) ∷ (ls ++ Some of.End ∷ [])) (map-some (λ r. of.Row r) form.rows)
      ∙ ap (λ ls. (heads 2 form.n form.k ++ ls) ++ below form.m form.rows) (map-some line_of_run (runs_of all)))))

  new_is : read_lines (upgraded_text bytes) ≡ whole 2 form.n form.k runs form.m form.rows
  new_is = new_lines ∙ (ap (map Some) (sym made_is) ∙ made_read)

  module _ (closure : Closure) where
    -- the content of both is the same
    content : List Listed → Type 0
    content listed = IsContentValid closure form.n form.k listed form.m form.rows

    old_to_new : IsValid closure bytes → IsValid closure (upgraded_text bytes)
    old_to_new valid =
        let held = subst (λ ls. AllHold (all_checks closure ls)) form.split (valid_holds closure bytes valid) in
        let c = valid_to closure form.v form.n form.k form.listing form.m form.rows form.plain old_shape held in
        let same = subst (λ xs. IsContentValid closure form.n form.k xs form.m form.rows) (sym (runs_listed form.listing)) c in
        valid_by closure (upgraded_text bytes) (subst (λ ls. AllHold (all_checks closure ls)) (sym new_is) (valid_from closure 2 form.n form.k runs form.m form.rows (runs_plain (runs_of all)) new_shape refl new_hold same))

    new_to_old : IsValid closure (upgraded_text bytes) → IsValid closure bytes
    new_to_old valid =
        let held = subst (λ ls. AllHold (all_checks closure ls)) new_is (valid_holds closure (upgraded_text bytes) valid) in
        let c = valid_to closure 2 form.n form.k runs form.m form.rows (runs_plain (runs_of all)) new_shape held in
        let same = subst (λ xs. IsContentValid closure form.n form.k xs form.m form.rows) (runs_listed form.listing) c in
        valid_by closure bytes (subst (λ ls. AllHold (all_checks closure ls)) (sym form.split) (valid_from closure form.v form.n form.k form.listing form.m form.rows form.plain old_shape form.version form.hold same))

  -- The law of what is upgraded.
  pub upgraded : IsUpgraded bytes (upgraded_text bytes) n
  upgraded = record {
    form = accept;
    rows = sym (ap length (rows-shaped (read_lines bytes) (heads form.v form.n form.k ++ form.listing) form.m form.rows shape) ∙ (form.number ∙ (sym (announced-shaped (read_lines bytes) (heads form.v form.n form.k ++ form.listing) form.m form.rows shape) ∙ found.1)));
    lines = new_lines;
    longest = longest_runs (listed_in (upper_lines (read_lines bytes)));
    same = λ entries flags are. (new_to_old (closure_of entries flags), old_to_new (closure_of entries flags));
  }

-- ---- what is rejected

has_below : (entries : List (List ℕ)) (flags : List Bool) (k : ℕ) → AreEntries entries → (k == number_count entries) ≡ true → (s : ℕ) → (closure_of entries flags).has_state s ≡ true → nat_lt s k ≡ true
has_below entries flags k are e s is = elim (cases_lt s k) [
  | inl lt ↦ lt-ltb s k lt
  | inr ge ↦ (let same = eqb-true k (number_count entries) e in absurd (true≢false (sym is ∙ known_below entries (flagged_entries entries flags) s (flagged-are entries flags are) (omega (arith, ge, same)))))
]

-- rows that are those of pairs are rows
rows_form : (closure : Closure) (listed : List Listed) (lines : Lines) (at : ℕ) (pairs : List Pair) → AllHold (row_checks closure listed lines at pairs) → AllHold (row_forms lines at (length pairs))
rows_form closure listed lines at [] h = tt
rows_form closure listed lines at (p ∷ ps) h =
    let two = AllHold-append (row_check closure listed lines (at + 1, p)) (row_checks closure listed lines (at + 1) ps) h in
    (two.0.0, rows_form closure listed lines (at + 1) ps two.1)

-- the form of the lines down to the conflicts
upper_form : (v n k : ℕ) (others : Lines) (m : ℕ) (rest : Lines) → HasNoConflicts others → ((v == 1) || (v == 2)) ≡ true → ListingHolds form_check (heads v n k) others → nat_le k most_numbers ≡ true →
    AllHold (upper_from form_check [] ((heads v n k ++ others) ++ Some (of.Conflicts m) ∷ rest))
upper_form v n k others m rest plain version hold small = (version, (refl, (refl, (refl, (refl, (small, above_back form_check (heads v n k) others m rest plain hold (omega arith) refl))))))

-- A valid certificate has the right form.
pub valid_form : (entries : List (List ℕ)) (flags : List Bool) (lines : Lines) → AreEntries entries → number_count entries ≤ most_numbers → AllHold (all_checks (closure_of entries flags) lines) → AllHold (form_checks lines)
valid_form entries flags lines are few h = by (above_of (content_check (closure_of entries flags)) [] lines (subst AllHold (upper_checks-from (content_check (closure_of entries flags)) lines) parts.0))
  where
    parts : AllHold (upper_checks (content_check (closure_of entries flags)) lines)
        × AllHold (listing_checks (closure_of entries flags) (closure_of entries flags).targets (conflicts_line lines) (upper_lines lines) (announced (line_at lines (conflicts_line lines))) ++ lower_checks (closure_of entries flags) (listed_in (upper_lines lines)) lines (conflicts_line lines))
    parts = AllHold-append (upper_checks (content_check (closure_of entries flags)) lines) _ h

    below_parts : AllHold (listing_checks (closure_of entries flags) (closure_of entries flags).targets (conflicts_line lines) (upper_lines lines) (announced (line_at lines (conflicts_line lines)))) × AllHold (lower_checks (closure_of entries flags) (listed_in (upper_lines lines)) lines (conflicts_line lines))
    below_parts = AllHold-append (listing_checks (closure_of entries flags) (closure_of entries flags).targets (conflicts_line lines) (upper_lines lines) (announced (line_at lines (conflicts_line lines)))) _ parts.1

    pairs : List Pair
    pairs = listed_pairs (closure_of entries flags) (listed_in (upper_lines lines))

    lower : AllHold (lower_forms lines (conflicts_line lines) (announced (line_at lines (conflicts_line lines))))
    lower =
        let two = AllHold-append (row_checks (closure_of entries flags) (listed_in (upper_lines lines)) lines (conflicts_line lines) (listed_pairs (closure_of entries flags) (listed_in (upper_lines lines)))) _ below_parts.1 in
        let middle = AllHold-append (move_checks (closure_of entries flags).targets (conflicts_line lines) (upper_lines lines)) _ below_parts.0.1 in
        let count = eqb-true (announced (line_at lines (conflicts_line lines))) (length (listed_pairs (closure_of entries flags) (listed_in (upper_lines lines)))) middle.1.0 in
        let rows = rows_form (closure_of entries flags) (listed_in (upper_lines lines)) lines (conflicts_line lines) (listed_pairs (closure_of entries flags) (listed_in (upper_lines lines))) two.0 in
        subst (λ i. AllHold (lower_forms lines (conflicts_line lines) i)) (sym count) (AllHold-join (row_forms lines (conflicts_line lines) (length (listed_pairs (closure_of entries flags) (listed_in (upper_lines lines))))) _ rows two.1)

    by : IsAbove (content_check (closure_of entries flags)) [] lines → AllHold (form_checks lines)
    by a =
        let hd = headed_of (content_check (closure_of entries flags)) a.listing (let le = a.long in omega (arith, le)) a.hold in
        let held = listing_form (closure_of entries flags) hd.k (heads hd.v hd.n hd.k) hd.others (has_below entries flags hd.k are hd.states) (omega arith, refl) hd.hold in
        let same = eqb-true hd.k (number_count entries) hd.states in
        let small : nat_le hd.k most_numbers ≡ true = le-leb hd.k most_numbers (omega (arith, same, few)) in
        let plain = plain_behind (heads hd.v hd.n hd.k) hd.others (subst HasNoConflicts hd.split a.plain) in
        let upper = upper_form hd.v hd.n hd.k hd.others a.n a.rest plain hd.version held small in
        let is : (heads hd.v hd.n hd.k ++ hd.others) ++ Some (of.Conflicts a.n) ∷ a.rest ≡ lines = sym (a.split ∙ ap (λ ls. ls ++ Some (of.Conflicts a.n) ∷ a.rest) hd.split) in
        AllHold-join (upper_checks form_check lines) _ (subst AllHold (sym (upper_checks-from form_check lines)) (subst (λ ls. AllHold (upper_from form_check [] ls)) is upper)) lower

-- The law of what is rejected.
pub never_valid : (bytes : List ℕ) (line : ℕ) (why : Why) → upgrade_outcome bytes ≡ rejected line why → IsNeverValid bytes
never_valid bytes line why e entries flags are few valid =
    holding_stands (readable bytes) (announces bytes) line why (form_checks (read_lines bytes)) (valid_form entries flags (read_lines bytes) are few (valid_holds (closure_of entries flags) bytes valid)) e

-- ---- what follows from the answer

-- What was accepted is upgraded.
pub upgraded_of : (r : Result Upgraded CheckFault) (held : Option Held) (name : List ℕ) → IfOk r (λ done. IfSome held (λ h. upgrade_outcome (h name) ≡ accepted done.conflicts)) →
    IfOk r (λ done. IfSome held (λ h. IsUpgraded (h name) (upgraded_text (h name)) done.conflicts))
upgraded_of (Ok done) None name is = tt
upgraded_of (Ok done) (Some h) name is = upgraded (h name) done.conflicts is
upgraded_of (Err f) held name is = tt

invalid_of : (bytes : List ℕ) (f : CheckFault) → IsFaultOf (upgrade_outcome bytes) f → IsNeverValidIfRejected bytes f
invalid_of bytes (fault.Rejected line why) is = never_valid bytes line why is
invalid_of bytes fault.TooLong is = tt
invalid_of bytes fault.Failed is = tt
invalid_of bytes fault.Memory is = tt

-- What was rejected is valid for no stack.
pub cause_of : (r : Result Upgraded CheckFault) (held : Option Held) (name : List ℕ) → IfErr r (λ f. IfSome held (λ h. IsFaultOf (upgrade_outcome (h name)) f)) → IfErr r (λ f. IfSome held (λ h. IsUpgradeCause (h name) f))
cause_of (Ok done) held name is = tt
cause_of (Err f) None name is = tt
cause_of (Err f) (Some h) name is = record { outcome = is; invalid = invalid_of (h name) f is }
