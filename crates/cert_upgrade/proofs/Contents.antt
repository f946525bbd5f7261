-- Validity by what a certificate says: whatever its version, and however its states are listed.
use Rattle.std.proofs.Common.{◌≡◌, ℕ, suc, ◌+◌, ◌<◌, ◌≤◌, List, [], ◌∷◌, ◌++◌, length, map, drop, refl, sym, ap, subst, arith, Bool, true, cond, true≢false, Option, Some, None, ◌∙◌, append_assoc, append-nil, Contains}
use Rattle.std.specs.Prelude.{◌||◌, ◌==◌, nat_lt}
use Rattle.std.specs.List.{list_all}
use Rattle.std.proofs.Math.Seq.{drop-append_seam}
use Rattle.std.proofs.lemmas.Bool.{eqb-true}
use Rattle.std.proofs.lemmas.List.{length_push, length-append, length-map}
use Rattle.std.proofs.lemmas.List.Folds.{list_all-append}
use Rattle.longest_match.specs.Rows.{Row}
use Rattle.steno_rules.proofs.Lists.{in_first, in_later, in_map_of}
use Rattle.certificate.specs.declared.lines.CertLine.{CertLine}
use Rattle.certificate.specs.declared.lines.CertLine.TheVariants as of
use Rattle.certificate.specs.CertTexts.{Listed}
use Rattle.report.specs.declared.faults.Why.TheVariants as why
use Rattle.certificate_laws.specs.Checks.{Check, ContentCheck, Lines, announced, certificate_rows, conflicts_line, end_checks, is_version, line_at, listed_by, listed_in, may_be_listed, may_follow, may_follow_at, rise_above, then_check, upper_checks, upper_lines}
use Rattle.certificate_laws.specs.Closures.{Closure, Pair}
use Rattle.certificate_laws.specs.Validity.{all_checks, content_check, is_listed_within, leads_on_by, listed_on_lines, listed_pairs, listing_checks, lower_checks, move_checks, row_checks}
use Rattle.certificate_laws.specs.inside.Holding.{AllHold}
use Rattle.certificate_laws.specs.inside.OnLines.{state_on_line}
use Rattle.certificate_laws.proofs.HoldLemmas.{AllHold-append, both, both_back, AllHold-join}
use Rattle.certificate_laws.proofs.ListingLemmas.{leads_all, on_lines-listed}
use Rattle.certificate_laws.proofs.RowLemmas.{AreRowsOf, rows_behind}
use Rattle.certificate_laws.proofs.UpperLemmas.{line_after, upper_checks-from, upper_from}
use Rattle.audit_certificate.proofs.RowsHeld.{end_held, row_lines_held}
use Rattle.cert_check.proofs.AnswerLemmas.{due_entries, due_states}
use Rattle.cert_upgrade.specs.Forms.{announced_states, form_check, is_announced}
use Rattle.cert_upgrade.specs.inside.Stages.{row_read}
use Rattle.cert_upgrade.proofs.FormAnswers.{third_stays}
use Rattle.cert_upgrade.proofs.Shapes.{HasNoConflicts, IsShaped, ListingHolds, above_back, below, position_plain, rows-read, upper-shaped}

-- ---- the lines

-- the first three lines
abbrev pub heads : ℕ → ℕ → ℕ → Lines
heads v n k = Some (of.Head v) ∷ Some (of.Entries n) ∷ Some (of.States k) ∷ []

-- all lines of a certificate
abbrev pub whole : ℕ → ℕ → ℕ → Lines → ℕ → List Row → Lines
whole v n k listing m rows = (heads v n k ++ listing) ++ below m rows

-- the lines of a listing list their states, where the first three don't
listed-heads : (v n k : ℕ) (listing : Lines) → listed_in (heads v n k ++ listing) ≡ listed_in listing
listed-heads v n k listing = refl

-- ---- what is checked of a line of a listing

-- the line may stand in a listing: it is no line of the first three
is_quiet : (before : Lines) (n : ℕ) → 3 ≤ length before → (length before == n) ≡ true → n < 3 → ⊥
is_quiet before n long e less = let same = eqb-true (length before) n e in omega (arith, long, same, less)

-- Of a line behind the first three its states are checked.
content_listing : (closure : Closure) (before : Lines) (n : ℕ) (l : Option CertLine) → 3 ≤ length before → may_follow before l ≡ true → (content_check closure before n l).holds ≡ may_be_listed closure.has_state (listed_in before) (listed_by l)
content_listing closure before n None long due = refl
content_listing closure before n (Some (of.Head v)) long due = refl
content_listing closure before n (Some (of.Entries k)) long due = absurd (is_quiet before 1 long (sym (due_entries before (length before) k) ∙ due) (omega arith))
content_listing closure before n (Some (of.States k)) long due = absurd (is_quiet before 2 long (sym (due_states before (length before) k) ∙ due) (omega arith))
content_listing closure before n (Some (of.Distance s d)) long due = refl
content_listing closure before n (Some (of.Run s t d)) long due = refl
content_listing closure before n (Some (of.Conflicts k)) long due = refl
content_listing closure before n (Some (of.Row r)) long due = refl
content_listing closure before n (Some of.End) long due = refl

pub form_listing : (before : Lines) (n : ℕ) (l : Option CertLine) → 3 ≤ length before → may_follow before l ≡ true → (form_check before n l).holds ≡ may_be_listed (is_announced before) (listed_in before) (listed_by l)
form_listing before n None long due = refl
form_listing before n (Some (of.Head v)) long due = refl
form_listing before n (Some (of.Entries k)) long due = absurd (is_quiet before 1 long (sym (due_entries before (length before) k) ∙ due) (omega arith))
form_listing before n (Some (of.States k)) long due = absurd (is_quiet before 2 long (sym (due_states before (length before) k) ∙ due) (omega arith))
form_listing before n (Some (of.Distance s d)) long due = refl
form_listing before n (Some (of.Run s t d)) long due = refl
form_listing before n (Some (of.Conflicts k)) long due = refl
form_listing before n (Some (of.Row r)) long due = refl
form_listing before n (Some of.End) long due = refl

-- each of these states is known
abbrev pub AreKnown : (ℕ → Bool) → List Listed → Type 0
AreKnown is_known states = list_all (λ s. is_known s.state) states ≡ true

-- what is known of a state that passes one test passes another
all_by : (p q : ℕ → Bool) (states : List Listed) → ((n : ℕ) → p n ≡ true → q n ≡ true) → AreKnown p states → AreKnown q states
all_by p q [] f h = refl
all_by p q (s ∷ ss) f h = let two = both (p s.state) (list_all (λ x. p x.state) ss) h in both_back (q s.state) (list_all (λ x. q x.state) ss) (f s.state two.0) (all_by p q ss f two.1)

pub third_more : (k : ℕ) (before : Lines) (l : Option CertLine) → (3 ≤ length before) × (announced_states (line_at before 3) ≡ k) → (3 ≤ length (before ++ l ∷ [])) × (announced_states (line_at (before ++ l ∷ []) 3) ≡ k)
third_more k before l h = let p = length_push before l in (omega (arith, h.0, p), ap announced_states (third_stays before l h.0) ∙ h.1)

-- The states of a listing whose contents hold are known.
pub listing_known : (closure : Closure) (before listing : Lines) → 3 ≤ length before → ListingHolds (content_check closure) before listing → AreKnown closure.has_state (listed_in listing)
listing_known closure before [] long hold = refl
listing_known closure before (l ∷ ls) long hold =
    let two = both (rise_above (listed_in before) (listed_by l)) (list_all (λ s. closure.has_state s.state) (listed_by l)) (sym (content_listing closure before (length before + 1) l long hold.0) ∙ hold.1) in
    let rest = listing_known closure (before ++ l ∷ []) ls (let p = length_push before l in omega (arith, long, p)) hold.2 in
    list_all-append (λ s. closure.has_state s.state) (listed_by l) (listed_in ls) ∙ both_back (list_all (λ s. closure.has_state s.state) (listed_by l)) (list_all (λ s. closure.has_state s.state) (listed_in ls)) two.1 rest

-- Where the contents hold the form does, if each state is announced;
pub listing_form : (closure : Closure) (k : ℕ) (before listing : Lines) → ((n : ℕ) → closure.has_state n ≡ true → nat_lt n k ≡ true) → (3 ≤ length before) × (announced_states (line_at before 3) ≡ k) →
    ListingHolds (content_check closure) before listing → ListingHolds form_check before listing
listing_form closure k before [] within at hold = tt
listing_form closure k before (l ∷ ls) within at hold =
    let two = both (rise_above (listed_in before) (listed_by l)) (list_all (λ s. closure.has_state s.state) (listed_by l)) (sym (content_listing closure before (length before + 1) l at.0 hold.0) ∙ hold.1) in
    let known : AreKnown (is_announced before) (listed_by l) = all_by closure.has_state (is_announced before) (listed_by l) (λ n is. ap (nat_lt n) at.1 ∙ within n is) two.1 in (
      hold.0,
      form_listing before (length before + 1) l at.0 hold.0 ∙ both_back (rise_above (listed_in before) (listed_by l)) (list_all (λ s. is_announced before s.state) (listed_by l)) two.0 known,
      listing_form closure k (before ++ l ∷ []) ls within (third_more k before l at) hold.2,
    )

-- and where the form holds the contents do, if each state is known.
pub listing_content : (closure : Closure) (before listing : Lines) → 3 ≤ length before → AreKnown closure.has_state (listed_in listing) → ListingHolds form_check before listing → ListingHolds (content_check closure) before listing
listing_content closure before [] long known hold = tt
listing_content closure before (l ∷ ls) long known hold =
    let parts = both (list_all (λ s. closure.has_state s.state) (listed_by l)) (list_all (λ s. closure.has_state s.state) (listed_in ls)) (sym (list_all-append (λ s. closure.has_state s.state) (listed_by l) (listed_in ls)) ∙ known) in
    let two = both (rise_above (listed_in before) (listed_by l)) (list_all (λ s. is_announced before s.state) (listed_by l)) (sym (form_listing before (length before + 1) l long hold.0) ∙ hold.1) in (
      hold.0,
      content_listing closure before (length before + 1) l long hold.0 ∙ both_back (rise_above (listed_in before) (listed_by l)) (list_all (λ s. closure.has_state s.state) (listed_by l)) two.0 parts.0,
      listing_content closure (before ++ l ∷ []) ls (let p = length_push before l in omega (arith, long, p)) parts.1 hold.2,
    )

-- ---- the first three lines

is_head : (l : Option CertLine) → (is_version l 1 || is_version l 2) ≡ true → (v : ℕ) × (l ≡ Some (of.Head v))
is_head None e = absurd (true≢false (sym e))
is_head (Some (of.Head v)) e = (v, refl)
is_head (Some (of.Entries k)) e = absurd (true≢false (sym e))
is_head (Some (of.States k)) e = absurd (true≢false (sym e))
is_head (Some (of.Distance s d)) e = absurd (true≢false (sym e))
is_head (Some (of.Run s t d)) e = absurd (true≢false (sym e))
is_head (Some (of.Conflicts k)) e = absurd (true≢false (sym e))
is_head (Some (of.Row r)) e = absurd (true≢false (sym e))
is_head (Some of.End) e = absurd (true≢false (sym e))

is_second : (before : Lines) (l : Option CertLine) → may_follow_at before 1 l ≡ true → (n : ℕ) × (l ≡ Some (of.Entries n))
is_second before None e = absurd (true≢false (sym e))
is_second before (Some (of.Head v)) e = absurd (true≢false (sym e))
is_second before (Some (of.Entries k)) e = (k, refl)
is_second before (Some (of.States k)) e = absurd (true≢false (sym e))
is_second before (Some (of.Distance s d)) e = absurd (true≢false (sym e))
is_second before (Some (of.Run s t d)) e = absurd (true≢false (sym e))
is_second before (Some (of.Conflicts k)) e = absurd (true≢false (sym e))
is_second before (Some (of.Row r)) e = absurd (true≢false (sym e))
is_second before (Some of.End) e = absurd (true≢false (sym e))

is_third : (before : Lines) (l : Option CertLine) → may_follow_at before 2 l ≡ true → (n : ℕ) × (l ≡ Some (of.States n))
is_third before None e = absurd (true≢false (sym e))
is_third before (Some (of.Head v)) e = absurd (true≢false (sym e))
is_third before (Some (of.Entries k)) e = absurd (true≢false (sym e))
is_third before (Some (of.States k)) e = (k, refl)
is_third before (Some (of.Distance s d)) e = absurd (true≢false (sym e))
is_third before (Some (of.Run s t d)) e = absurd (true≢false (sym e))
is_third before (Some (of.Conflicts k)) e = absurd (true≢false (sym e))
is_third before (Some (of.Row r)) e = absurd (true≢false (sym e))
is_third before (Some of.End) e = absurd (true≢false (sym e))

-- the first three lines of a certificate, with what is said of them, and its listing
pub record IsHeaded (content : ContentCheck) (listing : Lines) : Type 0 where
  pub v : ℕ
  pub n : ℕ
  pub k : ℕ
  pub others : Lines
  pub split : listing ≡ heads v n k ++ others
  pub version : ((v == 1) || (v == 2)) ≡ true
  pub head : (content [] 1 (Some (of.Head v))).holds ≡ true
  pub entries : (content (Some (of.Head v) ∷ []) 2 (Some (of.Entries n))).holds ≡ true
  pub states : (content (Some (of.Head v) ∷ Some (of.Entries n) ∷ []) 3 (Some (of.States k))).holds ≡ true
  pub hold : ListingHolds content (heads v n k) others

pub headed_of : (content : ContentCheck) (listing : Lines) → 3 ≤ length listing → ListingHolds content [] listing → IsHeaded content listing
headed_of content [] long hold = absurd (omega (arith, long))
headed_of content (a ∷ []) long hold = absurd (omega (arith, long))
headed_of content (a ∷ b ∷ []) long hold = absurd (omega (arith, long))
headed_of content (a ∷ b ∷ c ∷ ls) long hold =
    let x = is_head a hold.0 in
    let y = is_second (a ∷ []) b hold.2.0 in
    let z = is_third (a ∷ b ∷ []) c hold.2.2.0 in
    let first = subst (λ l. ListingHolds content [] (l ∷ b ∷ c ∷ ls)) x.1 hold in
    let second = subst (λ l. ListingHolds content [] (Some (of.Head x.0) ∷ l ∷ c ∷ ls)) y.1 first in
    let third = subst (λ l. ListingHolds content [] (Some (of.Head x.0) ∷ Some (of.Entries y.0) ∷ l ∷ ls)) z.1 second in
    record {
      v = x.0;
      n = y.0;
      k = z.0;
      others = ls;
      split = ap (λ l. l ∷ b ∷ c ∷ ls) x.1 ∙ (ap (λ l. Some (of.Head x.0) ∷ l ∷ c ∷ ls) y.1 ∙ ap (λ l. Some (of.Head x.0) ∷ Some (of.Entries y.0) ∷ l ∷ ls) z.1);
      version = third.0;
      head = third.1;
      entries = third.2.1;
      states = third.2.2.1;
      hold = third.2.2.2;
    }

-- ---- where the lines stand

module _ (v n k : ℕ) (listing : Lines) (m : ℕ) (rows : List Row) (plain : HasNoConflicts listing) where
  pub conflicts-whole : conflicts_line (whole v n k listing m rows) ≡ length (heads v n k ++ listing) + 1
  conflicts-whole = ap (λ i. 1 + (1 + (1 + i)) + 1) (position_plain listing m (map row_read rows ++ Some of.End ∷ []) plain) ∙ (let e : 1 + (1 + (1 + length listing)) + 1 ≡ suc (suc (suc (length listing))) + 1 = omega arith in e)

  pub whole-shaped : certificate_rows listing ≡ [] → length rows ≡ m → IsShaped (whole v n k listing m rows) (heads v n k ++ listing) m rows
  whole-shaped none number = record { split = refl; at = conflicts-whole; long = omega arith; none = none; number = number }

-- ---- what a certificate says

-- The listing of checks that hold.
pub above_to : (content : ContentCheck) (before listing : Lines) (m : ℕ) (rest : Lines) → HasNoConflicts listing → AllHold (upper_from content before (listing ++ Some (of.Conflicts m) ∷ rest)) → ListingHolds content before listing
above_to content before [] m rest plain h = tt
above_to content before (l ∷ ls) m rest plain h =
    (h.0, h.1.0, above_to content (before ++ l ∷ []) ls m rest plain.1 (subst (λ b. AllHold (cond b [] (upper_from content (before ++ l ∷ []) (ls ++ Some (of.Conflicts m) ∷ rest)))) plain.0 h.1.1))

-- a certificate is valid that announces so many entries, numbers of states and conflicts, and has these states and rows
pub record IsContentValid (closure : Closure) (n k : ℕ) (listed : List Listed) (m : ℕ) (rows : List Row) : Type 0 where
  pub entries : (n == length closure.outlines) ≡ true
  pub states : (k == closure.count) ≡ true
  pub known : AreKnown closure.has_state listed
  pub starts : is_listed_within listed 0 0 ≡ true
  pub moves : (s : Listed) → Contains listed s → leads_on_by closure.targets listed s ≡ true
  pub count : (m == length (listed_pairs closure listed)) ≡ true
  pub are_rows : AreRowsOf closure listed (listed_pairs closure listed) rows

-- all checks, by where the conflicts line is, what is above it, and what it announces
abbrev checks_at : Closure → Lines → ℕ → Lines → ℕ → List Check
checks_at closure lines at above m =
    upper_checks (content_check closure) lines
    ++ (listing_checks closure closure.targets at above m ++ lower_checks closure (listed_in above) lines at)

each_holds : {A : Type 0} (f : A → Check) (xs : List A) → ((x : A) → Contains xs x → (f x).holds ≡ true) → AllHold (map f xs)
each_holds f [] h = tt
each_holds f (x ∷ xs) h = (h x (in_first x xs), each_holds f xs (λ y has. h y (in_later x xs y has)))

-- the checks down to the conflicts, one after another
module _ (content : ContentCheck) (v n k : ℕ) (listing : Lines) (m : ℕ) (rows : List Row) (plain : HasNoConflicts listing) where
  -- those of the first three lines and of the listing
  pub record UpperHolds : Type 0 where
    pub entries : (content (Some (of.Head v) ∷ []) 2 (Some (of.Entries n))).holds ≡ true
    pub states : (content (Some (of.Head v) ∷ Some (of.Entries n) ∷ []) 3 (Some (of.States k))).holds ≡ true
    pub hold : ListingHolds content (heads v n k) listing

  pub upper_holds : AllHold (upper_checks content (whole v n k listing m rows)) → UpperHolds
  upper_holds h =
      let u = subst AllHold (upper_checks-from content (whole v n k listing m rows)) h in record {
        entries = u.1.1.1.0;
        states = u.1.1.1.1.1.0;
        hold = above_to content (heads v n k) listing m (map row_read rows ++ Some of.End ∷ []) plain u.1.1.1.1.1.1;
      }

  pub upper_back : ((v == 1) || (v == 2)) ≡ true → (content [] 1 (Some (of.Head v))).holds ≡ true → UpperHolds →
      (content (heads v n k ++ listing) (length (heads v n k ++ listing) + 1) (Some (of.Conflicts m))).holds ≡ true → AllHold (upper_checks content (whole v n k listing m rows))
  upper_back version head u said =
      subst AllHold (sym (upper_checks-from content (whole v n k listing m rows)))
      (version, (head, (refl, (u.entries, (refl, (u.states, above_back content (heads v n k) listing m (map row_read rows ++ Some of.End ∷ []) plain u.hold (omega arith) said))))))

module _ (closure : Closure) (v n k : ℕ) (listing : Lines) (m : ℕ) (rows : List Row) (plain : HasNoConflicts listing) (shaped : IsShaped (whole v n k listing m rows) (heads v n k ++ listing) m rows) where
  abbrev lines : Lines
  lines = whole v n k listing m rows

  abbrev above : Lines
  above = heads v n k ++ listing

  abbrev at : ℕ
  at = length (heads v n k ++ listing) + 1

  abbrev listed : List Listed
  listed = listed_in listing

  announced_at : announced (line_at lines at) ≡ m
  announced_at = ap announced (line_after above (below m rows))

  to_here : AllHold (all_checks closure lines) → AllHold (checks_at closure lines at above m)
  to_here h =
      let a = subst (λ a. AllHold (checks_at closure lines a (upper_lines lines) (announced (line_at lines a)))) shaped.at h in
      let b = subst (λ u. AllHold (checks_at closure lines at u (announced (line_at lines at)))) (upper-shaped lines above m rows shaped) a in
      subst (λ t. AllHold (checks_at closure lines at above t)) announced_at b

  from_here : AllHold (checks_at closure lines at above m) → AllHold (all_checks closure lines)
  from_here h =
      let a = subst (λ t. AllHold (checks_at closure lines at above t)) (sym announced_at) h in
      let b = subst (λ u. AllHold (checks_at closure lines at u (announced (line_at lines at)))) (sym (upper-shaped lines above m rows shaped)) a in
      subst (λ a. AllHold (checks_at closure lines a (upper_lines lines) (announced (line_at lines a)))) (sym shaped.at) b

  abbrev down : Lines
  down = above ++ Some (of.Conflicts m) ∷ []

  lines_down : lines ≡ down ++ (map row_read rows ++ Some of.End ∷ [])
  lines_down = sym (append_assoc above (Some (of.Conflicts m) ∷ []) (map row_read rows ++ Some of.End ∷ []))

  length-down : length down ≡ at
  length-down = length_push above (Some (of.Conflicts m))

  dropped : certificate_rows (drop at lines) ≡ rows
  dropped =
      ap (λ ls. certificate_rows (drop at ls)) lines_down
      ∙ (ap (λ i. certificate_rows (drop i (down ++ (map row_read rows ++ Some of.End ∷ [])))) (sym length-down)
      ∙ (ap certificate_rows (drop-append_seam down (map row_read rows ++ Some of.End ∷ [])) ∙ (rows-read rows (Some of.End ∷ []) ∙ append-nil rows)))

  -- A valid certificate says what is right,
  pub valid_to : AllHold (all_checks closure lines) → IsContentValid closure n k (listed_in listing) m rows
  valid_to h =
      let parts = AllHold-append (upper_checks (content_check closure) lines) (listing_checks closure closure.targets at above m ++ lower_checks closure (listed_in above) lines at) (to_here h) in
      let upper = upper_holds (content_check closure) v n k listing m rows plain parts.0 in
      let lower = AllHold-append (listing_checks closure closure.targets at above m) (lower_checks closure (listed_in above) lines at) parts.1 in
      let middle = AllHold-append (move_checks closure.targets at above) _ lower.0.1 in
      let ends = AllHold-append (row_checks closure listed lines at (listed_pairs closure listed)) (end_checks lines (at + length (listed_pairs closure listed))) lower.1 in
      record {
        entries = upper.entries;
        states = upper.states;
        known = listing_known closure (heads v n k) listing (omega arith) upper.hold;
        starts = lower.0.0;
        moves = λ s has. leads_all closure.targets at above s middle.0 has;
        count = middle.1.0;
        are_rows = subst (AreRowsOf closure listed (listed_pairs closure listed)) dropped (rows_behind closure listed lines at (listed_pairs closure listed) ends.0 ends.1);
      }

  -- and a certificate of the right form that says it is valid.
  pub valid_from : ((v == 1) || (v == 2)) ≡ true → ListingHolds form_check (heads v n k) listing → IsContentValid closure n k (listed_in listing) m rows → AllHold (all_checks closure lines)
  valid_from version hold c = from_here (AllHold-join (upper_checks (content_check closure) lines) _ upper (AllHold-join (listing_checks closure closure.targets at above m) _ middle lower))
    where
      upper : AllHold (upper_checks (content_check closure) lines)
      upper = upper_back (content_check closure) v n k listing m rows plain version refl
          (record { entries = c.entries; states = c.states; hold = listing_content closure (heads v n k) listing (omega arith) c.known hold }) refl

      middle : AllHold (listing_checks closure closure.targets at above m)
      middle = (
        c.starts,
        AllHold-join (move_checks closure.targets at above) _
            (each_holds (λ s. then_check at s.0 why.Move (leads_on_by closure.targets listed s.1)) (listed_on_lines 1 above) (λ s has.
            c.moves s.1 (subst (λ xs. Contains xs s.1) (on_lines-listed 1 above) (in_map_of state_on_line (listed_on_lines 1 above) s has))))
            (c.count, tt),
      )

      pairs : List Pair
      pairs = listed_pairs closure listed

      rows_hold : AllHold (row_checks closure listed lines at (listed_pairs closure listed))
      rows_hold =
          subst (λ ls. AllHold (row_checks closure listed ls at (listed_pairs closure listed))) (sym lines_down)
          (subst (λ i. AllHold (row_checks closure listed (down ++ (map row_read rows ++ Some of.End ∷ [])) i (listed_pairs closure listed))) length-down (row_lines_held closure listed down (listed_pairs closure listed) rows c.are_rows))

      end_holds : AllHold (end_checks lines (at + length (listed_pairs closure listed)))
      end_holds =
          let front : Lines = down ++ map row_read rows in
          let joined : front ++ Some of.End ∷ [] ≡ lines = append_assoc down (map row_read rows) (Some of.End ∷ []) ∙ sym lines_down in
          let a = length-append down (map row_read rows) in
          let b = length-map rows row_read in
          let d = length-down in
          let e = eqb-true m (length (listed_pairs closure listed)) c.count in
          let f = shaped.number in
          let long : length front ≡ at + length (listed_pairs closure listed) = omega (arith, a, b, d, e, f) in
          subst (λ i. AllHold (end_checks lines i)) long (subst (λ ls. AllHold (end_checks ls (length front))) joined (end_held front))

      lower : AllHold (lower_checks closure (listed_in above) lines at)
      lower = AllHold-join (row_checks closure listed lines at (listed_pairs closure listed)) (end_checks lines (at + length (listed_pairs closure listed))) rows_hold end_holds
