-- The certificate that an audit writes of itself is valid.
use Rattle.std.proofs.Common.{◌≡◌, ℕ, ◌+◌, ◌-◌, ◌^◌, ◌<◌, ◌≤◌, List, [], ◌∷◌, ◌++◌, length, map, flat_map, refl, sym, ap, subst, arith, Bool, true, not, cond, Some, None, ◌∙◌, append_assoc, Contains, AllPairs}
use Rattle.std.specs.Prelude.{◌&&◌, ◌==◌, nat_lt, nat_le}
use Rattle.std.specs.List.{list_all, range_with_len}
use Rattle.std.proofs.lemmas.Bool.{lt-ltb, eq-eqb}
use Rattle.std.proofs.lemmas.List.{map-append, length-map, length-append, length_push}
use Rattle.std.proofs.lemmas.List.Elements.{All-contains, Contains-append_left, Contains-append_right}
use Rattle.graph_rules.specs.Graphs.{IsBest}
use Rattle.steno_rules.specs.Outlines.{IsOutline, flagged_entries, outline_of}
use Rattle.steno_rules.specs.StateNumbers.{number_count}
use Rattle.steno_rules.specs.Conflicts.{IsWordNumber}
use Rattle.steno_rules.specs.ClosureGraphs.{kept_lists}
use Rattle.steno_rules.specs.States.{fresh, kept_targets}
use Rattle.steno_rules.proofs.FlaggedWords.{flagged-are}
use Rattle.steno_rules.proofs.Lists.{in_first, in_later, in_map_of}
use Rattle.closure_laws.proofs.GraphLemmas.{length-lists}
use Rattle.closure_laws.proofs.StateLemmas.{IsState-fresh}
use Rattle.closure_laws.proofs.StateNumberLemmas.{shape_of_state, shaped-below}
use Rattle.longest_match.specs.Rows.{IsShortest, IsSmall, Row}
use Rattle.certificate.specs.CertLines.{fits, is_u32}
use Rattle.certificate.specs.CertReading.{read_lines}
use Rattle.certificate.specs.CertTexts.{Listed, Run, certificate_lines, runs_of}
use Rattle.certificate.specs.declared.lines.CertLine.{CertLine}
use Rattle.certificate.specs.declared.lines.CertLine.TheVariants as of
use Rattle.certificate_laws.specs.Checks.{Check, Lines, announced, conflicts_line, end_checks, first_failure, line_at, listed_in, outcome_by, outcome_of, then_check, upper_checks, upper_lines}
use Rattle.certificate_laws.specs.Closures.{Closure, closure_of}
use Rattle.certificate_laws.specs.Validity.{IsValid, all_checks, content_check, is_listed_within, leads_on_by, listed_on_lines, listed_pairs, listing_checks, lower_checks, move_checks, row_checks}
use Rattle.certificate_laws.specs.inside.Holding.{AllHold}
use Rattle.certificate_laws.specs.inside.OnLines.{state_on_line}
use Rattle.report.specs.declared.faults.Why.TheVariants as why
use Rattle.certificate_laws.proofs.ListingLemmas.{on_lines-listed}
use Rattle.certificate_laws.proofs.NearLemmas.{least_below}
use Rattle.audit_certificate.specs.Runs.{states_of_run}
use Rattle.audit_certificate.specs.OwnCertificates.{IsAudited, own_certificate, reached_states}
use Rattle.audit_certificate.proofs.PassingAll.{all_pass, in_range, one_passes}
use Rattle.audit_certificate.proofs.RunLemmas.{HaveStates, runs-have, runs-states}
use Rattle.audit_certificate.proofs.ReadBack.{AllFit, AllFit-append, read_back}
use Rattle.audit_certificate.proofs.ReachedStates.{Rises, reached_rise}
use Rattle.audit_certificate.proofs.UpperHeld.{run_line, headed, listed-runs, upper_held, conflicts_line-is, upper_lines-is, conflicts_there}
use Rattle.audit_certificate.proofs.HitDistances.{of_listed, to_listed, is_known, leads_on}
use Rattle.audit_certificate.proofs.RowsHeld.{pair_of, row_line, least_of, listed_pairs-rows, rows_of_listed, row_lines_held, end_held}

-- ---- checks that all hold

AllHold-join : (xs ys : List Check) → AllHold xs → AllHold ys → AllHold (xs ++ ys)
AllHold-join [] ys a b = b
AllHold-join (x ∷ xs) ys a b = (a.0, AllHold-join xs ys a.1 b)

holds_none : (checks : List Check) → AllHold checks → first_failure None checks ≡ None
holds_none [] h = refl
holds_none (c ∷ cs) h = ap (λ b. cond (not (b && true)) (Some c) (first_failure None cs)) h.0 ∙ holds_none cs h.1

-- a check of each of these holds
each_holds : {A : Type 0} (f : A → Check) (xs : List A) → ((x : A) → Contains xs x → (f x).holds ≡ true) → AllHold (map f xs)
each_holds f [] h = tt
each_holds f (x ∷ xs) h = (h x (in_first x xs), each_holds f xs (λ y has. h y (in_later x xs y has)))

-- ---- the lines fit

-- the number has room
room : (n : ℕ) → n < 2 ^ 32 → is_u32 n ≡ true
room n lt = lt-ltb n (2 ^ 32) lt

-- a listed state has room
abbrev HasRoom : Listed → Type 0
HasRoom s = (s.state < 2 ^ 32) × (s.distance < 2 ^ 32)

in_run : (r : Run) (k : ℕ) → r.first ≤ k → k ≤ r.last → Contains (states_of_run r) (record { state = k; distance = r.distance })
in_run r k ge le = in_map_of (λ state. record { state = state; distance = r.distance }) (range_with_len r.first (r.last + 1 - r.first)) k (in_range r.first (r.last + 1 - r.first) k ge (omega (arith, ge, le)))

three : (a b c : Bool) → a ≡ true → b ≡ true → c ≡ true → (a && b && c) ≡ true
three a b c ea eb ec = rw (ea, eb, ec) refl

runs_fit : (runs : List Run) → HaveStates runs → ((s : Listed) → Contains (flat_map states_of_run runs) s → HasRoom s) → AllFit (map (λ r. of.Run r.first r.last r.distance) runs)
runs_fit [] have small = tt
runs_fit (r ∷ rs) have small =
    let first : Listed = record { state = r.first; distance = r.distance } in
    let last : Listed = record { state = r.last; distance = r.distance } in
    let a = small first (Contains-append_left (states_of_run r) (flat_map states_of_run rs) first (in_run r r.first (omega arith) have.0)) in
    let b = small last (Contains-append_left (states_of_run r) (flat_map states_of_run rs) last (in_run r r.last have.0 (omega arith))) in (
      three (is_u32 r.first) (is_u32 r.last) (is_u32 r.distance) (room r.first a.0) (room r.last b.0) (room r.distance a.1),
      runs_fit rs have.1 (λ s has. small s (Contains-append_right (states_of_run r) (flat_map states_of_run rs) s has)),
    )

five : (a b c d e : Bool) → a ≡ true → b ≡ true → c ≡ true → d ≡ true → e ≡ true → (a && b && c && d && e) ≡ true
five a b c d e ea eb ec ed ee = rw (ea, eb, ec, ed, ee) refl

rows_fit : (rows : List Row) → ((r : Row) → Contains rows r → fits (of.Row r) ≡ true) → AllFit (map (λ r. of.Row r) rows)
rows_fit [] h = tt
rows_fit (r ∷ rs) h = (h r (in_first r rs), rows_fit rs (λ s has. h s (in_later r rs s has)))

-- ---- the lines as they are read

map-some : {A : Type 0} (f : A → CertLine) (xs : List A) → map Some (map f xs) ≡ map (λ x. Some (f x)) xs
map-some f [] = refl
map-some f (x ∷ xs) = ap (λ ys. Some (f x) ∷ ys) (map-some f xs)

-- the lines, as they are read
lines_are : (n count : ℕ) (listed : List Listed) (rows : List Row) →
    map Some (certificate_lines n count listed rows) ≡ headed n count (map run_line (runs_of listed) ++ Some (of.Conflicts (length rows)) ∷ (map row_line rows ++ Some of.End ∷ []))
lines_are n count listed rows =
    let runs : List CertLine = map (λ r. of.Run r.first r.last r.distance) (runs_of listed) in
    let below : List CertLine = map (λ r. of.Row r) rows in
    let joined : (runs ++ of.Conflicts (length rows) ∷ below) ++ of.End ∷ [] ≡ runs ++ (of.Conflicts (length rows) ∷ (below ++ of.End ∷ [])) = append_assoc runs (of.Conflicts (length rows) ∷ below) (of.End ∷ []) in
    ap (λ ls. headed n count (map Some ls)) joined
    ∙ (ap (headed n count) (map-append Some runs (of.Conflicts (length rows) ∷ (below ++ of.End ∷ [])))
    ∙ (ap (λ ls. headed n count (ls ++ Some (of.Conflicts (length rows)) ∷ map Some (below ++ of.End ∷ []))) (map-some (λ r. of.Run r.first r.last r.distance) (runs_of listed))
    ∙ ap (λ ls. headed n count (map run_line (runs_of listed) ++ Some (of.Conflicts (length rows)) ∷ ls)) (map-append Some below (of.End ∷ []) ∙ ap (λ ls. ls ++ Some of.End ∷ []) (map-some (λ r. of.Row r) rows))))

-- ---- all checks

module _ (entries : List (List ℕ)) (flags : List Bool) (table : List ℕ) (rows : List Row) (audit : IsAudited entries flags table rows) where
  abbrev closure : Closure
  closure = closure_of entries flags

  abbrev all : List Listed
  all = reached_states table

  abbrev runs : List Run
  runs = runs_of all

  abbrev n : ℕ
  n = length entries

  abbrev count : ℕ
  count = length table

  abbrev above : Lines
  above = headed n count (map run_line runs)

  abbrev below : Lines
  below = map row_line rows ++ Some of.End ∷ []

  abbrev lines : Lines
  lines = headed n count (map run_line runs ++ Some (of.Conflicts (length rows)) ∷ below)

  count_is : count ≡ number_count entries
  count_is = audit.settled.count ∙ length-lists entries (flagged_entries entries flags) (kept_targets entries (flagged_entries entries flags))

  in_all : (s : Listed) → Contains all s → (s.state < number_count entries) × IsBest 0 (kept_lists entries (flagged_entries entries flags)) s.state s.distance × (s.distance < number_count entries)
  in_all s has = of_listed entries flags table audit.are_entries audit.few_numbers audit.settled s has

  has_room : (s : Listed) → Contains (flat_map states_of_run runs) s → HasRoom s
  has_room s has =
      let at = in_all s (subst (λ xs. Contains xs s) (runs-states all) has) in
      let a = at.0 in let b = at.2 in let few = audit.few_numbers in (omega (arith, a, few), omega (arith, b, few))

  row_fits : (r : Row) → Contains rows r → fits (of.Row r) ≡ true
  row_fits r has =
      let small = All-contains (IsSmall entries) rows r audit.small.each has in
      let shown = (All-contains (IsShortest entries (flagged_entries entries flags)) rows r audit.conflicts.each has) in
      let outline : IsOutline (outline_of entries r.entry) = audit.are_outlines r.entry [] small.entry in
      let least = least_below entries (flagged_entries entries flags) r.entry r.place r.strokes (flagged-are entries flags audit.are_entries)
      (least_of entries flags table rows audit.are_entries audit.few_numbers audit.settled audit.conflicts r has) in
      let e = small.entry in let f = audit.few_entries in let p = shown.shown.before_end in let q = outline.at_most in let few = audit.few_numbers in
      five (is_u32 r.entry) (nat_lt r.place 256) (is_u32 r.strokes) (nat_lt 0 (length r.words)) (list_all is_u32 r.words)
      (room r.entry (omega (arith, e, f))) (lt-ltb r.place 256 (omega (arith, p, q))) (room r.strokes (omega (arith, least, few))) (lt-ltb 0 (length r.words) small.some)
      (all_pass is_u32 r.words (λ w at. let word = (All-contains (IsWordNumber entries (flagged_entries entries flags)) r.words w shown.are_words at).0 in room w (omega (arith, word, f))))

  all_fit : AllFit (certificate_lines n count all rows)
  all_fit =
      let c = count_is in let few = audit.few_numbers in (
        refl,
        (
          room n audit.few_entries,
          (
            room count (omega (arith, c, few)),
            AllFit-append (map (λ r. of.Run r.first r.last r.distance) runs ++ of.Conflicts (length rows) ∷ map (λ r. of.Row r) rows) (of.End ∷ [])
                (AllFit-append (map (λ r. of.Run r.first r.last r.distance) runs) (of.Conflicts (length rows) ∷ map (λ r. of.Row r) rows) (runs_fit runs (runs-have all) has_room) (room (length rows) audit.small.few, rows_fit rows row_fits))
                (refl, tt),
          ),
        ),
      )

  pub own_lines : read_lines (own_certificate n table rows) ≡ map Some (certificate_lines n count all rows)
  own_lines = read_back (certificate_lines n count all rows) all_fit

  -- It is read back as these lines.
  pub read_is : read_lines (own_certificate n table rows) ≡ lines
  read_is = own_lines ∙ lines_are n count all rows

  listed_is : listed_in above ≡ all
  listed_is = listed-runs runs ∙ runs-states all

  upper_hold : AllHold (upper_checks (content_check closure) lines)
  upper_hold = upper_held closure n count runs (length rows) below refl count_is (runs-have all)
      (subst (AllPairs Rises) (sym (runs-states all)) (reached_rise 0 table))
      (ap (list_all (λ s. closure.has_state s.state)) (runs-states all) ∙ all_pass (λ s. closure.has_state s.state) all (λ s has. is_known entries flags table audit.are_entries audit.few_numbers audit.settled s has))

  starts : is_listed_within (listed_in above) 0 0 ≡ true
  starts = ap (λ xs. is_listed_within xs 0 0) listed_is ∙ one_passes (λ s. (s.state == 0) && nat_le s.distance 0) all (record { state = 0; distance = 0 }) (to_listed entries flags table audit.are_entries audit.few_numbers audit.settled 0 0 some_number (record { walk = refl; least = λ m walk. omega arith })) refl
    where
      some_number : 0 < number_count entries
      some_number = let below = shaped-below entries fresh (shape_of_state entries (flagged_entries entries flags) fresh (flagged-are entries flags audit.are_entries) (IsState-fresh entries (flagged_entries entries flags))) in omega (arith, below)

  moves_hold : (at : ℕ) → AllHold (move_checks closure.targets at above)
  moves_hold at = each_holds (λ s. then_check at s.0 why.Move (leads_on_by closure.targets (listed_in above) s.1)) (listed_on_lines 1 above) (λ s has.
      let listed : Contains all s.1 = subst (λ xs. Contains xs s.1) (on_lines-listed 1 above ∙ listed_is) (in_map_of state_on_line (listed_on_lines 1 above) s has) in
      ap (λ xs. leads_on_by closure.targets xs s.1) listed_is ∙ leads_on entries flags table audit.are_entries audit.few_numbers audit.settled s.1 listed)

  pairs_are : listed_pairs closure (listed_in above) ≡ map pair_of rows
  pairs_are = ap (listed_pairs closure) listed_is ∙ listed_pairs-rows entries flags table rows audit.are_entries audit.few_numbers audit.settled audit.conflicts

  listing_hold : (at : ℕ) → AllHold (listing_checks closure closure.targets at above (length rows))
  listing_hold at = (
    starts,
    AllHold-join (move_checks closure.targets at above) _ (moves_hold at)
        (eq-eqb (length rows) (length (listed_pairs closure (listed_in above))) (sym (ap length pairs_are ∙ length-map rows pair_of)), tt),
  )

  rows_hold : AllHold (row_checks closure all lines (length above + 1) (map pair_of rows))
  rows_hold =
      let front : Lines = above ++ Some (of.Conflicts (length rows)) ∷ [] in
      let joined : front ++ below ≡ lines = append_assoc above (Some (of.Conflicts (length rows)) ∷ []) below in
      let long : length front ≡ length above + 1 = length_push above (Some (of.Conflicts (length rows))) in
      subst (λ ls. AllHold (row_checks closure all ls (length above + 1) (map pair_of rows))) joined
      (subst (λ k. AllHold (row_checks closure all (front ++ below) k (map pair_of rows))) long
      (row_lines_held closure all front (map pair_of rows) rows (rows_of_listed entries flags table rows audit.are_entries audit.few_numbers audit.settled audit.conflicts)))

  end_hold : AllHold (end_checks lines (length above + 1 + length (map pair_of rows)))
  end_hold =
      let front : Lines = (above ++ Some (of.Conflicts (length rows)) ∷ []) ++ map row_line rows in
      let joined : front ++ Some of.End ∷ [] ≡ lines = append_assoc (above ++ Some (of.Conflicts (length rows)) ∷ []) (map row_line rows) (Some of.End ∷ []) ∙ append_assoc above (Some (of.Conflicts (length rows)) ∷ []) below in
      let a = length-append (above ++ Some (of.Conflicts (length rows)) ∷ []) (map row_line rows) in
      let b = length_push above (Some (of.Conflicts (length rows))) in
      let c = length-map rows row_line in
      let d = length-map rows pair_of in
      let long : length front ≡ length above + 1 + length (map pair_of rows) = omega (arith, a, b, c, d) in
      subst (λ k. AllHold (end_checks lines k)) long (subst (λ ls. AllHold (end_checks ls (length front))) joined (end_held front))

  lower_hold : AllHold (lower_checks closure (listed_in above) lines (length above + 1))
  lower_hold = subst (λ ps. AllHold (row_checks closure (listed_in above) lines (length above + 1) ps ++ end_checks lines (length above + 1 + length ps))) (sym pairs_are)
      (subst (λ xs. AllHold (row_checks closure xs lines (length above + 1) (map pair_of rows) ++ end_checks lines (length above + 1 + length (map pair_of rows)))) (sym listed_is)
      (AllHold-join (row_checks closure all lines (length above + 1) (map pair_of rows)) (end_checks lines (length above + 1 + length (map pair_of rows))) rows_hold end_hold))

  -- the checks, by the place of the conflicts and the lines above
  abbrev checks_at : ℕ → Lines → ℕ → List Check
  checks_at at upper announces = upper_checks (content_check closure) lines ++ (listing_checks closure closure.targets at upper announces ++ lower_checks closure (listed_in upper) lines at)

  all_hold : AllHold (all_checks closure lines)
  all_hold =
      let at_is : conflicts_line lines ≡ length above + 1 = conflicts_line-is closure n count runs (length rows) below in
      let upper_is : upper_lines lines ≡ above = upper_lines-is closure n count runs (length rows) below in
      let there : announced (line_at lines (length above + 1)) ≡ length rows = ap announced (conflicts_there closure n count runs (length rows) below) in
      let here : AllHold (checks_at (length above + 1) above (length rows)) =
      AllHold-join (upper_checks (content_check closure) lines) _ upper_hold (AllHold-join (listing_checks closure closure.targets (length above + 1) above (length rows)) _ (listing_hold (length above + 1)) lower_hold) in
      let told = subst (λ k. AllHold (checks_at (length above + 1) above k)) (sym there) here in
      let upper = subst (λ ls. AllHold (checks_at (length above + 1) ls (announced (line_at lines (length above + 1))))) (sym upper_is) told in
      subst (λ k. AllHold (checks_at k (upper_lines lines) (announced (line_at lines k)))) (sym at_is) upper

  -- The certificate that an audit writes of itself is valid.
  pub own_valid : IsValid closure (own_certificate n table rows)
  own_valid = (
    announced (line_at lines (conflicts_line lines)),
    (
        ap (λ ls. outcome_of None ls (all_checks closure ls)) read_is
        ∙ ap (outcome_by None (announced (line_at lines (conflicts_line lines)))) (holds_none (all_checks closure lines) all_hold)),
  )
