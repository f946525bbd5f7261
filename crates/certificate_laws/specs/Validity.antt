-- What a valid certificate is.
--     IsValid closure bytes           the file is a valid certificate
--     check_outcome closure bytes     the number of conflicts, or the first rejection, of a reader with the usual limit
use Rattle.std.specs.Prelude.{ℕ, ◌+◌, ◌-◌, ◌≡◌, List, [], ◌∷◌, ◌++◌, Bool, false, ◌&&◌, ◌==◌, nat_lt, nat_le, length, map, filter, flat_map, slice_index_or, Option, Some, None}
use Rattle.std.specs.List.{list_any, list_all, enumerate_from, range_with_len}
use Rattle.steno_rules.specs.Conflicts.{joined_strokes}
use Rattle.certificate.specs.declared.lines.CertLine.{CertLine}
use Rattle.certificate.specs.declared.lines.CertLine.TheVariants as of
use Rattle.certificate.specs.CertReading.{read_lines}
use Rattle.certificate.specs.CertTexts.{Listed}
use Rattle.certificate.specs.Readers.{certificate_limit}
use Rattle.report.specs.declared.faults.Why.TheVariants as why
use Rattle.certificate_laws.specs.Checks.{Lines, Check, ContentCheck, at_line, then_check, line_at, conflicts_line, upper_lines, listed_by, listed_in, may_be_listed, upper_checks, announced, is_row_line, end_checks, CheckOutcome, accepted, readable_lines, outcome_of}
use Rattle.certificate_laws.specs.Closures.{Closure, Pair}
use Rattle.certificate_laws.specs.RowTests.{words_show}

-- ---- above the conflicts

-- a line says what is right: as many entries and numbers as there are, and numbers of states that rise
abbrev pub content_check : Closure → ContentCheck
content_check closure before n (Some (of.Entries k)) = at_line n why.Entries (k == length closure.outlines)
content_check closure before n (Some (of.States k)) = at_line n why.States (k == closure.count)
content_check closure before n line = at_line n why.Number (may_be_listed closure.has_state (listed_in before) (listed_by line))

-- ---- at the conflicts line

-- the state is listed with at most this distance
abbrev pub is_listed_within : List Listed → ℕ → ℕ → Bool
is_listed_within all most state = list_any (λ s. s.state == state && nat_le s.distance most) all

-- each of these targets of the listed state is listed with at most one more
abbrev pub leads_on_by : (ℕ → List ℕ) → List Listed → Listed → Bool
leads_on_by targets all s = list_all (is_listed_within all (s.distance + 1)) (targets s.state)

-- the states that lines list, each with the number of its line; the first of these lines has the number `first`
abbrev pub listed_on_lines : ℕ → Lines → List (ℕ × Listed)
listed_on_lines first lines = flat_map (λ l. map (λ s. (l.0, s)) (listed_by l.1)) (enumerate_from first lines)

-- for each of these states, with their lines, at the conflicts line `at`: its targets are listed
abbrev pub move_checks_of : (ℕ → List ℕ) → ℕ → List Listed → List (ℕ × Listed) → List Check
move_checks_of targets at all states = map (λ s. then_check at s.0 why.Move (leads_on_by targets all s.1)) states

-- the same for all states that lines list
abbrev pub move_checks : (ℕ → List ℕ) → ℕ → Lines → List Check
move_checks targets at before = move_checks_of targets at (listed_in before) (listed_on_lines 1 before)

-- fresh, listed with 0 on the line n, and then these states
abbrev pub fresh_first : ℕ → List (ℕ × Listed) → List (ℕ × Listed)
fresh_first n others = (n, record { state = 0; distance = 0 }) ∷ others

abbrev pub is_pair : Pair → Option Pair → Bool
is_pair p None = false
is_pair p (Some q) = p.entry == q.entry && p.place == q.place

-- the distances of the listed hits of a pair
abbrev pub hit_distances : Closure → List Listed → Pair → List ℕ
hit_distances closure all p = map (λ s. s.distance) (filter (λ s. is_pair p (closure.hit s.state)) all)

-- the inner places of the entry of a number
abbrev pub entry_pairs : ℕ × List ℕ → List Pair
entry_pairs e = map (λ place. record { entry = e.0; place = place }) (range_with_len 1 (length e.1 - 1))

-- the entries' inner places, by entry and then place
abbrev pub inner_pairs : List (List ℕ) → List Pair
inner_pairs outlines = flat_map entry_pairs (enumerate_from 0 outlines)

-- the pairs that a listed state is a hit of, by entry and then place
abbrev pub listed_pairs : Closure → List Listed → List Pair
listed_pairs closure all = filter (λ p. nat_lt 0 (length (hit_distances closure all p))) (inner_pairs closure.outlines)

-- the checks at the conflicts line `at`, which announces n rows, behind these lines
abbrev pub listing_checks : Closure → (ℕ → List ℕ) → ℕ → Lines → ℕ → List Check
listing_checks closure targets at before n =
    then_check at at why.Start (is_listed_within (listed_in before) 0 0)
    ∷ (move_checks targets at before
    ++ then_check at at why.Count (n == length (listed_pairs closure (listed_in before))) ∷ [])

-- ---- rows

abbrev pub is_least_of : ℕ → List ℕ → Bool
is_least_of n distances = list_any (λ d. d == n) distances && list_all (nat_le n) distances

-- the number is that of an entry that is a word
abbrev pub is_word_number : Closure → ℕ → Bool
is_word_number closure w = nat_lt w (length closure.outlines) && slice_index_or closure.words w false

-- the row of a pair: words of as many strokes as the least distance, which show it
abbrev pub is_row_of : Closure → List Listed → Pair → Option CertLine → Bool
is_row_of closure all p (Some (of.Row r)) =
    r.entry == p.entry && r.place == p.place && is_least_of r.strokes (hit_distances closure all p)
    && list_all (is_word_number closure) r.words
    && length (joined_strokes closure.outlines r.words) == r.strokes
    && words_show closure.outlines r.words r.entry r.place
is_row_of closure all p line = false

-- the checks of the row of a pair on the line of this number
abbrev pub row_check : Closure → List Listed → Lines → ℕ × Pair → List Check
row_check closure all lines p =
    at_line p.0 why.Form (is_row_line (line_at lines p.0))
    ∷ at_line p.0 why.Row (is_row_of closure all p.1 (line_at lines p.0))
    ∷ []

-- the i-th row is on the i-th line behind the conflicts line
abbrev pub row_checks : Closure → List Listed → Lines → ℕ → List Pair → List Check
row_checks closure all lines at pairs = flat_map (row_check closure all lines) (enumerate_from (at + 1) pairs)

-- ---- all

-- the checks of the rows and of the end, where these states are listed
abbrev pub lower_checks : Closure → List Listed → Lines → ℕ → List Check
lower_checks closure all lines at =
    row_checks closure all lines at (listed_pairs closure all)
    ++ end_checks lines (at + length (listed_pairs closure all))

-- all checks, with these targets
abbrev pub checks_by : Closure → (ℕ → List ℕ) → Lines → List Check
checks_by closure targets lines =
    let at = conflicts_line lines in
    let above = upper_lines lines in
    upper_checks (content_check closure) lines
    ++ (listing_checks closure targets at above (announced (line_at lines at))
    ++ lower_checks closure (listed_in above) lines at)

abbrev pub all_checks : Closure → Lines → List Check
all_checks closure lines = checks_by closure closure.targets lines

-- what comes of checking a file, of which so many bytes are read at most
abbrev pub check_outcome : Closure → List ℕ → CheckOutcome
check_outcome closure bytes =
    outcome_of (readable_lines certificate_limit bytes) (read_lines bytes) (all_checks closure (read_lines bytes))

-- the file is a valid certificate
abbrev pub IsValid : Closure → List ℕ → Type 0
IsValid closure bytes = (n : ℕ) × (outcome_of None (read_lines bytes) (all_checks closure (read_lines bytes)) ≡ accepted n)
