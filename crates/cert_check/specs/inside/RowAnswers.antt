-- The quick test of a row, against the definition.
--     IsRowTest closure found row answer        the answer is that of the definition
--     is_of_pair found row                      the row is about the pair that was found
--     are_such_words closure ws strokes         these are numbers of words with so many strokes
use Rattle.std.specs.Prelude.{ℕ, ◌≡◌, List, Bool, true, ◌&&◌, ◌==◌, nat_lt, length, Some}
use Rattle.std.specs.List.{list_all}
use Rattle.steno_rules.specs.Conflicts.{joined_strokes}
use Rattle.longest_match.specs.Rows.{Row, word_limit}
use Rattle.certificate.specs.CertTexts.{Listed}
use Rattle.certificate.specs.declared.lines.CertLine.TheVariants as of
use Rattle.certificate_laws.specs.Closures.{Closure, Pair}
use Rattle.certificate_laws.specs.Validity.{hit_distances, is_least_of, is_row_of, is_word_number}
use Rattle.cert_check.specs.declared.founds.Found.{Found}
use Rattle.cert_check.specs.inside.Founds.{HasNoFarRow}

-- the pair that was found
abbrev pub pair_of : Found → Pair
pair_of found = record { entry = found.entry; place = found.place }

-- the answer is that of the definition, for each listing in which the found distance is the pair's least
abbrev pub IsRowTest : Closure → Found → Row → Bool → Type 0
IsRowTest closure found row answer = (all : List Listed) → HasNoFarRow closure all
    → is_least_of found.distance (hit_distances closure all (pair_of found)) ≡ true
    → answer ≡ is_row_of closure all (pair_of found) (Some (of.Row row))

-- the row is about this pair, with the found distance, which isn't too great
abbrev pub is_of_pair : Found → Row → Bool
is_of_pair found row =
    row.entry == found.entry
    && (row.place == found.place && (row.strokes == found.distance && nat_lt found.distance word_limit))

-- these are numbers of words, which have so many strokes together
abbrev pub are_such_words : Closure → List ℕ → ℕ → Bool
are_such_words closure ws strokes =
    list_all (is_word_number closure) ws && (length (joined_strokes closure.outlines ws) == strokes)
