-- The certificate that an audit writes of itself.
--     distance_of word                          the distance of a number with this settled word, if it was reached
--     reached_states table                      the reached states by rising number, with their distances
--     own_certificate n table rows              the bytes of the certificate
--     IsAudited entries flags table rows          what an audit has found
use Rattle.std.specs.Prelude.{ℕ, ◌/◌, ◌^◌, ◌<◌, ◌≤◌, ◌==◌, List, All, length, filter_map, if◌then◌else◌, Option, Some, None, option_map, Bool}
use Rattle.std.specs.List.{enumerate_from}
use Rattle.graph_rules.specs.Graphs.{AreSettled, most_numbers, unreached, word_half}
use Rattle.steno_rules.specs.Outlines.{AreEntries, IsOutline, flagged_entries}
use Rattle.steno_rules.specs.ClosureGraphs.{kept_lists}
use Rattle.steno_rules.specs.StateNumbers.{number_count}
use Rattle.longest_match.specs.Rows.{AreConflicts, AreSmall, Row}
use Rattle.certificate.specs.CertTexts.{Listed, certificate_text}

-- the distance of a number with this settled word, if it was reached
abbrev pub distance_of : ℕ → Option ℕ
distance_of word = if word == unreached then None else Some (word / word_half)

-- the state of a number with its settled word, if it was reached
abbrev pub reached_state : ℕ × ℕ → Option Listed
reached_state numbered = option_map (λ distance. record { state = numbered.0; distance = distance }) (distance_of numbered.1)

-- the reached states by rising number, with their distances
abbrev pub reached_states : List ℕ → List Listed
reached_states table = filter_map reached_state (enumerate_from 0 table)

-- the bytes of the certificate of n entries, of settled words and of the rows
abbrev pub own_certificate : ℕ → List ℕ → List Row → List ℕ
own_certificate n table rows = certificate_text n (length table) (reached_states table) rows

-- an audit of these entries, of which those are words whose flag is true, has this table of settled words and these rows
pub record IsAudited (entries : List (List ℕ)) (flags : List Bool) (table : List ℕ) (rows : List Row) : Type 0 where
  pub are_entries : AreEntries entries
  pub are_outlines : All IsOutline entries
  pub few_entries : length entries < 2 ^ 32
  pub few_numbers : number_count entries ≤ most_numbers
  pub settled : AreSettled 0 (kept_lists entries (flagged_entries entries flags)) table
  pub conflicts : AreConflicts entries (flagged_entries entries flags) rows
  pub small : AreSmall entries rows
