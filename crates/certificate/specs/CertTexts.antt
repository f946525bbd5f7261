-- The certificate that an audit writes.
--     runs_of listed                               the longest runs of following states with one distance
--     certificate_lines n count listed rows        its lines: of version 2, with the entries, the numbers of states, the listed states, and the rows
--     certificate_text n count listed rows         its bytes
use Rattle.std.specs.Prelude.{ℕ, ◌+◌, List, [], ◌∷◌, ◌++◌, ◌&&◌, ◌==◌, length, map, flat_map, if◌then◌else◌}
use Rattle.longest_match.specs.Rows.{Row}
use Rattle.certificate.specs.CertLines.{line_text}
use Rattle.certificate.specs.declared.lines.CertLine.{CertLine}
use Rattle.certificate.specs.declared.lines.CertLine.TheVariants as of

-- a state that is listed, and its distance
pub record Listed : Type 0 where
  pub state : ℕ
  pub distance : ℕ

-- the states from `first` to `last` are listed with this distance
pub record Run : Type 0 where
  pub first : ℕ
  pub last : ℕ
  pub distance : ℕ

-- the runs with one more state in front
abbrev pub onto_runs : Listed → List Run → List Run
onto_runs s [] = record { first = s.state; last = s.state; distance = s.distance } ∷ []
onto_runs s (r ∷ rs) =
    if r.first == s.state + 1 && r.distance == s.distance then (record { first = s.state; last = r.last; distance = r.distance } ∷ rs)
    else (record { first = s.state; last = s.state; distance = s.distance } ∷ r ∷ rs)

-- the longest runs of states that follow one another and have one distance
abbrev pub runs_of : List Listed → List Run
runs_of [] = []
runs_of (s ∷ ss) = onto_runs s (runs_of ss)

-- the lines of the certificate
abbrev pub certificate_lines : ℕ → ℕ → List Listed → List Row → List CertLine
certificate_lines n count listed rows =
    of.Head 2 ∷ of.Entries n ∷ of.States count ∷ map (λ r. of.Run r.first r.last r.distance) (runs_of listed)
    ++ of.Conflicts (length rows) ∷ map (λ r. of.Row r) rows
    ++ of.End ∷ []

-- the bytes of the certificate
abbrev pub certificate_text : ℕ → ℕ → List Listed → List Row → List ℕ
certificate_text n count listed rows = flat_map line_text (certificate_lines n count listed rows)
