-- The file of a certificate proves its audit.
use Rattle.std.proofs.Common.{◌≡◌, ℕ, List, [], ◌∷◌, ◌++◌, length, map, refl, ap, subst, Bool, Option, Some, None, ◌∙◌, append-nil, IfSome, sym}
use Rattle.std.specs.Prelude.{Result, Ok, Err, OnOk}
use Rattle.outside.specs.Files.{Both, Held, Replaces}
use Rattle.longest_match.specs.Rows.{Row}
use Rattle.certificate.specs.CertTexts.{Run, runs_of}
use Rattle.certificate.specs.declared.lines.CertLine.TheVariants as of
use Rattle.certificate_laws.specs.Checks.{Lines, certificate_rows}
use Rattle.certificate_laws.proofs.ConflictRows.{valid_rows}
use Rattle.audit_certificate.specs.Runs.{AreLongestRuns}
use Rattle.audit_certificate.specs.OwnCertificates.{IsAudited, own_certificate, reached_states}
use Rattle.audit_certificate.specs.Proving.{ProvesAudit, certificate_runs}
use Rattle.audit_certificate.proofs.OwnCertificates.{own_valid, read_is}
use Rattle.audit_certificate.proofs.RowsHeld.{row_line}
use Rattle.audit_certificate.proofs.RunLemmas.{longest_runs}
use Rattle.audit_certificate.proofs.UpperHeld.{headed, run_line}

rows_behind : (runs : List Run) (rest : Lines) → certificate_rows (map run_line runs ++ rest) ≡ certificate_rows rest
rows_behind [] rest = refl
rows_behind (r ∷ rs) rest = rows_behind rs rest

rows_there : (rows : List Row) (rest : Lines) → certificate_rows (map row_line rows ++ rest) ≡ rows ++ certificate_rows rest
rows_there [] rest = refl
rows_there (r ∷ rs) rest = ap (λ xs. r ∷ xs) (rows_there rs rest)

runs_there : (runs : List Run) (rest : Lines) → certificate_runs (map run_line runs ++ rest) ≡ runs ++ certificate_runs rest
runs_there [] rest = refl
runs_there (r ∷ rs) rest = ap (λ xs. r ∷ xs) (runs_there rs rest)

runs_before : (rows : List Row) (rest : Lines) → certificate_runs (map row_line rows ++ rest) ≡ certificate_runs rest
runs_before [] rest = refl
runs_before (r ∷ rs) rest = runs_before rs rest

-- the lines of a certificate, as they are read
abbrev lines_of : ℕ → ℕ → List Run → ℕ → List Row → Lines
lines_of n count runs k rows = headed n count (map run_line runs ++ Some (of.Conflicts k) ∷ (map row_line rows ++ Some of.End ∷ []))

rows_among : (n count k : ℕ) (runs : List Run) (rows : List Row) → certificate_rows (lines_of n count runs k rows) ≡ rows
rows_among n count k runs rows = rows_behind runs (Some (of.Conflicts k) ∷ (map row_line rows ++ Some of.End ∷ [])) ∙ (rows_there rows (Some of.End ∷ []) ∙ append-nil rows)

runs_among : (n count k : ℕ) (runs : List Run) (rows : List Row) → certificate_runs (lines_of n count runs k rows) ≡ runs
runs_among n count k runs rows =
    runs_there runs (Some (of.Conflicts k) ∷ (map row_line rows ++ Some of.End ∷ [])) ∙ (ap (λ xs. runs ++ xs) (runs_before rows (Some of.End ∷ [])) ∙ append-nil runs)

-- The certificate of an audit proves it,
pub own_proves : (entries : List (List ℕ)) (flags : List Bool) (table : List ℕ) (rows : List Row) → IsAudited entries flags table rows
    → ProvesAudit entries flags table rows (own_certificate (length entries) table rows)
own_proves entries flags table rows audit =
    let bytes = own_certificate (length entries) table rows in
    let runs = runs_of (reached_states table) in
    let read = read_is entries flags table rows audit in
    let valid = own_valid entries flags table rows audit in
    record {
      valid = valid;
      rows_are = ap certificate_rows read ∙ rows_among (length entries) (length table) (length rows) runs rows;
      exact = (valid_rows entries flags bytes audit.are_entries valid).0;
      runs = subst (AreLongestRuns (reached_states table)) (sym (ap certificate_runs read ∙ runs_among (length entries) (length table) (length rows) runs rows)) (longest_runs (reached_states table));
    }

-- and so does the file that has it.
pub file_proves : (name : List ℕ) (n : ℕ) (entries : List (List ℕ)) (flags : List Bool) (table : List ℕ) (rows : List Row) (old new : Option Held) → Both (Replaces name (own_certificate n table rows)) old new
    → length entries ≡ n → IsAudited entries flags table rows → IfSome new (λ held. ProvesAudit entries flags table rows (held name))
file_proves name n entries flags table rows old None there same audit = tt
file_proves name n entries flags table rows None (Some new) there same audit = absurd there
file_proves name n entries flags table rows (Some old) (Some new) there same audit =
    subst (ProvesAudit entries flags table rows) (ap (λ k. own_certificate k table rows) same ∙ sym there.here) (own_proves entries flags table rows audit)

-- Where the writing is answered by such a file, it proves the audit.
pub answer_proves : {T E : Type 0} (result : Result T E) (name : List ℕ) (n : ℕ) (table : List ℕ) (rows : List Row) (old new : Option Held) → OnOk result (Both (Replaces name (own_certificate n table rows)) old new)
    → OnOk result ((entries : List (List ℕ)) (flags : List Bool) → length entries ≡ n → IsAudited entries flags table rows → IfSome new (λ held. ProvesAudit entries flags table rows (held name)))
answer_proves (Ok x) name n table rows old new there = λ entries flags same audit. file_proves name n entries flags table rows old new there same audit
answer_proves (Err f) name n table rows old new there = tt
