-- The lines of rows, one after another.
use Rattle.std.proofs.Common.{◌≡◌, ℕ, suc, ◌+◌, ◌<◌, List, [], ◌∷◌, ◌++◌, length, drop, take, get_or, sym, ap, subst, Bool, false, ◌∙◌}
use Rattle.std.proofs.Math.Seq.{drop-cons}
use Rattle.std.proofs.lemmas.List.{map-append, map_more, take-append-drop}
use Rattle.outside.specs.Files.{FilesView}
use Rattle.longest_match.specs.Rows.{Row}
use Rattle.certificate.specs.declared.faults.CertFault.{CertFault}
use Rattle.certificate.specs.declared.faults.CertFault.TheVariants as fault
use Rattle.certificate.specs.declared.lines.CertLine.{CertLine}
use Rattle.certificate.specs.declared.lines.CertLine.TheVariants as of
use Rattle.audit_certificate.specs.inside.Puts.{PutsAll, PutsPart, row_lines}
use Rattle.audit_certificate.proofs.Puts.{part_memory, part_within, puts_then}

module _ (rows : List Row) (i : ℕ) (put mid : ℕ) (old view : FilesView) (before : PutsAll (row_lines (take i rows)) put mid old view) where
  -- One row more.
  pub rows_more : (r d : Row) (line : CertLine) (now : ℕ) (new : FilesView) → i < length rows → r ≡ get_or rows i d → line ≡ of.Row r → PutsAll (line ∷ []) mid now view new → PutsAll (row_lines (take (i + 1) rows)) put now old new
  rows_more r d line now new lt is same more =
      let lines : row_lines (take i rows) ++ line ∷ [] ≡ row_lines (take (i + 1) rows) = ap (λ l. row_lines (take i rows) ++ l ∷ []) (same ∙ ap (λ x. of.Row x) is) ∙ sym (map_more (λ r. of.Row r) rows i d lt) in
      subst (λ lines. PutsAll lines put now old new) lines (puts_then (row_lines (take i rows)) (line ∷ []) put mid now old view new before more)

  split : (d : Row) → i < length rows → row_lines (take i rows) ++ (of.Row (get_or rows i d) ∷ row_lines (drop (suc i) rows)) ≡ row_lines rows
  split d lt = ap (λ xs. row_lines (take i rows) ++ row_lines xs) (sym (drop-cons rows i d lt)) ∙ (sym (map-append (λ r. of.Row r) (take i rows) (drop i rows)) ∙ ap row_lines (take-append-drop i rows))

  -- A row was refused,
  pub rows_refused : (r d : Row) (line : CertLine) (f : CertFault) (failed : Bool) (new : FilesView) → i < length rows → r ≡ get_or rows i d → line ≡ of.Row r → PutsPart (line ∷ []) f failed mid view new
      → PutsPart (row_lines rows) f failed put old new
  rows_refused r d line f failed new lt is same part =
      subst (λ lines. PutsPart lines f failed put old new) (ap (λ l. row_lines (take i rows) ++ (l ∷ row_lines (drop (suc i) rows))) (same ∙ ap (λ x. of.Row x) is) ∙ split d lt)
      (part_within (row_lines (take i rows)) (line ∷ []) (row_lines (drop (suc i) rows)) f failed put mid old view new before part)

  -- or memory ran out before it.
  pub rows_memory : PutsPart (row_lines rows) fault.Memory false put old view
  rows_memory =
      subst (λ lines. PutsPart lines fault.Memory false put old view) (sym (map-append (λ r. of.Row r) (take i rows) (drop i rows)) ∙ ap row_lines (take-append-drop i rows))
      (part_memory (row_lines (take i rows)) (row_lines (drop i rows)) put mid old view before)
