-- The text of lines that fit is read back line by line.
use Rattle.std.proofs.Common.{◌≡◌, List, [], ◌∷◌, ◌++◌, map, flat_map, refl, ap, true, Some, ◌∙◌}
use Rattle.std.specs.List.{AllByRecursion}
use Rattle.certificate.specs.declared.lines.CertLine.{CertLine}
use Rattle.certificate.specs.CertLines.{line_text, fits}
use Rattle.certificate.specs.CertReading.{read_lines}
use Rattle.certificate.proofs.FirstLines.{read_lines-line}

-- each line fits
abbrev pub AllFit : List CertLine → Type 0
AllFit lines = AllByRecursion (λ line. fits line ≡ true) lines

pub AllFit-append : (xs ys : List CertLine) → AllFit xs → AllFit ys → AllFit (xs ++ ys)
AllFit-append [] ys a b = b
AllFit-append (x ∷ xs) ys a b = (a.0, AllFit-append xs ys a.1 b)

-- The text of lines that fit is read back line by line.
pub read_back : (lines : List CertLine) → AllFit lines → read_lines (flat_map line_text lines) ≡ map Some lines
read_back [] h = refl
read_back (l ∷ ls) h = read_lines-line l (flat_map line_text ls) h.0 ∙ ap (λ xs. Some l ∷ xs) (read_back ls h.1)
