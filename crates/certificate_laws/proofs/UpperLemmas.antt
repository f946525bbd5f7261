-- The lines up to the conflicts one after another: the checks that are left behind some of them.
use Rattle.std.proofs.Common.{◌≡◌, suc, ◌+◌, ◌-◌, List, [], ◌∷◌, ◌++◌, length, take, flat_map, refl, ap, subst, arith, append_assoc, Bool, true, false, not, cond, Option, None, ◌∙◌}
use Rattle.std.specs.Prelude.{option_and_then, slice_get, if◌then◌else◌}
use Rattle.std.specs.List.{range_with_len, position_or_len}
use Rattle.std.proofs.Math.Seq.{take-append_seam}
use Rattle.std.proofs.lemmas.List.{length_push}
use Rattle.certificate.specs.declared.lines.CertLine.{CertLine}
use Rattle.certificate.specs.declared.lines.CertLine.TheVariants as of
use Rattle.report.specs.declared.faults.Why.TheVariants as why
use Rattle.certificate_laws.specs.Checks.{Lines, Check, at_line, line_at, is_conflicts, upper_lines, ContentCheck, may_follow, line_checks, upper_checks}

-- the first of these lines
abbrev pub first_of : Lines → Option CertLine
first_of [] = None
first_of (l ∷ ls) = l

-- the two checks of the line behind these
abbrev pub both_checks : ContentCheck → Lines → Option CertLine → List Check
both_checks content before l = at_line (length before + 1) why.Form (may_follow before l) ∷ content before (length before + 1) l ∷ []

-- the checks that are left, of the lines that are left down to the conflicts
abbrev pub upper_from : ContentCheck → Lines → Lines → List Check
upper_from content before [] = both_checks content before None
upper_from content before (l ∷ ls) = both_checks content before l ++ (if is_conflicts l then [] else upper_from content (before ++ l ∷ []) ls)

line_seam : (before ahead : Lines) → option_and_then (λ l. l) (slice_get (before ++ ahead) (length before)) ≡ first_of ahead
line_seam [] [] = refl
line_seam [] (l ∷ ls) = refl
line_seam (b ∷ before) ahead = line_seam before ahead

-- the line behind these
pub line_after : (before ahead : Lines) → line_at (before ++ ahead) (length before + 1) ≡ first_of ahead
line_after before ahead = let e : length before + 1 - 1 ≡ length before = omega arith in rw e (line_seam before ahead)

before_line : (before ahead : Lines) → take (length before + 1 - 1) (before ++ ahead) ≡ before
before_line before ahead = let e : length before + 1 - 1 ≡ length before = omega arith in rw e (take-append_seam before ahead)

line_checks-at : (content : ContentCheck) (before ahead : Lines) → line_checks content (before ++ ahead) (length before + 1) ≡ both_checks content before (first_of ahead)
line_checks-at content before ahead = rw (line_after before ahead, before_line before ahead) refl

from_line : (content : ContentCheck) (before ahead : Lines) → flat_map (line_checks content (before ++ ahead)) (range_with_len (length before + 1) (position_or_len is_conflicts ahead + 1)) ≡ upper_from content before ahead
from_line content before [] = line_checks-at content before []
from_line content before (l ∷ ls) = by (is_conflicts l) refl (from_line content (before ++ l ∷ []) ls)
  where
    by : (b : Bool) → is_conflicts l ≡ b →
        flat_map (line_checks content ((before ++ l ∷ []) ++ ls)) (range_with_len (length (before ++ l ∷ []) + 1) (position_or_len is_conflicts ls + 1)) ≡ upper_from content (before ++ l ∷ []) ls →
        flat_map (line_checks content (before ++ l ∷ ls)) (range_with_len (length before + 1) (cond (not b) (1 + position_or_len is_conflicts ls) 0 + 1)) ≡ both_checks content before l ++ cond b [] (upper_from content (before ++ l ∷ []) ls)
    by true is rest = ap (λ cs. cs ++ []) (line_checks-at content before (l ∷ ls))
    by false is rest =
        let e : 1 + position_or_len is_conflicts ls + 1 ≡ suc (position_or_len is_conflicts ls + 1) = omega arith in
        let shifted = subst (λ n. flat_map (line_checks content ((before ++ l ∷ []) ++ ls)) (range_with_len (n + 1) (position_or_len is_conflicts ls + 1)) ≡ upper_from content (before ++ l ∷ []) ls) (length_push before l) rest in
        let joined = subst (λ lines. flat_map (line_checks content lines) (range_with_len (length before + 1 + 1) (position_or_len is_conflicts ls + 1)) ≡ upper_from content (before ++ l ∷ []) ls) (append_assoc before (l ∷ []) ls) shifted in
        ap (λ n. flat_map (line_checks content (before ++ l ∷ ls)) (range_with_len (length before + 1) n)) e
        ∙ (ap (λ cs. cs ++ flat_map (line_checks content (before ++ l ∷ ls)) (range_with_len (length before + 1 + 1) (position_or_len is_conflicts ls + 1))) (line_checks-at content before (l ∷ ls))
        ∙ ap (λ cs. both_checks content before l ++ cs) joined)

-- The checks of the upper_lines lines, one after another.
pub upper_checks-from : (content : ContentCheck) (lines : Lines) → upper_checks content lines ≡ upper_from content [] lines
upper_checks-from content lines = from_line content [] lines
