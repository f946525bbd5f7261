-- Lines that are added one after another.
use Rattle.std.proofs.Common.{◌≡◌, ℕ, ◌+◌, ◌<◌, ◌≤◌, List, [], ◌∷◌, ◌++◌, length, refl, sym, ap, subst, arith, Bool, true, false, true≢false, cond, ◌∙◌, append-nil, append_assoc, inl, inr}
use Rattle.std.specs.Prelude.{IsSome, Result, Ok, Err, option_map}
use Rattle.outside.specs.Faults.{Rose}
use Rattle.outside.specs.Files.{FilesView}
use Rattle.outside.specs.declared.fault.Way.TheVariants.{Writing}
use Rattle.certificate.specs.CertLines.{line_text}
use Rattle.certificate.specs.Readers.{certificate_limit}
use Rattle.certificate.specs.Writers.{AddsBytes, AddsPrefix, IsWriteFault, OnlyPuts}
use Rattle.certificate.specs.declared.faults.CertFault.{CertFault}
use Rattle.certificate.specs.declared.faults.CertFault.TheVariants as fault
use Rattle.certificate.specs.declared.lines.CertLine.{CertLine}
use Rattle.certificate.specs.declared.lines.CertLine.TheVariants as of
use Rattle.longest_match.specs.Rows.{Row}
use Rattle.audit_certificate.specs.OwnCertificates.{reached_states}
use Rattle.audit_certificate.specs.Written.{lines_text, lines_within, own_certificate_lines}
use Rattle.audit_certificate.specs.inside.Puts.{LeavesLines, PutsAll, PutsLines, PutsPart, row_lines, run_lines}
use Rattle.audit_certificate.proofs.Added.{adds_none, adds_then, prefix_all, prefix_more, prefix_none, prefix_then}
use Rattle.audit_certificate.proofs.Fitting.{fits_step, lines_text-append, lines_text-length, passes_step, within_longer, within_more, within_then}

-- ---- one line

-- A line was added,
pub line_all : (line : CertLine) (put now : ℕ) (old new : FilesView) → AddsBytes (line_text line) old new → now ≡ put + length (line_text line) → now ≤ certificate_limit → OnlyPuts false old new
    → PutsAll (line ∷ []) put now old new
line_all line put now old new added count within puts =
    let same : line_text line ≡ lines_text (line ∷ []) = sym (append-nil (line_text line)) in
    record {
      added = subst (λ text. AddsBytes text old new) same added;
      count = count ∙ ap (λ text. put + length text) same;
      within = within;
      puts = puts;
    }

-- or refused.
pub line_part : (line : CertLine) (f : CertFault) (failed : Bool) (put : ℕ) (old new : FilesView) → AddsPrefix (line_text line) old new → IsWriteFault f put (length (line_text line)) old new
    → OnlyPuts failed old new → PutsPart (line ∷ []) f failed put old new
line_part line f failed put old new prefix cause puts = record { leaves = by f cause; puts = puts }
  where
    same : line_text line ≡ lines_text (line ∷ [])
    same = sym (append-nil (line_text line))

    fit : put + length (line_text line) ≤ certificate_limit → AddsPrefix (lines_text (lines_within put (line ∷ []))) old new
    fit le = subst (λ lines. AddsPrefix (lines_text lines) old new) (sym (fits_step put line [] le)) (subst (λ text. AddsPrefix text old new) same prefix)

    by : (f : CertFault) → IsWriteFault f put (length (line_text line)) old new → LeavesLines (line ∷ []) f put old new
    by fault.TooLong h = record {
      passes = subst (λ text. certificate_limit < put + length text) same h.0;
      added = subst (λ lines. AddsBytes (lines_text lines) old new) (sym (passes_step put line [] h.0)) (adds_none old new h.1);
    }
    by fault.Failed h = fit h
    by fault.Memory (inl h) = fit h
    by fault.Memory (inr h) = prefix_none (lines_text (lines_within put (line ∷ []))) old new h
    by (fault.Bad at) h = absurd h

-- ---- lines and others

-- No line is added.
pub puts_none : (put : ℕ) (view : FilesView) → put ≤ certificate_limit → PutsAll [] put put view view
puts_none put view within = record {
  added = adds_none view view refl;
  count = (let e : put ≡ put + 0 = omega arith in e);
  within = within;
  puts = record { writing = refl; opened = refl; latest = refl; later = omega arith; rose = λ e. absurd (true≢false (sym e)); steady = λ e. refl };
}

-- A call that puts, behind one that was not refused.
pub puts_on : (failed : Bool) (old mid new : FilesView) → OnlyPuts false old mid → OnlyPuts failed mid new → OnlyPuts failed old new
puts_on failed old mid new a b =
    let same : mid.faults ≡ old.faults = a.steady refl in
    record {
      writing = b.writing ∙ a.writing;
      opened = b.opened ∙ a.opened;
      latest = by failed b.latest;
      later = (let l = b.later in omega (arith, l, same));
      rose = λ e. subst (λ n. Rose n new.faults) same (b.rose e);
      steady = λ e. b.steady e ∙ same;
    }
  where
    by : (f : Bool) → new.latest ≡ cond f (option_map (λ name. (name, Writing)) mid.writing) mid.latest → new.latest ≡ cond f (option_map (λ name. (name, Writing)) old.writing) old.latest
    by true e = e ∙ ap (option_map (λ name. (name, Writing))) a.writing
    by false e = e ∙ a.latest

-- Lines are added behind others,
pub puts_then : (xs ys : List CertLine) (put mid now : ℕ) (old view new : FilesView) → PutsAll xs put mid old view → PutsAll ys mid now view new → PutsAll (xs ++ ys) put now old new
puts_then xs ys put mid now old view new a b = record {
  added = subst (λ text. AddsBytes text old new) (sym (lines_text-append xs ys)) (adds_then (lines_text xs) (lines_text ys) old view new a.puts.writing a.added b.added);
  count = (let x = a.count in let y = b.count in let l = lines_text-length xs ys in omega (arith, x, y, l));
  within = b.within;
  puts = puts_on false old view new a.puts b.puts;
}

-- the lines that fit, where the first ones do
fit_behind : (xs ys : List CertLine) (put mid : ℕ) (old view : FilesView) → PutsAll xs put mid old view → lines_within put (xs ++ ys) ≡ xs ++ lines_within mid ys
fit_behind xs ys put mid old view a =
    let count = a.count in
    let within = a.within in
    let fit : put + length (lines_text xs) ≤ certificate_limit = omega (arith, count, within) in
    within_then put xs ys fit ∙ ap (λ n. xs ++ lines_within n ys) (sym count)

-- their text
text_behind : (xs ys : List CertLine) (put mid : ℕ) (old view : FilesView) → PutsAll xs put mid old view → lines_text (lines_within put (xs ++ ys)) ≡ lines_text xs ++ lines_text (lines_within mid ys)
text_behind xs ys put mid old view a = ap lines_text (fit_behind xs ys put mid old view a) ∙ lines_text-append xs (lines_within mid ys)

prefix_behind : (xs ys : List CertLine) (put mid : ℕ) (old view new : FilesView) → PutsAll xs put mid old view → AddsPrefix (lines_text (lines_within mid ys)) view new → AddsPrefix (lines_text (lines_within put (xs ++ ys))) old new
prefix_behind xs ys put mid old view new a h =
    subst (λ text. AddsPrefix text old new) (sym (text_behind xs ys put mid old view a)) (prefix_then (lines_text xs) (lines_text (lines_within mid ys)) old view new a.puts.writing a.added h)

leaves_then : (xs ys : List CertLine) (f : CertFault) (put mid : ℕ) (old view new : FilesView) → PutsAll xs put mid old view → LeavesLines ys f mid view new → LeavesLines (xs ++ ys) f put old new
leaves_then xs ys fault.TooLong put mid old view new a h = record {
  passes = (let l = lines_text-length xs ys in let p = h.passes in let count = a.count in omega (arith, l, p, count));
  added = subst (λ text. AddsBytes text old new) (sym (text_behind xs ys put mid old view a)) (adds_then (lines_text xs) (lines_text (lines_within mid ys)) old view new a.puts.writing a.added h.added);
}
leaves_then xs ys fault.Failed put mid old view new a h = prefix_behind xs ys put mid old view new a h
leaves_then xs ys fault.Memory put mid old view new a h = prefix_behind xs ys put mid old view new a h
leaves_then xs ys (fault.Bad at) put mid old view new a h = h

-- or a part of them,
pub part_then : (xs ys : List CertLine) (f : CertFault) (failed : Bool) (put mid : ℕ) (old view new : FilesView) → PutsAll xs put mid old view → PutsPart ys f failed mid view new → PutsPart (xs ++ ys) f failed put old new
part_then xs ys f failed put mid old view new a b = record {
  leaves = leaves_then xs ys f put mid old view new a b.leaves;
  puts = puts_on failed old view new a.puts b.puts;
}

prefix_before : (xs ys : List CertLine) (put : ℕ) (old new : FilesView) → AddsPrefix (lines_text (lines_within put xs)) old new → AddsPrefix (lines_text (lines_within put (xs ++ ys))) old new
prefix_before xs ys put old new h =
    let more = within_longer put xs ys in
    subst (λ text. AddsPrefix text old new) (sym (ap lines_text more.1 ∙ lines_text-append (lines_within put xs) more.0)) (prefix_more (lines_text (lines_within put xs)) (lines_text more.0) old new h)

leaves_more : (xs ys : List CertLine) (f : CertFault) (put : ℕ) (old new : FilesView) → LeavesLines xs f put old new → LeavesLines (xs ++ ys) f put old new
leaves_more xs ys fault.TooLong put old new h = record {
  passes = (let l = lines_text-length xs ys in let p = h.passes in omega (arith, l, p));
  added = subst (λ lines. AddsBytes (lines_text lines) old new) (sym (within_more put xs ys h.passes)) h.added;
}
leaves_more xs ys fault.Failed put old new h = prefix_before xs ys put old new h
leaves_more xs ys fault.Memory put old new h = prefix_before xs ys put old new h
leaves_more xs ys (fault.Bad at) put old new h = h

-- and a part of some lines is one of more.
pub part_more : (xs ys : List CertLine) (f : CertFault) (failed : Bool) (put : ℕ) (old new : FilesView) → PutsPart xs f failed put old new → PutsPart (xs ++ ys) f failed put old new
part_more xs ys f failed put old new a = record { leaves = leaves_more xs ys f put old new a.leaves; puts = a.puts }

-- Lines are added up to a fault before their end.
pub part_within : (xs ys zs : List CertLine) (f : CertFault) (failed : Bool) (put mid : ℕ) (old view new : FilesView) → PutsAll xs put mid old view → PutsPart ys f failed mid view new
    → PutsPart (xs ++ (ys ++ zs)) f failed put old new
part_within xs ys zs f failed put mid old view new a b =
    subst (λ lines. PutsPart lines f failed put old new) (append_assoc xs ys zs) (part_more (xs ++ ys) zs f failed put old new (part_then xs ys f failed put mid old view new a b))

-- Memory ran out behind some lines.
pub part_memory : (xs ys : List CertLine) (put mid : ℕ) (old new : FilesView) → PutsAll xs put mid old new → PutsPart (xs ++ ys) fault.Memory false put old new
part_memory xs ys put mid old new a = record {
  leaves = subst (λ text. AddsPrefix text old new) (sym (text_behind xs ys put mid old new a)) (prefix_more (lines_text xs) (lines_text (lines_within mid ys)) old new (prefix_all (lines_text xs) old new a.added));
  puts = a.puts;
}

-- A file is still being written.
pub still_writing : (xs : List CertLine) (put now : ℕ) (old new : FilesView) → PutsAll xs put now old new → IsSome old.writing → IsSome new.writing
still_writing xs put now old new a some = subst IsSome (sym a.puts.writing) some

-- What is answered of lines behind others.
pub then_answers : {T : Type 0} (xs ys : List CertLine) (result : Result T CertFault) (put mid now : ℕ) (old view new : FilesView) → PutsAll xs put mid old view → PutsLines ys result mid now view new → PutsLines (xs ++ ys) result put now old new
then_answers xs ys (Ok x) put mid now old view new a b = puts_then xs ys put mid now old view new a b
then_answers xs ys (Err f) put mid now old view new a b = part_then xs ys f _ put mid old view new a b

-- the lines of a certificate, by its parts
abbrev joined : ℕ → List ℕ → List Row → List CertLine
joined n table rows = of.Head 2 ∷ of.Entries n ∷ of.States (length table) ∷ (run_lines (reached_states table) ++ (of.Conflicts (length rows) ∷ (row_lines rows ++ of.End ∷ [])))

joined-is : (n : ℕ) (table : List ℕ) (rows : List Row) → joined n table rows ≡ own_certificate_lines n table rows
joined-is n table rows = sym (ap (λ lines. of.Head 2 ∷ of.Entries n ∷ of.States (length table) ∷ lines) (append_assoc (run_lines (reached_states table)) (of.Conflicts (length rows) ∷ row_lines rows) (of.End ∷ [])))

-- A part of a certificate, by its parts,
pub part_joined : (n : ℕ) (table : List ℕ) (rows : List Row) (f : CertFault) (failed : Bool) (put : ℕ) (old new : FilesView) → PutsPart (joined n table rows) f failed put old new → PutsPart (own_certificate_lines n table rows) f failed put old new
part_joined n table rows f failed put old new h = subst (λ lines. PutsPart lines f failed put old new) (joined-is n table rows) h

-- and what is answered of all of them.
pub answers_joined : {T : Type 0} (n : ℕ) (table : List ℕ) (rows : List Row) (result : Result T CertFault) (put now : ℕ) (old new : FilesView) → PutsLines (joined n table rows) result put now old new
    → PutsLines (own_certificate_lines n table rows) result put now old new
answers_joined n table rows result put now old new h = subst (λ lines. PutsLines lines result put now old new) (joined-is n table rows) h
