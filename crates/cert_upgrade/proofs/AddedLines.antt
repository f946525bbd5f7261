-- Lines that are added one after another, and the file when the writing has ended.
use Rattle.std.proofs.Common.{◌≡◌, ℕ, ◌+◌, ◌<◌, ◌≤◌, List, [], ◌∷◌, ◌++◌, length, take, drop, refl, sym, ap, subst, arith, Bool, true, false, true≢false, cond, Option, Some, None, ◌∙◌, append-nil, get_or, inl, inr}
use Rattle.std.specs.Prelude.{Err, IfErr, IfSome, IsSome, Ok, OnErr, OnOk, Result, is_err, option_map}
use Rattle.std.proofs.Math.Seq.{take-append-add}
use Rattle.std.proofs.lemmas.List.{length-append, take-append-drop, take-append-le, take_all, take_more}
use Rattle.std.proofs.lemmas.Grind.{flat_map-append}
use Rattle.outside.specs.Faults.{Rose}
use Rattle.outside.specs.Files.{Both, Extends, ExtendsByPrefix, FilesView, Held, IsLastOpened, Replaces}
use Rattle.outside.specs.declared.fault.Way.TheVariants.{Reading, Writing}
use Rattle.outside.proofs.Extended.{Both-Extends-append}
use Rattle.certificate.specs.declared.lines.CertLine.{CertLine}
use Rattle.certificate.specs.CertLines.{line_text}
use Rattle.certificate.specs.Readers.{OpensFile, ReaderView, ahead, new_reader}
use Rattle.certificate.specs.Writers.{EndsFile, OnlyPuts}
use Rattle.cert_check.specs.Reading.{IsUntold, WhereTold}
use Rattle.cert_check.specs.Verdicts.{IsFaultOf, is_check_failed, is_failing}
use Rattle.cert_check.proofs.CheckLemmas.{told_of}
use Rattle.cert_upgrade.specs.Forms.{upgrade_limit, upgrade_outcome}
use Rattle.cert_check.specs.declared.faults.CheckFault.{CheckFault}
use Rattle.audit_certificate.specs.Written.{lines_text, WritesFile}
use Rattle.cert_upgrade.specs.Upgrades.{IsPartWritten, IsPrefixWritten, UpgradesFile, WritesUpgrade, upgraded_text}
use Rattle.cert_upgrade.specs.inside.Puts.{IsCutOff, PutsWhole, PutsBeginning, PutsText}
use Rattle.cert_upgrade.specs.inside.Stages.{IsWholeRead}

-- ---- texts that are added

still_same : (held : Option Held) (name : List ℕ) → Both (Extends name []) held held
still_same None name = tt
still_same (Some h) name = record { here = sym (append-nil (h name)); others = λ other ne. refl }

nothing_added : (writing : Option (List ℕ)) (held : Option Held) → IfSome writing (λ name. Both (Extends name []) held held)
nothing_added None held = tt
nothing_added (Some name) held = still_same held name

-- Nothing is added.
pub puts_none : (put : ℕ) (view : FilesView) → PutsWhole [] put put view view
puts_none put view = record {
  added = nothing_added view.writing view.held;
  count = (let e : put ≡ put + 0 = omega arith in e);
  puts = record { writing = refl; opened = refl; latest = refl; later = omega arith; rose = λ e. absurd (true≢false (sym e)); steady = λ e. refl };
}

same_name : (a b : Option (List ℕ)) (P : List ℕ → Type 0) → b ≡ a → IfSome b P → IfSome a P
same_name a b P e h = subst (λ o. IfSome o P) e h

join_names : (writing : Option (List ℕ)) (P Q R : List ℕ → Type 0) → ((name : List ℕ) → P name → Q name → R name) → IfSome writing P → IfSome writing Q → IfSome writing R
join_names None P Q R f p q = tt
join_names (Some name) P Q R f p q = f name p q

-- A call that puts, behind one that was not refused.
puts_on : (failed : Bool) (old mid new : FilesView) → OnlyPuts false old mid → OnlyPuts failed mid new → OnlyPuts failed old new
puts_on failed old mid new a b =
    let same : mid.faults ≡ old.faults = a.steady refl in
    record {
      writing = b.writing ∙ a.writing;
      opened = b.opened ∙ a.opened;
      latest = by failed b.latest;
      later = (let l = b.later in omega (arith, l, same));
      rose = λ e. subst (λ n. Rose n new.faults) same (b.rose e);
      steady = λ e. b.steady e ∙ same;
    }
  where
    by : (f : Bool) → new.latest ≡ cond f (option_map (λ name. (name, Writing)) mid.writing) mid.latest → new.latest ≡ cond f (option_map (λ name. (name, Writing)) old.writing) old.latest
    by true e = e ∙ ap (option_map (λ name. (name, Writing))) a.writing
    by false e = e ∙ a.latest

-- One text is added behind another,
puts_then : (xs ys : List ℕ) (put mid now : ℕ) (old view new : FilesView) → PutsWhole xs put mid old view → PutsWhole ys mid now view new → PutsWhole (xs ++ ys) put now old new
puts_then xs ys put mid now old view new a b = record {
  added = join_names old.writing (λ name. Both (Extends name xs) old.held view.held) (λ name. Both (Extends name ys) view.held new.held) (λ name. Both (Extends name (xs ++ ys)) old.held new.held)
      (λ name p q. Both-Extends-append name xs ys old.held view.held new.held p q) a.added (same_name old.writing view.writing (λ name. Both (Extends name ys) view.held new.held) a.puts.writing b.added);
  count = (let x = a.count in let y = b.count in let l = length-append xs ys in omega (arith, x, y, l));
  puts = puts_on false old view new a.puts b.puts;
}

join_prefix : (name xs ys : List ℕ) (first mid last : Option Held) → Both (Extends name xs) first mid → ExtendsByPrefix name ys mid last → ExtendsByPrefix name (xs ++ ys) first last
join_prefix name xs ys first mid last a b =
    let long = length-append xs ys in let less = b.1 in
    (length xs + b.0, omega (arith, long, less), subst (λ text. Both (Extends name text) first last) (sym (take-append-add xs ys b.0)) (Both-Extends-append name xs (take b.0 ys) first mid last a b.2))

-- or a part of it.
part_then : (xs ys : List ℕ) (f : CheckFault) (put mid : ℕ) (old view new : FilesView) → PutsWhole xs put mid old view → PutsBeginning ys f view new → PutsBeginning (xs ++ ys) f old new
part_then xs ys f put mid old view new a b = record {
  added = join_names old.writing (λ name. Both (Extends name xs) old.held view.held) (λ name. ExtendsByPrefix name ys view.held new.held) (λ name. ExtendsByPrefix name (xs ++ ys) old.held new.held)
      (λ name p q. join_prefix name xs ys old.held view.held new.held p q) a.added (same_name old.writing view.writing (λ name. ExtendsByPrefix name ys view.held new.held) a.puts.writing b.added);
  untold = b.untold;
  puts = puts_on (is_failing f) old view new a.puts b.puts;
}

longer_prefix : (name xs ys : List ℕ) (first last : Option Held) → ExtendsByPrefix name xs first last → ExtendsByPrefix name (xs ++ ys) first last
longer_prefix name xs ys first last b =
    let long = length-append xs ys in let less = b.1 in
    (b.0, omega (arith, long, less), subst (λ text. Both (Extends name text) first last) (sym (take-append-le b.0 xs ys less)) b.2)

-- A part of a text is a part of a longer one.
part_more : (xs ys : List ℕ) (f : CheckFault) (old new : FilesView) → PutsBeginning xs f old new → PutsBeginning (xs ++ ys) f old new
part_more xs ys f old new a = record {
  added = join_names old.writing (λ name. ExtendsByPrefix name xs old.held new.held) (λ name. ExtendsByPrefix name xs old.held new.held) (λ name. ExtendsByPrefix name (xs ++ ys) old.held new.held)
      (λ name p q. longer_prefix name xs ys old.held new.held p) a.added a.added;
  untold = a.untold;
  puts = a.puts;
}

-- ---- the loop over lines

take_next : (xs : List CertLine) (i : ℕ) (x : CertLine) → i < length xs → x ≡ get_or xs i x → take (i + 1) xs ≡ take i xs ++ x ∷ []
take_next xs i x lt is = take_more xs i x lt ∙ ap (λ y. take i xs ++ y ∷ []) (sym is)

-- the text of one line more
text_next : (xs : List CertLine) (i : ℕ) (x : CertLine) → i < length xs → x ≡ get_or xs i x → lines_text (take (i + 1) xs) ≡ lines_text (take i xs) ++ line_text x
text_next xs i x lt is = ap lines_text (take_next xs i x lt is) ∙ (flat_map-append line_text (take i xs) (x ∷ []) ∙ ap (λ t. lines_text (take i xs) ++ t) (append-nil (line_text x)))

-- the lines up to one, this line, and the others
text_parts : (xs : List CertLine) (i : ℕ) (x : CertLine) → i < length xs → x ≡ get_or xs i x → lines_text xs ≡ (lines_text (take i xs) ++ line_text x) ++ lines_text (drop (i + 1) xs)
text_parts xs i x lt is =
    ap lines_text (sym (take-append-drop (i + 1) xs))
    ∙ (flat_map-append line_text (take (i + 1) xs) (drop (i + 1) xs) ∙ ap (λ t. t ++ lines_text (drop (i + 1) xs)) (text_next xs i x lt is))

-- There is room for the next line.
pub next_room : (xs : List CertLine) (i : ℕ) (x : CertLine) (put now : ℕ) (old view : FilesView) → PutsWhole (lines_text (take i xs)) put now old view → i < length xs → x ≡ get_or xs i x → put + length (lines_text xs) ≤ 4294967296 → now + length (line_text x) ≤ 4294967296
next_room xs i x put now old view a lt is room =
    let parts = ap length (text_parts xs i x lt is) in
    let l = length-append (lines_text (take i xs) ++ line_text x) (lines_text (drop (i + 1) xs)) in
    let k = length-append (lines_text (take i xs)) (line_text x) in
    let c = a.count in omega (arith, parts, l, k, c, room)

-- One line more.
pub puts_next : (xs : List CertLine) (i : ℕ) (x : CertLine) (put mid now : ℕ) (old view new : FilesView) → PutsWhole (lines_text (take i xs)) put mid old view → i < length xs → x ≡ get_or xs i x → PutsWhole (line_text x) mid now view new →
    PutsWhole (lines_text (take (i + 1) xs)) put now old new
puts_next xs i x put mid now old view new a lt is b = subst (λ t. PutsWhole t put now old new) (sym (text_next xs i x lt is)) (puts_then (lines_text (take i xs)) (line_text x) put mid now old view new a b)

-- A part of the next line.
pub part_next : (xs : List CertLine) (i : ℕ) (x : CertLine) (f : CheckFault) (put mid : ℕ) (old view new : FilesView) → PutsWhole (lines_text (take i xs)) put mid old view → i < length xs → x ≡ get_or xs i x → PutsBeginning (line_text x) f view new → PutsBeginning (lines_text xs) f old new
part_next xs i x f put mid old view new a lt is b =
    subst (λ t. PutsBeginning t f old new) (sym (text_parts xs i x lt is))
    (part_more (lines_text (take i xs) ++ line_text x) (lines_text (drop (i + 1) xs)) f old new (part_then (lines_text (take i xs)) (line_text x) f put mid old view new a b))

-- All lines.
pub puts_all : (xs : List CertLine) (i put now : ℕ) (old new : FilesView) → PutsWhole (lines_text (take i xs)) put now old new → length xs ≤ i → PutsWhole (lines_text xs) put now old new
puts_all xs i put now old new a le = subst (λ ys. PutsWhole (lines_text ys) put now old new) (take_all i xs le) a

-- A file is still being written.
pub still_writing : (text : List ℕ) (put now : ℕ) (old new : FilesView) → PutsWhole text put now old new → IsSome old.writing → IsSome new.writing
still_writing text put now old new a some = subst IsSome (sym a.puts.writing) some

-- ---- the whole file

-- the named file is begun
pub record IsBegun (name : List ℕ) (old mid : FilesView) : Type 0 where
  pub writing : mid.writing ≡ Some name
  pub emptied : Both (Replaces name []) old.held mid.held
  pub opened : mid.opened ≡ old.opened
  pub latest : mid.latest ≡ old.latest
  pub faults : mid.faults ≡ old.faults

replaced : (name text : List ℕ) (old mid new : Option Held) → Both (Replaces name []) old mid → Both (Extends name text) mid new → Both (Replaces name text) old new
replaced name text None None None a b = tt
replaced name text None None (Some n) a b = absurd b
replaced name text None (Some m) new a b = absurd a
replaced name text (Some o) None new a b = absurd a
replaced name text (Some o) (Some m) None a b = absurd b
replaced name text (Some o) (Some m) (Some n) a b = record { here = b.here ∙ ap (λ t. t ++ text) a.here; others = λ other ne. b.others other ne ∙ a.others other ne }

at_name : (writing : Option (List ℕ)) (name : List ℕ) (P : List ℕ → Type 0) → writing ≡ Some name → IfSome writing P → P name
at_name writing name P e h = subst (λ o. IfSome o P) e h

take_whole : (xs : List ℕ) → take (length xs) xs ≡ xs
take_whole [] = refl
take_whole (x ∷ xs) = ap (λ ys. x ∷ ys) (take_whole xs)

all_written : (name text : List ℕ) (put now : ℕ) (old mid new : FilesView) → IsBegun name old mid → PutsWhole text put now mid new → Both (Replaces name text) old.held new.held
all_written name text put now old mid new begun a = replaced name text old.held mid.held new.held begun.emptied (at_name mid.writing name (λ name. Both (Extends name text) mid.held new.held) begun.writing a.added)

part_written : (name text : List ℕ) (f : CheckFault) (old mid new : FilesView) → IsBegun name old mid → PutsBeginning text f mid new → IsCutOff name text old.held new.held
part_written name text f old mid new begun a =
    let p = at_name mid.writing name (λ name. ExtendsByPrefix name text mid.held new.held) begun.writing a.added in
    inr (p.0, replaced name (take p.0 text) old.held mid.held new.held begun.emptied p.2)

all_cut : (name text : List ℕ) (old new : Option Held) → Both (Replaces name text) old new → IsCutOff name text old new
all_cut name text old new all = inr (length text, subst (λ t. Both (Replaces name t) old new) (sym (take_whole text)) all)

-- What was written is there when the writing has ended,
pub whole_ended : {T : Type 0} (r : Result T CheckFault) (name text : List ℕ) (put now : ℕ) (old mid new last : FilesView) → IsBegun name old mid → PutsText text r put now mid new → last.held ≡ new.held → OnOk r (Both (Replaces name text) old.held last.held)
whole_ended (Ok x) name text put now old mid new last begun puts same = subst (Both (Replaces name text) old.held) (sym same) (all_written name text put now old mid new begun puts)
whole_ended (Err f) name text put now old mid new last begun puts same = tt

pub cut_ended : {T : Type 0} (r : Result T CheckFault) (name text : List ℕ) (put now : ℕ) (old mid new last : FilesView) → IsBegun name old mid → PutsText text r put now mid new → last.held ≡ new.held → OnErr r (IsCutOff name text old.held last.held)
cut_ended (Ok x) name text put now old mid new last begun puts same = tt
cut_ended (Err f) name text put now old mid new last begun puts same = subst (IsCutOff name text old.held) (sym same) (part_written name text f old mid new begun puts)

-- also where it ended with a fault.
pub cut_failed : {T : Type 0} (r : Result T CheckFault) (name text : List ℕ) (put now : ℕ) (old mid new last : FilesView) → IsBegun name old mid → PutsText text r put now mid new → last.held ≡ new.held → IsCutOff name text old.held last.held
cut_failed (Ok x) name text put now old mid new last begun puts same = subst (IsCutOff name text old.held) (sym same) (all_cut name text old.held new.held (all_written name text put now old mid new begun puts))
cut_failed (Err f) name text put now old mid new last begun puts same = subst (IsCutOff name text old.held) (sym same) (part_written name text f old mid new begun puts)

pub untold_ended : {T : Type 0} (r : Result T CheckFault) (text : List ℕ) (put now : ℕ) (old new : FilesView) → PutsText text r put now old new → IfErr r IsUntold
untold_ended (Ok x) text put now old new puts = tt
untold_ended (Err f) text put now old new puts = puts.untold

only_puts : {T : Type 0} (r : Result T CheckFault) (text : List ℕ) (put now : ℕ) (old new : FilesView) → PutsText text r put now old new → OnlyPuts (is_check_failed r) old new
only_puts (Ok x) text put now old new puts = puts.puts
only_puts (Err f) text put now old new puts = puts.puts

pub writes_ended : {T : Type 0} (r : Result T CheckFault) (name text : List ℕ) (put now : ℕ) (old mid new last : FilesView) → IsBegun name old mid → PutsText text r put now mid new → EndsFile false new last → WritesFile name (is_check_failed r) old last
writes_ended r name text put now old mid new last begun puts ends =
    let p = only_puts r text put now mid new puts in
    let same : last.faults ≡ new.faults = ends.steady refl in
    record {
      writing = ends.writing;
      opened = ends.opened ∙ (p.opened ∙ begun.opened);
      latest = ends.latest ∙ by (is_check_failed r) p.latest;
      later = (let l = p.later in let b = begun.faults in omega (arith, same, l, b));
      rose = λ e. subst (λ n. Rose n last.faults) begun.faults (subst (λ n. Rose mid.faults n) (sym same) (p.rose e));
      steady = λ e. same ∙ (p.steady e ∙ begun.faults);
    }
  where
    by : (f : Bool) → new.latest ≡ cond f (option_map (λ name. (name, Writing)) mid.writing) mid.latest → new.latest ≡ cond f (Some (name, Writing)) old.latest
    by true e = e ∙ ap (option_map (λ name. (name, Writing))) begun.writing
    by false e = e ∙ begun.latest

pub writes_failed : {T : Type 0} (r : Result T CheckFault) (name text : List ℕ) (put now : ℕ) (old mid new last : FilesView) → IsBegun name old mid → PutsText text r put now mid new → EndsFile true new last → WritesFile name true old last
writes_failed r name text put now old mid new last begun puts ends =
    let p = only_puts r text put now mid new puts in
    record {
      writing = ends.writing;
      opened = ends.opened ∙ (p.opened ∙ begun.opened);
      latest = ends.latest ∙ ap (option_map (λ name. (name, Writing))) (p.writing ∙ begun.writing);
      later = (let l = p.later in let b = begun.faults in let m = ends.later in omega (arith, m, l, b));
      rose = λ e. subst (λ n. Rose n last.faults) begun.faults (rose_later mid.faults new.faults last.faults p.later (ends.rose refl));
      steady = λ e. absurd (true≢false e);
    }
  where
    rose_later : (a b c : ℕ) → a ≤ b → Rose b c → Rose a c
    rose_later a b c le rose = omega (arith, le, rose)

-- ---- the upgrade

-- The target's bytes are those made of the source's.
pub upgrade_written : (source target : List ℕ) (lines : List CertLine) (n : ℕ) (old mid new : Option Held) → IfSome old (λ held. IsWholeRead (held source) lines n) → mid ≡ old → Both (Replaces target (lines_text lines)) mid new → WritesUpgrade source target old new
upgrade_written source target lines n old mid new read same all = by old new read (subst (λ o. Both (Replaces target (lines_text lines)) o new) same all)
  where
    by : (old new : Option Held) → IfSome old (λ held. IsWholeRead (held source) lines n) → Both (Replaces target (lines_text lines)) old new → WritesUpgrade source target old new
    by None None read all = tt
    by None (Some b) read all = absurd all
    by (Some a) None read all = absurd all
    by (Some a) (Some b) read all = subst (λ t. Replaces target t a b) (ap lines_text read.made) all

pub upgrade_part : (source target : List ℕ) (lines : List CertLine) (n : ℕ) (old mid new : Option Held) → IfSome old (λ held. IsWholeRead (held source) lines n) → mid ≡ old → IsCutOff target (lines_text lines) mid new → IsPartWritten source target old new
upgrade_part source target lines n old mid new read same (inl e) = inl (e ∙ same)
upgrade_part source target lines n old mid new read same (inr p) = inr (p.0, by old new read (subst (λ o. Both (Replaces target (take p.0 (lines_text lines))) o new) same p.1))
  where
    by : (old new : Option Held) → IfSome old (λ held. IsWholeRead (held source) lines n) → Both (Replaces target (take p.0 (lines_text lines))) old new → Both (IsPrefixWritten source target p.0) old new
    by None None read all = tt
    by None (Some b) read all = absurd all
    by (Some a) None read all = absurd all
    by (Some a) (Some b) read all = record { conflicts = n; form = read.form; replaces = subst (λ t. Replaces target (take p.0 t) a b) (ap lines_text read.made) all }

-- A source that is refused.
pub opens_only : (source target : List ℕ) (failed : Bool) (old new : FilesView) → OpensFile source failed old new → UpgradesFile source target failed old new
opens_only source target failed old new opens = record {
  opened = opens.opened;
  later = opens.later;
  fault = λ e. inl (record { rose = opens.rose e; place = opens.latest ∙ ap (λ b. cond b (Some (source, Reading)) old.latest) e }, opens.leaves);
  latest = λ e. opens.latest ∙ ap (λ b. cond b (Some (source, Reading)) old.latest) e;
  steady = opens.steady;
}

last_opened : (source : List ℕ) (old mid new : FilesView) → IsLastOpened source old mid → new.opened ≡ mid.opened → IsLastOpened source old new
last_opened source old mid new (inl e) same = inl (same ∙ e)
last_opened source old mid new (inr e) same = inr (same ∙ e)

-- A source that was read, and a target.
pub opens_writes : (source target : List ℕ) (failed : Bool) (old mid new : FilesView) → OpensFile source false old mid → WritesFile target failed mid new → UpgradesFile source target failed old new
opens_writes source target failed old mid new opens writes =
    let same : mid.faults ≡ old.faults = opens.steady refl in
    record {
      opened = last_opened source old mid new opens.opened writes.opened;
      later = (let l = writes.later in omega (arith, l, same));
      fault = λ e. inr (record { rose = subst (λ n. Rose n new.faults) same (writes.rose e); place = writes.latest ∙ ap (λ b. cond b (Some (target, Writing)) mid.latest) e });
      latest = λ e. writes.latest ∙ (ap (λ b. cond b (Some (target, Writing)) mid.latest) e ∙ opens.latest);
      steady = λ e. writes.steady e ∙ same;
    }

-- ---- the source

-- What a reader finds from its begin on is said of the file.
pub fault_told : {T : Type 0} (r : Result T CheckFault) (held : Option Held) (name : List ℕ) (reader : ReaderView) (mid : FilesView) → reader ≡ new_reader upgrade_limit → mid.rest ≡ option_map (λ h. h name) held →
    IfErr r (λ f. WhereTold (ahead reader mid) (λ bytes. IsFaultOf (upgrade_outcome bytes) f)) → IfErr r (λ f. IfSome held (λ h. IsFaultOf (upgrade_outcome (h name)) f))
fault_told (Ok x) held name reader mid begun opened told = tt
fault_told (Err f) held name reader mid begun opened told = told_of (λ bytes. IsFaultOf (upgrade_outcome bytes) f) held name reader mid upgrade_limit begun opened told

-- what holds of an answer that is no error
pub ok_of : {T E : Type 0} (r : Result T E) (P : Type 0) (b : Bool) → b ≡ is_err r → b ≡ false → OnOk r P → P
ok_of (Ok x) P b is no_error h = h
ok_of (Err x) P b is no_error h = absurd (true≢false (sym is ∙ no_error))

-- an answer that is known
pub on_result : {T E : Type 0} (r x : Result T E) (P : Type 0) → r ≡ x → OnOk x P → OnOk r P
on_result r x P is h = subst (λ y. OnOk y P) (sym is) h
