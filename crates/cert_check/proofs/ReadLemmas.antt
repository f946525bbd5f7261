-- Reading a file line by line, and what the limit says of the checks.
use Rattle.std.proofs.Common.{◌≡◌, ℕ, ◌+◌, ◌-◌, ◌<◌, ◌≤◌, List, [], ◌∷◌, ◌++◌, length, take, refl, sym, ap, subst, arith, Bool, true, false, cond, ◌⊎◌, inl, inr, ◌∙◌, append_assoc, length-append}
use Rattle.std.specs.Prelude.{◌==◌, nat_le, Some, None}
use Rattle.std.proofs.Math.Seq.{take-append-add}
use Rattle.std.proofs.lemmas.List.{length_push}
use Rattle.std.proofs.lemmas.List.Sums.{sum_by-append}
use Rattle.std.proofs.lemmas.Bool.{le-leb, leb-true}
use Rattle.certificate.specs.declared.lines.CertLine.{CertLine}
use Rattle.cert_check.specs.Reading.{IsReadTo, BeginsWithout}
use Rattle.certificate.specs.CertLines.{line_text, fits}
use Rattle.certificate.specs.CertReading.{read_lines}
use Rattle.certificate.specs.Readers.{IsLineText, BeginsBad, BeginsLong}
use Rattle.certificate_laws.proofs.UpperLemmas.{first_of}
use Rattle.certificate_laws.specs.Checks.{Lines, Check, readable_lines, can_be_made}
use Rattle.certificate.proofs.FirstLines.{feeds, no_feeds, one_feed, line_feeds, read_lines-line, read_lines-bad}
use Rattle.report.specs.declared.faults.Why.TheVariants as why
use Rattle.cert_check.specs.declared.faults.CheckFault.{CheckFault}
use Rattle.cert_check.specs.declared.faults.CheckFault.TheVariants as fault

-- Nothing was read yet.
pub read_begin : (limit : ℕ) (bytes : List ℕ) → IsReadTo limit 0 bytes [] bytes
read_begin limit bytes = record {
  split = refl;
  total = omega arith;
  within = omega arith;
  feeds = (let less : limit - 0 ≡ limit = omega arith in subst (λ n. feeds (take limit bytes) ≡ 0 + feeds (take n bytes)) (sym less) (omega arith));
}

feeds_of_line : (room : ℕ) (text rest : List ℕ) → feeds text ≡ 1 → length text ≤ room → feeds (take room (text ++ rest)) ≡ 1 + feeds (take (room - length text) rest)
feeds_of_line room text rest one fit =
    let e : length text + (room - length text) ≡ room = omega (arith, fit) in
    ap (λ n. feeds (take n (text ++ rest))) (sym e)
    ∙ (ap feeds (take-append-add text rest (room - length text))
    ∙ (sum_by-append (λ c. cond (c == 10) 1 0) text (take (room - length text) rest)
    ∙ ap (λ n. n + feeds (take (room - length text) rest)) one))

-- One more line was read.
pub read_next : (limit given : ℕ) (bytes : List ℕ) (before : Lines) (l : CertLine) (rest : List ℕ) → fits l ≡ true → given + length (line_text l) ≤ limit →
    IsReadTo limit given bytes before (line_text l ++ rest) → IsReadTo limit (given + length (line_text l)) bytes (before ++ Some l ∷ []) rest
read_next limit given bytes before l rest fit within is = record {
  split = is.split ∙ (ap (λ ls. before ++ ls) (read_lines-line l rest fit) ∙ sym (append_assoc before (Some l ∷ []) (read_lines rest)));
  total = (let t = is.total in omega (arith, t, length-append (line_text l) rest));
  within = within;
  feeds =
      (let less : limit - given - length (line_text l) ≡ limit - (given + length (line_text l)) = omega arith in
      let f = feeds_of_line (limit - given) (line_text l) rest (line_feeds l fit) (omega (arith, within)) in
      let g = subst (λ n. feeds (take (limit - given) (line_text l ++ rest)) ≡ 1 + feeds (take n rest)) less f in
      let h = is.feeds in omega (arith, g, h, length_push before (Some l)));
}

-- What needs no more lines than were read can be reached.
pub reached : (limit given : ℕ) (bytes : List ℕ) (before : Lines) (ahead : List ℕ) (c : Check) → IsReadTo limit given bytes before ahead → c.reads ≤ length before → can_be_made (readable_lines limit bytes) c ≡ true
reached limit given bytes before ahead c is le = by (nat_le (length bytes) limit)
  where
    by : (b : Bool) → can_be_made (cond b None (Some (feeds (take limit bytes)))) c ≡ true
    by true = refl
    by false = let f = is.feeds in le-leb c.reads (feeds (take limit bytes)) (omega (arith, f, le))

-- Nothing is ahead: the file ends, and is within the limit.
pub read_to_end : (limit given : ℕ) (bytes : List ℕ) (before : Lines) (ahead : List ℕ) → IsReadTo limit given bytes before ahead → ahead ≡ [] → readable_lines limit bytes ≡ None
read_to_end limit given bytes before ahead is none =
    let t = is.total in let w = is.within in let n = ap length none in
    let short : nat_le (length bytes) limit ≡ true = le-leb (length bytes) limit (omega (arith, t, w, n)) in
    ap (λ b. cond b None (Some (feeds (take limit bytes)))) short

-- a line that can be read, and is none
bad_reached : (limit given : ℕ) (bytes : List ℕ) (before : Lines) (text rest : List ℕ) (c : Check) → IsReadTo limit given bytes before (text ++ rest) → IsLineText text rest → length text ≤ limit - given → c.reads ≡ length before + 1 →
    can_be_made (readable_lines limit bytes) c ≡ true
bad_reached limit given bytes before text rest c is (inl line) fit reads = by (nat_le (length bytes) limit)
  where
    one : feeds text ≡ 1
    one = ap feeds line.1 ∙ one_feed line.0 line.2

    by : (b : Bool) → can_be_made (cond b None (Some (feeds (take limit bytes)))) c ≡ true
    by true = refl
    by false = let f = is.feeds in let g = feeds_of_line (limit - given) text rest one fit in le-leb c.reads (feeds (take limit bytes)) (omega (arith, f, g, reads))
bad_reached limit given bytes before text rest c is (inr line) fit reads =
    let t = is.total in let w = is.within in let n = ap length line.2 in let l = length-append text rest in
    let short : nat_le (length bytes) limit ≡ true = le-leb (length bytes) limit (omega (arith, t, w, n, l, fit)) in
    ap (λ b. can_be_made (cond b None (Some (feeds (take limit bytes)))) c) short

-- The next line isn't there or is none, and that can be read.
pub record NoLine (limit : ℕ) (bytes : List ℕ) (before : Lines) (ahead : List ℕ) : Type 0 where
  pub none : first_of (read_lines ahead) ≡ None
  pub can : (c : Check) → c.reads ≡ length before + 1 → can_be_made (readable_lines limit bytes) c ≡ true
  pub ends : (ahead ≡ []) ⊎ ((ls : Lines) × (read_lines ahead ≡ None ∷ ls))

pub no_line : (limit given : ℕ) (bytes : List ℕ) (before : Lines) (ahead : List ℕ) → IsReadTo limit given bytes before ahead → (ahead ≡ []) ⊎ BeginsBad (limit - given) ahead → NoLine limit bytes before ahead
no_line limit given bytes before ahead is (inl none) = record {
  none = ap (λ a. first_of (read_lines a)) none;
  can = λ c reads. ap (λ o. can_be_made o c) (read_to_end limit given bytes before ahead is none);
  ends = inl none;
}
no_line limit given bytes before ahead is (inr bad) =
    let lines = ap read_lines bad.split ∙ read_lines-bad bad.text bad.rest bad.is_line bad.bad in record {
      none = ap first_of lines;
      can = λ c reads. bad_reached limit given bytes before bad.text bad.rest c (subst (IsReadTo limit given bytes before) bad.split is) bad.is_line bad.within reads;
      ends = inr (read_lines bad.rest, lines);
    }

-- The next line doesn't end within the limit.
pub long_line : (limit given : ℕ) (bytes : List ℕ) (before : Lines) (ahead : List ℕ) → IsReadTo limit given bytes before ahead → BeginsLong (limit - given) ahead → readable_lines limit bytes ≡ Some (length before)
long_line limit given bytes before ahead is long =
    let t = is.total in let m = long.more in let w = is.within in
    let f = is.feeds in let z = no_feeds (take (limit - given) ahead) long.no_end in
    let count : feeds (take limit bytes) ≡ length before = omega (arith, f, z) in
    by (nat_le (length bytes) limit) refl count (omega (arith, t, m, w))
  where
    by : (b : Bool) → nat_le (length bytes) limit ≡ b → feeds (take limit bytes) ≡ length before → limit < length bytes → cond b None (Some (feeds (take limit bytes))) ≡ Some (length before)
    by true is_short count more = absurd (let s = leb-true (length bytes) limit is_short in omega (arith, s, more))
    by false is_long count more = ap (λ n. Some n) count

-- What a fault says of the next line.
pub data Missing (limit : ℕ) (bytes : List ℕ) (before : Lines) (ahead : List ℕ) : CheckFault → Type 0 where
  bad : (n : ℕ) → n ≡ length before + 1 → NoLine limit bytes before ahead → Missing limit bytes before ahead (fault.Rejected n why.Form)
  long : readable_lines limit bytes ≡ Some (length before) → Missing limit bytes before ahead fault.TooLong
  failed : Missing limit bytes before ahead fault.Failed
  memory : Missing limit bytes before ahead fault.Memory

pub missing : (limit given n : ℕ) (bytes : List ℕ) (before : Lines) (ahead : List ℕ) (f : CheckFault) → IsReadTo limit given bytes before ahead → n ≡ length before → BeginsWithout (limit - given) n ahead f → Missing limit bytes before ahead f
missing limit given n bytes before ahead (fault.Rejected line reason) is count h =
    subst (λ r. Missing limit bytes before ahead (fault.Rejected line r)) (sym h.1) (bad line (let e = h.0 in omega (arith, e, count)) (no_line limit given bytes before ahead is h.2))
missing limit given n bytes before ahead fault.TooLong is count h = long (long_line limit given bytes before ahead is h)
missing limit given n bytes before ahead fault.Failed is count h = failed
missing limit given n bytes before ahead fault.Memory is count h = memory
