-- How long the text of the new certificate is.
use Rattle.std.proofs.Common.{◌≡◌, ℕ, suc, ◌+◌, ◌≤◌, List, [], ◌∷◌, ◌++◌, length, refl, ap, arith, Bool, true, false, cond, true≢false, Option, Some, None, ◌∙◌}
use Rattle.std.specs.Prelude.{◌&&◌, ◌==◌, nat_lt, codes, decimal}
use Rattle.std.specs.Fmt.{digits}
use Rattle.std.specs.List.{list_all, join_with_byte, AllByRecursion}
use Rattle.std.proofs.lemmas.Bool.{ltb-true}
use Rattle.std.proofs.lemmas.List.{length-append}
use Rattle.text_rules.specs.Lines.{line}
use Rattle.certificate.specs.declared.lines.CertLine.{CertLine}
use Rattle.certificate.specs.declared.lines.CertLine.TheVariants as of
use Rattle.certificate.specs.CertLines.{fits, is_u32, line_text}
use Rattle.certificate.specs.Writers.{HasWord}
use Rattle.certificate_laws.proofs.HoldLemmas.{both}
use Rattle.audit_certificate.specs.Written.{lines_text}
use Rattle.audit_certificate.proofs.Fitting.{lines_text-length}
use Rattle.cert_upgrade.specs.inside.Stages.{AreWritable}
use Rattle.cert_upgrade.specs.inside.Uppers.{joined, lines_after, run_before, with_run}

-- ---- lengths of lines

join_two : (a b : List ℕ) → length (join_with_byte 32 (a ∷ b ∷ [])) ≡ length a + 1 + length b
join_two a b = length-append a (32 ∷ b) ∙ (let e : length a + suc (length b) ≡ length a + 1 + length b = omega arith in e)

join_more : (a b : List ℕ) (rest : List (List ℕ)) → length (join_with_byte 32 (a ∷ b ∷ rest)) ≡ length a + 1 + length (join_with_byte 32 (b ∷ rest))
join_more a b rest = length-append a (32 ∷ join_with_byte 32 (b ∷ rest)) ∙ (let e : length a + suc (length (join_with_byte 32 (b ∷ rest))) ≡ length a + 1 + length (join_with_byte 32 (b ∷ rest)) = omega arith in e)

line-length : (parts : List (List ℕ)) → length (line parts) ≡ length (join_with_byte 32 parts) + 1
line-length parts = length-append (join_with_byte 32 parts) (10 ∷ [])

run-length : (s t d : ℕ) → length (line_text (of.Run s t d)) ≡ 5 + length (decimal s) + length (decimal t) + length (decimal d)
run-length s t d =
    let a = line-length (codes "g" ∷ decimal s ∷ decimal t ∷ decimal d ∷ []) in
    let b = join_more (codes "g") (decimal s) (decimal t ∷ decimal d ∷ []) in
    let c = join_more (decimal s) (decimal t) (decimal d ∷ []) in
    let e = join_two (decimal t) (decimal d) in omega (arith, a, b, c, e)

distance-length : (s d : ℕ) → length (line_text (of.Distance s d)) ≡ 4 + length (decimal s) + length (decimal d)
distance-length s d =
    let a = line-length (codes "d" ∷ decimal s ∷ decimal d ∷ []) in
    let b = join_more (codes "d") (decimal s) (decimal d ∷ []) in
    let c = join_two (decimal s) (decimal d) in omega (arith, a, b, c)

head-length : (v : ℕ) → 21 + length (decimal v) ≤ length (line_text (of.Head v))
head-length v =
    let a = line-length (codes "boundary-certificate" ∷ decimal v ∷ []) in
    let b = join_two (codes "boundary-certificate") (decimal v) in omega (arith, a, b)

-- ---- lengths of texts

pub text-push : (xs : List CertLine) (l : CertLine) → length (lines_text (xs ++ l ∷ [])) ≡ length (lines_text xs) + length (line_text l)
text-push xs l = lines_text-length xs (l ∷ []) ∙ ap (λ n. length (lines_text xs) + n) (length-append (line_text l) [] ∙ (let e : length (line_text l) + 0 ≡ length (line_text l) = omega arith in e))

-- the two runs as one are no longer
joined-length : (o : Option ℕ) (l : CertLine) (s t d : ℕ) → run_before l s d ≡ o → length (lines_text (joined o l s t d)) ≤ length (line_text l) + length (line_text (of.Run s t d))
joined-length None l s t d is =
    let a = length-append (line_text l) (line_text (of.Run s t d) ++ []) in
    let b = length-append (line_text (of.Run s t d)) [] in omega (arith, a, b)
joined-length (Some first) (of.Run f e k) s t d is = by ((s == e + 1) && (d == k)) refl is
  where
    by : (b : Bool) → ((s == e + 1) && (d == k)) ≡ b → cond b (Some f) None ≡ Some first → length (lines_text (of.Run first t d ∷ [])) ≤ length (line_text (of.Run f e k)) + length (line_text (of.Run s t d))
    by true tests same =
        let first_is : f ≡ first = cc in
        let a = length-append (line_text (of.Run first t d)) [] in
        let b = run-length first t d in
        let c = run-length f e k in
        let g = run-length s t d in
        let h = ap (λ n. length (decimal n)) first_is in omega (arith, a, b, c, g, h)
    by false tests same = absurd (true≢false cc)
joined-length (Some first) (of.Head v) s t d is = absurd (true≢false cc)
joined-length (Some first) (of.Entries k) s t d is = absurd (true≢false cc)
joined-length (Some first) (of.States k) s t d is = absurd (true≢false cc)
joined-length (Some first) (of.Distance x y) s t d is = absurd (true≢false cc)
joined-length (Some first) (of.Conflicts k) s t d is = absurd (true≢false cc)
joined-length (Some first) (of.Row r) s t d is = absurd (true≢false cc)
joined-length (Some first) of.End s t d is = absurd (true≢false cc)

with_run-length : (ls : List CertLine) (s t d : ℕ) → length (lines_text (with_run ls s t d)) ≤ length (lines_text ls) + length (line_text (of.Run s t d))
with_run-length [] s t d = let a = length-append (line_text (of.Run s t d)) [] in omega (arith, a)
with_run-length (l ∷ []) s t d = let a = joined-length (run_before l s d) l s t d refl in let b = length-append (line_text l) [] in omega (arith, a, b)
with_run-length (l ∷ m ∷ ls) s t d =
    let a = length-append (line_text l) (lines_text (with_run (m ∷ ls) s t d)) in
    let b = length-append (line_text l) (lines_text (m ∷ ls)) in
    let c = with_run-length (m ∷ ls) s t d in omega (arith, a, b, c)

-- ---- words

joined-words : (o : Option ℕ) (l : CertLine) (s t d : ℕ) → HasWord l → AllByRecursion HasWord (joined o l s t d)
joined-words None l s t d has = (has, (tt, tt))
joined-words (Some first) l s t d has = (tt, tt)

with_run-words : (ls : List CertLine) (s t d : ℕ) → AllByRecursion HasWord ls → AllByRecursion HasWord (with_run ls s t d)
with_run-words [] s t d have = (tt, tt)
with_run-words (l ∷ []) s t d have = joined-words (run_before l s d) l s t d have.0
with_run-words (l ∷ m ∷ ls) s t d have = (have.0, with_run-words (m ∷ ls) s t d have.1)

pub words-push : (ls : List CertLine) (l : CertLine) → AllByRecursion HasWord ls → HasWord l → AllByRecursion HasWord (ls ++ l ∷ [])
words-push [] l have has = (has, tt)
words-push (x ∷ ls) l have has = (have.0, words-push ls l have.1 has)

-- ---- what can be written

pub writable_none : AreWritable 0 []
writable_none = record { words = tt; size = omega arith }

-- One line more, as it was read.
pub writable_push : (given more : ℕ) (ls : List CertLine) (l : CertLine) → AreWritable given ls → HasWord l → more ≡ given + length (line_text l) → AreWritable more (ls ++ l ∷ [])
writable_push given more ls l is has e = record { words = words-push ls l is.words has; size = (let a = is.size in let b = text-push ls l in omega (arith, a, b, e)) }

head_two : length (line_text (of.Head 2)) ≡ 23
unfolding digits
head_two = refl

-- a head of another version
writable_head : (given more v : ℕ) (ls : List CertLine) → AreWritable given ls → more ≡ given + length (line_text (of.Head v)) → AreWritable more (ls ++ of.Head 2 ∷ [])
writable_head given more v ls is e = record {
  words = words-push ls (of.Head 2) is.words tt;
  size = (let a = is.size in let b = text-push ls (of.Head 2) in let c = head-length v in let two : length (line_text (of.Head 2)) ≡ 23 = head_two in omega (arith, a, b, c, e, two));
}

writable_run : (given more s t d : ℕ) (ls : List CertLine) → AreWritable given ls → given + given + length (line_text (of.Run s t d)) ≤ more + more → AreWritable more (with_run ls s t d)
writable_run given more s t d ls is le = record { words = with_run-words ls s t d is.words; size = (let a = is.size in let b = with_run-length ls s t d in omega (arith, a, b, le)) }

-- What is made of one line more.
pub writable_after : (given more : ℕ) (ls : List CertLine) (l : CertLine) → AreWritable given ls → more ≡ given + length (line_text l) → AreWritable more (lines_after ls l)
writable_after given more ls (of.Head v) is e = writable_head given more v ls is e
writable_after given more ls (of.Entries k) is e = writable_push given more ls (of.Entries k) is tt e
writable_after given more ls (of.States k) is e = writable_push given more ls (of.States k) is tt e
writable_after given more ls (of.Distance s d) is e = writable_run given more s s d ls is (let a = run-length s s d in let b = distance-length s d in omega (arith, a, b, e))
writable_after given more ls (of.Run s t d) is e = writable_run given more s t d ls is (omega (arith, e))
writable_after given more ls (of.Conflicts k) is e = record { words = is.words; size = (let a = is.size in omega (arith, a, e)) }
writable_after given more ls (of.Row r) is e = record { words = is.words; size = (let a = is.size in omega (arith, a, e)) }
writable_after given more ls of.End is e = record { words = is.words; size = (let a = is.size in omega (arith, a, e)) }

-- A line that fits has a word where it is a row.
pub has_word : (l : CertLine) → fits l ≡ true → HasWord l
has_word (of.Head v) fit = tt
has_word (of.Entries k) fit = tt
has_word (of.States k) fit = tt
has_word (of.Distance s d) fit = tt
has_word (of.Run s t d) fit = tt
has_word (of.Conflicts k) fit = tt
has_word (of.Row r) fit =
    let all = both (is_u32 r.entry && nat_lt r.place 256 && is_u32 r.strokes && nat_lt 0 (length r.words)) (list_all is_u32 r.words) fit in
    let some = both (is_u32 r.entry && nat_lt r.place 256 && is_u32 r.strokes) (nat_lt 0 (length r.words)) all.0 in
    ltb-true 0 (length r.words) some.1
has_word of.End fit = tt
