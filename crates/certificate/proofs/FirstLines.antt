-- The first line of some bytes.
use Rattle.std.proofs.Common.{◌≡◌, ℕ, ◌+◌, ◌<◌, List, [], ◌∷◌, ◌++◌, map, length, refl, sym, ap, subst, arith, true, false, cond, inl, inr, ◌∙◌, append_assoc, append-nil}
use Rattle.std.specs.Prelude.{◌&&◌, ◌==◌, nat_lt, Some, None, count_by, codes, decimal}
use Rattle.std.specs.List.{list_all, onto_first, join_with_byte}
use Rattle.std.proofs.lemmas.List.Sums.{sum_by-append}
use Rattle.std.proofs.lemmas.Bool.{ltb-true, and_parts, or_parts}
use Rattle.text_rules.specs.Lines.{has_byte}
use Rattle.certificate.specs.declared.lines.CertLine.{CertLine}
use Rattle.certificate.specs.declared.lines.CertLine.TheVariants as of
use Rattle.certificate.specs.CertLines.{line_text, fits, is_u32}
use Rattle.certificate.specs.CertReading.{lines_of, read_line, read_lines}
use Rattle.certificate.specs.Readers.{IsLineText}
use Rattle.certificate.proofs.LineTexts.{u32, all_u32, plain_line, read_text}

-- A line with its line feed is the first of the lines.
pub lines_of-line : (body rest : List ℕ) → has_byte 10 body ≡ false → lines_of (body ++ 10 ∷ rest) ≡ (body ++ 10 ∷ []) ∷ lines_of rest
lines_of-line [] rest h = refl
lines_of-line (c ∷ cs) rest h = let two = or_parts (c == 10) (has_byte 10 cs) h in rw (two.0, lines_of-line cs rest two.1) refl

-- What has no line feed is one line.
pub lines_of-open : (text : List ℕ) → 0 < length text → has_byte 10 text ≡ false → lines_of text ≡ text ∷ []
lines_of-open [] some h = absurd (omega arith)
lines_of-open (c ∷ []) some h = let two = or_parts (c == 10) false h in rw two.0 refl
lines_of-open (c ∷ d ∷ cs) some h = let two = or_parts (c == 10) (has_byte 10 (d ∷ cs)) h in ap (λ b. cond b ((c ∷ []) ∷ lines_of (d ∷ cs)) (onto_first c (lines_of (d ∷ cs)))) two.0 ∙ ap (onto_first c) (lines_of-open (d ∷ cs) (omega arith) two.1)

-- The first line of some bytes, and the others.
pub lines_of-first : (text rest : List ℕ) → IsLineText text rest → lines_of (text ++ rest) ≡ text ∷ lines_of rest
lines_of-first text rest (inl h) =
    ap (λ t. lines_of (t ++ rest)) h.1 ∙ (ap lines_of (append_assoc h.0 (10 ∷ []) rest) ∙ (lines_of-line h.0 rest h.2 ∙ ap (λ t. t ∷ lines_of rest) (sym h.1)))
lines_of-first text rest (inr h) = rw h.2 (ap lines_of (append-nil text) ∙ lines_of-open text h.0 h.1)

-- The text of a line is a line with its line feed.
pub line_body : (l : CertLine) → fits l ≡ true → (body : List ℕ) × (line_text l ≡ body ++ 10 ∷ []) × (has_byte 10 body ≡ false)
line_body (of.Head v) h = (join_with_byte 32 (codes "boundary-certificate" ∷ decimal v ∷ []), refl, plain_line (codes "boundary-certificate") (v ∷ []) refl (u32 v h, tt))
line_body (of.Entries n) h = (join_with_byte 32 (codes "entries" ∷ decimal n ∷ []), refl, plain_line (codes "entries") (n ∷ []) refl (u32 n h, tt))
line_body (of.States n) h = (join_with_byte 32 (codes "states" ∷ decimal n ∷ []), refl, plain_line (codes "states") (n ∷ []) refl (u32 n h, tt))
line_body (of.Distance s d) h = let two = and_parts (is_u32 s) (is_u32 d) h in (join_with_byte 32 (codes "d" ∷ decimal s ∷ decimal d ∷ []), refl, plain_line (codes "d") (s ∷ d ∷ []) refl (u32 s two.0, (u32 d two.1, tt)))
line_body (of.Run s t d) h =
    let two = and_parts (is_u32 s && is_u32 t) (is_u32 d) h in
    let first = and_parts (is_u32 s) (is_u32 t) two.0 in
    (join_with_byte 32 (codes "g" ∷ decimal s ∷ decimal t ∷ decimal d ∷ []), refl, plain_line (codes "g") (s ∷ t ∷ d ∷ []) refl (u32 s first.0, (u32 t first.1, (u32 d two.1, tt))))
line_body (of.Conflicts n) h = (join_with_byte 32 (codes "conflicts" ∷ decimal n ∷ []), refl, plain_line (codes "conflicts") (n ∷ []) refl (u32 n h, tt))
line_body (of.Row r) h =
    let a = and_parts (is_u32 r.entry && nat_lt r.place 256 && is_u32 r.strokes && nat_lt 0 (length r.words)) (list_all is_u32 r.words) h in
    let b = and_parts (is_u32 r.entry && nat_lt r.place 256 && is_u32 r.strokes) (nat_lt 0 (length r.words)) a.0 in
    let c = and_parts (is_u32 r.entry && nat_lt r.place 256) (is_u32 r.strokes) b.0 in
    let d = and_parts (is_u32 r.entry) (nat_lt r.place 256) c.0 in
    let place = ltb-true r.place 256 d.1 in (
      join_with_byte 32 (codes "r" ∷ decimal r.entry ∷ decimal r.place ∷ decimal r.strokes ∷ map decimal r.words),
      refl,
      plain_line (codes "r") (r.entry ∷ r.place ∷ r.strokes ∷ r.words) refl (u32 r.entry d.0, (omega (arith, place), (u32 r.strokes c.1, all_u32 r.words a.1))),
    )
line_body of.End h = (codes "end", refl, refl)

-- The text of a line, as the first of a file's lines.
pub IsLineText-line : (l : CertLine) (rest : List ℕ) → fits l ≡ true → IsLineText (line_text l) rest
IsLineText-line l rest h = inl (line_body l h)

-- Lines are read one by one: the text of a line;
pub read_lines-line : (l : CertLine) (rest : List ℕ) → fits l ≡ true → read_lines (line_text l ++ rest) ≡ Some l ∷ read_lines rest
read_lines-line l rest h = ap (map read_line) (lines_of-first (line_text l) rest (IsLineText-line l rest h)) ∙ ap (λ o. o ∷ read_lines rest) (read_text l h)

-- and the text of none.
pub read_lines-bad : (text rest : List ℕ) → IsLineText text rest → read_line text ≡ None → read_lines (text ++ rest) ≡ None ∷ read_lines rest
read_lines-bad text rest is bad = ap (map read_line) (lines_of-first text rest is) ∙ ap (λ o. o ∷ read_lines rest) bad

-- how many line feeds there are
abbrev pub feeds : List ℕ → ℕ
feeds bytes = count_by (λ c. c == 10) bytes

-- Bytes without a line feed have none,
pub no_feeds : (text : List ℕ) → has_byte 10 text ≡ false → feeds text ≡ 0
no_feeds [] h = refl
no_feeds (c ∷ cs) h = let two = or_parts (c == 10) (has_byte 10 cs) h in rw (two.0, no_feeds cs two.1) refl

-- a line has one,
pub one_feed : (body : List ℕ) → has_byte 10 body ≡ false → feeds (body ++ 10 ∷ []) ≡ 1
one_feed body h = sum_by-append (λ c. cond (c == 10) 1 0) body (10 ∷ []) ∙ ap (λ n. n + 1) (no_feeds body h)

-- and so has the text of a line,
pub line_feeds : (l : CertLine) → fits l ≡ true → feeds (line_text l) ≡ 1
line_feeds l h = let b = line_body l h in ap feeds b.1 ∙ one_feed b.0 b.2

-- which isn't empty.
pub line_not_empty : (l : CertLine) → fits l ≡ true → 0 < length (line_text l)
line_not_empty l h = let b = line_body l h in subst (λ t. 0 < length t) (sym b.1) (some b.0)
  where
    some : (body : List ℕ) → 0 < length (body ++ 10 ∷ [])
    some [] = omega arith
    some (c ∷ cs) = omega arith
