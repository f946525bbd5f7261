-- What a reader finds of a line, by what it has passed over and what it holds then.
use Rattle.std.proofs.Common.{◌≡◌, ℕ, ◌+◌, ◌-◌, ◌<◌, ◌≤◌, List, [], ◌∷◌, ◌++◌, length, take, drop, refl, sym, ap, subst, arith, Bool, true, false, true≢false, cond, ◌∙◌, append_assoc, append-nil, Option, Some, None}
use Rattle.std.specs.Prelude.{◌==◌, IfSome, nat_le, if◌then◌else◌}
use Rattle.std.specs.Io.KnownBytes.{prepend_known}
use Rattle.std.proofs.lemmas.Bool.{leb-true, leb-false}
use Rattle.std.proofs.lemmas.List.{length-append, length-take-le}
use Rattle.outside.specs.Files.{FilesView}
use Rattle.text_rules.specs.Lines.{has_byte, parts_between}
use Rattle.certificate.specs.declared.lines.CertLine.{CertLine}
use Rattle.certificate.specs.declared.next_line.Read.{Read}
use Rattle.certificate.specs.declared.next_line.Read.TheVariants as read
use Rattle.certificate.specs.CertLines.{line_text}
use Rattle.certificate.specs.CertReading.{of_words}
use Rattle.certificate.specs.Readers.{BeginsBad, BeginsLong}
use Rattle.certificate.specs.inside.Places.{IsPlace, IsFirstPlace}
use Rattle.certificate.specs.inside.Pieces.{PiecesView, PassesOver}
use Rattle.certificate.specs.inside.Reads.{EndsWithin, IsHeldLine, IsNextLine, IsSkipped, TakesMore}
use Rattle.certificate.proofs.LineTexts.{text_read}
use Rattle.certificate.proofs.Endings.{bad_body, bad_later, bad_open, ends_body, ends_open, IsHopeless, long_at, long_later, read_body}
use Rattle.certificate.proofs.Passing.{passes_over, passes_then, prepend_append}
use Rattle.certificate.proofs.Reaching.{has_byte-append, take_next}

-- a part of a line was passed over: no line feed is in it, and it's within the room
pub record HasPassed (done room : ℕ) (text : List ℕ) : Type 0 where
  pub plain : has_byte 10 text ≡ false
  pub len : length text ≡ done
  pub within : done ≤ room

-- known bytes with what follows, where it's told
told : (P : List ℕ → Type 0) (xs : List ℕ) (known : Option (List ℕ)) → ((rest : List ℕ) → known ≡ Some rest → P (xs ++ rest)) → IfSome (prepend_known xs known) P
told P xs None f = tt
told P xs (Some rest) f = f rest refl

-- what was ahead of the line, by what is ahead now
pub ahead : (P : List ℕ → Type 0) (text : List ℕ) (failed : Bool) (old now : PiecesView) (f g : FilesView) → PassesOver text failed old now f g
    → ((rest : List ℕ) → g.rest ≡ Some rest → P ((text ++ now.left) ++ rest)) → IfSome (prepend_known old.left f.rest) P
ahead P text failed old now f g p each = subst (λ known. IfSome known P) (sym p.ahead) (told P (text ++ now.left) g.rest each)

-- a line that ends in the held bytes
line_split : (text left rest : List ℕ) (body : ℕ) → IsPlace 10 left body → (text ++ left) ++ rest ≡ (text ++ take body left) ++ 10 ∷ (drop (body + 1) left ++ rest)
line_split text left rest body is =
    ap (λ xs. (text ++ xs) ++ rest) is.split
    ∙ ap (λ xs. xs ++ rest) (sym (append_assoc text (take body left) (10 ∷ drop (body + 1) left)))
    ∙ append_assoc (text ++ take body left) (10 ∷ drop (body + 1) left) rest

body_length : (text left : List ℕ) (body : ℕ) → IsPlace 10 left body → length (text ++ take body left) ≡ length text + body
body_length text left body is = length-append text (take body left) ∙ ap (λ n. length text + n) (length-take-le body left (let lt = is.within in omega arith))

body_plain : (text left : List ℕ) (body : ℕ) → has_byte 10 text ≡ false → IsFirstPlace 10 left body → has_byte 10 (text ++ take body left) ≡ false
body_plain text left body plain is = has_byte-append 10 text (take body left) plain is.before

more_taken : (text : List ℕ) (room : ℕ) (old now : PiecesView) (f g : FilesView) → PassesOver text false old now f g → length text ≤ room → room < length text + length now.left → TakesMore room old now
more_taken text room old now f g p short long = λ m few counted. let all = p.least m (omega arith) counted in omega arith

long_held : (text : List ℕ) (room : ℕ) (old now : PiecesView) (f g : FilesView) → PassesOver text false old now f g → has_byte 10 text ≡ false → has_byte 10 now.left ≡ false
    → room < length text + length now.left → IfSome (prepend_known old.left f.rest) (BeginsLong room)
long_held text room old now f g p plain no_feed long =
    ahead (BeginsLong room) text false old now f g p
    (λ rest is. long_at (text ++ now.left) ((text ++ now.left) ++ rest) rest room refl (has_byte-append 10 text now.left plain no_feed)
    (let len = length-append text now.left in omega arith)
    (let len = length-append text now.left in let all = length-append (text ++ now.left) rest in omega arith))

long_line : (text : List ℕ) (room body : ℕ) (old now : PiecesView) (f g : FilesView) → PassesOver text false old now f g → has_byte 10 text ≡ false → IsFirstPlace 10 now.left body
    → room < length text + body + 1 → IfSome (prepend_known old.left f.rest) (BeginsLong room)
long_line text room body old now f g p plain at long =
    ahead (BeginsLong room) text false old now f g p
    (λ rest is. long_at (text ++ take body now.left) ((text ++ now.left) ++ rest) (10 ∷ (drop (body + 1) now.left ++ rest)) room (line_split text now.left rest body at.here) (body_plain text now.left body plain at)
    (let len = body_length text now.left body at.here in omega arith)
    (let lt = at.here.within in let len = length-append text now.left in let all = length-append (text ++ now.left) rest in omega arith))

-- of a line that can't be read: it ends in the held bytes
pub skipped_line : (answer : Read) (text : List ℕ) (done room body : ℕ) (old now : PiecesView) (f g : FilesView) → PassesOver text false old now f g → HasPassed done room text
    → IsFirstPlace 10 now.left body → answer ≡ (if nat_le (done + body + 1) room then read.Bad else read.Long) → IsSkipped answer room old now f g
skipped_line answer text done room body old now f g p so_far at is = subst (λ a. IsSkipped a room old now f g) (sym is) (by (nat_le (done + body + 1) room) refl)
  where
    by : (b : Bool) → nat_le (done + body + 1) room ≡ b → IsSkipped (cond b read.Bad read.Long) room old now f g
    by true within =
        let le = leb-true (done + body + 1) room within in
        ahead (EndsWithin room) text false old now f g p
        (λ rest e. ends_body (text ++ take body now.left) ((text ++ now.left) ++ rest) (drop (body + 1) now.left ++ rest) room (line_split text now.left rest body at.here) (body_plain text now.left body so_far.plain at)
        (let len = body_length text now.left body at.here in let all = so_far.len in omega arith))
    by false over =
        let gt = leb-false (done + body + 1) room over in
        let lt = at.here.within in
        let len = so_far.len in
        let within = so_far.within in (
          more_taken text room old now f g p (omega arith) (omega arith),
          long_line text room body old now f g p so_far.plain at (omega arith),
        )

-- it ends with the file
pub skipped_open : (answer : Read) (text : List ℕ) (done room len : ℕ) (old now : PiecesView) (f g : FilesView) → PassesOver text false old now f g → HasPassed done room text
    → has_byte 10 now.left ≡ false → IfSome g.rest (λ more. more ≡ []) → len ≡ length now.left
    → answer ≡ (if nat_le (done + len) room then read.Bad else read.Long) → IsSkipped answer room old now f g
skipped_open answer text done room len old now f g p so_far no_feed end len_is is = subst (λ a. IsSkipped a room old now f g) (sym is) (by (nat_le (done + len) room) refl)
  where
    nothing : (rest : List ℕ) → g.rest ≡ Some rest → rest ≡ []
    nothing rest e = subst (λ known. IfSome known (λ more. more ≡ [])) e end

    by : (b : Bool) → nat_le (done + len) room ≡ b → IsSkipped (cond b read.Bad read.Long) room old now f g
    by true within =
        let le = leb-true (done + len) room within in
        ahead (EndsWithin room) text false old now f g p
        (λ rest e. ends_open (text ++ now.left) ((text ++ now.left) ++ rest) room (ap (λ xs. (text ++ now.left) ++ xs) (nothing rest e) ∙ append-nil (text ++ now.left)) (has_byte-append 10 text now.left so_far.plain no_feed)
        (let all = length-append text now.left in let first = so_far.len in omega arith))
    by false over =
        let gt = leb-false (done + len) room over in
        let first = so_far.len in
        let within = so_far.within in (
          more_taken text room old now f g p (omega arith) (omega arith),
          long_held text room old now f g p so_far.plain no_feed (omega arith),
        )

-- it goes on behind the room
pub skipped_long : (text : List ℕ) (done room : ℕ) (old now : PiecesView) (f g : FilesView) → PassesOver text false old now f g → HasPassed done room text
    → has_byte 10 now.left ≡ false → room < done + length now.left → IsSkipped read.Long room old now f g
skipped_long text done room old now f g p so_far no_feed over =
    let first = so_far.len in
    let within = so_far.within in (
      more_taken text room old now f g p (omega arith) (omega arith),
      long_held text room old now f g p so_far.plain no_feed (omega arith),
    )

-- of a line that may be read: it ends in the held bytes
pub read_held : (answer : Read) (line : Option CertLine) (text : List ℕ) (done room body : ℕ) (old now new : PiecesView) (f g : FilesView) → PassesOver text false old now f g
    → HasPassed done room text → IsFirstPlace 10 now.left body → of_words (parts_between 32 (text ++ take body now.left)) ≡ line → IsHeldLine answer line body done room now new → IsNextLine answer room old new f g
read_held (read.Line l len) line text done room body old now new f g p so_far at words found =
    let known = text_read ((text ++ take body now.left) ++ 10 ∷ []) l (read_body (text ++ take body now.left) (body_plain text now.left body so_far.plain at) ∙ words ∙ found.0) in
    let whole : text ++ take (body + 1) now.left ≡ line_text l =
    ap (λ xs. text ++ xs) (take_next 10 now.left body at.here) ∙ sym (append_assoc text (take body now.left) (10 ∷ [])) ∙ known.text_is in
    let size = ap length known.text_is in
    let len_is = body_length text now.left body at.here in
    let snoc = length-append (text ++ take body now.left) (10 ∷ []) in
    let first = so_far.len in
    let count = found.1 in (
      subst (λ t. PassesOver t false old new f g) whole (passes_over text (body + 1) false old now new f g (let lt = at.here.within in omega arith) found.3 p),
      known.fit,
      omega arith,
      found.2,
    )
read_held read.Bad line text done room body old now new f g p so_far at words found =
    ahead (BeginsBad room) text false old now f g p
    (λ rest e. bad_body (text ++ take body now.left) ((text ++ now.left) ++ rest) (drop (body + 1) now.left ++ rest) room (line_split text now.left rest body at.here) (body_plain text now.left body so_far.plain at)
    (let len = body_length text now.left body at.here in let all = so_far.len in let within = found.1 in omega arith) (words ∙ found.0))
read_held read.Long line text done room body old now new f g p so_far at words found =
    let over = found.0 in
    let lt = at.here.within in
    let first = so_far.len in
    let within = so_far.within in (
      subst (λ v. TakesMore room old v) (sym found.1) (more_taken text room old now f g p (omega arith) (omega arith)),
      long_line text room body old now f g p so_far.plain at (omega arith),
    )
read_held read.End line text done room body old now new f g p so_far at words found = absurd found

-- it ends with the file
pub read_last : (answer : Read) (text : List ℕ) (done room len : ℕ) (old now : PiecesView) (f g : FilesView) → PassesOver text false old now f g → HasPassed done room text
    → has_byte 10 now.left ≡ false → IfSome g.rest (λ more. more ≡ []) → len ≡ done + length now.left → 0 < len
    → answer ≡ (if nat_le len room then read.Bad else read.Long) → IsNextLine answer room old now f g
read_last answer text done room len old now f g p so_far no_feed end len_is some is = subst (λ a. IsNextLine a room old now f g) (sym is) (by (nat_le len room) refl)
  where
    nothing : (rest : List ℕ) → g.rest ≡ Some rest → rest ≡ []
    nothing rest e = subst (λ known. IfSome known (λ more. more ≡ [])) e end

    by : (b : Bool) → nat_le len room ≡ b → IsNextLine (cond b read.Bad read.Long) room old now f g
    by true within =
        let le = leb-true len room within in
        ahead (BeginsBad room) text false old now f g p
        (λ rest e. bad_open (text ++ now.left) ((text ++ now.left) ++ rest) room (ap (λ xs. (text ++ now.left) ++ xs) (nothing rest e) ∙ append-nil (text ++ now.left)) (has_byte-append 10 text now.left so_far.plain no_feed)
        (let all = length-append text now.left in let first = so_far.len in omega arith)
        (let all = length-append text now.left in let first = so_far.len in omega arith))
    by false over =
        let gt = leb-false len room over in
        let first = so_far.len in
        let within = so_far.within in (
          more_taken text room old now f g p (omega arith) (omega arith),
          long_held text room old now f g p so_far.plain no_feed (omega arith),
        )

-- some bytes are held
pub not_empty : (xs : List ℕ) → false ≡ (length xs == 0) → 0 < length xs
not_empty [] e = absurd (true≢false (sym e))
not_empty (x ∷ xs) e = omega arith

onward : (P Q : List ℕ → Type 0) (text : List ℕ) (known : Option (List ℕ)) → IfSome known Q → ((bytes : List ℕ) → Q bytes → P (text ++ bytes)) → IfSome (prepend_known text known) P
onward P Q text None q each = tt
onward P Q text (Some bytes) q each = each bytes q

-- of what was ahead, by what is ahead behind the text
later : (P Q : List ℕ → Type 0) (text : List ℕ) (old now : PiecesView) (f g : FilesView) → PassesOver text false old now f g
    → IfSome (prepend_known now.left g.rest) Q → ((bytes : List ℕ) → Q bytes → P (text ++ bytes)) → IfSome (prepend_known old.left f.rest) P
later P Q text old now f g p q each =
    subst (λ known. IfSome known P) (sym (p.ahead ∙ sym (prepend_append text now.left g.rest))) (onward P Q text (prepend_known now.left g.rest) q each)

-- it can't be read, and was passed over
pub read_skipped : (answer : Read) (text : List ℕ) (done room left : ℕ) (old now new : PiecesView) (f g h : FilesView) → PassesOver text false old now f g → HasPassed done room text → 0 < done
    → left ≡ room - done → IsHopeless text → IsSkipped answer left now new g h → IsNextLine answer room old new f h
read_skipped (read.Line l len) text done room left old now new f g h p so_far some left_is hopeless skipped = absurd skipped
read_skipped read.End text done room left old now new f g h p so_far some left_is hopeless skipped = absurd skipped
read_skipped read.Bad text done room left old now new f g h p so_far some left_is hopeless skipped =
    later (BeginsBad room) (EndsWithin left) text old now f g p skipped
    (λ bytes e. bad_later text bytes room so_far.plain (let first = so_far.len in omega arith) (let first = so_far.len in let within = so_far.within in omega arith) hopeless
    (let first = so_far.len in let same : left ≡ room - length text = omega arith in subst (λ n. EndsWithin n bytes) same e))
read_skipped read.Long text done room left old now new f g h p so_far some left_is hopeless skipped = (
  λ m few counted.
      let first = so_far.len in
      let within = so_far.within in
      let all = p.least m (omega arith) counted in
      let more = skipped.0 (m + length text) (omega arith) (omega arith) in
      omega arith,
  later (BeginsLong room) (BeginsLong left) text old now f g p skipped.1
      (λ bytes e. long_later text bytes room so_far.plain (let first = so_far.len in let within = so_far.within in omega arith)
      (let first = so_far.len in let same : left ≡ room - length text = omega arith in subst (λ n. BeginsLong n bytes) same e)),
)

-- bytes were taken before
pub read_on : (answer : Read) (room : ℕ) (old now new : PiecesView) (f g h : FilesView) → PassesOver [] false old now f g → IsNextLine answer room now new g h → IsNextLine answer room old new f h
read_on (read.Line l len) room old now new f g h p r = (passes_then [] (line_text l) false old now new f g h p r.0, r.1, r.2, r.3)
read_on read.End room old now new f g h p r = (passes_then [] [] false old now new f g h p r.0, subst (λ known. IfSome known (λ bytes. bytes ≡ [])) (sym p.ahead) r.1)
read_on read.Bad room old now new f g h p r = subst (λ known. IfSome known (BeginsBad room)) (sym p.ahead) r
read_on read.Long room old now new f g h p r = (
  λ m few counted. r.0 m few (let all = p.least m (omega arith) counted in omega arith),
  subst (λ known. IfSome known (BeginsLong room)) (sym p.ahead) r.1,
)

-- nothing of the line was passed over
pub passed_none : (room : ℕ) → HasPassed 0 room []
passed_none room = record { plain = refl; len = refl; within = omega arith }

-- more of it was passed over
pub passed_more : (done more room : ℕ) (text bytes : List ℕ) → HasPassed done room text → has_byte 10 bytes ≡ false → length bytes ≡ more → done + more ≤ room → HasPassed (done + more) room (text ++ bytes)
passed_more done more room text bytes so_far plain len within = record {
  plain = has_byte-append 10 text bytes so_far.plain plain;
  len = let sum = length-append text bytes in let first = so_far.len in omega arith;
  within = within;
}
