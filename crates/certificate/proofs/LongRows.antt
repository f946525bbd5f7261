-- A row that isn't held whole: its numbers so far, and why a line can't be one.
use Rattle.std.proofs.Common.{◌≡◌, ℕ, ◌+◌, ◌*◌, ◌<◌, ◌≤◌, List, [], ◌∷◌, ◌++◌, length, take, drop, map, refl, sym, ap, subst, arith, true, false, true≢false, ◌⊎◌, inl, inr, ◌∙◌, append_assoc, Option, Some, None}
use Rattle.std.specs.Prelude.{◌&&◌, codes, decimal, option_map}
use Rattle.std.specs.Str.{bytes_eq}
use Rattle.std.proofs.lemmas.Slice.Eq.{bytes_eq-Decides}
use Rattle.std.proofs.lemmas.Fmt.{length-decimal-le}
use Rattle.std.proofs.lemmas.List.{length-append, take-append-le}
use Rattle.text_rules.specs.Lines.{has_byte, line, parts_between}
use Rattle.text_rules.proofs.Splits.{next_part}
use Rattle.certificate.specs.CertLines.{fits, is_u32, line_text}
use Rattle.certificate.specs.CertReading.{numbers_of, of_words}
use Rattle.certificate.specs.declared.lines.CertLine.{CertLine}
use Rattle.certificate.specs.declared.lines.CertLine.TheVariants as of
use Rattle.certificate.specs.inside.Places.{IsPlace}
use Rattle.outside.specs.Files.{FilesView}
use Rattle.certificate.specs.inside.Pieces.{PiecesView, PassesOver}
use Rattle.certificate.specs.inside.Reads.{IsRowPiece, row_with}
use Rattle.certificate.proofs.Endings.{IsHopeless, read_body}
use Rattle.certificate.proofs.LineTexts.{AreU32, IsTextOf, text_read, u32}
use Rattle.certificate.proofs.PartsJoined.{parts-append, row_long, row_more, row_none}
use Rattle.certificate.proofs.Reaching.{has_byte-append, take_next}
use Rattle.certificate.proofs.Passing.{passes_over}
use Rattle.certificate.proofs.Skips.{HasPassed, passed_more}
use Rattle.certificate.proofs.Spaced.{joined, spaced}
use Rattle.std.proofs.Math.Seq.{take-length}
use Rattle.std.proofs.lemmas.Bool.{and_parts}

-- what follows this text goes on with a row of these numbers
abbrev pub IsRowSoFar : List ℕ → List ℕ → Type 0
IsRowSoFar text numbers = (rest : List ℕ) → of_words (parts_between 32 (text ++ rest)) ≡ row_with numbers (parts_between 32 rest)

-- the name of a row and its space
pub row_begins : IsRowSoFar (codes "r ") []
row_begins rest = ap of_words (next_part 32 (codes "r") rest refl)

-- the numbers up to a space were read
pub row_goes_on : (text numbers more left : List ℕ) (space : ℕ) → IsRowSoFar text numbers → IsPlace 32 left space
    → option_map (λ ns. numbers ++ ns) (numbers_of (parts_between 32 (take space left))) ≡ Some more → IsRowSoFar (text ++ take (space + 1) left) more
row_goes_on text numbers more left space row at is rest =
    ap (λ xs. of_words (parts_between 32 xs)) (append_assoc text (take (space + 1) left) rest ∙ ap (λ xs. text ++ (xs ++ rest)) (take_next 32 left space at) ∙ ap (λ xs. text ++ xs) (append_assoc (take space left) (32 ∷ []) rest))
    ∙ row (take space left ++ 32 ∷ rest)
    ∙ ap (row_with numbers) (parts-append 32 (take space left) rest)
    ∙ row_more numbers more (parts_between 32 (take space left)) (parts_between 32 rest) is

-- a number would be too long, or isn't one
row_hopeless : (text numbers left : List ℕ) → IsRowSoFar text numbers → 10 < length left
    → (has_byte 32 left ≡ false) ⊎ ((space : ℕ) × IsPlace 32 left space × (numbers_of (parts_between 32 (take space left)) ≡ None)) → IsHopeless (text ++ left)
row_hopeless text numbers left row long (inl plain) rest end =
    ap (λ xs. of_words (parts_between 32 xs)) (append_assoc text left rest) ∙ row (left ++ rest) ∙ row_long numbers left rest plain long
row_hopeless text numbers left row long (inr bad) rest end =
    ap (λ xs. of_words (parts_between 32 xs)) (append_assoc text left rest) ∙ row (left ++ rest)
    ∙ ap (λ xs. row_with numbers (parts_between 32 xs)) (ap (λ xs. xs ++ rest) bad.1.split ∙ append_assoc (take bad.0 left) (32 ∷ drop (bad.0 + 1) left) rest)
    ∙ ap (row_with numbers) (parts-append 32 (take bad.0 left) (drop (bad.0 + 1) left ++ rest))
    ∙ row_none numbers (parts_between 32 (take bad.0 left)) (parts_between 32 (drop (bad.0 + 1) left ++ rest)) bad.2

spaced_length : (ns : List ℕ) → AreU32 ns → length (spaced ns) ≤ 11 * length ns
spaced_length [] all = omega arith
spaced_length (n ∷ ns) all =
    let small = all.0 in
    let first = length-decimal-le 10 n (omega arith) (omega arith) (omega arith) in
    let others = spaced_length ns all.1 in
    let sum = length-append (decimal n) (spaced ns) in
    omega arith

line_length : (name ns : List ℕ) → AreU32 ns → length (line (name ∷ map decimal ns)) ≤ length name + 11 * length ns + 1
line_length name ns all =
    let is = ap length (ap (λ xs. xs ++ 10 ∷ []) (joined name ns)) in
    let whole = length-append (name ++ spaced ns) (10 ∷ []) in
    let words = length-append name (spaced ns) in
    let numbers = spaced_length ns all in
    omega arith

-- a line that doesn't begin so is short
short_or_row : (l : CertLine) → fits l ≡ true → (length (line_text l) ≤ 60) ⊎ (take 2 (line_text l) ≡ codes "r ")
short_or_row (of.Head n) h = inl (let len = line_length (codes "boundary-certificate") (n ∷ []) (u32 n h, tt) in omega arith)
short_or_row (of.Entries n) h = inl (let len = line_length (codes "entries") (n ∷ []) (u32 n h, tt) in omega arith)
short_or_row (of.States n) h = inl (let len = line_length (codes "states") (n ∷ []) (u32 n h, tt) in omega arith)
short_or_row (of.Distance s d) h = inl (let two = and_parts (is_u32 s) (is_u32 d) h in let len = line_length (codes "d") (s ∷ d ∷ []) (u32 s two.0, (u32 d two.1, tt)) in omega arith)
short_or_row (of.Run s t d) h =
    let two = and_parts (is_u32 s && is_u32 t) (is_u32 d) h in
    let first = and_parts (is_u32 s) (is_u32 t) two.0 in
    let len = line_length (codes "g") (s ∷ t ∷ d ∷ []) (u32 s first.0, (u32 t first.1, (u32 d two.1, tt))) in
    inl (omega arith)
short_or_row (of.Conflicts n) h = inl (let len = line_length (codes "conflicts") (n ∷ []) (u32 n h, tt) in omega arith)
short_or_row (of.Row r) h = inr refl
short_or_row of.End h = inl (omega arith)

-- a long line that begins otherwise isn't one
pub not_row_hopeless : (first : List ℕ) → 60 < length first → has_byte 10 first ≡ false → (take 2 first ≡ codes "r " → ⊥) → IsHopeless first
not_row_hopeless first long plain other rest end = by (of_words (parts_between 32 (first ++ rest))) refl
  where
    apart : (l : CertLine) → IsTextOf ((first ++ rest) ++ 10 ∷ []) l → ⊥
    apart l is = elim (short_or_row l is.fit) [
      | inl short ↦ (
          let len = ap length is.text_is in
          let whole = length-append (first ++ rest) (10 ∷ []) in
          let front = length-append first rest in
          absurd (omega arith)
          )
      | inr row ↦ other (
          sym (take-append-le 2 first rest (omega arith)) ∙ sym (take-append-le 2 (first ++ rest) (10 ∷ []) (let front = length-append first rest in omega arith))
          ∙ ap (take 2) is.text_is ∙ row
          )
    ]

    by : (o : Option CertLine) → of_words (parts_between 32 (first ++ rest)) ≡ o → o ≡ None
    by None is = refl
    by (Some l) is = absurd (apart l (text_read ((first ++ rest) ++ 10 ∷ []) l (read_body (first ++ rest) (has_byte-append 10 first rest plain end) ∙ is)))

-- a test of how the held bytes begin
pub not_row : (left : List ℕ) → false ≡ bytes_eq (take 2 left) (codes "r ") → take 2 left ≡ codes "r " → ⊥
not_row left test row = true≢false (sym (test ∙ (bytes_eq-Decides (take 2 left) (codes "r ")).1 row))

-- a part of a line was passed over, and whatever goes on so is the text of no line
pub record IsGivenUp (done room : ℕ) (text : List ℕ) (old now : PiecesView) (before after : FilesView) : Type 0 where
  pub passes : PassesOver text false old now before after
  pub so_far : HasPassed done room text
  pub hopeless : IsHopeless text

-- a full piece of it was passed over
pub give_up : (text : List ℕ) (done room : ℕ) (old now passed : PiecesView) (f g : FilesView) → PassesOver text false old now f g → HasPassed done room text
    → has_byte 10 now.left ≡ false → length now.left ≡ 65536 → done + 65536 ≤ room → passed ≡ record now { left = drop 65536 now.left }
    → IsHopeless (text ++ now.left) → IsGivenUp (done + 65536) room (text ++ now.left) old passed f g
give_up text done room old now passed f g p so_far plain len within is hopeless = record {
  passes =
      subst (λ xs. PassesOver (text ++ xs) false old passed f g) (ap (λ n. take n now.left) (sym len) ∙ take-length now.left)
      (passes_over text 65536 false old now passed f g (omega arith) is p);
  so_far = passed_more done 65536 room text now.left so_far plain len within;
  hopeless = hopeless;
}

-- a piece can't be one of a row
pub row_given_up : (text numbers more : List ℕ) (done room : ℕ) (old now piece passed : PiecesView) (f g : FilesView) → PassesOver text false old now f g → HasPassed done room text
    → IsRowSoFar text numbers → IsRowPiece None numbers more now piece → has_byte 10 now.left ≡ false → length now.left ≡ 65536 → done + 65536 ≤ room
    → passed ≡ record piece { left = drop 65536 piece.left } → IsGivenUp (done + 65536) room (text ++ now.left) old passed f g
row_given_up text numbers more done room old now piece passed f g p so_far row none plain len within is =
    give_up text done room old now passed f g p so_far plain len within (subst (λ v. passed ≡ record v { left = drop 65536 v.left }) none.0 is)
    (row_hopeless text numbers now.left row (omega arith) none.1)
