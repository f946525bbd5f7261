-- How the first line of some bytes ends.
use Rattle.std.proofs.Common.{◌≡◌, ℕ, ◌+◌, ◌-◌, ◌<◌, ◌≤◌, List, [], ◌∷◌, ◌++◌, length, take, refl, sym, ap, arith, false, inl, inr, ◌∙◌, append_assoc, append-nil}
use Rattle.std.specs.Prelude.{None}
use Rattle.std.proofs.lemmas.List.{length-append, take-append-le}
use Rattle.std.proofs.Math.Seq.{take-append-add}
use Rattle.text_rules.specs.Lines.{has_byte, parts_between}
use Rattle.text_rules.proofs.Splits.{one_part, next_part}
use Rattle.certificate.specs.CertReading.{of_body, of_words, read_line}
use Rattle.certificate.specs.Readers.{BeginsBad, BeginsLong, IsLineText}
use Rattle.certificate.specs.inside.Reads.{EndsWithin, IsLineEnd}
use Rattle.certificate.proofs.Reaching.{has_byte-append, plain_take}

-- a line with its line feed is read by its words
pub read_body : (body : List ℕ) → has_byte 10 body ≡ false → read_line (body ++ 10 ∷ []) ≡ of_words (parts_between 32 body)
read_body body plain = ap of_body (next_part 10 body [] plain)

-- a line without a line feed isn't read
read_open : (text : List ℕ) → has_byte 10 text ≡ false → read_line text ≡ None
read_open text plain = ap of_body (one_part 10 text plain)

snoc_length : (body : List ℕ) → length (body ++ 10 ∷ []) ≡ length body + 1
snoc_length body = length-append body (10 ∷ [])

-- A line with its line feed that is the text of no line.
pub bad_body : (body bytes rest : List ℕ) (room : ℕ) → bytes ≡ body ++ 10 ∷ rest → has_byte 10 body ≡ false → length body + 1 ≤ room
    → of_words (parts_between 32 body) ≡ None → BeginsBad room bytes
bad_body body bytes rest room is plain within none = record {
  text = body ++ 10 ∷ [];
  rest = rest;
  split = is ∙ sym (append_assoc body (10 ∷ []) rest);
  is_line = inl (body, refl, plain);
  within = let len = snoc_length body in omega arith;
  bad = read_body body plain ∙ none;
}

-- A last line without a line feed is the text of no line.
pub bad_open : (text bytes : List ℕ) (room : ℕ) → bytes ≡ text → has_byte 10 text ≡ false → 0 < length text → length text ≤ room → BeginsBad room bytes
bad_open text bytes room is plain some within = record {
  text = text;
  rest = [];
  split = is ∙ sym (append-nil text);
  is_line = inr (some, plain, refl);
  within = within;
  bad = read_open text plain;
}

-- Bytes without a line feed that go on behind the room.
pub long_at : (text bytes rest : List ℕ) (room : ℕ) → bytes ≡ text ++ rest → has_byte 10 text ≡ false → room ≤ length text → room < length bytes → BeginsLong room bytes
long_at text bytes rest room is plain short more = record {
  more = more;
  no_end = ap (λ xs. has_byte 10 (take room xs)) is ∙ ap (has_byte 10) (take-append-le room text rest short) ∙ plain_take room text plain;
}

-- A line that ends with its line feed.
pub ends_body : (body bytes rest : List ℕ) (room : ℕ) → bytes ≡ body ++ 10 ∷ rest → has_byte 10 body ≡ false → length body + 1 ≤ room → EndsWithin room bytes
ends_body body bytes rest room is plain within = record {
  text = body ++ 10 ∷ [];
  rest = rest;
  split = is ∙ sym (append_assoc body (10 ∷ []) rest);
  is_end = inl (body, refl, plain);
  within = let len = snoc_length body in omega arith;
}

-- A line that ends with the file.
pub ends_open : (text bytes : List ℕ) (room : ℕ) → bytes ≡ text → has_byte 10 text ≡ false → length text ≤ room → EndsWithin room bytes
ends_open text bytes room is plain within = record { text = text; rest = []; split = is ∙ sym (append-nil text); is_end = inr (plain, refl); within = within }

-- whatever line begins so is the text of no line
abbrev pub IsHopeless : List ℕ → Type 0
IsHopeless first = (rest : List ℕ) → has_byte 10 rest ≡ false → of_words (parts_between 32 (first ++ rest)) ≡ None

-- What is ahead of a line that was passed over in part: it ends, and is the text of no line;
pub bad_later : (first bytes : List ℕ) (room : ℕ) → has_byte 10 first ≡ false → 0 < length first → length first ≤ room → IsHopeless first
    → EndsWithin (room - length first) bytes → BeginsBad room (first ++ bytes)
bad_later first bytes room plain some short hopeless e = record {
  text = first ++ e.text;
  rest = e.rest;
  split = ap (λ xs. first ++ xs) e.split ∙ sym (append_assoc first e.text e.rest);
  is_line = line e.text e.rest e.is_end;
  within = let len = length-append first e.text in let within = e.within in omega arith;
  bad = none e.text e.rest e.is_end;
}
  where
    line : (text rest : List ℕ) → IsLineEnd text rest → IsLineText (first ++ text) rest
    line text rest (inl is) = inl (first ++ is.0, ap (λ xs. first ++ xs) is.1 ∙ sym (append_assoc first is.0 (10 ∷ [])), has_byte-append 10 first is.0 plain is.2)
    line text rest (inr is) = inr (let len = length-append first text in omega arith, has_byte-append 10 first text plain is.0, is.1)

    none : (text rest : List ℕ) → IsLineEnd text rest → read_line (first ++ text) ≡ None
    none text rest (inl is) =
        ap (λ xs. read_line (first ++ xs)) is.1 ∙ ap read_line (sym (append_assoc first is.0 (10 ∷ [])))
        ∙ read_body (first ++ is.0) (has_byte-append 10 first is.0 plain is.2) ∙ hopeless is.0 is.2
    none text rest (inr is) = read_open (first ++ text) (has_byte-append 10 first text plain is.0)

-- or it goes on behind the room.
pub long_later : (first bytes : List ℕ) (room : ℕ) → has_byte 10 first ≡ false → length first ≤ room → BeginsLong (room - length first) bytes → BeginsLong room (first ++ bytes)
long_later first bytes room plain short long = record {
  more = let len = length-append first bytes in let more = long.more in omega arith;
  no_end =
      (let sum : room ≡ length first + (room - length first) = omega arith in ap (λ n. has_byte 10 (take n (first ++ bytes))) sum)
      ∙ ap (has_byte 10) (take-append-add first bytes (room - length first))
      ∙ has_byte-append 10 first (take (room - length first) bytes) plain long.no_end;
}
