-- The test of a row decides what it says.
use Rattle.std.proofs.Common.{◌≡◌, ℕ, zero, suc, ◌+◌, ◌-◌, ◌<◌, ◌≤◌, List, length, take, refl, sym, ap, subst, arith, Bool, true, false, true≢false, inl, inr}
use Rattle.std.specs.Prelude.{◌&&◌, ◌||◌, ◌==◌, nat_lt, Option, Some, None}
use Rattle.std.specs.Bool.{Decides}
use Rattle.std.specs.List.{list_any, concat, range_with_len}
use Rattle.std.proofs.lemmas.Slice.Eq.{bytes_eq-Decides}
use Rattle.std.proofs.lemmas.Bool.{cases_lt, eqb-true, eq-eqb, ltb-true, lt-ltb, and_parts, or_left, or_right}
use Rattle.steno_rules.specs.Outlines.{outline_of}
use Rattle.steno_rules.specs.Segments.{last_piece}
use Rattle.steno_rules.specs.Conflicts.{IsCut, Shows, outlines_of, joined_strokes}
use Rattle.certificate_laws.specs.RowTests.{has_cut, is_piece, words_show}

record InRange (test : ℕ → Bool) (a n : ℕ) : Type 0 where
  at : ℕ
  from : a ≤ at
  below : at < a + n
  passes : test at ≡ true

any_range : (test : ℕ → Bool) (a n : ℕ) → list_any test (range_with_len a n) ≡ true → InRange test a n
any_range test a zero e = absurd (true≢false (sym e))
any_range test a (suc n) e = by (test a) refl e (any_range test (a + 1) n)
  where
    by : (b : Bool) → test a ≡ b → (b || list_any test (range_with_len (a + 1) n)) ≡ true → (list_any test (range_with_len (a + 1) n) ≡ true → InRange test (a + 1) n) → InRange test a (suc n)
    by true is e' rec = record { at = a; from = omega arith; below = omega arith; passes = is }
    by false is e' rec = let r = rec e' in let f = r.from in let b = r.below in record { at = r.at; from = omega arith; below = omega arith; passes = r.passes }

range_any : (test : ℕ → Bool) (a n k : ℕ) → a ≤ k → k < a + n → test k ≡ true → list_any test (range_with_len a n) ≡ true
range_any test a zero k ge lt is = absurd (omega arith)
range_any test a (suc n) k ge lt is = elim (cases_lt a k) [
  | inl later ↦ or_right (test a) (list_any test (range_with_len (a + 1) n)) (range_any test (a + 1) n k (omega arith) (omega arith) is)
  | inr here ↦ (let same : k ≡ a = omega arith in or_left (test a) (list_any test (range_with_len (a + 1) n)) (subst (λ j. test j ≡ true) same is))
]

abbrev cut_at : List (List ℕ) → ℕ → ℕ → Bool
cut_at outlines n i = n == length (concat (take i outlines))

pub has_cut-Decides : (outlines : List (List ℕ)) (n : ℕ) → Decides (has_cut outlines n) (IsCut outlines n)
has_cut-Decides outlines n = (there, back)
  where
    there : has_cut outlines n ≡ true → IsCut outlines n
    there e = let r = any_range (cut_at outlines n) 1 (length outlines - 1) e in let f = r.from in let b = r.below in
        (r.at, omega arith, omega arith, eqb-true n (length (concat (take r.at outlines))) r.passes)

    back : IsCut outlines n → has_cut outlines n ≡ true
    back h = let f = h.1 in let b = h.2 in range_any (cut_at outlines n) 1 (length outlines - 1) h.0 (omega arith) (omega arith) (eq-eqb n (length (concat (take h.0 outlines))) h.3)

pub is_piece-Decides : (o : Option (List ℕ)) (x : List ℕ) → Decides (is_piece o x) (o ≡ Some x)
is_piece-Decides None x = (λ e. absurd (true≢false (sym e)), λ e. absurd (true≢false cc))
is_piece-Decides (Some y) x = (λ e. ap Some ((bytes_eq-Decides y x).0 e), λ e. (bytes_eq-Decides y x).1 (let same : y ≡ x = cc in same))

four : (a b c d : Bool) → a ≡ true → b ≡ true → c ≡ true → d ≡ true → (a && b && c && d) ≡ true
four a b c d ea eb ec ed = rw (ea, eb, ec, ed) refl

pub words_show-Decides : (entries : List (List ℕ)) (words : List ℕ) (e place : ℕ) → Decides (words_show entries words e place) (Shows entries words e place)
words_show-Decides entries words e place = (there, back)
  where
    outline : List ℕ
    outline = outline_of entries e

    cut : ℕ
    cut = length (joined_strokes entries words) - length outline + place

    there : words_show entries words e place ≡ true → Shows entries words e place
    there h =
        let a = and_parts (is_piece (last_piece entries (joined_strokes entries words)) outline && nat_lt 0 place && nat_lt place (length outline)) (has_cut (outlines_of entries words) cut) h in
        let b = and_parts (is_piece (last_piece entries (joined_strokes entries words)) outline && nat_lt 0 place) (nat_lt place (length outline)) a.0 in
        let c = and_parts (is_piece (last_piece entries (joined_strokes entries words)) outline) (nat_lt 0 place) b.0 in
        record {
          piece = (is_piece-Decides (last_piece entries (joined_strokes entries words)) outline).0 c.0;
          after_start = ltb-true 0 place c.1;
          before_end = ltb-true place (length outline) b.1;
          boundary = (has_cut-Decides (outlines_of entries words) cut).0 a.1;
        }

    back : Shows entries words e place → words_show entries words e place ≡ true
    back s = four (is_piece (last_piece entries (joined_strokes entries words)) outline) (nat_lt 0 place) (nat_lt place (length outline)) (has_cut (outlines_of entries words) cut)
        ((is_piece-Decides (last_piece entries (joined_strokes entries words)) outline).1 s.piece) (lt-ltb 0 place s.after_start) (lt-ltb place (length outline) s.before_end) ((has_cut-Decides (outlines_of entries words) cut).1 s.boundary)
