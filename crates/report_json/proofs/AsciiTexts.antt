-- The texts of outlines and of numbers are UTF-8.
use Rattle.std.proofs.Common.{ℕ, zero, suc, ◌<◌, ◌≡◌, ◌^◌, List, [], ◌∷◌, Bool, true, false, ◌&&◌, IsUtf8, refl, map, get_or, decimal, nat_lt, codes}
use Rattle.std.specs.Prelude.{if◌then◌else◌}
use Rattle.std.proofs.lemmas.Bool.{and_parts}
use Rattle.std.proofs.lemmas.Fmt.{IsAscii-decimal}
use Rattle.std.proofs.lemmas.Str.{IsUtf8-append, IsUtf8-from_ascii, IsUtf8-nil}
use Rattle.json.proofs.Printed.Utf8.{IsUtf8-are_ascii, are_ascii}
use Rattle.steno_order.specs.Keys.{bar, has, hyphen, letter, numbered, slash}
use Rattle.steno_order.specs.Canonical.{bar_text, canonical, canonical_text, hyphen_text, keys_from, mark, needs_bar, needs_hyphen}

-- a character of a table of such characters
char_of : (table : List ℕ) (key : ℕ) → are_ascii table ≡ true → are_ascii (get_or table key 0 ∷ []) ≡ true
char_of [] key all = refl
char_of (c ∷ table) zero all = first (nat_lt c 128) (and_parts _ _ all).0
  where
    first : (b : Bool) → b ≡ true → (b && true) ≡ true
    first true is = refl
    first false is = is
char_of (c ∷ table) (suc key) all = char_of table key (and_parts _ _ all).1

marked : (code key : ℕ) → IsUtf8 (mark code key ∷ [])
marked code key = by (has code 0)
  where
    by : (b : Bool) → IsUtf8 ((if b then numbered key else letter key) ∷ [])
    by true = IsUtf8-are_ascii (numbered key ∷ []) (char_of (codes "#12K3W4R50*EU6R7B8G9SDZ") key refl)
    by false = IsUtf8-are_ascii (letter key ∷ []) (char_of (codes "#STKPWHRAO*EUFRPBLGTSDZ") key refl)

all_marked : (code : ℕ) (keys : List ℕ) → IsUtf8 (map (mark code) keys)
all_marked code [] = IsUtf8-nil
all_marked code (key ∷ keys) = IsUtf8-append (mark code key ∷ []) (map (mark code) keys) (marked code key) (all_marked code keys)

one_or_none : (b : Bool) (c : ℕ) → are_ascii (c ∷ []) ≡ true → IsUtf8 (if b then c ∷ [] else [])
one_or_none true c is = IsUtf8-are_ascii (c ∷ []) is
one_or_none false c is = IsUtf8-nil

utf8_stroke : (code : ℕ) → IsUtf8 (canonical code)
utf8_stroke code =
    IsUtf8-append (bar_text code) _ (one_or_none (needs_bar code) bar refl)
    (IsUtf8-append (map (mark code) (keys_from code 1 12)) _ (all_marked code (keys_from code 1 12))
    (IsUtf8-append (hyphen_text code) _ (one_or_none (needs_hyphen code) hyphen refl) (all_marked code (keys_from code 13 10))))

-- the text of an outline
pub utf8_outline : (strokes : List ℕ) → IsUtf8 (canonical_text strokes)
utf8_outline [] = IsUtf8-nil
utf8_outline (s ∷ []) = utf8_stroke s
utf8_outline (s ∷ t ∷ strokes) =
    IsUtf8-append (canonical s) (slash ∷ canonical_text (t ∷ strokes)) (utf8_stroke s)
    (IsUtf8-append (slash ∷ []) (canonical_text (t ∷ strokes)) (IsUtf8-are_ascii (slash ∷ []) refl) (utf8_outline (t ∷ strokes)))

-- the digits of a number
pub utf8_number : (n : ℕ) → n < 2 ^ 64 → IsUtf8 (decimal n)
utf8_number n fits = IsUtf8-from_ascii (decimal n) (IsAscii-decimal n fits)
