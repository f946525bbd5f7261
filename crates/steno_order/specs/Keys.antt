-- The 23 keys in steno order, and the characters that they are written with. A character is its byte.
--     letter key              the key's letter
--     numbered key            what it is written with where key 0 is pressed: its digit, or its letter where it has no digit
--     is_written c key        the character c is the key's letter or its digit
--     has code key            the stroke of this code has the key
--     slash, hyphen           the two characters that press no key
--     bar                     the letter of key 0
--     has_bar text            a character of the text presses key 0
--     keys_code barred keys     the code of these keys, with key 0 or without
use Rattle.std.specs.Prelude.{ℕ, ◌/◌, ◌%◌, ◌^◌, List, Bool, ◌+◌, ◌&&◌, ◌||◌, ◌==◌, nat_lt, slice_index, codes, sum_by, if◌then◌else◌}
use Rattle.std.specs.List.{list_any}
use Rattle.std.specs.Char.{is_ascii_digit}
use Rattle.steno_rules.specs.Outlines.{key_count}

-- the letter of each key
abbrev pub letter : ℕ → ℕ
letter key = slice_index (codes "#STKPWHRAO*EUFRPBLGTSDZ") key

-- the digit of each key, or its letter where it has no digit
abbrev pub numbered : ℕ → ℕ
numbered key = slice_index (codes "#12K3W4R50*EU6R7B8G9SDZ") key

-- the character is the letter or the digit of the key
abbrev pub is_written : ℕ → ℕ → Bool
is_written c key = nat_lt key key_count && (letter key == c || numbered key == c)

-- the bit of the key is set
abbrev pub has : ℕ → ℕ → Bool
has code key = code / 2 ^ key % 2 == 1

-- `/`, which stands between strokes
abbrev pub slash : ℕ
slash = 47

-- `-`, which divides a stroke's keys
abbrev pub hyphen : ℕ
hyphen = 45

-- `#`, the letter of key 0
abbrev pub bar : ℕ
bar = 35

-- a bar or a digit presses key 0
abbrev pub has_bar : List ℕ → Bool
has_bar text = list_any (λ c. c == bar || is_ascii_digit c) text

-- the sum of the keys' powers of two, and of that of key 0 where it is pressed too
abbrev pub keys_code : Bool → List ℕ → ℕ
keys_code barred keys = sum_by (λ key. 2 ^ key) keys + (if barred then 1 else 0)
