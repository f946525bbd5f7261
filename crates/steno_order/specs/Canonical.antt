-- The one text that a stroke is written as.
--     keys_from code first n    the pressed ones of n keys
--     mark code key             the character that a key is written with in this stroke
--     needs_bar, needs_hyphen   whether the stroke is written with `#` and with `-`
--     canonical code            the text of a stroke
--     canonical_text strokes    the text of a list of strokes
use Rattle.std.specs.Prelude.{ℕ, Bool, List, [], ◌∷◌, ◌++◌, ◌&&◌, ◌==◌, not, nat_lt, if◌then◌else◌, map, filter, length}
use Rattle.std.specs.List.{list_any, range_with_len, join_with_byte}
use Rattle.std.specs.Char.{is_ascii_digit}
use Rattle.steno_order.specs.Keys.{letter, numbered, has, slash, hyphen, bar}

-- the pressed ones of n keys, from `first` on
abbrev pub keys_from : ℕ → ℕ → ℕ → List ℕ
keys_from code first n = filter (has code) (range_with_len first n)

-- the digit of a key where key 0 is pressed and it has one, and its letter otherwise
abbrev pub mark : ℕ → ℕ → ℕ
mark code key = if has code 0 then numbered key else letter key

-- key 0 is pressed, and no key is written with a digit
abbrev pub needs_bar : ℕ → Bool
needs_bar code = has code 0 && not (list_any (λ key. is_ascii_digit (mark code key)) (keys_from code 1 22))

-- a key from 13 on is pressed, and none of the keys 8 to 12 is
abbrev pub needs_hyphen : ℕ → Bool
needs_hyphen code = nat_lt 0 (length (keys_from code 13 10)) && length (keys_from code 8 5) == 0

-- `#`, where the stroke needs it
abbrev pub bar_text : ℕ → List ℕ
bar_text code = if needs_bar code then bar ∷ [] else []

-- `-`, where the stroke needs it
abbrev pub hyphen_text : ℕ → List ℕ
hyphen_text code = if needs_hyphen code then hyphen ∷ [] else []

-- the keys in order, with the hyphen before key 13 and all keys after it
abbrev pub canonical : ℕ → List ℕ
canonical code = bar_text code ++ (map (mark code) (keys_from code 1 12) ++ (hyphen_text code ++ map (mark code) (keys_from code 13 10)))

-- the texts of the strokes with a slash between each two
abbrev pub canonical_text : List ℕ → List ℕ
canonical_text strokes = join_with_byte slash (map canonical strokes)
