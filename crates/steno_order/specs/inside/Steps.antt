-- What the private functions of the code do: reading one character at a time, and writing stroke by stroke. That reading
-- so comes to `stroke_of` is proved.
--     has_keys c keys             the keys of the code are those that are written with the character
--     next_key_of next c          the first key from `next` on that is written with the character
--     after_character p c                   the state after_character one more character
--     spelt_from p text           the stroke, if this text goes on from the state to one
--     readings_from p text        what each part between slashes spells, where the first goes on from the state
--     readings_left rest          what each part of a text spells, if there is a text left
--     has_one code keys           the stroke has one of these keys
--     others_text strokes         the strokes' texts, each after_character a slash
use Rattle.std.specs.Prelude.{ℕ, ◌+◌, ◌^◌, List, [], ◌∷◌, ◌++◌, Bool, true, ◌&&◌, ◌==◌, not, nat_lt, nat_le, max, if◌then◌else◌, find, map, Option, Some, None, option_map, option_and_then}
use Rattle.std.specs.List.{list_all, list_any, range_with_len}
use Rattle.std.specs.Char.{is_ascii_digit}
use Rattle.std.specs.Int.Bits.{bit_or}
use Rattle.steno_rules.specs.Outlines.{key_count}
use Rattle.steno_order.specs.declared.pressed.Pressed.{Pressed}
use Rattle.steno_order.specs.Keys.{is_written, has, hyphen, slash}
use Rattle.steno_order.specs.Canonical.{canonical}
use Rattle.steno_order.specs.Spelling.{parts_of}
use Rattle.steno_order.specs.Reading.{stroke_of, readings}

-- the keys of the code are those that are written with the character
abbrev pub has_keys : ℕ → ℕ → Bool
has_keys c keys = nat_lt keys (2 ^ key_count) && list_all (λ key. if is_written c key then has keys key else not (has keys key)) (range_with_len 0 key_count)

-- the first key from `next` on that is written with the character
unfoldable pub next_key_of : ℕ → ℕ → Option ℕ
next_key_of next c = find (λ key. is_written c key && nat_le next key) (range_with_len 0 key_count)

-- after_character a hyphen, where none came before it and no key from 13 on
abbrev pub divided : Pressed → Option Pressed
divided p = if not p.hyphen && nat_le p.next 13 then Some (record { code = p.code; next = max p.next 11; hyphen = true }) else None

-- after_character a character that presses this key, and key 0 if it is a digit
abbrev pub with_key : Pressed → ℕ → ℕ → Pressed
with_key p c key = record { code = bit_or (bit_or p.code (2 ^ key)) (if is_ascii_digit c then 1 else 0); next = key + 1; hyphen = p.hyphen }

-- after_character one more character
abbrev pub after_character : Pressed → ℕ → Option Pressed
after_character p c = if c == hyphen then divided p else option_map (with_key p c) (next_key_of p.next c)

-- the code, if it is that of a stroke
abbrev pub stroke_with : ℕ → Option ℕ
stroke_with code = if nat_lt 0 code && nat_lt code (2 ^ key_count) then Some code else None

-- the stroke, if this text goes on from the state to one
abbrev pub spelt_from : Pressed → List ℕ → Option ℕ
spelt_from p [] = stroke_with p.code
spelt_from p (c ∷ cs) = option_and_then (λ q. spelt_from q cs) (after_character p c)

-- what the parts spell, where the first goes on from the state
abbrev pub each_from : Pressed → List (List ℕ) → List (Option ℕ)
each_from p [] = []
each_from p (part ∷ parts) = spelt_from p part ∷ map stroke_of parts

-- what the parts between slashes spell, where the first goes on from the state
abbrev pub readings_from : Pressed → List ℕ → List (Option ℕ)
readings_from p text = each_from p (parts_of text)

-- what the parts of the text that is left spell
abbrev pub readings_left : Option (List ℕ) → List (Option ℕ)
readings_left None = []
readings_left (Some text) = readings text

-- the stroke has one of these keys
unfoldable pub has_one : ℕ → ℕ → Bool
has_one code keys = list_any (λ key. has keys key && has code key) (range_with_len 0 key_count)

-- the strokes' texts, each after_character a slash
abbrev pub others_text : List ℕ → List ℕ
others_text [] = []
others_text (stroke ∷ strokes) = (slash ∷ canonical stroke) ++ others_text strokes
