-- What a text spells, as a function.
--     stroke_of text          the stroke, if the text spells one
--     readings text           what each part between slashes spells
--     spelt_strokes text         the strokes, if each part spells one
--     unreadable_part text    the first part that spells none, counted from 0
-- The others are the steps to these.
use Rattle.std.specs.Prelude.{ℕ, List, [], ◌∷◌, ◌++◌, ◌&&◌, ◌==◌, nat_lt, nat_le, if◌then◌else◌, find, map, position, Option, Some, None, option_map, option_and_then}
use Rattle.std.specs.Option.{is_none}
use Rattle.std.specs.List.{list_all, range_with_len}
use Rattle.steno_rules.specs.Outlines.{key_count}
use Rattle.text_rules.specs.Lines.{parts_between}
use Rattle.steno_order.specs.Keys.{is_written, keys_code, has_bar, hyphen, bar}
use Rattle.steno_order.specs.Spelling.{parts_of}

-- the first key after `last` and from `least` on that is written with the character
abbrev pub first_key : ℕ → ℕ → ℕ → Option ℕ
first_key last least c = find (λ key. is_written c key && (nat_lt last key && nat_le least key)) (range_with_len 0 key_count)

-- the last of the keys, where `key` came before them
abbrev pub last_of : ℕ → List ℕ → ℕ
last_of key [] = key
last_of key (k ∷ ks) = last_of k ks

-- the keys that the characters press, where `last` was pressed before them
abbrev pub pressed : ℕ → ℕ → List ℕ → Option (List ℕ)
pressed last least [] = Some []
pressed last least (c ∷ cs) = option_and_then (λ key. option_map (λ keys. key ∷ keys) (pressed key least cs)) (first_key last least c)

-- the keys of the characters after the hyphen, together with those before it
abbrev pub with_right : List ℕ → List ℕ → Option (List ℕ)
with_right after left = if list_all (λ key. nat_lt key 13) left then option_map (λ right. left ++ right) (pressed (last_of 0 left) 11 after) else None

-- the keys of the characters, which at most one hyphen divides
abbrev pub keys_in : List (List ℕ) → Option (List ℕ)
keys_in (whole ∷ []) = pressed 0 1 whole
keys_in (before ∷ after ∷ []) = option_and_then (with_right after) (pressed 0 1 before)
keys_in parts = None

-- the text after a first `#`
abbrev pub without_bar : List ℕ → List ℕ
without_bar [] = []
without_bar (c ∷ cs) = if c == bar then cs else (c ∷ cs)

-- the code, unless no key is pressed
abbrev pub some_code : ℕ → Option ℕ
some_code code = if nat_lt 0 code then Some code else None

-- the stroke of the keys that the text presses
abbrev pub stroke_of : List ℕ → Option ℕ
stroke_of text = option_and_then (λ keys. some_code (keys_code (has_bar text) keys)) (keys_in (parts_between hyphen (without_bar text)))

-- what each part between slashes spells
abbrev pub readings : List ℕ → List (Option ℕ)
readings text = map stroke_of (parts_of text)

-- the values, if each is one
abbrev pub all_some : List (Option ℕ) → Option (List ℕ)
all_some [] = Some []
all_some (o ∷ os) = option_and_then (λ x. option_map (λ xs. x ∷ xs) (all_some os)) o

-- the strokes of all parts
abbrev pub spelt_strokes : List ℕ → Option (List ℕ)
spelt_strokes text = all_some (readings text)

-- the first part that spells no stroke
abbrev pub unreadable_part : List ℕ → Option ℕ
unreadable_part text = position is_none (readings text)
