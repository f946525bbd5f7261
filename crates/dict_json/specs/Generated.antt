-- The dictionary that is made of two numbers.
--     generated_text start count    its bytes
--     key_of start i                the key of entry i, counted from 0
--     is_new start i                no earlier entry has this key
-- Each draw is a function of the one before, so an entry is a function of its first draw.
use Rattle.std.specs.Prelude.{ℕ, zero, suc, ◌+◌, ◌*◌, ◌/◌, ◌%◌, List, [], ◌∷◌, ◌++◌, Bool, not, map, filter, codes, decimal, slice_index_or}
use Rattle.std.specs.List.{list_any, join_by, join_with_byte, range_with_len}
use Rattle.std.specs.Str.{bytes_eq}
use Rattle.text_rules.specs.Lines.{parts_between}
use Rattle.text_rules.specs.Quoted.{quoted}
use Rattle.steno_order.specs.Keys.{slash}

-- the most entries that a dictionary is made of
abbrev pub most_generated : ℕ
most_generated = 100000

-- what a stroke's left keys are written as, by the place of the text; 32 is a space
abbrev pub left_texts : List (List ℕ)
left_texts = [] ∷ parts_between 32 (codes "S T K P W H R ST TP KW PH HR TKPW SKWR STPH")

-- what its vowels are written as
abbrev pub vowel_texts : List (List ℕ)
vowel_texts = parts_between 32 (codes "A O E U AO AE EU AOEU")

-- what its right keys are written as
abbrev pub right_texts : List (List ℕ)
right_texts = [] ∷ parts_between 32 (codes "F R P B L G T S D Z PB PL BG TS FRPB")

-- the draw after x
abbrev pub drawn : ℕ → ℕ
drawn x = 16807 * x % 2147483647

-- the value after n further draws
abbrev pub after_draws : ℕ → ℕ → ℕ
after_draws zero x = x
after_draws (suc n) x = after_draws n (drawn x)

-- the stroke of a number below 2048: its three texts, one after another
abbrev pub stroke_text : ℕ → List ℕ
stroke_text y = slice_index_or left_texts (y % 16) [] ++ slice_index_or vowel_texts (y / 16 % 8) [] ++ slice_index_or right_texts (y / 128) []

-- how many strokes an entry has whose first draw gives x
abbrev pub entry_length : ℕ → ℕ
entry_length x = 1 + x % 3

-- what the first draw of entry i gives
abbrev pub first_draw : ℕ → ℕ → ℕ
first_draw start zero = drawn (start % 2147483646 + 1)
first_draw start (suc i) = let x = first_draw start i in drawn (after_draws (entry_length x) x)

-- the key whose first draw gives x: each further draw makes a stroke
abbrev pub key_text : ℕ → List ℕ
key_text x = join_with_byte slash (map (λ k. stroke_text (after_draws k x % 2048)) (range_with_len 1 (entry_length x)))

-- the key of entry i
abbrev pub key_of : ℕ → ℕ → List ℕ
key_of start i = key_text (first_draw start i)

-- no entry before has the key of entry i
abbrev pub is_new : ℕ → ℕ → Bool
is_new start i = not (list_any (λ j. bytes_eq (key_of start j) (key_of start i)) (range_with_len 0 i))

-- the entry as a member of the object: its value is `w` and its number
abbrev pub member_text : ℕ → ℕ → List ℕ
member_text start i = quoted (key_of start i) ++ codes ": " ++ quoted (codes "w" ++ decimal i)

-- the members of the entries whose key is new, with a comma and a line feed between each two
abbrev pub members_text : ℕ → ℕ → List ℕ
members_text start count = join_by (member_text start) (codes ",\n") (filter (is_new start) (range_with_len 0 count))

-- the object of these members, between lines of its braces
abbrev pub generated_text : ℕ → ℕ → List ℕ
generated_text start zero = codes "{}\n"
generated_text start (suc count) = codes "{\n" ++ members_text start (suc count) ++ codes "\n}\n"
