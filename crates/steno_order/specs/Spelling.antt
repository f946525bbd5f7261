-- What texts a stroke may be spelt by: each character but the hyphen is given a key.
--     Press                        a character with the key that it presses
--     chars_of, keys_of            the characters of presses, and their keys
--     last_key key presses         the key pressed last
--     IsFirstKey last least p      the press is on the first key that its character may press
--     ArePressed last least ps     so is each of these presses
--     Spelling text code           the text spells the stroke
--     parts_of text                the parts of the text between slashes
--     SpellingOfAll text strokes   the text spells the strokes, with a slash between each two
use Rattle.std.specs.Prelude.{ℕ, ◌<◌, ◌≤◌, ◌≡◌, ◌⊎◌, List, [], ◌∷◌, ◌++◌, true, map, All}
use Rattle.std.specs.List.{AllZip}
use Rattle.text_rules.specs.Lines.{parts_between}
use Rattle.steno_order.specs.Keys.{is_written, keys_code, has_bar, slash, hyphen, bar}

-- a character, and the key that it presses
pub record Press : Type 0 where
  pub char : ℕ
  pub key : ℕ

-- the characters of presses
abbrev pub chars_of : List Press → List ℕ
chars_of presses = map (λ p. p.char) presses

-- the keys of presses
abbrev pub keys_of : List Press → List ℕ
keys_of presses = map (λ p. p.key) presses

-- the key pressed last, where `key` was pressed before these
abbrev pub last_key : ℕ → List Press → ℕ
last_key key [] = key
last_key key (p ∷ ps) = last_key p.key ps

-- of the keys after `last` and from `least` on, this is the first that is written with the character
pub record IsFirstKey (last least : ℕ) (p : Press) : Type 0 where
  pub written : is_written p.char p.key ≡ true
  pub after : last < p.key
  pub from : least ≤ p.key
  pub first : (key : ℕ) → is_written p.char key ≡ true → last < key → least ≤ key → p.key ≤ key

-- each of the presses is on the first key, from `least` on, after those pressed so far; `last` was pressed before them
abbrev pub ArePressed : ℕ → ℕ → List Press → Type 0
ArePressed last least presses = (front : List Press) (p : Press) (rest : List Press) → presses ≡ front ++ p ∷ rest → IsFirstKey (last_key last front) least p

-- `#` comes first or not at all; then come characters that press keys, with one hyphen between them or none;
-- before a hyphen no key from 13 on is pressed, and after it none below 11
pub record Spelling (text : List ℕ) (code : ℕ) : Type 0 where
  pub first : List ℕ
  pub before : List Press
  pub middle : List ℕ
  pub after : List Press
  pub whole : text ≡ first ++ (chars_of before ++ (middle ++ chars_of after))
  pub bar_or_none : (first ≡ []) ⊎ (first ≡ bar ∷ [])
  pub hyphen_or_none : ((middle ≡ []) × (after ≡ [])) ⊎ ((middle ≡ hyphen ∷ []) × All (λ p. p.key < 13) before)
  pub keys_before : ArePressed 0 1 before
  pub keys_after : ArePressed (last_key 0 before) 11 after
  pub stroke : code ≡ keys_code (has_bar text) (keys_of (before ++ after))
  pub some_key : 0 < code

-- the parts of a text between slashes: one more than it has slashes
abbrev pub parts_of : List ℕ → List (List ℕ)
parts_of text = parts_between slash text

-- each part spells the stroke in its place
abbrev pub SpellingOfAll : List ℕ → List ℕ → Type 0
SpellingOfAll text strokes = AllZip Spelling (parts_of text) strokes
