-- The head of an outline: its first two strokes as one number, by which most outlines are compared.
--     IsCodeAt x place    at a place of the list x there is a code, or x ends before it, and then 0 stands for it
--     IsHead x head       the number made of the first two
--     IsHeaded x head    what the fields of an outline have in common
use Rattle.std.specs.Prelude.{ℕ, ◌≡◌, ◌+◌, ◌*◌, ◌<◌, ◌≤◌, ◌^◌, List, All, length, slice_index_or}
use Rattle.steno_rules.specs.Outlines.{IsStroke, most_strokes}

pub record IsCodeAt (x : List ℕ) (place : ℕ) : Type 0 where
  pub below : slice_index_or x place 0 < 2 ^ 32
  pub some : place < length x → 0 < slice_index_or x place 0

pub record IsHead (x : List ℕ) (head : ℕ) : Type 0 where
  pub value : head ≡ slice_index_or x 0 0 * 2 ^ 32 + slice_index_or x 1 0
  pub first : IsCodeAt x 0
  pub second : IsCodeAt x 1

pub record IsHeaded (x : List ℕ) (head : ℕ) : Type 0 where
  pub few : length x ≤ most_strokes
  pub are_strokes : All IsStroke x
  pub headed : IsHead x head
