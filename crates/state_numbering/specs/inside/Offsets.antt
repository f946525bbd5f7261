-- The numbers within a part.
--     IsMarked window word mark         a mark lies in a window of so many strokes and not inside the open word
--     HasOffset depth offset lengths    the lengths and the mark that this offset stands for in the part of `depth` strokes
use Rattle.std.specs.Prelude.{ℕ, ◌≡◌, ◌<◌, ◌≤◌, max, Option, IfSome}
use Rattle.steno_rules.specs.StateNumbers.{number_within}
use Rattle.state_numbering.specs.declared.offset.Lengths.{Lengths}

abbrev pub IsMarked : ℕ → ℕ → Option ℕ → Type 0
IsMarked window word mark = IfSome mark (λ m. (word ≤ m) × (m < window))

pub record HasOffset (depth offset : ℕ) (lengths : Lengths) : Type 0 where
  pub longest : max lengths.window lengths.word ≡ depth
  pub offset_is : number_within lengths.window lengths.word lengths.mark ≡ offset
  pub marked : IsMarked lengths.window lengths.word lengths.mark
