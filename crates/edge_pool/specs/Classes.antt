-- The classes of lengths.
--     size_of class     the cells of a block of this class: 1, 2, 4 and so on
--     class_of len      the first class whose size isn't below the length
--     IsLen len         what a length is: from 1 to the size of the last class
--     class_count       how many classes there are
--     most_len          the size of the last class
use Rattle.std.specs.Prelude.{ℕ, ◌^◌, ◌<◌, ◌≤◌, nat_le}
use Rattle.std.specs.List.{position_or_len, range_with_len}

-- how many classes there are
abbrev pub class_count : ℕ
class_count = 23

-- the size of the last class, which is the length of the longest block
abbrev pub most_len : ℕ
most_len = 4194304

abbrev pub size_of : ℕ → ℕ
size_of class = 2 ^ class

unfoldable pub class_of : ℕ → ℕ
class_of len = position_or_len (λ class. nat_le len (size_of class)) (range_with_len 0 class_count)

abbrev pub IsLen : ℕ → Type 0
IsLen len = (0 < len) × (len ≤ most_len)
