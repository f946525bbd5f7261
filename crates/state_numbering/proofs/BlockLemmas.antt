-- Blocks of numbers.
use Rattle.std.proofs.Common.{ℕ, ◌*◌, ◌/◌, ◌≤◌, List, arith}
use Rattle.std.proofs.Math.Nat.{div-mul-le_self}
use Rattle.state_numbering.specs.declared.part.Part.{Part}
use Rattle.state_numbering.specs.inside.Blocks.{BeginsBy}

-- A part that begins at or before a number begins at or before a later one.
pub begun_later : (parts : List Part) (number later node : ℕ) → BeginsBy parts number node → number ≤ later → BeginsBy parts later node
begun_later parts number later node is up = record { inside = is.inside; from = omega (arith, is.from, up) }

-- The start of a number's block is one for the number.
pub begun_of_block : (parts : List Part) (width number node : ℕ) → BeginsBy parts (number / width * width) node → BeginsBy parts number node
begun_of_block parts width number node is = begun_later parts (number / width * width) number node is (div-mul-le_self number width)
