-- What the fields of the parts and of a numbering have in common.
use Rattle.std.specs.Prelude.{ℕ, List, ◌≡◌, ◌<◌, ◌≤◌, ◌/◌, ◌^◌, length}
use Rattle.steno_rules.specs.StateNumbers.{number_count}
use Rattle.steno_rules.specs.WordSets.{WordFlags, IsWordSet}
use Rattle.state_numbering.specs.declared.part.Part.{Part}
use Rattle.state_numbering.specs.declared.blocks.Blocks.{Blocks}
use Rattle.state_numbering.specs.Causes.{most_states}
use Rattle.state_numbering.specs.inside.Parts.{AreNodeParts}
use Rattle.state_numbering.specs.inside.Blocks.{AreBlockStarts}

-- the blocks are those of these parts, and there is one for each number up to the count
pub record AreBlocksOf (parts : List Part) (count : ℕ) (blocks : Blocks) : Type 0 where
  pub bits : blocks.bits < 32
  pub starts : AreBlockStarts parts (2 ^ blocks.bits) blocks.nodes.items
  pub enough : count / 2 ^ blocks.bits < length blocks.nodes.items

pub record AreParts (entries : List (List ℕ)) (parts : List Part) (blocks : Blocks) (count : ℕ)
    : Type 0 where
  pub parts_are : AreNodeParts entries parts
  pub blocks_are : AreBlocksOf parts count blocks
  pub count_is : count ≡ number_count entries
  pub within : count ≤ most_states

pub record IsNumbering (windows parts entries : List (List ℕ)) (set : WordFlags) : Type 0 where
  pub windows_are : windows ≡ entries
  pub parts_are : parts ≡ entries
  pub words_are : IsWordSet entries set
  pub within : number_count entries ≤ most_states
