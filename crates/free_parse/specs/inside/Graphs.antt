-- What a graph of forks keeps.
use Rattle.std.specs.Prelude.{ℕ, ◌≤◌, List}
use Rattle.graph_rules.specs.Graphs.{most_numbers}
use Rattle.steno_rules.specs.WordSets.{WordFlags, IsWordSet}
use Rattle.reading_laws.specs.ForkNumbers.{fork_count}
use Rattle.free_parse.specs.declared.parts.Parts.{Parts}
use Rattle.free_parse.specs.inside.Parts.{AreForkParts}

pub record IsFreeGraph (entries : List (List ℕ)) (set : WordFlags) (parts : Parts) : Type 0 where
  pub set_is : IsWordSet entries set
  pub parts_are : AreForkParts entries parts.starts.items parts.nodes.items
  pub few : fork_count entries ≤ most_numbers
