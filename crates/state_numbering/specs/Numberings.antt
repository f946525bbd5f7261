-- A numbering as its callers see it.
use Rattle.std.specs.Prelude.{ℕ, List}
use Rattle.steno_rules.specs.WordSets.{WordFlags, words_in}

-- the entries that it is about, and the words among them
pub record NumberingView : Type 0 where
  pub entries : List (List ℕ)
  pub words : List (List ℕ)

-- that over these entries and the words of these flags
abbrev pub numbering_of : List (List ℕ) → WordFlags → NumberingView
numbering_of entries set = record { entries = entries; words = words_in entries set }
