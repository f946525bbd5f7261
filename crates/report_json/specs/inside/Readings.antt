-- Why a value is not read as one of a kind, and what the parts of a report's value are called.
use Rattle.std.specs.Prelude.{ℕ, ◌≡◌, ◌≤◌, ◌<◌, List, length, map, All, ⊤, codes}
use Rattle.serde_json.specs.Data.{Data, array, object, no_members, member}
use Rattle.serde_json.specs.View.{items_of}
use Rattle.steno_rules.specs.Outlines.{IsOutline}
use Rattle.report_json.specs.JsonReports.{JsonRowView, outline_value, row_value}
use Rattle.report_json.specs.declared.faults.JsonFault.{JsonFault}
use Rattle.report_json.specs.declared.faults.JsonFault.TheVariants.{NotJson, NotReport, Memory}

-- the value is made of none of these, or memory ran out
abbrev pub IsPartRefused : {A V : Type 0} → (A → Type 0) → (A → V) → V → JsonFault → Type 0
IsPartRefused Is made value NotJson = ⊥
IsPartRefused {A} {V} Is made value NotReport = (a : A) → Is a → value ≡ made a → ⊥
IsPartRefused Is made value Memory = ⊤

-- the number is one of these
pub record IsWithin (least most n : ℕ) : Type 0 where
  pub at_least : least ≤ n
  pub at_most : n ≤ most

-- one outline or more
pub record AreRowWords (words : List (List ℕ)) : Type 0 where
  pub some : 0 < length words
  pub are : All IsOutline words

abbrev pub words_value : List (List ℕ) → Data
words_value words = array (items_of (map outline_value words))

abbrev pub rows_value : List JsonRowView → Data
rows_value rows = array (items_of (map row_value rows))

-- the object of a row, by the values of its members
abbrev pub row_object : Data → Data → Data → Data → Data
row_object outline place strokes words = object
    (member (codes "outline") outline
    (member (codes "place") place
    (member (codes "strokes") strokes
    (member (codes "words") words
    no_members))))

-- the object of a report, by the values of its members
abbrev pub report_object : Data → Data → Data → Data → Data → Data → Data → Data
report_object conflicts entries folded rounds skipped states strokes = object
    (member (codes "conflicts") conflicts
    (member (codes "entries") entries
    (member (codes "folded") folded
    (member (codes "rounds") rounds
    (member (codes "skipped") skipped
    (member (codes "states") states
    (member (codes "strokes") strokes
    no_members)))))))
