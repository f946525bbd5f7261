-- What the columns of a trie hold. X is the list of the nodes, each with its strokes.
--     IsStep X node parent stroke     the node is its parent and one stroke more
--     IsTable X parents strokes depths    the columns are of these nodes; the first node is the root
--     IsNumbered entries X numbers    each node has its number as an entry, or none
--     HasPlaces count ..              each column has places for so many nodes
--     ancestor parents node levels          the node so many levels above
use Rattle.std.specs.Prelude.{ℕ, zero, suc, ◌≡◌, ◌<◌, ◌≤◌, ◌++◌, ◌∷◌, [], length, get_or, List, Option, Some, None, nat_eq}
use Rattle.std.specs.List.{common_prefix_len}
use Rattle.std.specs.Vec.{vec_capacity}
use Rattle.steno_rules.specs.Outlines.{outline_of, entry_number}
use Rattle.steno_rules.specs.Nodes.{nodes}
use Rattle.outline_trie.specs.declared.table.Table.{Table}

pub record IsStep (X : List (List ℕ)) (node parent stroke : ℕ) : Type 0 where
  pub before : parent < node
  pub is : outline_of X node ≡ outline_of X parent ++ stroke ∷ []

pub record IsTable (X : List (List ℕ)) (parents strokes depths : List ℕ) : Type 0 where
  pub parents_long : length parents ≡ length X
  pub strokes_long : length strokes ≡ length X
  pub depths_long : length depths ≡ length X
  pub root : get_or parents 0 0 ≡ 0
  pub depth : (node : ℕ) → node < length X → get_or depths node 0 ≡ length (outline_of X node)
  pub step : (node : ℕ) → 0 < node → node < length X → IsStep X node (get_or parents node 0) (get_or strokes node 1)

-- how no entry is written down
abbrev pub none_number : ℕ
none_number = 4294967295

abbrev pub written_number : Option ℕ → ℕ
written_number None = none_number
written_number (Some number) = number

pub record IsNumbered (entries X : List (List ℕ)) (numbers : List ℕ) : Type 0 where
  pub long : length numbers ≡ length X
  pub number : (node : ℕ) → node < length X → get_or numbers node 0 ≡ written_number (entry_number entries (outline_of X node))

pub record HasPlaces (count parents strokes depths numbers : ℕ) : Type 0 where
  pub in_parents : count ≤ parents
  pub in_strokes : count ≤ strokes
  pub in_depths : count ≤ depths
  pub in_numbers : count ≤ numbers

abbrev pub ancestor : List ℕ → ℕ → ℕ → ℕ
ancestor parents node zero = node
ancestor parents node (suc levels) = ancestor parents (get_or parents node 0) levels

-- the strokes that two outlines begin with alike
abbrev pub shared : List ℕ → List ℕ → ℕ
shared xs ys = common_prefix_len nat_eq xs ys

-- the entry before one, or no strokes before the first
abbrev pub outline_before : List (List ℕ) → ℕ → List ℕ
outline_before entries zero = []
outline_before entries (suc number) = outline_of entries number

-- the columns are those of the nodes of these entries
abbrev pub IsTableOf : List (List ℕ) → Table → Type 0
IsTableOf entries t = IsTable (nodes entries) t.parents.items t.strokes.items t.depths.items

-- they have places for so many nodes
abbrev pub HasPlacesFor : ℕ → Table → Type 0
HasPlacesFor count t =
    HasPlaces count (vec_capacity t.parents) (vec_capacity t.strokes) (vec_capacity t.depths) (vec_capacity t.numbers)
