-- How the names and places are kept: a list of names, and numbers of names.
use Rattle.std.specs.Prelude.{ℕ, ◌<◌, List, [], length, map, option_map, String, string_bytes, slice_index_or}
use Rattle.std.specs.Option.{ForSome}
use Rattle.std.specs.declared.alloc.Global.{Global}
use Rattle.outside.specs.Places.{PlacesView}
use Rattle.outside.specs.declared.places.Places.TheInside.{Inside}

-- the name with this number
abbrev pub name_at : List (String Global) → ℕ → List ℕ
name_at names i = slice_index_or (map string_bytes names) i []

abbrev pub places_view : Inside → PlacesView
places_view a = record {
  opened = option_map (name_at a.names.items) a.opened;
  writing = option_map (name_at a.names.items) a.writing;
  latest = option_map (λ p. (name_at a.names.items p.name, p.way)) a.latest;
  faults = a.faults;
}

-- each number is that of a name
pub record HasNames (a : Inside) : Type 0 where
  pub opened : ForSome a.opened (λ i. i < length a.names.items)
  pub writing : ForSome a.writing (λ i. i < length a.names.items)
  pub latest : ForSome a.latest (λ p. p.name < length a.names.items)
