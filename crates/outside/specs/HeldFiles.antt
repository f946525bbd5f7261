-- What contracts see of files in memory.
use Rattle.std.specs.Prelude.{ℕ, List, [], ◌≡◌, ◌≢◌, drop, Option, None, Some, Vec, String, option_map}
use Rattle.std.specs.Option.{unwrap_or}
use Rattle.std.specs.BTreeMap.{BTreeMap, get_by_text}
use Rattle.std.specs.declared.alloc.Global.{Global}
use Rattle.outside.specs.Files.{Held, FilesView}
use Rattle.outside.specs.Places.{PlacesView, no_places}
use Rattle.outside.specs.declared.memory.held_files.HeldFiles.{HeldFiles}

-- the bytes of each name that is held
abbrev pub Kept : Type 0
Kept = List ℕ → Option (List ℕ)

abbrev pub kept_in : BTreeMap (String Global) (Vec ℕ Global) → Kept
kept_in files name = option_map (λ bytes. bytes.items) (get_by_text files name)

-- a name that isn't held counts as a file without bytes
abbrev pub held_of : Kept → Held
held_of kept name = unwrap_or (kept name) []

-- the name is held with these bytes, and all other names stay
pub record Sets (name bytes : List ℕ) (old new : Kept) : Type 0 where
  pub here : new name ≡ Some bytes
  pub others : (other : List ℕ) → other ≢ name → new other ≡ old other

pub record HeldView : Type 0 where
  pub kept : Kept
  -- what is left of the file that is being read
  pub rest : List ℕ
  pub places : PlacesView

abbrev pub held_view : HeldFiles → HeldView
held_view h = record { kept = kept_in h.files; rest = drop h.at h.rest.items; places = h.places }

-- no file is held, and nothing was done
abbrev pub no_files : HeldView
no_files = record { kept = λ _. None; rest = []; places = no_places }

-- as an object of files that tells all
abbrev pub files_view : HeldView → FilesView
files_view h = record {
  held = Some (held_of h.kept);
  rest = Some h.rest;
  opened = h.places.opened;
  writing = h.places.writing;
  latest = h.places.latest;
  faults = h.places.faults;
}
