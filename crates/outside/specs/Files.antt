-- What contracts see of an object that holds files.
use Rattle.std.specs.Prelude.{ℕ, List, [], ◌++◌, ◌≡◌, ◌≢◌, ◌≤◌, ◌⊎◌, take, Option, None, Some, option_map, ⊤, length}
use Rattle.outside.specs.Faults.{Rose}
use Rattle.outside.specs.declared.fault.Way.{Way}

-- the bytes of each name's file; a name that isn't held has none
abbrev pub Held : Type 0
Held = List ℕ → List ℕ

pub record FilesView : Type 0 where
  -- the files, where the object tells them
  pub held : Option Held
  -- what is left of the file that is being read, where it's told
  pub rest : Option (List ℕ)
  -- the name last opened
  pub opened : Option (List ℕ)
  -- the name that is being written
  pub writing : Option (List ℕ)
  -- where the latest fault was
  pub latest : Option (List ℕ × Way)
  pub faults : ℕ

-- nothing was opened or is being written, and there was no fault
abbrev pub untouched : Option Held → FilesView
untouched held = record { held = held; rest = option_map (λ _. []) held; opened = None; writing = None; latest = None; faults = 0 }

-- the files, the name that is being written and the name last opened stay
pub record LeavesAll (old new : FilesView) : Type 0 where
  pub held : new.held ≡ old.held
  pub writing : new.writing ≡ old.writing
  pub opened : new.opened ≡ old.opened

-- the files and the name that is being written stay
pub record LeavesFiles (old new : FilesView) : Type 0 where
  pub held : new.held ≡ old.held
  pub writing : new.writing ≡ old.writing

-- the name last opened is this one, or as it was
abbrev pub IsLastOpened : List ℕ → FilesView → FilesView → Type 0
IsLastOpened name old new = (new.opened ≡ Some name) ⊎ (new.opened ≡ old.opened)

-- a fault at this place in a call: the count rose in it, and this is the place of the latest one at its end
pub record FaultAt (name : List ℕ) (way : Way) (old new : FilesView) : Type 0 where
  pub rose : Rose old.faults new.faults
  pub place : new.latest ≡ Some (name, way)

-- both are told and so related, or neither is told
abbrev pub Both : {A : Type 0} → (A → A → Type 0) → Option A → Option A → Type 0
Both R None None = ⊤
Both R (Some old) (Some new) = R old new
Both R None (Some new) = ⊥
Both R (Some old) None = ⊥

-- the named file's bytes become these, and every other file stays
pub record Replaces (name : List ℕ) (bytes : List ℕ) (old new : Held) : Type 0 where
  pub here : new name ≡ bytes
  pub others : (other : List ℕ) → other ≢ name → new other ≡ old other

-- these bytes are added to the named file, and every other file stays
pub record Extends (name : List ℕ) (bytes : List ℕ) (old new : Held) : Type 0 where
  pub here : new name ≡ old name ++ bytes
  pub others : (other : List ℕ) → other ≢ name → new other ≡ old other

-- a prefix of these bytes is added to the named file, and every other file stays
abbrev pub ExtendsByPrefix : List ℕ → List ℕ → Option Held → Option Held → Type 0
ExtendsByPrefix name bytes old new = (n : ℕ) × (n ≤ length bytes) × Both (Extends name (take n bytes)) old new
