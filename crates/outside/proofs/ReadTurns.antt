-- What the loop that reads a whole file keeps.
use Rattle.std.proofs.Common.{ℕ, ◌≡◌, ◌≤◌, List, length, Some, option_map}
use Rattle.std.specs.Io.KnownBytes.{prepend_known}
use Rattle.outside.specs.Files.{FilesView}

pub record IsReading (name : List ℕ) (limit turns : ℕ) (old now : FilesView) (bytes : List ℕ) : Type 0 where
  pub held : now.held ≡ old.held
  pub writing : now.writing ≡ old.writing
  pub opened : now.opened ≡ Some name
  pub latest : now.latest ≡ old.latest
  pub faults : now.faults ≡ old.faults
  pub content : option_map (λ held. held name) old.held ≡ prepend_known bytes now.rest
  pub took : turns ≤ length bytes
  pub within : length bytes ≤ limit
