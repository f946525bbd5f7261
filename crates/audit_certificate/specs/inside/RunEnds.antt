-- Where a run ends.
--     IsRunEnd table first distance end     the states from `first` to before `end` have this distance, and the next one doesn't
use Rattle.std.specs.Prelude.{ℕ, ◌<◌, ◌≤◌, ◌≡◌, ◌≢◌, List, length, Some, slice_index}
use Rattle.audit_certificate.specs.OwnCertificates.{distance_of}

-- the states from the first to before the end have this distance
pub record IsRunPart (table : List ℕ) (first distance end : ℕ) : Type 0 where
  pub some : first < end
  pub within : end ≤ length table
  pub same : (n : ℕ) → first ≤ n → n < end → distance_of (slice_index table n) ≡ Some distance

-- and the next one doesn't
pub record IsRunEnd (table : List ℕ) (first distance end : ℕ) : Type 0 where
  pub part : IsRunPart table first distance end
  pub next : end < length table → distance_of (slice_index table end) ≢ Some distance
