-- The pairs of the listed hits, with their least distances.
--     IsFoundListing closure before n founds     the listing holds, and these are its pairs
--     IsListingFault closure before n fault      what a fault says of the listing
--     AtRows closure all bytes ..                the rows of these pairs are left, and then the end
use Rattle.std.specs.Prelude.{ℕ, ◌+◌, ◌≤◌, ◌≡◌, List, [], ◌∷◌, ◌++◌, true, false, length, Option, Some, ⊤}
use Rattle.longest_match.specs.Rows.{Row, word_limit}
use Rattle.certificate.specs.declared.lines.CertLine.TheVariants as of
use Rattle.certificate.specs.CertReading.{read_lines}
use Rattle.certificate.specs.CertTexts.{Listed}
use Rattle.certificate.specs.Readers.{certificate_limit}
use Rattle.certificate_laws.specs.Checks.{Lines, end_checks, listed_in}
use Rattle.certificate_laws.specs.Closures.{Closure, Pair}
use Rattle.certificate_laws.specs.Validity.{is_row_of, hit_distances, is_least_of, listed_pairs, listing_checks, row_checks}
use Rattle.certificate_laws.specs.inside.Holding.{AllHold}
use Rattle.cert_check.specs.declared.faults.CheckFault.{CheckFault}
use Rattle.cert_check.specs.declared.faults.CheckFault.TheVariants as fault
use Rattle.cert_check.specs.declared.founds.Found.{Found}
use Rattle.cert_check.specs.inside.Left.{AreLeft, FailsWith}
use Rattle.cert_check.specs.Reading.{IsReadTo}

-- each pair, with the least distance of its listed hits
abbrev pub AreFound : Closure → List Listed → List Pair → List Found → Type 0
AreFound closure all [] [] = ⊤
AreFound closure all [] (f ∷ fs) = ⊥
AreFound closure all (p ∷ ps) [] = ⊥
AreFound closure all (p ∷ ps) (f ∷ fs) =
    (f.entry ≡ p.entry) × (f.place ≡ p.place)
    × (is_least_of f.distance (hit_distances closure all p) ≡ true) × AreFound closure all ps fs

-- no row is right whose pair has so great a least distance
abbrev pub HasNoFarRow : Closure → List Listed → Type 0
HasNoFarRow closure all = (p : Pair) (d : ℕ) (r : Row) → is_least_of d (hit_distances closure all p) ≡ true
    → word_limit ≤ d → is_row_of closure all p (Some (of.Row r)) ≡ false

-- the listing holds, and these are its pairs
pub record IsFoundListing (closure : Closure) (before : Lines) (n : ℕ) (founds : List Found) : Type 0 where
  pub hold : AllHold (listing_checks closure closure.targets (length before + 1) before n)
  pub are : AreFound closure (listed_in before) (listed_pairs closure (listed_in before)) founds
  pub near : HasNoFarRow closure (listed_in before)

-- what a fault says of the listing
abbrev pub IsListingFault : Closure → Lines → ℕ → CheckFault → Type 0
IsListingFault closure before n (fault.Rejected line reason) =
    FailsWith line reason (listing_checks closure closure.targets (length before + 1) before n)
IsListingFault closure before n fault.TooLong = ⊥
IsListingFault closure before n fault.Failed = ⊥
IsListingFault closure before n fault.Memory = ⊤

-- the rows of these pairs are left, and then the end; `all` is listed
pub record AtRows (closure : Closure) (all : List Listed) (bytes : List ℕ) (given n : ℕ) (founds : List Found)
    (ahead : Option (List ℕ)) : Type 0 where
  pub rest : List ℕ
  pub is_ahead : ahead ≡ Some rest
  pub before : Lines
  pub count : length before ≡ n
  pub read : IsReadTo certificate_limit given bytes before rest
  pub pairs : List Pair
  pub are : AreFound closure all pairs founds
  pub near : HasNoFarRow closure all
  pub left : AreLeft closure bytes (row_checks closure all (read_lines bytes) n pairs
      ++ end_checks (read_lines bytes) (n + length pairs))
