-- Checks that all hold.
use Rattle.std.specs.Prelude.{◌≡◌, List, true}
use Rattle.std.specs.List.{AllByRecursion}
use Rattle.certificate_laws.specs.Checks.{Check}

-- each of these checks holds
abbrev pub AllHold : List Check → Type 0
AllHold checks = AllByRecursion (λ check. check.holds ≡ true) checks
