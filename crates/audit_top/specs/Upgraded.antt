-- What is expected of `upgrade`.
--     IsUpgrade target bytes result     by the bytes of the certificate, where they are known
use Rattle.std.specs.Prelude.{ℕ, ◌≡◌, List, [], ◌∷◌, Option, Some, None, codes, decimal}
use Rattle.text_rules.specs.Lines.{line}
use Rattle.report.specs.Refusals.{certificate_too_long}
use Rattle.report.specs.Refusals as of_line
use Rattle.certificate_laws.specs.Checks.{CheckOutcome, accepted, rejected, too_long}
use Rattle.cert_upgrade.specs.Forms.{upgrade_outcome}
use Rattle.cert_upgrade.specs.Upgrades.{upgraded_text}
use Rattle.audit_top.specs.Outcomes.{Expected, refused}
use Rattle.audit_top.specs.declared.status.Status.TheVariants.{Clean}

-- the line that says how many conflicts the certificate has
abbrev pub upgraded_line : ℕ → List ℕ
upgraded_line n = line (codes "upgraded" ∷ codes "conflicts" ∷ decimal n ∷ [])

-- by what comes of checking the form of these bytes
abbrev pub upgrade_result : List ℕ → List ℕ → CheckOutcome → Expected
upgrade_result target bytes (accepted n) = record {
  status = Clean;
  text = upgraded_line n;
  file = Some (record { name = target; bytes = upgraded_text bytes });
}
upgrade_result target bytes (rejected at why) = refused (of_line.rejected at why)
upgrade_result target bytes too_long = refused certificate_too_long

-- some bytes and some outcome
pub record IsSomeUpgrade (target : List ℕ) (result : Expected) : Type 0 where
  pub bytes : List ℕ
  pub outcome : CheckOutcome
  pub is : result ≡ upgrade_result target bytes outcome

-- the outcome is that of the certificate's bytes; where the files don't tell them it is so for some
abbrev pub IsUpgrade : List ℕ → Option (List ℕ) → Expected → Type 0
IsUpgrade target (Some bytes) result =
    result ≡ upgrade_result target bytes (upgrade_outcome bytes)
IsUpgrade target None result = IsSomeUpgrade target result
