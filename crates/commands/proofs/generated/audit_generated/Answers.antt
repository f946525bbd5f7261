use Rattle.std.proofs.Common.{ℕ, ◌≡◌, List, [], ◌∷◌, None, arith, length, map, refl, string_bytes}
use Rattle.std.proofs.lemmas.List.{length-map}
use Rattle.commands.specs.Reading.{audit_generated_of}
use Rattle.commands.proofs.generated.audit_generated.Goals.{in_default-via-then-args-lt3, in_default-via-else-args-lt3+else-args-lt4}
use Rattle.commands.proofs.generated.audit_generated.Goals as goal

-- fewer arguments than three, or more
other_count : (args : List (List ℕ)) → (length args ≡ 3 → ⊥) → None ≡ audit_generated_of args
other_count [] other = refl
other_count (start ∷ []) other = refl
other_count (start ∷ count ∷ []) other = refl
other_count (start ∷ count ∷ workers ∷ []) other = absurd (other refl)
other_count (start ∷ count ∷ workers ∷ more ∷ args) other = refl

pub returns-in_default : goal.returns-in_default
returns-in_default c =
    let count = length-map c.args.args.now string_bytes in
    other_count (map string_bytes c.args.args.now) (λ three. elim c.in_default.branch [
      | in_default-via-then-args-lt3 w ↦ grind (arith, count, three)
      | in_default-via-else-args-lt3+else-args-lt4 w ↦ grind (arith, count, three)
    ])
