-- The bar before a part, where it isn't the first.
use Rattle.std.proofs.Common.{◌≡◌, ℕ, ◌<◌, ◌≤◌, zero, suc, List, [], ◌++◌, ap, sym, ◌∙◌, arith, append-nil, cond}
use Rattle.std.specs.Prelude.{codes}
use Rattle.std.proofs.lemmas.Bool.Decides.{Decides-ltb}
use Rattle.report.specs.inside.Bars.{bar_at}

-- A bar was added.
pub bar_added : (place : ℕ) (page bar : List ℕ) → 0 < place → bar ≡ page ++ codes " | " → bar ≡ page ++ bar_at place
bar_added place page bar later is = is ∙ ap (λ b. page ++ cond b (codes " | ") []) (sym ((Decides-ltb 0 place).1 later))

-- None was.
pub no_bar : (place : ℕ) (page bar : List ℕ) → place ≤ 0 → bar ≡ page → bar ≡ page ++ bar_at place
no_bar zero page bar first is = is ∙ sym (append-nil page)
no_bar (suc n) page bar first is = absurd (omega (arith, first))
