use Rattle.std.proofs.Common.{◌≡◌, ◌++◌, ◌∷◌, take, flat_map}
use Rattle.std.specs.Prelude.{decimal}
use Rattle.certificate.proofs.texts.push_spaced.Given as goal

-- the numbers so far, each with a space before it
abbrev pub invariant-loop-number : goal.invariant-loop-number
invariant-loop-number l = l.text.items ≡ l.fn.text.items ++ flat_map (λ n. 32 ∷ decimal n) (take l.number-index l.numbers)
