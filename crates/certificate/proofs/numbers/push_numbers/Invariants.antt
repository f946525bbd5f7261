use Rattle.std.proofs.Common.{◌≡◌, ◌++◌, length, option_map}
use Rattle.text_rules.specs.Lines.{parts_between}
use Rattle.certificate.specs.CertReading.{numbers_of}
use Rattle.certificate.proofs.numbers.push_numbers.Given as goal

-- the numbers so far and those of the rest are those of the whole
abbrev pub invariant-loop-space : goal.invariant-loop-space
invariant-loop-space l =
    option_map (λ ns. l.fn.numbers.items ++ ns) (numbers_of (parts_between 32 l.text))
    ≡ option_map (λ ns. l.numbers.items ++ ns) (numbers_of (parts_between 32 l.rest))

abbrev pub decreases-loop-space : goal.decreases-loop-space
decreases-loop-space l = length l.rest
