use Rattle.std.specs.Prelude.{IsSome}
use Rattle.certificate.proofs.tests.copying.copy.Given as goal

-- a file is being written
abbrev pub invariant-loop : goal.invariant-loop
invariant-loop g l = IsSome (g.F.Files.view l.files).writing
