use Rattle.outside.proofs.ReadTurns.{IsReading}
use Rattle.outside.proofs.reading.read_all.Given as goal

abbrev pub invariant-turns : goal.invariant-turns
invariant-turns g l = IsReading l.name l.limit l.turn (g.F.Files.view l.fn.files) (g.F.Files.view l.files) l.bytes.items
