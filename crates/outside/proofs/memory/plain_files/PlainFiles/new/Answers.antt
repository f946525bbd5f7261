use Rattle.std.proofs.Common.{ap, None}
use Rattle.outside.specs.HeldFiles.{files_view}
use Rattle.outside.proofs.memory.plain_files.PlainFiles.new.Goals as goal

pub returns : goal.returns
returns c = ap (λ h. record (files_view h) { latest = None; faults = 0 }) c.new.ensures
