use Rattle.std.proofs.Common.{ap}
use Rattle.outside.specs.HeldFiles.{files_view}
use Rattle.outside.proofs.memory.mem_files.MemFiles.new.Goals as goal

pub returns-clause-view : goal.returns-clause-view
returns-clause-view c = ap files_view c.new.ensures
