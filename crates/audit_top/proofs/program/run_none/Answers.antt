use Rattle.std.proofs.Common.{None}
use Rattle.audit_top.specs.Runs.{output}
use Rattle.audit_top.proofs.Ends.{memory-run}
use Rattle.audit_top.proofs.program.run_none.Goals as goal

pub returns-in-OutOfMemory : goal.returns-in-OutOfMemory
returns-in-OutOfMemory g c =
    let old = output (g.S.Sink.text c.args.out.now) (g.S.Sink.faults c.args.out.now) in
    let new = output (g.S.Sink.text c.put_memory.new.out) (g.S.Sink.faults c.put_memory.new.out) in
    record {
      none = memory-run None (g.F.Files.view c.args.files.now) old new c.put_memory.result c.put_memory.ensures;
      memory = λ is. c.put_memory.ensures.fails.ends;
    }
