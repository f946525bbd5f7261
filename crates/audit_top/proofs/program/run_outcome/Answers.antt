use Rattle.std.proofs.Common.{None, drop, map, string_bytes}
use Rattle.std.specs.Vec.Iter.{into_iter_items}
use Rattle.commands.specs.Reading.{command_of}
use Rattle.audit_top.specs.Runs.{output}
use Rattle.audit_top.proofs.Ends.{memory-run}
use Rattle.audit_top.proofs.program.run_outcome.Goals as goal

pub returns-in-Err-collected : goal.returns-in-Err-collected
returns-in-Err-collected g c =
    let files = g.F.Files.view c.args.files.now in
    let old = output (g.S.Sink.text c.args.out.now) (g.S.Sink.faults c.args.out.now) in
    let new = output (g.S.Sink.text c.put_memory.new.out) (g.S.Sink.faults c.put_memory.new.out) in
    rw c.in-Ok.is (record {
      short = λ are. memory-run (command_of (map string_bytes (drop 1 (into_iter_items c.in-Ok.args)))) files old new c.put_memory.result c.put_memory.ensures;
      long = λ are. memory-run None files old new c.put_memory.result c.put_memory.ensures;
    })
