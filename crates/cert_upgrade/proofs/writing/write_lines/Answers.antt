use Rattle.cert_upgrade.proofs.AddedLines.{next_room, part_next}
use Rattle.cert_upgrade.proofs.writing.write_lines.Goals as goal

pub write_line-requires-clause-room : goal.write_line-requires-clause-room
write_line-requires-clause-room g c =
    next_room c.args.lines.now c.loop-line.line-index c.line-item.result c.args.writer.now c.loop-line.writer (g.F.Files.view c.args.files.now) (g.F.Files.view c.loop-line.files) c.loop-line.invariant c.loop-line-test.true c.line-item.is c.requires.room

pub returns-in-Err : goal.returns-in-Err
returns-in-Err g c =
    part_next c.args.lines.now c.loop-line.line-index c.line-item.result c.in-Err.fault c.args.writer.now c.loop-line.writer (g.F.Files.view c.args.files.now) (g.F.Files.view c.loop-line.files) (g.F.Files.view c.write_line.new.files) c.loop-line.invariant c.loop-line-test.true c.line-item.is c.in-Err.ensures
