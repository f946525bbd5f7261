use Rattle.std.proofs.Common.{arith, subst, ◌+◌, ◌-◌, ◌≡◌}
use Rattle.certificate.specs.Readers.{ahead}
use Rattle.cert_upgrade.specs.inside.Stages.{AreRowsRead}
use Rattle.cert_upgrade.proofs.RowReading.{rows_begin, rows_next}
use Rattle.cert_upgrade.proofs.rows.read_rows.Goals as goal

pub loop-row-init : goal.loop-row-init
loop-row-init g c = rows_begin c.args.reader.now (g.F.Files.view c.args.files.now) c.args.lines.now.items c.args.count (c.args.count - 0) (omega arith)

pub returns-in-Err-clause-err : goal.returns-in-Err-clause-err
returns-in-Err-clause-err g c bytes at =
    let one : c.args.count - c.loop-row.row ≡ c.args.count - (c.loop-row.row + 1) + 1 = (let lt = c.loop-row-test.true in let end = c.loop-row.auto.row-end in omega (arith, lt, end)) in
    c.in-Err.ensures.err bytes c.args.count (c.args.count - (c.loop-row.row + 1))
    (subst (λ k. AreRowsRead bytes c.loop-row.reader.given c.loop-row.lines.items c.args.count k c.loop-row.reader.lines (ahead c.loop-row.reader (g.F.Files.view c.loop-row.files))) one (c.loop-row.invariant.told bytes at))

pub loop-row-preserved : goal.loop-row-preserved
loop-row-preserved g c =
    let one : c.args.count - c.loop-row.row ≡ c.args.count - (c.loop-row.row + 1) + 1 = (let lt = c.loop-row-test.true in let end = c.loop-row.auto.row-end in omega (arith, lt, end)) in
    rows_next c.args.reader.now c.loop-row.reader c.read_row.new.reader (g.F.Files.view c.args.files.now) (g.F.Files.view c.loop-row.files) (g.F.Files.view c.read_row.new.files) c.args.lines.now.items c.loop-row.lines.items c.read_row.new.lines.items c.args.count (c.args.count - c.loop-row.row) (c.args.count - (c.loop-row.row + 1))
    c.loop-row.invariant one c.in-Ok.ensures.limit c.in-Ok.ensures.takes c.in-Ok.ensures.read c.in-Ok.ensures.writable

pub returns-clause-read : goal.returns-clause-read
returns-clause-read g c bytes at =
    let none : c.args.count - c.loop-row.row ≡ 0 = (let ge = c.loop-row-test.false in let end = c.loop-row.auto.row-end in omega (arith, ge, end)) in
    subst (λ k. AreRowsRead bytes c.loop-row.reader.given c.loop-row.lines.items c.args.count k c.loop-row.reader.lines (ahead c.loop-row.reader (g.F.Files.view c.loop-row.files))) none (c.loop-row.invariant.told bytes at)
