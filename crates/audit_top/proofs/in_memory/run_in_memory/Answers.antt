use Rattle.std.proofs.Common.{◌≤◌, arith}
use Rattle.audit_top.proofs.in_memory.run_in_memory.Goals as goal

-- a count that is 0 for ever doesn't rise
stays : 1 ≤ 0 → ⊥
stays rises = omega arith

pub returns : goal.returns
returns g c =
    let run = c.run.ensures.run in
    record { inputs = run.inputs; read = run.read; ends = run.complete (stays, stays) }
