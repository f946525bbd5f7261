use Rattle.std.proofs.Common.{◌-◌, ◌≡◌, ◌≤◌, length, take, IfSome}
use Rattle.outside.specs.Files.{Both, Extends}
use Rattle.outside.proofs.writing.write_all_file.Given as goal

abbrev pub invariant-loop-done : goal.invariant-loop-done
invariant-loop-done g l = record {
  within : l.done ≤ length l.bytes;
  held : IfSome (g.F.Files.view l.fn.files).writing (λ name. Both (Extends name (take l.done l.bytes)) (g.F.Files.view l.fn.files).held (g.F.Files.view l.files).held);
  writing : (g.F.Files.view l.files).writing ≡ (g.F.Files.view l.fn.files).writing;
  opened : (g.F.Files.view l.files).opened ≡ (g.F.Files.view l.fn.files).opened;
  latest : (g.F.Files.view l.files).latest ≡ (g.F.Files.view l.fn.files).latest;
  faults : (g.F.Files.view l.files).faults ≡ (g.F.Files.view l.fn.files).faults;
}

abbrev pub decreases-loop-done : goal.decreases-loop-done
decreases-loop-done g l = length l.bytes - l.done
