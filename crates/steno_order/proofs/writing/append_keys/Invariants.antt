use Rattle.std.proofs.Common.{◌-◌, ◌≤◌}
use Rattle.std.specs.Prelude.{string_bytes, string_capacity, string_len}
use Rattle.steno_order.proofs.Writes.{IsWriting}
use Rattle.steno_order.proofs.writing.append_keys.Given as goal

abbrev pub invariant-loop-pressed : goal.invariant-loop-pressed
invariant-loop-pressed l = record {
  order : l.key ≤ l.end;
  writing : IsWriting l.stroke l.first l.end l.key (string_bytes l.initial.text) (string_bytes l.text) (string_len l.initial.text) (string_len l.text) (string_capacity l.initial.text) (string_capacity l.text);
}

abbrev pub decreases-loop-pressed : goal.decreases-loop-pressed
decreases-loop-pressed l = l.end - l.key
