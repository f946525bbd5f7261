use Rattle.std.proofs.Common.{◌≡◌, ◌≤◌, ◌+◌, length, take, fold}
use Rattle.dict_stack.specs.Appearances.{with_new}
use Rattle.dict_stack.proofs.stroke_numbers.add_strokes.Given as goal

abbrev pub invariant-loop-stroke : goal.invariant-loop-stroke
invariant-loop-stroke l = record {
  strokes : l.found.keys ≡ fold with_new l.fn.found.keys (take l.stroke-index l.strokes);
  few : length l.found.keys ≤ length l.fn.found.keys + l.stroke-index;
}
