use Rattle.std.proofs.Common.{◌≡◌, ◌≤◌, ◌*◌, length, take}
use Rattle.steno_rules.specs.Outlines.{most_strokes}
use Rattle.dict_stack.specs.Appearances.{strokes_of_all}
use Rattle.dict_stack.proofs.stroke_numbers.StrokeNumbers.of.Given as goal

abbrev pub invariant-loop-outline : goal.invariant-loop-outline
invariant-loop-outline l = record {
  strokes : l.strokes.keys ≡ strokes_of_all (take l.outline-index l.outlines);
  few : length l.strokes.keys ≤ most_strokes * l.outline-index;
}
