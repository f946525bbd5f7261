use Rattle.std.proofs.Common.{◌≡◌, map, string_bytes, take}
use Rattle.audit_top.specs.Translated.{all_typed, typed_parts}
use Rattle.audit_top.proofs.explain.read_typed.Given as goal

-- the strokes of the outlines so far, and how many each has
abbrev pub invariant-loop-outline : goal.invariant-loop-outline
invariant-loop-outline l =
    (l.strokes.items ≡ all_typed (take l.outline-index (map string_bytes l.outlines)))
    × (l.parts.items ≡ typed_parts (take l.outline-index (map string_bytes l.outlines)))
