use Rattle.std.specs.Prelude.{string_bytes}
use Rattle.dict_json.specs.Generated.{drawn}
use Rattle.dict_json.proofs.DrawLemmas.{IsKeyFront}
use Rattle.dict_json.proofs.generator.Draws.key.Given as goal

abbrev pub invariant-loop-place : goal.invariant-loop-place
invariant-loop-place l = IsKeyFront (drawn l.fn.self) l.place (string_bytes l.key) l.self
