use Rattle.std.specs.Prelude.{string_bytes}
use Rattle.std.specs.HashSet.{contains_text}
use Rattle.dict_json.proofs.WritingLemmas.{IsWriting}
use Rattle.dict_json.proofs.generator.members.Given as goal

abbrev pub invariant-loop-i : goal.invariant-loop-i
invariant-loop-i l = IsWriting l.fn.start l.i l.draws (contains_text l.written) (string_bytes l.members)
