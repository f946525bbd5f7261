use Rattle.dict_json.proofs.ReadingLemmas.{reading-of_text, reading-of_none}
use Rattle.report_json.proofs.reading.read_value.Goals as goal

pub returns-in-Ok-clause-ok : goal.returns-in-Ok-clause-ok
returns-in-Ok-clause-ok c = reading-of_text _ _ c.in-Ok.ensures.ok.0 c.in-Ok.ensures.ok.1

pub returns-in-Err-2-clause-err : goal.returns-in-Err-2-clause-err
returns-in-Err-2-clause-err c = reading-of_none _ (λ utf8. c.in-Err.ensures.err (λ memory. let t = c.if-is_memory.ensures.1 memory in cc) utf8)
