use Rattle.std.proofs.Common.{◌+◌, ◌∙◌, arith, drop, flat_map, List, ℕ}
use Rattle.std.proofs.lemmas.List.{at_drop_all}
use Rattle.std.proofs.lemmas.Result.{err_from_is_err_and}
use Rattle.report.specs.Reports.{skipped_line}
use Rattle.pages.proofs.PageSteps.{adding_more, adds_early, adds_whole, next_part}
use Rattle.report.proofs.reports.write_keys.Goals as goal

pub returns-in_err-write_key : goal.returns-in_err-write_key
returns-in_err-write_key g c =
    let line = skipped_line c.args.number in
    let keys = c.args.keys.now in
    let i = c.loop-key.key-index in
    let key : List ℕ = c.as_str.result.now in
    let next = next_part line keys i c.key-item.result key _ _ (omega arith) (c.as_str.ensures ∙ c.key-item.is) c.loop-key.invariant in
    let p = err_from_is_err_and c.from_residual.result c.from_residual.ensures.1 in
    adds_early _ _ _ _ (line key) (flat_map line (drop (i + 1) keys)) _ _ p.0 next c.in_err-write_key.ensures p.1 p.2

pub loop-key-preserved : goal.loop-key-preserved
loop-key-preserved g c =
    let line = skipped_line c.args.number in
    let keys = c.args.keys.now in
    let i = c.loop-key.key-index in
    let key : List ℕ = c.as_str.result.now in
    let next = next_part line keys i c.key-item.result key _ _ (omega arith) (c.as_str.ensures ∙ c.key-item.is) c.loop-key.invariant in
    adding_more _ _ _ _ (line key) (flat_map line (drop (i + 1) keys)) tt next c.in_ok-write_key.ensures

pub returns : goal.returns
returns g c = adds_whole _ _ _ _ tt (at_drop_all (flat_map (skipped_line c.args.number)) c.args.keys.now c.loop-key.key-index (omega arith)) c.loop-key.invariant
