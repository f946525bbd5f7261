use Rattle.std.proofs.Common.{◌++◌, ◌+◌, arith, drop, flat_map, List, ℕ}
use Rattle.std.proofs.lemmas.List.{at_drop_all}
use Rattle.std.proofs.lemmas.Result.{err_from_is_err_and}
use Rattle.report.specs.Reports.{skipped_from, skipped_line, skipped_text}
use Rattle.pages.proofs.PageSteps.{adding_all, adding_as, adding_more, adds_early, adds_whole}
use Rattle.report.proofs.SkippedLines.{skipped_next}
use Rattle.report.proofs.reports.write_skipped.Goals as goal

pub loop-dictionary-init : goal.loop-dictionary-init
loop-dictionary-init g c = record { fits = omega arith; adding = adding_all _ _ }

pub returns-in_err-write_keys : goal.returns-in_err-write_keys
returns-in_err-write_keys g c =
    let xs = c.args.stack.now.skipped in
    let i = c.loop-dictionary.dictionary in
    let number = c.from.result + 1 in
    let keys : List (List ℕ) = c.skipped.result.now in
    let whole = skipped_text c.args.stack.now in
    let added = flat_map (skipped_line number) keys in
    let left = skipped_from (i + 1 + 1) (drop (i + 1) xs) in
    let next = skipped_next xs i (i + 1) number keys (omega arith) (omega (arith, c.from.ensures)) c.skipped.ensures in
    let p = err_from_is_err_and c.from_residual.result c.from_residual.ensures.1 in
    adds_early _ _ _ whole added left _ _ p.0
    (adding_as _ _ whole (skipped_from (i + 1) (drop i xs)) (added ++ left) next c.loop-dictionary.invariant.adding) c.in_err-write_keys.ensures p.1 p.2

pub loop-dictionary-preserved : goal.loop-dictionary-preserved
loop-dictionary-preserved g c =
    let xs = c.args.stack.now.skipped in
    let i = c.loop-dictionary.dictionary in
    let number = c.from.result + 1 in
    let keys : List (List ℕ) = c.skipped.result.now in
    let whole = skipped_text c.args.stack.now in
    let added = flat_map (skipped_line number) keys in
    let left = skipped_from (i + 1 + 1) (drop (i + 1) xs) in
    let next = skipped_next xs i (i + 1) number keys (omega arith) (omega (arith, c.from.ensures)) c.skipped.ensures in
    record {
      fits = omega arith;
      adding = adding_more _ _ _ whole added left tt
          (adding_as _ _ whole (skipped_from (i + 1) (drop i xs)) (added ++ left) next c.loop-dictionary.invariant.adding) c.in_ok-write_keys.ensures;
    }

pub returns : goal.returns
returns g c = adds_whole _ _ _ _ tt (at_drop_all (skipped_from (c.loop-dictionary.dictionary + 1)) c.args.stack.now.skipped c.loop-dictionary.dictionary (omega arith)) c.loop-dictionary.invariant.adding
