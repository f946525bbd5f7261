use Rattle.std.proofs.Common.{refl}
use Rattle.std.proofs.lemmas.Result.{err_from_is_err_and}
use Rattle.audit_top.specs.Parsed.{IsParse, parse_result}
use Rattle.audit_top.proofs.Parsing.{parse-is, put-parse}
use Rattle.audit_top.proofs.Stops.{put-stopped, put-whole}
use Rattle.audit_top.proofs.parse.print_readings.Goals as goal

pub returns-in_err-write_parse : goal.returns-in_err-write_parse
returns-in_err-write_parse g c =
    let stack = c.args.stack.now in
    let searched = c.args.searched.now in
    let found = c.args.two.now in
    let p = err_from_is_err_and c.from_residual.result c.from_residual.ensures.1 in
    let may = parse-is stack searched found c.requires.parsed c.requires.search in
    let put = put-parse stack searched found _ _ _ c.words.result.now _ _ _ _ _ c.words.ensures c.reached-states.ensures c.rounds.ensures c.as_ref.ensures.value c.in_err-write_parse.ensures in
    put-stopped (IsParse stack) _ _ (parse_result stack searched found) _ _ p.0 may put p.1 p.2

pub returns : goal.returns
returns g c =
    let stack = c.args.stack.now in
    let searched = c.args.searched.now in
    let found = c.args.two.now in
    let may = parse-is stack searched found c.requires.parsed c.requires.search in
    let put = put-parse stack searched found _ _ _ c.words.result.now _ _ _ _ _ c.words.ensures c.reached-states.ensures c.rounds.ensures c.as_ref.ensures.value c.in_ok-write_parse.ensures in
    put-whole (IsParse stack) _ _ (parse_result stack searched found) _ may c.status_of.ensures refl put.all (put.steady refl)
