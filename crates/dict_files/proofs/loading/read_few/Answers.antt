use Rattle.std.proofs.Common.{◌≤◌, arith, length, map, string_bytes}
use Rattle.std.proofs.lemmas.List.{length-map}
use Rattle.dict_stack.specs.Stacks.{most_dictionaries}
use Rattle.dict_files.proofs.Turns.{loaded}
use Rattle.dict_files.proofs.loading.read_few.Goals as goal

pub returns-clause-ok : goal.returns-clause-ok
returns-clause-ok g c =
    let args = map string_bytes c.args.args.now in
    let few : length args ≤ most_dictionaries = omega (arith, length-map c.args.args.now string_bytes, c.requires) in
    loaded args _ c.in_ok-dictionaries.dictionaries.items c.in_ok-kinds.kinds.items c.in_ok-stack.stack few c.in_ok-dictionaries.ensures.ok c.in_ok-kinds.ensures c.in_ok-stack.ensures.few_entries c.in_ok-stack.ensures.stack
