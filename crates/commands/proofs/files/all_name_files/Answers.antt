use Rattle.std.proofs.Common.{◌≡◌, ◌<◌, ◌∙◌, ◌&&◌, Bool, List, ℕ, [], ap, ap₂, arith, get_or, length, map, not, string_bytes, sym, true, false}
use Rattle.std.specs.Str.{bytes_eq}
use Rattle.std.proofs.lemmas.List.{length-map}
use Rattle.std.proofs.lemmas.List.Folds.{list_all_at, list_all_more}
use Rattle.dict_files.specs.DictFiles.{match_prefix}
use Rattle.dict_files.proofs.Turns.{arg-turn}
use Rattle.commands.proofs.files.all_name_files.Goals as goal

names : List ℕ → Bool
names arg = not (bytes_eq arg match_prefix)

pub returns-then-not-names_file : goal.returns-then-not-names_file
unfolding names
returns-then-not-names_file c =
    let args = map string_bytes c.args.args.now in
    let within : c.loop-arg.arg-index < length args = omega (arith, length-map c.args.args.now string_bytes, c.loop-arg-test.true) in
    let turn = arg-turn c.args.args.now c.loop-arg.arg-index c.arg-item.result c.arg-item.is c.loop-arg-test.true in
    let bare : names (get_or args c.loop-arg.arg-index []) ≡ false = ap names (sym (c.as_str.ensures.value ∙ turn)) ∙ sym c.names_file.ensures ∙ c.if-not-names_file.true in
    sym (list_all_at names args c.loop-arg.arg-index [] within bare)

pub loop-arg-preserved : goal.loop-arg-preserved
unfolding names
loop-arg-preserved c =
    let args = map string_bytes c.args.args.now in
    let within : c.loop-arg.arg-index < length args = omega (arith, length-map c.args.args.now string_bytes, c.loop-arg-test.true) in
    let turn = arg-turn c.args.args.now c.loop-arg.arg-index c.arg-item.result c.arg-item.is c.loop-arg-test.true in
    let named : names (get_or args c.loop-arg.arg-index []) ≡ true = ap names (sym (c.as_str.ensures.value ∙ turn)) ∙ sym c.names_file.ensures ∙ c.if-not-names_file.false in
    list_all_more names args c.loop-arg.arg-index [] within ∙ ap₂ (λ a b. a && b) c.loop-arg.invariant named
