use Rattle.std.proofs.Common.{◌≡◌, ◌<◌, ◌∙◌, ◌&&◌, ap, ap₂, arith, get_or, length, map, string_bytes, sym, true, false, []}
use Rattle.std.proofs.lemmas.List.{length-map}
use Rattle.std.proofs.lemmas.List.Folds.{list_all_at, list_all_more}
use Rattle.dict_files.proofs.Turns.{arg-turn}
use Rattle.commands.specs.Commands.{is_spelt}
use Rattle.commands.proofs.typed.all_readable.Goals as goal

pub returns-then-not-is_readable : goal.returns-then-not-is_readable
returns-then-not-is_readable c =
    let args = map string_bytes c.args.args.now in
    let within : c.loop-arg.arg-index < length args = omega (arith, length-map c.args.args.now string_bytes, c.loop-arg-test.true) in
    let turn = arg-turn c.args.args.now c.loop-arg.arg-index c.arg-item.result c.arg-item.is c.loop-arg-test.true in
    let unread : is_spelt (get_or args c.loop-arg.arg-index []) ≡ false = ap is_spelt (sym (c.as_str.ensures.value ∙ turn)) ∙ sym c.is_readable.ensures ∙ c.if-not-is_readable.true in
    sym (list_all_at is_spelt args c.loop-arg.arg-index [] within unread)

pub loop-arg-preserved : goal.loop-arg-preserved
loop-arg-preserved c =
    let args = map string_bytes c.args.args.now in
    let within : c.loop-arg.arg-index < length args = omega (arith, length-map c.args.args.now string_bytes, c.loop-arg-test.true) in
    let turn = arg-turn c.args.args.now c.loop-arg.arg-index c.arg-item.result c.arg-item.is c.loop-arg-test.true in
    let read : is_spelt (get_or args c.loop-arg.arg-index []) ≡ true = ap is_spelt (sym (c.as_str.ensures.value ∙ turn)) ∙ sym c.is_readable.ensures ∙ c.if-not-is_readable.false in
    list_all_more is_spelt args c.loop-arg.arg-index [] within ∙ ap₂ (λ a b. a && b) c.loop-arg.invariant read
