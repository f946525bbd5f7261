use Rattle.std.proofs.Common.{◌≡◌, OnOk, subst, ◌∙◌}
use Rattle.dict_json.specs.inside.Walks.{with_too_long}
use Rattle.steno_order.specs.Faults.{IsOutlineCause}
use Rattle.steno_order.proofs.ListLaws.{none-spelt_strokes}
use Rattle.dict_json.proofs.WalkLemmas.{on_ok, adds_entry, adds_skipped, adds_too_long}
use Rattle.dict_json.proofs.keys.Keys.add.Goals as goal

pub returns-in-Ok : goal.returns-in-Ok
returns-in-Ok c = on_ok c.add_entry.result _ _ c.add_entry.ensures (λ same pairs is.
    same ∙ adds_entry pairs c.args.self.now c.args.key.now c.args.text is c.in-Ok.outline c.in-Ok.ensures.ok c.in-Ok.ensures.is_outline.at_most)

pub returns-in-Err-Unreadable : goal.returns-in-Err-Unreadable
returns-in-Err-Unreadable c =
    let cause = subst (IsOutlineCause c.args.key.now) c.in-Err-Unreadable.field-0-is c.in-Err-Unreadable.ensures.err in
    on_ok c.add_skipped.result _ _ c.add_skipped.ensures (λ same pairs is.
    same ∙ adds_skipped pairs c.args.self.now c.args.key.now c.args.text is (none-spelt_strokes c.args.key.now _ cause))

pub returns-in-Err-TooLong : goal.returns-in-Err-TooLong
returns-in-Err-TooLong c =
    let cause = subst (IsOutlineCause c.args.key.now) c.in-Err-TooLong.field-0-is c.in-Err-TooLong.ensures.err in
    let added = subst (λ n. OnOk c.add_too_long.result (c.add_too_long.new.self ≡ with_too_long c.args.self.now c.args.key.now n)) c.in-Err-TooLong.parts-is c.add_too_long.ensures in
    on_ok c.add_too_long.result _ _ added (λ same pairs is.
    same ∙ adds_too_long pairs c.args.self.now c.args.key.now c.args.text is cause.0 c.in-Err-TooLong.parts cause.1 cause.2 cause.3)
