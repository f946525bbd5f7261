use Rattle.std.proofs.Common.{◌^◌, All, ap, length, subst, sym, ◌∙◌, ◌<◌}
use Rattle.std.proofs.lemmas.Result.{IfOk-weaker}
use Rattle.dict_json.specs.Reading.{Keyed}
use Rattle.dict_json.specs.inside.Walks.{walked}
use Rattle.dict_json.proofs.TextOrder.{keyed_back, short_keys, texts_alone}
use Rattle.dict_json.proofs.reading.keys_of_members.Goals as goal

pub walk_members-requires : goal.walk_members-requires
walk_members-requires c =
    let kept = c.in_ok-keep_last_of_each_key.ensures in
    subst (All (λ (p : Keyed). length p.key < 2 ^ 32)) (sym c.deref.ensures.value) (short_keys _ _ kept (2 ^ 32) c.requires)

pub returns-clause-texts : goal.returns-clause-texts
returns-clause-texts c =
    IfOk-weaker c.walk_members.result _ _ (λ keys is. texts_alone _ _ c.in_ok-keep_last_of_each_key.ensures) c.walk_members.ensures

pub returns-clause-keys : goal.returns-clause-keys
returns-clause-keys c =
    IfOk-weaker c.walk_members.result _ _ (λ keys is. is ∙ ap walked (c.deref.ensures.value ∙ sym (keyed_back _ _ c.in_ok-keep_last_of_each_key.ensures))) c.walk_members.ensures
