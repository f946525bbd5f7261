use Rattle.std.proofs.Common.{◌∙◌, ap, map, rules}
use Rattle.std.proofs.lemmas.Fn.{dedup_same}
use Rattle.std.proofs.lemmas.List.Sorted.{answers_always}
use Rattle.dict_json.specs.inside.Texts.{as_member}
use Rattle.dict_json.proofs.FirstOfEach.{is_before, is_before-weak, is_same}
use Rattle.dict_json.proofs.TextOrder.{kept-put_texts, key_of}
use Rattle.dict_json.proofs.order.keep_last_of_each_key.Goals as goal

pub returns : goal.returns
returns c =
    ap (map as_member) (dedup_same _ (is_same key_of) _ (λ x y b f' x' y' k. search rules) _ _ c.dedup_by.ensures.filtered)
    ∙ kept-put_texts c.args.members.now.items _ _ c.reverse.ensures.items
    (c.in_ok-sort_by.ensures.sorted (is_before key_of) (is_before-weak key_of) (answers_always _ _ _ (λ f a r g h. search rules)))
    (c.sort_by.ensures.stable (is_before key_of) (is_before-weak key_of) (answers_always _ _ _ (λ f a r g h. search rules)))
