use Rattle.std.proofs.Common.{◌≡◌, ◌∙◌, ap, length, arith, rules}
use Rattle.dict_json.specs.Dictionaries.{last_of_each}
use Rattle.std.proofs.lemmas.Fn.{dedup_same}
use Rattle.std.proofs.lemmas.List.Sorted.{answers_always}
use Rattle.dict_json.proofs.FirstOfEach.{is_before, is_before-weak, is_same}
use Rattle.dict_json.proofs.LastOfEach.{dedup-last_of_each, outline_of}
use Rattle.dict_json.proofs.order.keep_last_of_each.Goals as goal

pub returns : goal.returns
returns c = let left : c.dedup_by.new.self.items ≡ last_of_each c.args.entries.now.items = dedup_same _ (is_same outline_of) _ (λ x y b f' x' y' k. search rules) _ _ c.dedup_by.ensures.filtered
    ∙ dedup-last_of_each c.args.entries.now.items _ _ c.reverse.ensures.items c.sort_by.ensures.permutation
    (c.in_ok-sort_by.ensures.sorted (is_before outline_of) (is_before-weak outline_of) (answers_always _ _ _ (λ f a r g h. search rules)))
    (c.sort_by.ensures.stable (is_before outline_of) (is_before-weak outline_of) (answers_always _ _ _ (λ f a r g h. search rules))) in
    record { entries = left; left_out = omega (arith, c.len-all.ensures, c.len.ensures, ap length left, c.args.entries.now.ok.0, c.dedup_by.new.self.ok.0) }
