use Rattle.std.proofs.Common.{◌<◌, ◌^◌, ◌∷◌, length, sym, ap, subst, ◌∙◌, string_bytes}
use Rattle.std.proofs.lemmas.Map.Iter.{rest_more}
use Rattle.serde_json.specs.View.{members_view, view}
use Rattle.dict_json.specs.Reading.{members_of}
use Rattle.dict_json.specs.Outcomes.{not_text}
use Rattle.dict_json.specs.inside.Walks.{AddsKey}
use Rattle.dict_json.proofs.MemberLemmas.{walking_more, walking_next, walking_refused, view-String, no_text}
use Rattle.dict_json.proofs.reading.walk.Goals as goal

pub add-requires : goal.add-requires
add-requires c =
    let next = ap (λ es. members_of (members_view es)) (rest_more (λ x. x) _ _ _ _ c.in-Some.is c.next.ensures.steps) in
    subst (λ l. length l < 2 ^ 32) (sym c.as_str.ensures.value) (walking_next (λ m. length m.name < 2 ^ 32) _ _ _ _ c.loop-key.keys next c.loop-key.invariant c.requires)

pub loop-key-preserved : goal.loop-key-preserved
loop-key-preserved c =
    let next = ap (λ es. members_of (members_view es)) (rest_more (λ x. x) _ _ _ _ c.in-Some.is c.next.ensures.steps) in
    let text = ap (λ v. record { name = string_bytes c.in-Some.key; value = v } ∷ members_of (members_view c.next.new.self)) (ap view c.in-String.is ∙ view-String c.in-String.text) in
    let adds : AddsKey c.loop-key.keys (string_bytes c.in-Some.key) (string_bytes c.in-String.text) c.add.new.self =
    subst (λ t. AddsKey c.loop-key.keys (string_bytes c.in-Some.key) t c.add.new.self) c.new.ensures
    (subst (λ k. AddsKey c.loop-key.keys k c.new.result c.add.new.self) c.as_str.ensures.value c.in_ok-add-in-String.ensures) in
    walking_more _ _ _ (string_bytes c.in-Some.key) (string_bytes c.in-String.text) c.loop-key.keys c.add.new.self (next ∙ text) c.loop-key.invariant adds

pub returns-in_default : goal.returns-in_default
returns-in_default c =
    let next = ap (λ es. members_of (members_view es)) (rest_more (λ x. x) _ _ _ _ c.in-Some.is c.next.ensures.steps) in
    record { texts = tt; keys = tt; err = walking_refused _ _ _ _ c.loop-key.keys next c.loop-key.invariant (no_text (string_bytes c.in-Some.key) c.in-Some.value c.in_default.not-String) ∙ ap not_text (sym c.new-in_default.ensures) }
