use Rattle.std.proofs.Common.{◌≡◌, ◌++◌, [], subst, sym, ap, ◌∙◌, cond, true, codes, decimal, string_bytes, bytes_eq, nat_lt, if◌then◌else◌}
use Rattle.std.specs.HashSet.{contains_text}
use Rattle.std.proofs.lemmas.Map.Text.{hash_set_updates_text}
use Rattle.dict_json.specs.Generated.{drawn, key_of}
use Rattle.dict_json.proofs.PlainTexts.{IsPlain, key_plain}
use Rattle.text_rules.specs.Quoted.{escaped, quoted}
use Rattle.dict_json.proofs.WritingLemmas.{key_here, writing_new, writing_known, next_entry}
use Rattle.dict_json.proofs.generator.members.Goals as goal

pub push_member-requires : goal.push_member-requires
push_member-requires c = subst (IsPlain escaped) (sym (c.as_str-in-loop-i.ensures.value ∙ c.in_ok-key.ensures.key)) (key_plain (drawn c.loop-i.draws))

pub loop-i-preserved : goal.loop-i-preserved
loop-i-preserved c =
    let start = c.args.start in
    let i = c.loop-i.i in
    let has = contains_text c.loop-i.written in
    let members = string_bytes c.loop-i.members in
    let w = c.loop-i.invariant in
    let drew = c.in_ok-key.ensures.draws in
    let here : string_bytes c.in_ok-key.key ≡ key_of start i = c.in_ok-key.ensures.key ∙ key_here start i c.loop-i.draws c.key.new.self has members w drew in
    next_entry start i c.key.new.self (contains_text c.insert.new.self) (string_bytes c.push_member.new.members)
    (writing_new start i c.loop-i.draws c.key.new.self has members w drew (contains_text c.insert.new.self) (string_bytes c.push_member.new.members)
    (ap has (sym (c.as_str.ensures.value ∙ here)) ∙ sym c.if-contains.ensures)
    (λ q. hash_set_updates_text (string_bytes c.in_ok-key.key) c.loop-i.written c.insert.new.self true c.in_ok-insert.ensures.updates q ∙ ap (λ k. cond (bytes_eq k q) true (has q)) here)
    (c.in_ok-push_member.ensures ∙ ap (λ k. members ++ ((if nat_lt 0 i then codes ",\n" else []) ++ (quoted k ++ codes ": " ++ quoted (codes "w" ++ decimal i)))) (c.as_str-in-loop-i.ensures.value ∙ here)))

pub loop-i-preserved-then-contains : goal.loop-i-preserved-then-contains
loop-i-preserved-then-contains c =
    let start = c.args.start in
    let i = c.loop-i.i in
    let has = contains_text c.loop-i.written in
    let members = string_bytes c.loop-i.members in
    let w = c.loop-i.invariant in
    let drew = c.in_ok-key.ensures.draws in
    let here : string_bytes c.in_ok-key.key ≡ key_of start i = c.in_ok-key.ensures.key ∙ key_here start i c.loop-i.draws c.key.new.self has members w drew in
    next_entry start i c.key.new.self has members (writing_known start i c.loop-i.draws c.key.new.self has members w drew (ap has (sym (c.as_str.ensures.value ∙ here)) ∙ sym c.if-contains.ensures))
