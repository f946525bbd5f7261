use Rattle.std.proofs.Common.{None, Some, ap, option_map, ◌∙◌, ◌++◌, ◌∷◌, []}
use Rattle.json.proofs.Grammar.{read_key_is}
use Rattle.dict_json.specs.inside.Texts.{text_tokens}
use Rattle.dict_json.proofs.TextTokens.{one_more}
use Rattle.dict_json.proofs.members.take_members.Goals as goal

pub members-preserved : goal.members-preserved
members-preserved c =
    let member = c.new.ensures in
    let key = read_key_is c.members.reader (Some c.in-Some.key.now) c.next_key.new.self (c.in_ok-key.ensures.value ∙ ap (λ o. Some (option_map (λ s. s.now) o, c.next_key.new.self)) c.in-Some.is) in
    one_more c.members.members.items c.push.new.self.items (record { key = c.in-Some.key.now; text = c.in_ok-text.text.now }) c.args.reader.now c.members.reader c.next_key.new.self c.take_text.new.reader c.members.invariant key
    c.in_ok-text.ensures (c.in-Ok.ensures.items ∙ ap (λ m. c.members.members.items ++ m ∷ []) member)

pub returns : goal.returns
returns c =
    c.members.invariant
    ∙ ap (text_tokens c.members.members.items) (read_key_is c.members.reader None c.next_key.new.self (c.in_ok-key.ensures.value ∙ ap (λ o. Some (option_map (λ s. s.now) o, c.next_key.new.self)) c.in_default.is))
