use Rattle.std.proofs.Common.{◌∙◌, ◌∷◌, List, ap, sym}
use Rattle.json.specs.Token.{Token, begin_object, end_object}
use Rattle.dict_json.specs.inside.Texts.{text_tokens}
use Rattle.dict_json.proofs.TextTokens.{read_taken}
use Rattle.dict_json.proofs.members.members_in.Goals as goal

pub returns-in-None : goal.returns-in-None
returns-in-None c =
    read_taken c.args.text.now c.in_ok-members.members.items c.utf8.text
    (sym c.in_ok-reader.ensures.ok ∙ c.in_ok-take_begin_object.ensures ∙ ap (λ (ts : List Token). begin_object ∷ ts) (c.in_ok-members.ensures ∙ ap (λ ts. text_tokens c.in_ok-members.members.items (end_object ∷ ts)) c.in-None.ensures.value.0))
