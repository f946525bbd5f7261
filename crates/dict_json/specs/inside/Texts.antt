-- The members of an object whose values are all texts, as they stand in its text.
--     text_tokens pairs rest      their tokens, before others
--     put_texts pairs found       what was found, with these
--     as_member p                 one of them
use Rattle.std.specs.Prelude.{List, [], ◌∷◌}
use Rattle.json.specs.Token.{Token, key, string}
use Rattle.serde_json.specs.Data as serde
use Rattle.serde_json.specs.Data.{Members, put}
use Rattle.dict_json.specs.Reading.{Keyed, Member}

abbrev pub text_tokens : List Keyed → List Token → List Token
text_tokens [] rest = rest
text_tokens (p ∷ ps) rest = key p.key ∷ string p.text ∷ text_tokens ps rest

-- the members go in one after another, so the last text of a key stays
abbrev pub put_texts : List Keyed → Members → Members
put_texts [] found = found
put_texts (p ∷ ps) found = put_texts ps (put p.key (serde.string p.text) found)

abbrev pub as_member : Keyed → Member
as_member p = record { name = p.key; value = serde.string p.text }
