-- A text with the tokens of an object of texts is read as this object.
use Rattle.std.proofs.Common.{ℕ, ◌≡◌, ◌≤◌, List, [], ◌∷◌, ◌++◌, IsUtf8, refl, sym, ap, ◌∙◌, arith, Some, option_and_then, append-nil}
use Rattle.json.specs.Token.{Token, begin_object, end_object, key, string}
use Rattle.json.specs.Lex.{tokens}
use Rattle.json.specs.Json as json
use Rattle.json.specs.Json.{value, if_last}
use Rattle.json.specs.Tree.{json_tokens, members_tokens, members_depth}
use Rattle.json.proofs.Printed.Trees.{value-json_tokens}
use Rattle.serde_json.specs.Data as serde
use Rattle.serde_json.specs.Data.{Members, no_members, object, put}
use Rattle.serde_json.specs.Read.{of_json, of_members, read}
use Rattle.dict_json.specs.Reading.{Keyed, reading}
use Rattle.dict_json.specs.inside.Texts.{put_texts, text_tokens}
use Rattle.dict_json.proofs.ReadingLemmas.{reading-of_text}

-- the members as the grammar has them
abbrev pub json_texts : List Keyed → json.Members
json_texts [] = json.no_members
json_texts (p ∷ ps) = json.member p.key (json.string p.text) (json_texts ps)

tokens_are : (ps : List Keyed) → text_tokens ps (end_object ∷ []) ≡ members_tokens (json_texts ps)
tokens_are [] = refl
tokens_are (p ∷ ps) = ap (λ (ts : List Token). key p.key ∷ string p.text ∷ ts) (tokens_are ps)

flat : (ps : List Keyed) → members_depth (json_texts ps) ≤ 0
flat [] = omega arith
flat (p ∷ ps) = omega (arith, flat ps)

of_members_texts : (ps : List Keyed) (found : Members) → of_members (json_texts ps) found ≡ Some (put_texts ps found)
of_members_texts [] found = refl
of_members_texts (p ∷ ps) found = of_members_texts ps (put p.key (serde.string p.text) found)

-- a text with the tokens of the members is read as the object
pub read_members : (text : List ℕ) (ps : List Keyed) → tokens text ≡ json_tokens (json.object (json_texts ps)) → read text ≡ Some (object (put_texts ps no_members))
read_members text ps are =
    let whole = json.object (json_texts ps) in
    ap (λ ts. option_and_then of_json (option_and_then (λ p. if_last p.0 p.1) (value 127 ts))) (are ∙ sym (append-nil (json_tokens whole)))
    ∙ ap (λ r. option_and_then of_json (option_and_then (λ p. if_last p.0 p.1) r)) (value-json_tokens whole 127 [] (omega (arith, flat ps)))
    ∙ ap (λ o. option_and_then (λ ms. Some (object ms)) o) (of_members_texts ps no_members)

-- ---- what is taken

pub read_taken : (text : List ℕ) (ps : List Keyed) → IsUtf8 text → tokens text ≡ begin_object ∷ text_tokens ps (end_object ∷ []) → reading text ≡ Some (object (put_texts ps no_members))
read_taken text ps utf8 are = reading-of_text text (object (put_texts ps no_members)) utf8 (read_members text ps (are ∙ ap (λ (ts : List Token). begin_object ∷ ts) (tokens_are ps)))

-- one more at the end
pushed : (ps : List Keyed) (p : Keyed) (rest : List Token) → text_tokens ps (key p.key ∷ string p.text ∷ rest) ≡ text_tokens (ps ++ p ∷ []) rest
pushed [] p rest = refl
pushed (q ∷ ps) p rest = ap (λ (ts : List Token). key q.key ∷ string q.text ∷ ts) (pushed ps p rest)

-- one more is taken
pub one_more : (ps qs : List Keyed) (p : Keyed) (start now next rest : List Token) → start ≡ text_tokens ps now → now ≡ key p.key ∷ next → next ≡ string p.text ∷ rest → qs ≡ ps ++ p ∷ [] → start ≡ text_tokens qs rest
one_more ps qs p start now next rest so_far k s more =
    so_far ∙ ap (text_tokens ps) (k ∙ ap (λ (ts : List Token). key p.key ∷ ts) s) ∙ pushed ps p rest ∙ ap (λ l. text_tokens l rest) (sym more)
