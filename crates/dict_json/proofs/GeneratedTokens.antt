-- How the text of a generated dictionary is read.
use Rattle.std.proofs.Common.{ℕ, ◌≡◌, ◌<◌, ◌^◌, List, [], ◌∷◌, ◌++◌, false, refl, sym, ap, ap₂, ◌∙◌, Some, decimal, codes, flat_map, map, append_assoc}
use Rattle.std.specs.List.{join_by, AllByRecursion}
use Rattle.json.specs.Token.{begin_object, end_object, key, string}
use Rattle.json.specs.Lex.{Lexeme, token, comma, colon, string_token, between, lex, fresh, after_value, begins_colon, punctuate, tokens}
use Rattle.json.specs.Json as json
use Rattle.json.specs.Json.{value, if_last}
use Rattle.json.specs.Print.{escape}
use Rattle.json.specs.Tree.{json_tokens, members_tokens}
use Rattle.json.proofs.Printed.Strings.{content-escape, lex-escape}
use Rattle.serde_json.specs.Data as serde
use Rattle.serde_json.specs.Data.{put}
use Rattle.serde_json.specs.Read.{read}
use Rattle.dict_json.specs.Reading.{Keyed}
use Rattle.dict_json.specs.inside.Texts.{put_texts}
use Rattle.dict_json.proofs.TextTokens.{json_texts, read_members}
use Rattle.dict_json.specs.Generated.{first_draw, key_of, member_text}
use Rattle.dict_json.proofs.PlainTexts.{key_plain, key_unescaped, value_unescaped, member_plain}

-- a text that needs no escape, between its quotes
lex_text : (s r : List ℕ) → escape s ≡ s → lex between (34 ∷ (s ++ 34 ∷ r)) ≡ token (string s) ∷ lex between r
unfolding lex
lex_text s r plain = (λ i. lex between (34 ∷ (sym plain i ++ 34 ∷ r))) ∙ ap₂ (λ o ls. token (string_token o) ∷ ls) (content-escape s r) (lex-escape s r)

-- the value of an entry
abbrev pub value_of : ℕ → List ℕ
value_of i = codes "w" ++ decimal i

module _ (start : ℕ) where
  -- a member's lexemes before others
  abbrev member_lexemes : ℕ → List Lexeme → List Lexeme
  member_lexemes i ls = token (string (key_of start i)) ∷ colon ∷ token (string (value_of i)) ∷ ls

  lex_member : (i : ℕ) (r : List ℕ) → i < 2 ^ 64 → lex between (member_text start i ++ r) ≡ member_lexemes i (lex between r)
  unfolding lex
  lex_member i r small =
      let k = key_of start i in
      let rest : List ℕ = 34 ∷ 58 ∷ 32 ∷ 34 ∷ 119 ∷ (decimal i ++ 34 ∷ []) in
      ap (λ l. lex between (l ++ r)) (sym (member_plain k i (key_plain (first_draw start i)) small))
      ∙ ap (λ l. lex between (34 ∷ l)) (append_assoc k rest r)
      ∙ ap (λ l. lex between (34 ∷ (k ++ 34 ∷ 58 ∷ 32 ∷ 34 ∷ 119 ∷ l))) (append_assoc (decimal i) (34 ∷ []) r)
      ∙ lex_text k (58 ∷ 32 ∷ 34 ∷ 119 ∷ (decimal i ++ 34 ∷ r)) (key_unescaped (first_draw start i))
      ∙ ap (λ ls. token (string k) ∷ colon ∷ ls) (lex_text (value_of i) r (value_unescaped i small))

  -- the lexemes of further members before others
  abbrev more_lexemes : List ℕ → List Lexeme → List Lexeme
  more_lexemes [] ls = ls
  more_lexemes (i ∷ is) ls = comma ∷ member_lexemes i (more_lexemes is ls)

  lex_more : (is : List ℕ) (r : List ℕ) → AllByRecursion (λ i. i < 2 ^ 64) is → lex between (flat_map (λ i. codes ",\n" ++ member_text start i) is ++ r) ≡ more_lexemes is (lex between r)
  unfolding lex
  lex_more [] r small = refl
  lex_more (i ∷ is) r small =
      ap (lex between) (append_assoc (codes ",\n" ++ member_text start i) (flat_map (λ j. codes ",\n" ++ member_text start j) is) r)
      ∙ ap (λ ls. comma ∷ ls) (lex_member i (flat_map (λ j. codes ",\n" ++ member_text start j) is ++ r) small.0)
      ∙ ap (λ ls. comma ∷ member_lexemes i ls) (lex_more is r small.1)

  -- ---- tokens

  -- the key of an entry with its text
  abbrev pub pair_of : ℕ → Keyed
  pair_of i = record { key = key_of start i; text = value_of i }

  -- the members of these entries
  abbrev json_members : List ℕ → json.Members
  json_members is = json_texts (map pair_of is)

  no_colon : (is : List ℕ) → begins_colon (more_lexemes is (token end_object ∷ [])) ≡ false
  no_colon [] = refl
  no_colon (i ∷ is) = refl

  punctuate_more : (is : List ℕ) → punctuate after_value (more_lexemes is (token end_object ∷ [])) ≡ members_tokens (json_members is)
  unfolding punctuate
  punctuate_more [] = refl
  punctuate_more (i ∷ is) = rw (no_colon is) (ap (λ ts. key (key_of start i) ∷ string (value_of i) ∷ ts) (punctuate_more is))

  punctuate_object : (i : ℕ) (is : List ℕ) → punctuate fresh (token begin_object ∷ member_lexemes i (more_lexemes is (token end_object ∷ []))) ≡ json_tokens (json.object (json_members (i ∷ is)))
  unfolding punctuate
  punctuate_object i is = rw (no_colon is) (ap (λ ts. begin_object ∷ key (key_of start i) ∷ string (value_of i) ∷ ts) (punctuate_more is))

  -- the text of an object with these members
  abbrev object_text : ℕ → List ℕ → List ℕ
  object_text i is = codes "{\n" ++ join_by (member_text start) (codes ",\n") (i ∷ is) ++ codes "\n}\n"

  tokens_object : (i : ℕ) (is : List ℕ) → AllByRecursion (λ j. j < 2 ^ 64) (i ∷ is) → tokens (object_text i is) ≡ json_tokens (json.object (json_members (i ∷ is)))
  unfolding lex
  tokens_object i is small =
      let more = flat_map (λ j. codes ",\n" ++ member_text start j) is in
      ap (λ l. punctuate fresh (token begin_object ∷ lex between l)) (append_assoc (member_text start i) more (codes "\n}\n"))
      ∙ ap (λ ls. punctuate fresh (token begin_object ∷ ls)) (lex_member i (more ++ codes "\n}\n") small.0 ∙ ap (member_lexemes i) (lex_more is (codes "\n}\n") small.1))
      ∙ punctuate_object i is

  -- ---- the value

  -- the members that were found, with these
  abbrev pub with_members : List ℕ → serde.Members → serde.Members
  with_members is found = put_texts (map pair_of is) found

  pub read_object : (i : ℕ) (is : List ℕ) → AllByRecursion (λ j. j < 2 ^ 64) (i ∷ is) → read (object_text i is) ≡ Some (serde.object (with_members (i ∷ is) serde.no_members))
  read_object i is small = read_members (object_text i is) (map pair_of (i ∷ is)) (tokens_object i is small)
