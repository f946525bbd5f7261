-- The tokens of a text: about as many as it has bytes at most, and no key among them is longer than the text.
use Rattle.std.proofs.Common.{ℕ, suc, ◌≤◌, ◌+◌, List, [], ◌∷◌, length, arith, None, Some, Option, Bool, true, false, cond, ◌&&◌, ◌==◌, ◌-◌, take, drop, nat_eq, nat_lt, option_and_then}
use Rattle.std.proofs.lemmas.List.{length-append}
use Rattle.std.specs.Char.{encode_utf8}
use Rattle.std.specs.Prelude.{⊤}
use Rattle.std.specs.List.{AllByRecursion, starts_with}
use Rattle.json.specs.Token.{Token, begin_object, end_object, begin_array, end_array, key, string, number, boolean, null, bad}
use Rattle.json.specs.Text.{code_unit, short_escape, is_high_surrogate, is_low_surrogate, surrogate_pair, Within, plain, after_backslash, after_u, after_high, prepend, content}
use Rattle.json.specs.Ascii as ascii
use Rattle.json.specs.Word.{head, ends_word, after_number, number_before, literal, word}
use Rattle.json.specs.Lex.{Lexeme, token, comma, colon, Class, quote, backslash, operator, space, other, class, operator_lexeme, string_token, Mode, between, in_word, in_string, in_escape, lex_byte, lex, Place, fresh, after_value, after_comma, after_key, may_begin, may_close, begins_colon, if_allowed, place_token, punctuate, tokens}

-- a key or a string has at most so many bytes
abbrev pub IsShort : ℕ → Token → Type 0
IsShort n begin_object = ⊤
IsShort n end_object = ⊤
IsShort n begin_array = ⊤
IsShort n end_array = ⊤
IsShort n (key s) = length s ≤ n
IsShort n (string s) = length s ≤ n
IsShort n (number s) = ⊤
IsShort n (boolean b) = ⊤
IsShort n null = ⊤
IsShort n bad = ⊤

-- the same of a lexeme
abbrev IsShortLexeme : ℕ → Lexeme → Type 0
IsShortLexeme n (token t) = IsShort n t
IsShortLexeme n comma = ⊤
IsShortLexeme n colon = ⊤

-- ---- strings

-- at most so many bytes, where there are any
abbrev AtMost : ℕ → Option (List ℕ) → Type 0
AtMost n None = ⊤
AtMost n (Some s) = length s ≤ n

either : (n : ℕ) (b : Bool) (x y : Option (List ℕ)) → AtMost n x → AtMost n y → AtMost n (cond b x y)
either n true x y f g = f
either n false x y f g = g

found : (n : ℕ) (f : ℕ → Option (List ℕ)) (o : Option ℕ) → ((u : ℕ) → AtMost n (f u)) → AtMost n (option_and_then f o)
found n f None h = tt
found n f (Some u) h = h u

longer : (n m : ℕ) (a : List ℕ) (r : Option (List ℕ)) → AtMost m r → length a + m ≤ n → AtMost n (prepend a r)
longer n m a None h le = tt
longer n m a (Some s) h le = omega (arith, length-append a s)

weaker : (n m : ℕ) (r : Option (List ℕ)) → AtMost m r → m ≤ n → AtMost n r
weaker n m None h le = tt
weaker n m (Some s) h le = omega arith

encoded : (u : ℕ) → length (encode_utf8 u) ≤ 4
unfolding encode_utf8
encoded u = grind arith

-- an escape stands for no more bytes than it has
content-length : (w : Within) (xs : List ℕ) → AtMost (length xs) (content w xs)
unfolding content
content-length plain [] = tt
content-length plain (x ∷ xs) =
    let n = length (x ∷ xs) in
    either n (x == 34) _ _ (omega arith) (either n (x == 92) _ _ (weaker n (length xs) _ (content-length after_backslash xs) (omega arith))
    (either n (nat_lt x 32) _ _ tt (longer n (length xs) (x ∷ []) _ (content-length plain xs) (omega arith))))
content-length after_backslash [] = tt
content-length after_backslash (x ∷ xs) =
    let n = length (x ∷ xs) in
    either n (x == 117) _ _ (weaker n (length xs) _ (content-length after_u xs) (omega arith)) (found n _ (short_escape x) (λ c. longer n (length xs) (c ∷ []) _ (content-length plain xs) (omega arith)))
content-length after_u [] = tt
content-length after_u (a ∷ []) = tt
content-length after_u (a ∷ b ∷ []) = tt
content-length after_u (a ∷ b ∷ c ∷ []) = tt
content-length after_u (a ∷ b ∷ c ∷ d ∷ xs) =
    let n = length (a ∷ b ∷ c ∷ d ∷ xs) in
    found n _ (code_unit a b c d) (λ u. either n (is_high_surrogate u) _ _ (weaker n (length xs) _ (content-length (after_high u) xs) (omega arith))
    (either n (is_low_surrogate u) _ _ tt (longer n (length xs) (encode_utf8 u) _ (content-length plain xs) (omega (arith, encoded u)))))
content-length (after_high h) [] = tt
content-length (after_high h) (s ∷ []) = tt
content-length (after_high h) (s ∷ u ∷ []) = tt
content-length (after_high h) (s ∷ u ∷ a ∷ []) = tt
content-length (after_high h) (s ∷ u ∷ a ∷ b ∷ []) = tt
content-length (after_high h) (s ∷ u ∷ a ∷ b ∷ c ∷ []) = tt
content-length (after_high h) (s ∷ u ∷ a ∷ b ∷ c ∷ d ∷ xs) =
    let n = length (s ∷ u ∷ a ∷ b ∷ c ∷ d ∷ xs) in
    either n ((s == 92) && (u == 117)) _ _ (found n _ (code_unit a b c d) (λ l. either n (is_low_surrogate l) _ _ (longer n (length xs) (encode_utf8 (surrogate_pair h l)) _ (content-length plain xs) (omega (arith, encoded (surrogate_pair h l)))) tt)) tt

-- ---- lexemes

string_short : (n : ℕ) (xs : List ℕ) → length xs ≤ n → IsShort n (string_token (content plain xs))
string_short n xs le = by (content plain xs) (content-length plain xs)
  where
    by : (o : Option (List ℕ)) → AtMost (length xs) o → IsShort n (string_token o)
    by None h = tt
    by (Some s) h = omega (arith, h, le)

-- a word is no string
either_token : (n : ℕ) (b : Bool) (t u : Token) → IsShort n t → IsShort n u → IsShort n (cond b t u)
either_token n true t u f g = f
either_token n false t u f g = g

number_short : (n : ℕ) (t : List ℕ) (o : Option (List ℕ)) → IsShort n (number_before t o)
number_short n t None = tt
number_short n t (Some rest) = either_token n (ends_word rest) (number (take (length t - length rest) t)) bad tt tt

literal_short : (n : ℕ) (name : List ℕ) (k : Token) (t : List ℕ) → IsShort n k → IsShort n (literal name k t)
literal_short n name k t h = either_token n (starts_with nat_eq t name && ends_word (drop (length name) t)) k bad h tt

word_short : (n : ℕ) (t : List ℕ) → IsShort n (word t)
unfolding word
word_short n t =
    let is_null = literal ascii.null_text null t in
    let last = cond (head t == ascii.lower_n) is_null (number_before t (after_number t)) in
    let is_false = literal ascii.false_text (boolean false) t in
    let others = cond (head t == ascii.lower_f) is_false last in
    either_token n (head t == ascii.lower_t) (literal ascii.true_text (boolean true) t) others (literal_short n ascii.true_text (boolean true) t tt)
    (either_token n (head t == ascii.lower_f) is_false last (literal_short n ascii.false_text (boolean false) t tt)
    (either_token n (head t == ascii.lower_n) is_null (number_before t (after_number t)) (literal_short n ascii.null_text null t tt) (number_short n t (after_number t))))

-- at most so many lexemes, all short
abbrev AreFew : ℕ → ℕ → List Lexeme → Type 0
AreFew n m ls = AllByRecursion (IsShortLexeme n) ls × (length ls ≤ m)

cons_few : (n m : ℕ) (l : Lexeme) (ls : List Lexeme) → IsShortLexeme n l → AreFew n m ls → AreFew n (suc m) (l ∷ ls)
cons_few n m l ls one rest = ((one, rest.0), omega (arith, rest.1))

more_few : (n m : ℕ) (ls : List Lexeme) → AreFew n m ls → AreFew n (suc m) ls
more_few n m ls rest = (rest.0, omega (arith, rest.1))

operator_short : (n x : ℕ) → IsShortLexeme n (operator_lexeme x)
operator_short n x = grind arith

lex_few : (n : ℕ) (m : Mode) (xs : List ℕ) → length xs ≤ n → AreFew n (length xs) (lex m xs)
unfolding lex
lex_few n m [] le = (tt, omega arith)
lex_few n m (x ∷ xs) le = by m (class x) (λ next. lex_few n next xs (omega (arith, le)))
  where
    by : (mode : Mode) (c : Class) → ((next : Mode) → AreFew n (length xs) (lex next xs)) → AreFew n (suc (length xs)) (lex_byte mode c x xs (λ next. lex next xs))
    by between quote rest = cons_few n (length xs) (token (string_token (content plain xs))) (lex in_string xs) (string_short n xs (omega (arith, le))) (rest in_string)
    by between backslash rest = cons_few n (length xs) (token bad) _ tt (rest in_word)
    by between operator rest = cons_few n (length xs) (operator_lexeme x) _ (operator_short n x) (rest between)
    by between space rest = more_few n (length xs) _ (rest between)
    by between other rest = cons_few n (length xs) (token (word (x ∷ xs))) _ (word_short n (x ∷ xs)) (rest in_word)
    by in_word quote rest = more_few n (length xs) _ (rest in_word)
    by in_word backslash rest = more_few n (length xs) _ (rest in_word)
    by in_word operator rest = cons_few n (length xs) (operator_lexeme x) _ (operator_short n x) (rest between)
    by in_word space rest = more_few n (length xs) _ (rest between)
    by in_word other rest = more_few n (length xs) _ (rest in_word)
    by in_string quote rest = more_few n (length xs) _ (rest between)
    by in_string backslash rest = more_few n (length xs) _ (rest in_escape)
    by in_string operator rest = more_few n (length xs) _ (rest in_string)
    by in_string space rest = more_few n (length xs) _ (rest in_string)
    by in_string other rest = more_few n (length xs) _ (rest in_string)
    by in_escape c rest = more_few n (length xs) _ (rest in_string)

-- ---- tokens

-- at most so many tokens, all short
abbrev pub FewTokens : ℕ → ℕ → List Token → Type 0
FewTokens n m ts = AllByRecursion (IsShort n) ts × (length ts ≤ m)

stopped : (n m : ℕ) → FewTokens n (suc m) (bad ∷ [])
stopped n m = ((tt, tt), omega arith)

allowed_few : (n m : ℕ) (b : Bool) (t : Token) (k : Place → List Token) (next : Place) → IsShort n t → FewTokens n m (k next) → FewTokens n (suc m) (if_allowed b t k next)
allowed_few n m true t k next one rest = ((one, rest.0), omega (arith, rest.1))
allowed_few n m false t k next one rest = stopped n m

place_few : (n m : ℕ) (p : Place) (t : Token) (b : Bool) (k : Place → List Token) → IsShort n t → ((next : Place) → FewTokens n m (k next)) → FewTokens n (suc m) (place_token p t b k)
place_few n m p begin_object b k one rest = allowed_few n m (may_begin p) begin_object k fresh one (rest fresh)
place_few n m p end_object b k one rest = allowed_few n m (may_close p) end_object k after_value one (rest after_value)
place_few n m p begin_array b k one rest = allowed_few n m (may_begin p) begin_array k fresh one (rest fresh)
place_few n m p end_array b k one rest = allowed_few n m (may_close p) end_array k after_value one (rest after_value)
place_few n m p (key s) b k one rest = stopped n m
place_few n m p (string s) true k one rest = allowed_few n m (may_begin p) (key s) k after_key one (rest after_key)
place_few n m p (string s) false k one rest = allowed_few n m (may_begin p) (string s) k after_value one (rest after_value)
place_few n m p (number s) b k one rest = allowed_few n m (may_begin p) (number s) k after_value one (rest after_value)
place_few n m p (boolean v) b k one rest = allowed_few n m (may_begin p) (boolean v) k after_value one (rest after_value)
place_few n m p null b k one rest = allowed_few n m (may_begin p) null k after_value one (rest after_value)
place_few n m p bad b k one rest = stopped n m

one_more : (n m : ℕ) (ts : List Token) → FewTokens n (suc (m + 1)) ts → FewTokens n (suc m + 1) ts
one_more n m ts h = (h.0, omega (arith, h.1))

punctuate_few : (n : ℕ) (p : Place) (ls : List Lexeme) → AllByRecursion (IsShortLexeme n) ls → FewTokens n (length ls + 1) (punctuate p ls)
unfolding punctuate
punctuate_few n fresh [] h = (tt, omega arith)
punctuate_few n after_value [] h = (tt, omega arith)
punctuate_few n after_comma [] h = ((tt, tt), omega arith)
punctuate_few n after_key [] h = ((tt, tt), omega arith)
punctuate_few n fresh (token t ∷ ls) h = one_more n (length ls) _ (place_few n (length ls + 1) fresh t (begins_colon ls) (λ next. punctuate next ls) h.0 (λ next. punctuate_few n next ls h.1))
punctuate_few n after_value (token t ∷ ls) h = one_more n (length ls) _ (place_few n (length ls + 1) after_value t (begins_colon ls) (λ next. punctuate next ls) h.0 (λ next. punctuate_few n next ls h.1))
punctuate_few n after_comma (token t ∷ ls) h = one_more n (length ls) _ (place_few n (length ls + 1) after_comma t (begins_colon ls) (λ next. punctuate next ls) h.0 (λ next. punctuate_few n next ls h.1))
punctuate_few n after_key (token t ∷ ls) h = one_more n (length ls) _ (place_few n (length ls + 1) after_key t (begins_colon ls) (λ next. punctuate next ls) h.0 (λ next. punctuate_few n next ls h.1))
punctuate_few n fresh (comma ∷ ls) h = ((tt, tt), omega arith)
punctuate_few n after_value (comma ∷ ls) h = let rest = punctuate_few n after_comma ls h.1 in (rest.0, omega (arith, rest.1))
punctuate_few n after_comma (comma ∷ ls) h = ((tt, tt), omega arith)
punctuate_few n after_key (comma ∷ ls) h = ((tt, tt), omega arith)
punctuate_few n fresh (colon ∷ ls) h = ((tt, tt), omega arith)
punctuate_few n after_value (colon ∷ ls) h = ((tt, tt), omega arith)
punctuate_few n after_comma (colon ∷ ls) h = ((tt, tt), omega arith)
punctuate_few n after_key (colon ∷ ls) h = let rest = punctuate_few n fresh ls h.1 in (rest.0, omega (arith, rest.1))

pub tokens-few : (text : List ℕ) → FewTokens (length text) (length text + 1) (tokens text)
tokens-few text =
    let lexed = lex_few (length text) between text (omega arith) in
    let placed = punctuate_few (length text) fresh (lex between text) lexed.0 in
    (placed.0, omega (arith, placed.1, lexed.1))
