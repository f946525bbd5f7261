-- The numbers of a text, part by part.
use Rattle.std.proofs.Common.{◌≡◌, ℕ, ◌+◌, ◌-◌, ◌^◌, List, [], ◌∷◌, ◌++◌, length, take, drop, refl, sym, ap, subst, false, true≢false, ◌∙◌, append_assoc}
use Rattle.std.specs.Prelude.{Option, Some, None, option_map, option_and_then}
use Rattle.std.specs.List.{slice_range}
use Rattle.std.proofs.lemmas.List.{drop-drop}
use Rattle.text_rules.specs.Decimals.{decimal_value}
use Rattle.text_rules.specs.Lines.{has_byte, parts_between}
use Rattle.text_rules.proofs.Splits.{one_part, next_part}
use Rattle.outside.proofs.Known.{slice_range-rest}
use Rattle.certificate.specs.CertReading.{numbers_of, of_words, if_fits, named}
use Rattle.certificate.specs.inside.Places.{IsFirstPlace}

-- the parts behind the first space
pub behind_place : (xs ys : List ℕ) (place : ℕ) → ys ≡ drop place xs → slice_range ys 1 (length ys) ≡ drop (place + 1) xs
behind_place xs ys place is = slice_range-rest ys 1 ∙ ap (drop 1) is ∙ drop-drop 1 place xs

-- the part before the first space, and the others
first_part : (text : List ℕ) (space : ℕ) → IsFirstPlace 32 text space → parts_between 32 text ≡ take space text ∷ parts_between 32 (drop (space + 1) text)
first_part text space is = ap (parts_between 32) is.here.split ∙ next_part 32 (take space text) (drop (space + 1) text) is.before

-- the numbers of parts behind one more part
abbrev more_numbers : Option ℕ → Option (List ℕ) → Option (List ℕ)
more_numbers first others = option_and_then (λ n. option_map (λ ns. n ∷ ns) others) first

one_more : (old new : List ℕ) (first : Option ℕ) (others : Option (List ℕ)) → option_map (λ n. old ++ n ∷ []) first ≡ Some new
    → option_map (λ ns. old ++ ns) (more_numbers first others) ≡ option_map (λ ns. new ++ ns) others
one_more old new None others is = absurd (true≢false cc)
one_more old new (Some n) None is = refl
one_more old new (Some n) (Some ns) is =
    let same : old ++ n ∷ [] ≡ new = cc in
    ap Some (sym (append_assoc old (n ∷ []) ns) ∙ ap (λ xs. xs ++ ns) same)

no_more : (old : List ℕ) (first : Option ℕ) (others : Option (List ℕ)) → option_map (λ n. old ++ n ∷ []) first ≡ None
    → option_map (λ ns. old ++ ns) (more_numbers first others) ≡ None
no_more old None others is = refl
no_more old (Some n) others is = absurd (true≢false cc)

only_one : (old : List ℕ) (first : Option ℕ) → option_map (λ ns. old ++ ns) (more_numbers first (Some [])) ≡ option_map (λ n. old ++ n ∷ []) first
only_one old None = refl
only_one old (Some n) = refl

-- the number of the first part was added
pub added : (old new text rest : List ℕ) (space : ℕ) → IsFirstPlace 32 text space → rest ≡ drop (space + 1) text
    → option_map (λ n. old ++ n ∷ []) (decimal_value (2 ^ 32 - 1) (take space text)) ≡ Some new
    → option_map (λ ns. old ++ ns) (numbers_of (parts_between 32 text)) ≡ option_map (λ ns. new ++ ns) (numbers_of (parts_between 32 rest))
added old new text rest space is rest_is number =
    ap (λ parts. option_map (λ ns. old ++ ns) (numbers_of parts)) (first_part text space is)
    ∙ one_more old new (decimal_value (2 ^ 32 - 1) (take space text)) (numbers_of (parts_between 32 (drop (space + 1) text))) number
    ∙ ap (λ xs. option_map (λ ns. new ++ ns) (numbers_of (parts_between 32 xs))) (sym rest_is)

-- the first part isn't a number
pub refused : (old text : List ℕ) (space : ℕ) → IsFirstPlace 32 text space
    → option_map (λ n. old ++ n ∷ []) (decimal_value (2 ^ 32 - 1) (take space text)) ≡ None
    → option_map (λ ns. old ++ ns) (numbers_of (parts_between 32 text)) ≡ None
refused old text space is number =
    ap (λ parts. option_map (λ ns. old ++ ns) (numbers_of parts)) (first_part text space is)
    ∙ no_more old (decimal_value (2 ^ 32 - 1) (take space text)) (numbers_of (parts_between 32 (drop (space + 1) text))) number

-- there is one part
pub last_number : (old text : List ℕ) → has_byte 32 text ≡ false → option_map (λ ns. old ++ ns) (numbers_of (parts_between 32 text)) ≡ option_map (λ n. old ++ n ∷ []) (decimal_value (2 ^ 32 - 1) text)
last_number old text plain =
    ap (λ parts. option_map (λ ns. old ++ ns) (numbers_of parts)) (one_part 32 text plain) ∙ only_one old (decimal_value (2 ^ 32 - 1) text)

none_before : (old : List ℕ) (numbers : Option (List ℕ)) (others : Option (List ℕ)) → old ≡ [] → option_map (λ ns. old ++ ns) numbers ≡ others → numbers ≡ others
none_before old None others empty is = is
none_before old (Some ns) others empty is = subst (λ xs. Some (xs ++ ns) ≡ others) empty is

-- the line of a name and the numbers behind it
pub body_of : (body : List ℕ) (space : ℕ) (old rest : List ℕ) (numbers : Option (List ℕ)) → IsFirstPlace 32 body space → rest ≡ drop (space + 1) body → old ≡ []
    → option_map (λ ns. old ++ ns) (numbers_of (parts_between 32 rest)) ≡ numbers
    → of_words (parts_between 32 body) ≡ option_and_then if_fits (option_and_then (named (take space body)) numbers)
body_of body space old rest numbers is rest_is empty e =
    ap of_words (first_part body space is)
    ∙ ap (λ ns. option_and_then if_fits (option_and_then (named (take space body)) ns))
    (subst (λ xs. numbers_of (parts_between 32 xs) ≡ numbers) rest_is (none_before old (numbers_of (parts_between 32 rest)) numbers empty e))

-- the line of a name alone
pub body_of_name : (body numbers : List ℕ) → has_byte 32 body ≡ false → numbers ≡ [] → option_and_then if_fits (named body numbers) ≡ of_words (parts_between 32 body)
body_of_name body numbers plain empty = ap (λ ns. option_and_then if_fits (named body ns)) empty ∙ ap of_words (sym (one_part 32 body plain))
