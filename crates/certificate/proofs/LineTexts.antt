-- A line is read exactly where the text is that of a line that fits.
use Rattle.std.proofs.Common.{◌≡◌, ℕ, ◌-◌, ◌^◌, ◌<◌, List, [], ◌∷◌, ◌++◌, map, length, refl, sym, ap, subst, arith, Bool, true, false, cond, true≢false, ◌⊎◌, inl, inr, ◌∙◌}
use Rattle.std.specs.Prelude.{◌&&◌, ◌||◌, ◌==◌, nat_lt, Option, Some, None, option_map, option_and_then, decimal, codes}
use Rattle.std.specs.Char.{is_ascii_digit}
use Rattle.std.specs.List.{list_all, join_with_byte, AllByRecursion}
use Rattle.std.specs.Str.{bytes_eq}
use Rattle.std.proofs.lemmas.Slice.Eq.{bytes_eq-Decides}
use Rattle.std.proofs.lemmas.List.Folds.{list_any-append}
use Rattle.std.proofs.lemmas.Bool.{eqb-true, ltb-true, and_parts}
use Rattle.text_rules.specs.Decimals.{decimal_value}
use Rattle.text_rules.specs.Lines.{line}
use Rattle.text_rules.proofs.Numbers.{decimal-Digits, decimal-number, number-decimal}
use Rattle.text_rules.specs.Lines.{has_byte, parts_between}
use Rattle.text_rules.proofs.Splits.{parts_between-join, next_part}
use Rattle.std.proofs.lemmas.List.Splits.{join_with_byte-slice_split}
use Rattle.certificate.specs.CertLines.{line_text, fits, is_u32}
use Rattle.certificate.specs.declared.lines.CertLine.{CertLine}
use Rattle.certificate.specs.declared.lines.CertLine.TheVariants as of
use Rattle.certificate.specs.CertReading.{numbers_of, named, if_fits, of_words, of_body, read_line}

digits_plain : (c : ℕ) (xs : List ℕ) → is_ascii_digit c ≡ false → list_all is_ascii_digit xs ≡ true → has_byte c xs ≡ false
digits_plain c [] no_digit all = refl
digits_plain c (x ∷ xs) no_digit all =
    let two = and_parts (is_ascii_digit x) (list_all is_ascii_digit xs) all in
    by (x == c) refl two.0 (digits_plain c xs no_digit two.1)
  where
    by : (b : Bool) → (x == c) ≡ b → is_ascii_digit x ≡ true → has_byte c xs ≡ false → (b || has_byte c xs) ≡ false
    by true is d rest = absurd (true≢false (sym d ∙ (ap is_ascii_digit (eqb-true x c is) ∙ no_digit)))
    by false is d rest = rest

decimal_plain : (c n : ℕ) → is_ascii_digit c ≡ false → n < 2 ^ 32 → has_byte c (decimal n) ≡ false
decimal_plain c n no_digit lt = digits_plain c (decimal n) no_digit (decimal-Digits n (omega arith)).digits

-- each number has room in 32 bits
abbrev pub AreU32 : List ℕ → Type 0
AreU32 ns = AllByRecursion (λ n. n < 2 ^ 32) ns

decimals_plain : (c : ℕ) (ns : List ℕ) → is_ascii_digit c ≡ false → AreU32 ns → AllByRecursion (λ part. has_byte c part ≡ false) (map decimal ns)
decimals_plain c [] no_digit all = tt
decimals_plain c (n ∷ ns) no_digit all = (decimal_plain c n no_digit all.0, decimals_plain c ns no_digit all.1)

join_plain : (c d : ℕ) (parts : List (List ℕ)) → (d == c) ≡ false → AllByRecursion (λ part. has_byte c part ≡ false) parts → has_byte c (join_with_byte d parts) ≡ false
join_plain c d [] ne all = refl
join_plain c d (p ∷ []) ne all = all.0
join_plain c d (p ∷ q ∷ ps) ne all = list_any-append (λ x. x == c) p (d ∷ join_with_byte d (q ∷ ps)) ∙ rw (all.0, ne, join_plain c d (q ∷ ps) ne all.1) refl

-- a line's words have no line feed
pub plain_line : (name : List ℕ) (ns : List ℕ) → has_byte 10 name ≡ false → AreU32 ns → has_byte 10 (join_with_byte 32 (name ∷ map decimal ns)) ≡ false
plain_line name ns no_feed all = join_plain 10 32 (name ∷ map decimal ns) refl (no_feed, decimals_plain 10 ns refl all)

numbers-decimals : (ns : List ℕ) → AreU32 ns → numbers_of (map decimal ns) ≡ Some ns
numbers-decimals [] all = refl
numbers-decimals (n ∷ ns) all = rw (decimal-number (2 ^ 32 - 1) n (let l = all.0 in omega arith) (let l = all.0 in omega arith), numbers-decimals ns all.1) refl

of_line : (name : List ℕ) (ns : List ℕ) → has_byte 10 name ≡ false → has_byte 32 name ≡ false → AreU32 ns → read_line (line (name ∷ map decimal ns)) ≡ option_and_then if_fits (named name ns)
of_line name ns no_feed no_space all =
    ap of_body (next_part 10 (join_with_byte 32 (name ∷ map decimal ns)) [] (join_plain 10 32 (name ∷ map decimal ns) refl (no_feed, decimals_plain 10 ns refl all)))
    ∙ (ap of_words (parts_between-join 32 name (map decimal ns) (no_space, decimals_plain 32 ns refl all))
    ∙ ap (λ o. option_and_then if_fits (option_and_then (named name) o)) (numbers-decimals ns all))

-- What the tests of room decide, for a number
pub u32 : (n : ℕ) → is_u32 n ≡ true → n < 2 ^ 32
u32 n h = ltb-true n (2 ^ 32) h

-- and for numbers.
pub all_u32 : (ns : List ℕ) → list_all is_u32 ns ≡ true → AreU32 ns
all_u32 [] h = tt
all_u32 (n ∷ ns) h = let two = and_parts (is_u32 n) (list_all is_u32 ns) h in (u32 n two.0, all_u32 ns two.1)

read_row : (e j n : ℕ) (ws : List ℕ) → fits (of.Row (record { entry = e; place = j; strokes = n; words = ws })) ≡ true →
    read_line (line_text (of.Row (record { entry = e; place = j; strokes = n; words = ws }))) ≡ Some (of.Row (record { entry = e; place = j; strokes = n; words = ws }))
read_row e j n [] h = absurd (true≢false (sym (and_parts (is_u32 e && nat_lt j 256 && is_u32 n) (nat_lt 0 0) (and_parts (is_u32 e && nat_lt j 256 && is_u32 n && nat_lt 0 0) true h).0).1))
read_row e j n (w ∷ ws) h =
    let a = and_parts (is_u32 e && nat_lt j 256 && is_u32 n && nat_lt 0 (length (w ∷ ws))) (list_all is_u32 (w ∷ ws)) h in
    let b = and_parts (is_u32 e && nat_lt j 256 && is_u32 n) (nat_lt 0 (length (w ∷ ws))) a.0 in
    let c = and_parts (is_u32 e && nat_lt j 256) (is_u32 n) b.0 in
    let d = and_parts (is_u32 e) (nat_lt j 256) c.0 in
    let place = ltb-true j 256 d.1 in
    of_line (codes "r") (e ∷ j ∷ n ∷ w ∷ ws) refl refl (u32 e d.0, (omega arith, (u32 n c.1, all_u32 (w ∷ ws) a.1))) ∙ rw h refl

-- The text of a line that fits is read as this line.
pub read_text : (l : CertLine) → fits l ≡ true → read_line (line_text l) ≡ Some l
read_text (of.Head v) h = of_line (codes "boundary-certificate") (v ∷ []) refl refl (u32 v h, tt) ∙ rw h refl
read_text (of.Entries n) h = of_line (codes "entries") (n ∷ []) refl refl (u32 n h, tt) ∙ rw h refl
read_text (of.States n) h = of_line (codes "states") (n ∷ []) refl refl (u32 n h, tt) ∙ rw h refl
read_text (of.Distance s d) h = let two = and_parts (is_u32 s) (is_u32 d) h in of_line (codes "d") (s ∷ d ∷ []) refl refl (u32 s two.0, (u32 d two.1, tt)) ∙ rw h refl
read_text (of.Run s t d) h =
    let two = and_parts (is_u32 s && is_u32 t) (is_u32 d) h in
    let first = and_parts (is_u32 s) (is_u32 t) two.0 in
    of_line (codes "g") (s ∷ t ∷ d ∷ []) refl refl (u32 s first.0, (u32 t first.1, (u32 d two.1, tt))) ∙ rw h refl
read_text (of.Conflicts n) h = of_line (codes "conflicts") (n ∷ []) refl refl (u32 n h, tt) ∙ rw h refl
read_text (of.Row r) h = read_row r.entry r.place r.strokes r.words h
read_text of.End h = of_line (codes "end") [] refl refl tt

-- back
decimals_of : (words : List (List ℕ)) (ns : List ℕ) → numbers_of words ≡ Some ns → words ≡ map decimal ns
decimals_of [] ns e = let same : [] ≡ ns = cc in ap (map decimal) same
decimals_of (word ∷ words) ns e = by (decimal_value (2 ^ 32 - 1) word) refl (numbers_of words) refl e (decimals_of words)
  where
    by : (o : Option ℕ) → decimal_value (2 ^ 32 - 1) word ≡ o → (os : Option (List ℕ)) → numbers_of words ≡ os → option_and_then (λ n. option_map (λ ms. n ∷ ms) os) o ≡ Some ns →
        ((ms : List ℕ) → numbers_of words ≡ Some ms → words ≡ map decimal ms) → word ∷ words ≡ map decimal ns
    by None is os iss e' rec = absurd (true≢false cc)
    by (Some n) is None iss e' rec = absurd (true≢false cc)
    by (Some n) is (Some ms) iss e' rec =
        let same : n ∷ ms ≡ ns = cc in
        let first = (number-decimal (2 ^ 32 - 1) n word (omega arith) is).0 in
        ap (λ w. w ∷ words) first ∙ (ap (λ ws. decimal n ∷ ws) (rec ms iss) ∙ ap (map decimal) same)

-- a test of the name, and what it gives
pick : (b : Bool) (x l : CertLine) (rest : Option CertLine) → cond b (Some x) rest ≡ Some l → ((b ≡ true) × (x ≡ l)) ⊎ (rest ≡ Some l)
pick true x l rest e = let same : x ≡ l = cc in inl (refl, same)
pick false x l rest e = inr e

named_as : (name lit : List ℕ) (ns : List ℕ) (x l : CertLine) → bytes_eq name lit ≡ true → x ≡ l → line (lit ∷ map decimal ns) ≡ line_text x → line (name ∷ map decimal ns) ≡ line_text l
named_as name lit ns x l is same text = ap (λ w. line (w ∷ map decimal ns)) ((bytes_eq-Decides name lit).0 is) ∙ (text ∙ ap line_text same)

only : (name lit : List ℕ) (ns : List ℕ) (x l : CertLine) → cond (bytes_eq name lit) (Some x) None ≡ Some l → line (lit ∷ map decimal ns) ≡ line_text x → line (name ∷ map decimal ns) ≡ line_text l
only name lit ns x l e text = elim (pick (bytes_eq name lit) x l None e) [ inl is ↦ named_as name lit ns x l is.0 is.1 text | inr none ↦ absurd (true≢false cc) ]

named-text : (name ns : List ℕ) (l : CertLine) → named name ns ≡ Some l → line (name ∷ map decimal ns) ≡ line_text l
named-text name [] l e = only name (codes "end") [] of.End l e refl
named-text name (n ∷ []) l e = elim (pick (bytes_eq name (codes "boundary-certificate")) (of.Head n) l _ e) [
  | inl is ↦ named_as name (codes "boundary-certificate") (n ∷ []) (of.Head n) l is.0 is.1 refl
  | inr e1 ↦ elim (pick (bytes_eq name (codes "entries")) (of.Entries n) l _ e1) [
    | inl is ↦ named_as name (codes "entries") (n ∷ []) (of.Entries n) l is.0 is.1 refl
    | inr e2 ↦ elim (pick (bytes_eq name (codes "states")) (of.States n) l _ e2) [
      | inl is ↦ named_as name (codes "states") (n ∷ []) (of.States n) l is.0 is.1 refl
      | inr e3 ↦ only name (codes "conflicts") (n ∷ []) (of.Conflicts n) l e3 refl
    ]
  ]
]
named-text name (s ∷ d ∷ []) l e = only name (codes "d") (s ∷ d ∷ []) (of.Distance s d) l e refl
named-text name (s ∷ t ∷ d ∷ []) l e = only name (codes "g") (s ∷ t ∷ d ∷ []) (of.Run s t d) l e refl
named-text name (e ∷ j ∷ n ∷ w ∷ ws) l h = only name (codes "r") (e ∷ j ∷ n ∷ w ∷ ws) (of.Row (record { entry = e; place = j; strokes = n; words = w ∷ ws })) l h refl

-- the text is the line's, and the line fits
pub record IsTextOf (text : List ℕ) (l : CertLine) : Type 0 where
  pub text_is : text ≡ line_text l
  pub fit : fits l ≡ true

fitting : (x l : CertLine) → if_fits x ≡ Some l → (x ≡ l) × (fits l ≡ true)
fitting x l e = by (fits x) refl e
  where
    by : (b : Bool) → fits x ≡ b → cond b (Some x) None ≡ Some l → (x ≡ l) × (fits l ≡ true)
    by true is e' = let same : x ≡ l = cc in (same, subst (λ y. fits y ≡ true) same is)
    by false is e' = absurd (true≢false cc)

words_text : (parts : List (List ℕ)) (l : CertLine) → of_words parts ≡ Some l → IsTextOf (line parts) l
words_text [] l e = absurd (true≢false cc)
words_text (name ∷ words) l e = by (numbers_of words) refl e
  where
    inner : (ns : List ℕ) → numbers_of words ≡ Some ns → (o : Option CertLine) → named name ns ≡ o → option_and_then if_fits o ≡ Some l → IsTextOf (line (name ∷ words)) l
    inner ns is None no_line e' = absurd (true≢false cc)
    inner ns is (Some x) line_is e' =
        let f = fitting x l e' in
        record { text_is = ap (λ ws. line (name ∷ ws)) (decimals_of words ns is) ∙ (named-text name ns x line_is ∙ ap line_text f.0); fit = f.1 }

    by : (o : Option (List ℕ)) → numbers_of words ≡ o → option_and_then if_fits (option_and_then (named name) o) ≡ Some l → IsTextOf (line (name ∷ words)) l
    by None is e' = absurd (true≢false cc)
    by (Some ns) is e' = inner ns is (named name ns) refl e'

body_text : (text : List ℕ) (parts : List (List ℕ)) (l : CertLine) → parts_between 10 text ≡ parts → of_body parts ≡ Some l → IsTextOf text l
body_text text [] l s e = absurd (true≢false cc)
body_text text (b ∷ []) l s e = absurd (true≢false cc)
body_text text (b ∷ (c ∷ cs) ∷ rest) l s e = absurd (true≢false cc)
body_text text (b ∷ [] ∷ x ∷ xs) l s e = absurd (true≢false cc)
body_text text (b ∷ [] ∷ []) l s e =
    let whole : b ++ 10 ∷ [] ≡ text = ap (join_with_byte 10) (sym s) ∙ join_with_byte-slice_split 10 text in
    let r = words_text (parts_between 32 b) l e in
    record { text_is = sym whole ∙ (ap (λ x. x ++ 10 ∷ []) (sym (join_with_byte-slice_split 32 b)) ∙ r.text_is); fit = r.fit }

-- what is read is the line whose text this is
pub text_read : (text : List ℕ) (l : CertLine) → read_line text ≡ Some l → IsTextOf text l
text_read text l e = body_text text (parts_between 10 text) l refl e
