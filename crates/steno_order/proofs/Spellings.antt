-- The relation and the function are one.
use Rattle.std.proofs.Common.{◌≡◌, ℕ, ◌<◌, List, [], ◌∷◌, ◌++◌, refl, sym, ap, subst, arith, Bool, true, false, true≢false, ◌⊎◌, inl, inr, ◌∙◌, append-nil}
use Rattle.std.specs.Prelude.{◌==◌, nat_lt, Option, Some, None, option_and_then, option_map, not, All, if◌then◌else◌}
use Rattle.std.specs.List.{join_with_byte, list_all}
use Rattle.std.proofs.lemmas.List.{map-append}
use Rattle.std.proofs.lemmas.List.Splits.{join_with_byte-slice_split}
use Rattle.text_rules.specs.Lines.{parts_between}
use Rattle.std.proofs.lemmas.Bool.{eqb-true, lt-ltb, ltb-true, and_parts}
use Rattle.std.proofs.lemmas.List.Elements.{All-head, All-tail, All-cons}
use Rattle.steno_order.specs.Keys.{is_written, hyphen, bar, keys_code, has_bar}
use Rattle.steno_order.specs.Spelling.{Press, chars_of, keys_of, last_key, IsFirstKey, Spelling}
use Rattle.steno_order.specs.Reading.{pressed, last_of, with_right, keys_in, without_bar, some_code, stroke_of}
use Rattle.steno_order.proofs.Ranges.{tested}
use Rattle.steno_order.proofs.Presses.{below_23, false_or_true, Chain, ArePressed-chain, chain-ArePressed, chain-pressed, pressed-chain}

pub not_of : (b : Bool) → not b ≡ true → b ≡ true → ⊥
not_of true n e = true≢false (sym n)
not_of false n e = true≢false (sym e)

pub no_hyphen_key : (key : ℕ) → is_written hyphen key ≡ true → ⊥
no_hyphen_key key w = not_of (is_written hyphen key) (tested (λ k. not (is_written hyphen k)) 0 23 refl key (omega arith) (below_23 hyphen key w)) w

pub no_bar_key : (key : ℕ) → 0 < key → is_written bar key ≡ true → ⊥
no_bar_key key pos w = let l = below_23 bar key w in not_of (is_written bar key) (tested (λ k. not (is_written bar k)) 1 22 refl key (omega arith) (omega arith)) w

pub not_hyphen : (last least : ℕ) (p : Press) → IsFirstKey last least p → (p.char == hyphen) ≡ false
not_hyphen last least p h = elim (false_or_true (p.char == hyphen)) [
  | inl is ↦ absurd (no_hyphen_key p.key (subst (λ c. is_written c p.key ≡ true) (eqb-true p.char hyphen is) h.written))
  | inr isnt ↦ isnt
]

pub not_bar : (last least : ℕ) (p : Press) → IsFirstKey last least p → (p.char == bar) ≡ false
not_bar last least p h = elim (false_or_true (p.char == bar)) [
  | inl is ↦ (let a = h.after in absurd (no_bar_key p.key (omega arith) (subst (λ c. is_written c p.key ≡ true) (eqb-true p.char bar is) h.written)))
  | inr isnt ↦ isnt
]

-- splitting
pub unsplit : (last least : ℕ) (ps : List Press) → Chain last least ps → parts_between hyphen (chars_of ps) ≡ chars_of ps ∷ []
unsplit last least [] h = refl
unsplit last least (p ∷ ps) h = rw (not_hyphen last least p h.0, unsplit p.key least ps h.1) refl

split_there : (last least : ℕ) (ps : List Press) (rest : List ℕ) → Chain last least ps → parts_between hyphen (chars_of ps ++ hyphen ∷ rest) ≡ chars_of ps ∷ parts_between hyphen rest
split_there last least [] rest h = refl
split_there last least (p ∷ ps) rest h = rw (not_hyphen last least p h.0, split_there p.key least ps rest h.1) refl

-- keys
last_same : (key : ℕ) (ps : List Press) → last_of key (keys_of ps) ≡ last_key key ps
last_same key [] = refl
last_same key (p ∷ ps) = last_same p.key ps

low_keys : (ps : List Press) → All (λ p. p.key < 13) ps → list_all (λ key. nat_lt key 13) (keys_of ps) ≡ true
low_keys [] all = refl
low_keys (p ∷ ps) all = rw (lt-ltb p.key 13 (All-head (λ q. q.key < 13) p ps all), low_keys ps (All-tail (λ q. q.key < 13) p ps all)) refl

-- a body: characters with their keys, and one hyphen among them or none
pub record Body (body keys : List ℕ) : Type 0 where
  pub before : List Press
  pub middle : List ℕ
  pub after : List Press
  pub whole : body ≡ chars_of before ++ (middle ++ chars_of after)
  pub hyphen_or_none : ((middle ≡ []) × (after ≡ [])) ⊎ ((middle ≡ hyphen ∷ []) × All (λ p. p.key < 13) before)
  pub chain_before : Chain 0 1 before
  pub chain_after : Chain (last_key 0 before) 11 after
  pub all_keys : keys ≡ keys_of (before ++ after)

around : (before after : List Press) → All (λ p. p.key < 13) before → Chain 0 1 before → Chain (last_key 0 before) 11 after → keys_in (parts_between hyphen (chars_of before ++ hyphen ∷ chars_of after)) ≡ Some (keys_of (before ++ after))
around before after low b a =
    rw (split_there 0 1 before (chars_of after) b, unsplit (last_key 0 before) 11 after a, chain-pressed 0 1 before b, low_keys before low, last_same 0 before, chain-pressed (last_key 0 before) 11 after a)
    (ap Some (sym (map-append (λ p. p.key) before after)))

whole_body : (before : List Press) → Chain 0 1 before → keys_in (parts_between hyphen (chars_of before ++ [])) ≡ Some (keys_of (before ++ []))
whole_body before b = rw (append-nil (chars_of before), append-nil before, unsplit 0 1 before b, chain-pressed 0 1 before b) refl

body_keys : (before : List Press) (middle : List ℕ) (after : List Press) → ((middle ≡ []) × (after ≡ [])) ⊎ ((middle ≡ hyphen ∷ []) × All (λ p. p.key < 13) before) → Chain 0 1 before → Chain (last_key 0 before) 11 after →
    keys_in (parts_between hyphen (chars_of before ++ (middle ++ chars_of after))) ≡ Some (keys_of (before ++ after))
body_keys before middle after (inl none) b a = rw (none.0, none.1) (whole_body before b)
body_keys before middle after (inr one) b a = rw (one.0) (around before after one.1 b a)

-- the body has no bar in front
bare : (before : List Press) (middle : List ℕ) (after : List Press) → ((middle ≡ []) × (after ≡ [])) ⊎ ((middle ≡ hyphen ∷ []) × All (λ p. p.key < 13) before) → Chain 0 1 before →
    without_bar (chars_of before ++ (middle ++ chars_of after)) ≡ chars_of before ++ (middle ++ chars_of after)
bare (p ∷ ps) middle after or b = rw (not_bar 0 1 p b.0) refl
bare [] middle after (inl none) b = rw (none.0, none.1) refl
bare [] middle after (inr one) b = rw (one.0) refl

barless : (first : List ℕ) (before : List Press) (middle : List ℕ) (after : List Press) → (first ≡ []) ⊎ (first ≡ bar ∷ []) → ((middle ≡ []) × (after ≡ [])) ⊎ ((middle ≡ hyphen ∷ []) × All (λ p. p.key < 13) before) → Chain 0 1 before →
    without_bar (first ++ (chars_of before ++ (middle ++ chars_of after))) ≡ chars_of before ++ (middle ++ chars_of after)
barless first before middle after (inl none) or b = rw (none) (bare before middle after or b)
barless first before middle after (inr one) or b = rw (one) refl

coded : (code n : ℕ) → code ≡ n → 0 < code → some_code n ≡ Some code
coded code n is pos = rw (← is, lt-ltb 0 code pos) refl

pub Spelling-stroke : (text : List ℕ) (code : ℕ) → Spelling text code → stroke_of text ≡ Some code
Spelling-stroke text code s =
    let b = ArePressed-chain 0 1 s.before s.keys_before in
    let a = ArePressed-chain (last_key 0 s.before) 11 s.after s.keys_after in
    let none = ap without_bar s.whole ∙ barless s.first s.before s.middle s.after s.bar_or_none s.hyphen_or_none b in
    let keys = ap (λ body. keys_in (parts_between hyphen body)) none ∙ body_keys s.before s.middle s.after s.hyphen_or_none b a in
    ap (λ o. option_and_then (λ ks. some_code (keys_code (has_bar text) ks)) o) keys ∙ coded code (keys_code (has_bar text) (keys_of (s.before ++ s.after))) s.stroke s.some_key

-- back
low_presses : (ps : List Press) → list_all (λ key. nat_lt key 13) (keys_of ps) ≡ true → All (λ p. p.key < 13) ps
low_presses [] e = λ i d l. absurd (omega arith)
low_presses (p ∷ ps) e =
    let two = and_parts (nat_lt p.key 13) (list_all (λ key. nat_lt key 13) (keys_of ps)) e in
    All-cons (λ q. q.key < 13) p ps (ltb-true p.key 13 two.0) (low_presses ps two.1)

whole_back : (body w keys : List ℕ) → parts_between hyphen body ≡ w ∷ [] → pressed 0 1 w ≡ Some keys → Body body keys
whole_back body w keys split e =
    let r = pressed-chain 0 1 w keys e in
    let same : w ≡ body = ap (join_with_byte hyphen) (sym split) ∙ join_with_byte-slice_split hyphen body in
    record {
      before = r.presses;
      middle = [];
      after = [];
      whole = sym same ∙ (sym r.chars ∙ sym (append-nil (chars_of r.presses)));
      hyphen_or_none = inl (refl, refl);
      chain_before = r.chain;
      chain_after = tt;
      all_keys = sym r.keys ∙ ap keys_of (sym (append-nil r.presses));
    }

-- two parts with the keys of the left one
right_back : (body x y left keys : List ℕ) → parts_between hyphen body ≡ x ∷ y ∷ [] → pressed 0 1 x ≡ Some left → with_right y left ≡ Some keys → Body body keys
right_back body x y left keys split el e = by (list_all (λ key. nat_lt key 13) left) refl (pressed (last_of 0 left) 11 y) refl e
  where
    by : (b : Bool) → list_all (λ key. nat_lt key 13) left ≡ b → (o : Option (List ℕ)) → pressed (last_of 0 left) 11 y ≡ o → (if b then option_map (λ right. left ++ right) o else None) ≡ Some keys → Body body keys
    by false low o is e = absurd (true≢false cc)
    by true low None is e = absurd (true≢false cc)
    by true low (Some right) is e =
        let l = pressed-chain 0 1 x left el in
        let last = ap (last_of 0) (sym l.keys) ∙ last_same 0 l.presses in
        let r = pressed-chain (last_key 0 l.presses) 11 y right (ap (λ k. pressed k 11 y) (sym last) ∙ is) in
        let joined : x ++ hyphen ∷ y ≡ body = ap (join_with_byte hyphen) (sym split) ∙ join_with_byte-slice_split hyphen body in
        let sum : left ++ right ≡ keys = cc in
        record {
          before = l.presses;
          middle = hyphen ∷ [];
          after = r.presses;
          whole = sym joined ∙ (ap (λ c. c ++ hyphen ∷ y) (sym l.chars) ∙ ap (λ c. chars_of l.presses ++ hyphen ∷ c) (sym r.chars));
          hyphen_or_none = inr (refl, low_presses l.presses (ap (list_all (λ key. nat_lt key 13)) l.keys ∙ low));
          chain_before = l.chain;
          chain_after = r.chain;
          all_keys = sym sum ∙ (ap (λ k. k ++ right) (sym l.keys) ∙ (ap (λ k. keys_of l.presses ++ k) (sym r.keys) ∙ sym (map-append (λ p. p.key) l.presses r.presses)));
        }

two_back : (body x y keys : List ℕ) → parts_between hyphen body ≡ x ∷ y ∷ [] → option_and_then (with_right y) (pressed 0 1 x) ≡ Some keys → Body body keys
two_back body x y keys split e = by (pressed 0 1 x) refl e
  where
    by : (o : Option (List ℕ)) → pressed 0 1 x ≡ o → option_and_then (with_right y) o ≡ Some keys → Body body keys
    by None is e = absurd (true≢false cc)
    by (Some left) is e = right_back body x y left keys split is e

body_back : (body keys : List ℕ) (parts : List (List ℕ)) → parts_between hyphen body ≡ parts → keys_in parts ≡ Some keys → Body body keys
body_back body keys [] split e = absurd (true≢false cc)
body_back body keys (w ∷ []) split e = whole_back body w keys split e
body_back body keys (x ∷ y ∷ []) split e = two_back body x y keys split e
body_back body keys (x ∷ y ∷ z ∷ zs) split e = absurd (true≢false cc)

-- a text is a bar or none, and its body
barred_text : (text : List ℕ) → (first : List ℕ) × ((first ≡ []) ⊎ (first ≡ bar ∷ [])) × (text ≡ first ++ without_bar text)
barred_text [] = ([], inl refl, refl)
barred_text (c ∷ cs) = by (c == bar) refl
  where
    by : (b : Bool) → (c == bar) ≡ b → (first : List ℕ) × ((first ≡ []) ⊎ (first ≡ bar ∷ [])) × (c ∷ cs ≡ first ++ (if b then cs else (c ∷ cs)))
    by true is = (bar ∷ [], inr refl, ap (λ x. x ∷ cs) (eqb-true c bar is))
    by false isnt = ([], inl refl, refl)

some_coded : (n code : ℕ) → some_code n ≡ Some code → (code ≡ n) × (0 < code)
some_coded n code e = by (nat_lt 0 n) refl e
  where
    by : (b : Bool) → nat_lt 0 n ≡ b → (if b then Some n else None) ≡ Some code → (code ≡ n) × (0 < code)
    by false is e = absurd (true≢false cc)
    by true is e = let same : n ≡ code = cc in let pos = ltb-true 0 n is in (sym same, omega arith)

pub stroke-Spelling : (text : List ℕ) (code : ℕ) → stroke_of text ≡ Some code → Spelling text code
stroke-Spelling text code e = by (keys_in (parts_between hyphen (without_bar text))) refl e
  where
    by : (o : Option (List ℕ)) → keys_in (parts_between hyphen (without_bar text)) ≡ o → option_and_then (λ keys. some_code (keys_code (has_bar text) keys)) o ≡ Some code → Spelling text code
    by None is e = absurd (true≢false cc)
    by (Some keys) is e =
        let b = body_back (without_bar text) keys (parts_between hyphen (without_bar text)) refl is in
        let t = barred_text text in
        let c = some_coded (keys_code (has_bar text) keys) code e in
        record {
          first = t.0;
          before = b.before;
          middle = b.middle;
          after = b.after;
          whole = t.2 ∙ ap (λ l. t.0 ++ l) b.whole;
          bar_or_none = t.1;
          hyphen_or_none = b.hyphen_or_none;
          keys_before = chain-ArePressed 0 1 b.before b.chain_before;
          keys_after = chain-ArePressed (last_key 0 b.before) 11 b.after b.chain_after;
          stroke = c.0 ∙ ap (keys_code (has_bar text)) b.all_keys;
          some_key = c.1;
        }

-- a text spells at most one stroke
pub Spelling-unique : (text : List ℕ) (a b : ℕ) → Spelling text a → Spelling text b → a ≡ b
Spelling-unique text a b x y = let same : Some a ≡ Some b = sym (Spelling-stroke text a x) ∙ Spelling-stroke text b y in cc
