-- The pressed keys, one after another, are each the first that their character may press.
use Rattle.std.proofs.Common.{◌≡◌, ℕ, zero, suc, ◌+◌, ◌-◌, ◌<◌, ◌≤◌, List, [], ◌∷◌, ◌++◌, map, length, refl, ap, arith, Bool, true, false, cond, ◌⊎◌, inl, inr, ◌∙◌}
use Rattle.std.specs.Prelude.{◌&&◌, not, All, if◌then◌else◌}
use Rattle.std.specs.List.{range_with_len, list_all}
use Rattle.std.proofs.lemmas.List.{map-append}
use Rattle.std.proofs.lemmas.List.Elements.{filter-append, All-cons}
use Rattle.std.proofs.lemmas.Bool.{cases_lt, and_parts}
use Rattle.steno_order.specs.Keys.{letter, numbered, is_written, has}
use Rattle.steno_order.specs.Spelling.{Press, chars_of, keys_of, last_key, IsFirstKey}
use Rattle.steno_order.specs.Canonical.{keys_from, mark}
use Rattle.steno_order.proofs.Ranges.{tested}
use Rattle.steno_order.proofs.Presses.{Chain}
use Rattle.steno_order.proofs.Spellings.{not_of}

abbrev press : ℕ → ℕ → Press
press code key = record { char = mark code key; key = key }

abbrev pub pressing : ℕ → List ℕ → List Press
pressing code keys = map (press code) keys

pub chars_same : (code : ℕ) (ks : List ℕ) → chars_of (pressing code ks) ≡ map (mark code) ks
chars_same code [] = refl
chars_same code (k ∷ ks) = ap (λ l. mark code k ∷ l) (chars_same code ks)

pub keys_same : (code : ℕ) (ks : List ℕ) → keys_of (pressing code ks) ≡ ks
keys_same code [] = refl
keys_same code (k ∷ ks) = ap (λ l. k ∷ l) (keys_same code ks)

marked : (code key : ℕ) (P : ℕ → Type 0) → P (letter key) → P (numbered key) → P (mark code key)
marked code key P l b = by (has code 0)
  where
    by : (c : Bool) → P (if c then numbered key else letter key)
    by true = b
    by false = l

-- tables of the keys
abbrev unwritten : ℕ → ℕ → Bool
unwritten key j = not (is_written (letter key) j) && not (is_written (numbered key) j)

own : (key : ℕ) → 1 ≤ key → key < 23 → (is_written (letter key) key && is_written (numbered key) key) ≡ true
own = tested (λ key. is_written (letter key) key && is_written (numbered key) key) 1 22 refl

low_table : (key : ℕ) → 1 ≤ key → key < 13 → list_all (unwritten key) (range_with_len 1 (key - 1)) ≡ true
low_table = tested (λ key. list_all (unwritten key) (range_with_len 1 (key - 1))) 1 12 refl

high_table : (key : ℕ) → 13 ≤ key → key < 23 → list_all (unwritten key) (range_with_len 8 (key - 8)) ≡ true
high_table = tested (λ key. list_all (unwritten key) (range_with_len 8 (key - 8))) 13 10 refl

abbrev Reaches : ℕ → ℕ → ℕ → Type 0
Reaches last least top = (top ≤ 13) ⊎ ((8 ≤ last) ⊎ (8 ≤ least))

passed : (last least key j : ℕ) → 1 ≤ key → key < 23 → Reaches last least (key + 1) → last < j → least ≤ j → j < key → unwritten key j ≡ true
passed last least key j pos lt r a f below = elim (cases_lt key 13) [
  | inl low ↦ tested (unwritten key) 1 (key - 1) (low_table key pos low) j (omega arith) (omega arith)
  | inr high ↦ tested (unwritten key) 8 (key - 8) (high_table key high lt) j (elim r [ inl top ↦ absurd (omega arith) | inr (inl l) ↦ omega arith | inr (inr l) ↦ omega arith ]) (omega arith)
]

first_here : (code last least key : ℕ) → 1 ≤ key → key < 23 → Reaches last least (key + 1) → last < key → least ≤ key → IsFirstKey last least (press code key)
first_here code last least key pos lt r a f = record {
  written = (let two = and_parts (is_written (letter key) key) (is_written (numbered key) key) (own key pos lt) in marked code key (λ c. is_written c key ≡ true) two.0 two.1);
  after = a;
  from = f;
  first = λ j w a' f'. elim (cases_lt j key) [
    | inl below ↦ (
        let two = and_parts (not (is_written (letter key) j)) (not (is_written (numbered key) j)) (passed last least key j pos lt r a' f' below) in
        let none = marked code key (λ c. not (is_written c j) ≡ true) two.0 two.1 in
        absurd (not_of (is_written (mark code key) j) none w))
    | inr ge ↦ ge
  ];
}

pub chain_keys : (code last least a n : ℕ) → 1 ≤ a → a + n ≤ 23 → last < a → least ≤ a → Reaches last least (a + n) → Chain last least (pressing code (keys_from code a n))
chain_keys code last least a zero pos top l f r = tt
chain_keys code last least a (suc n) pos top l f r = by (has code a) (λ last' l' r'. chain_keys code last' least (a + 1) n (omega arith) (omega arith) l' (omega arith) r')
  where
    by : (b : Bool) → ((last' : ℕ) → last' < a + 1 → Reaches last' least (a + 1 + n) → Chain last' least (pressing code (keys_from code (a + 1) n))) →
        Chain last least (pressing code (cond b (a ∷ keys_from code (a + 1) n) (keys_from code (a + 1) n)))
    by true rest = (
      first_here code last least a pos (omega arith) (elim r [ inl t ↦ inl (omega arith) | inr (inl t) ↦ inr (inl t) | inr (inr t) ↦ inr (inr t) ]) l f,
      rest a (omega arith) (elim r [ inl t ↦ inl (omega arith) | inr (inl t) ↦ inr (inl (omega arith)) | inr (inr t) ↦ inr (inr t) ]),
    )
    by false rest = rest last (omega arith) (elim r [ inl t ↦ inl (omega arith) | inr (inl t) ↦ inr (inl t) | inr (inr t) ↦ inr (inr t) ])

pub chain-append : (last least : ℕ) (xs ys : List Press) → Chain last least xs → Chain (last_key last xs) least ys → Chain last least (xs ++ ys)
chain-append last least [] ys x y = y
chain-append last least (p ∷ xs) ys x y = (x.0, chain-append p.key least xs ys x.1 y)

last-append : (last : ℕ) (xs ys : List Press) → last_key last (xs ++ ys) ≡ last_key (last_key last xs) ys
last-append last [] ys = refl
last-append last (p ∷ xs) ys = last-append p.key xs ys

pub last_below : (code last a n : ℕ) → last < a → last_key last (pressing code (keys_from code a n)) < a + n
last_below code last a zero l = omega arith
last_below code last a (suc n) l = by (has code a) (λ last' l'. last_below code last' (a + 1) n l')
  where
    by : (b : Bool) → ((last' : ℕ) → last' < a + 1 → last_key last' (pressing code (keys_from code (a + 1) n)) < a + 1 + n) →
        last_key last (pressing code (cond b (a ∷ keys_from code (a + 1) n) (keys_from code (a + 1) n))) < a + suc n
    by true rest = let r = rest a (omega arith) in omega arith
    by false rest = let r = rest last (omega arith) in omega arith

last_rises : (code last a n : ℕ) → last < a → last ≤ last_key last (pressing code (keys_from code a n))
last_rises code last a zero l = omega arith
last_rises code last a (suc n) l = by (has code a) (λ last' l'. last_rises code last' (a + 1) n l')
  where
    by : (b : Bool) → ((last' : ℕ) → last' < a + 1 → last' ≤ last_key last' (pressing code (keys_from code (a + 1) n))) →
        last ≤ last_key last (pressing code (cond b (a ∷ keys_from code (a + 1) n) (keys_from code (a + 1) n)))
    by true rest = let r = rest a (omega arith) in omega arith
    by false rest = rest last (omega arith)

last_from : (code last a n : ℕ) → (length (keys_from code a n) ≡ 0) ⊎ (a ≤ last_key last (pressing code (keys_from code a n)))
last_from code last a zero = inl refl
last_from code last a (suc n) = by (has code a) (last_from code last (a + 1) n)
  where
    by : (b : Bool) → (length (keys_from code (a + 1) n) ≡ 0) ⊎ (a + 1 ≤ last_key last (pressing code (keys_from code (a + 1) n))) →
        (length (cond b (a ∷ keys_from code (a + 1) n) (keys_from code (a + 1) n)) ≡ 0) ⊎ (a ≤ last_key last (pressing code (cond b (a ∷ keys_from code (a + 1) n) (keys_from code (a + 1) n))))
    by true rest = inr (last_rises code a (a + 1) n (omega arith))
    by false (inl none) = inl none
    by false (inr some) = inr (omega arith)

pub low_all : (code a n : ℕ) → a + n ≤ 13 → All (λ p. p.key < 13) (pressing code (keys_from code a n))
low_all code a zero top = λ i d l. absurd (omega arith)
low_all code a (suc n) top = by (has code a) (low_all code (a + 1) n (omega arith))
  where
    by : (b : Bool) → All (λ p. p.key < 13) (pressing code (keys_from code (a + 1) n)) → All (λ p. p.key < 13) (pressing code (cond b (a ∷ keys_from code (a + 1) n) (keys_from code (a + 1) n)))
    by true rest = All-cons (λ p. p.key < 13) (press code a) (pressing code (keys_from code (a + 1) n)) (omega arith) rest
    by false rest = rest

-- a key of the left that is 8 or more is the last, or there is none
pub reached_8 : (code : ℕ) → (length (keys_from code 8 5) ≡ 0) ⊎ (8 ≤ last_key 0 (pressing code (keys_from code 1 12)))
reached_8 code =
    let cut = filter-append (has code) (range_with_len 1 7) (range_with_len 8 5) in
    let parts = ap (pressing code) cut ∙ map-append (press code) (keys_from code 1 7) (keys_from code 8 5) in
    let last = ap (last_key 0) parts ∙ last-append 0 (pressing code (keys_from code 1 7)) (pressing code (keys_from code 8 5)) in
    elim (last_from code (last_key 0 (pressing code (keys_from code 1 7))) 8 5) [ inl none ↦ inl none | inr some ↦ inr (omega (arith, last, some)) ]
