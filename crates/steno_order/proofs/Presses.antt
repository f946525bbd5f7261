-- Presses by the relation and by the function.
use Rattle.std.proofs.Common.{◌≡◌, ℕ, ◌<◌, ◌≤◌, List, [], ◌∷◌, ◌++◌, refl, sym, ap, subst, arith, Bool, true, false, true≢false, ◌⊎◌, inl, inr, ◌∙◌}
use Rattle.std.specs.Prelude.{◌&&◌, ◌||◌, ◌==◌, nat_lt, nat_le, Option, Some, None, option_map, option_and_then}
use Rattle.std.proofs.lemmas.Bool.Decides.{Decides-ltb}
use Rattle.std.proofs.lemmas.Bool.{cases_lt, le-leb, leb-true, and_parts}
use Rattle.steno_order.specs.Keys.{is_written, letter, numbered}
use Rattle.steno_order.specs.Spelling.{Press, chars_of, keys_of, last_key, IsFirstKey, ArePressed}
use Rattle.steno_order.specs.Reading.{first_key, pressed}
use Rattle.steno_order.proofs.Ranges.{find_range, range_find}

-- the key may be pressed next
abbrev may : ℕ → ℕ → ℕ → ℕ → Bool
may last least c key = is_written c key && (nat_lt last key && nat_le least key)

pub below_23 : (c key : ℕ) → is_written c key ≡ true → key < 23
below_23 c key w = (Decides-ltb key 23).0 (and_parts (nat_lt key 23) (letter key == c || numbered key == c) w).0

pub false_or_true : (b : Bool) → (b ≡ true) ⊎ (b ≡ false)
false_or_true true = inl refl
false_or_true false = inr refl

pub first_key-is : (last least c key : ℕ) → first_key last least c ≡ Some key → IsFirstKey last least (record { char = c; key = key })
first_key-is last least c key e =
    let found = find_range (may last least c) 0 23 key e in
    let parts = and_parts (is_written c key) (nat_lt last key && nat_le least key) found.0 in
    let bounds = and_parts (nat_lt last key) (nat_le least key) parts.1 in
    record {
      written = parts.0;
      after = (Decides-ltb last key).0 bounds.0;
      from = leb-true least key bounds.1;
      first = λ k w a f. elim (cases_lt k key) [
        | inl lower ↦ absurd (true≢false (sym (all_three k w a f) ∙ found.1 k (omega arith) lower))
        | inr ge ↦ ge
      ];
    }
  where
    all_three : (k : ℕ) → is_written c k ≡ true → last < k → least ≤ k → may last least c k ≡ true
    all_three k w a f = rw (w, (Decides-ltb last k).1 a, le-leb least k f) refl

pub is-first_key : (last least c key : ℕ) → IsFirstKey last least (record { char = c; key = key }) → first_key last least c ≡ Some key
is-first_key last least c key h =
    range_find (may last least c) 0 23 key (rw (h.written, (Decides-ltb last key).1 h.after, le-leb least key h.from) refl) (omega arith) (below_23 c key h.written)
    (λ j ge lt. elim (false_or_true (may last least c j)) [
      | inl is ↦ (
          let parts = and_parts (is_written c j) (nat_lt last j && nat_le least j) is in
          let bounds = and_parts (nat_lt last j) (nat_le least j) parts.1 in
          let le = h.first j parts.0 ((Decides-ltb last j).0 bounds.0) (leb-true least j bounds.1) in
          absurd (omega arith))
      | inr isnt ↦ isnt
    ])

-- presses one after another, by recursion
abbrev pub Chain : ℕ → ℕ → List Press → Type 0
Chain last least [] = Unit {0}
Chain last least (p ∷ ps) = IsFirstKey last least p × Chain p.key least ps

pub ArePressed-chain : (last least : ℕ) (ps : List Press) → ArePressed last least ps → Chain last least ps
ArePressed-chain last least [] h = tt
ArePressed-chain last least (p ∷ ps) h = (h [] p ps refl, ArePressed-chain p.key least ps (λ front q rest e. h (p ∷ front) q rest (ap (λ l. p ∷ l) e)))

pub chain-ArePressed : (last least : ℕ) (ps : List Press) → Chain last least ps → ArePressed last least ps
chain-ArePressed last least [] h [] q rest e = absurd (true≢false cc)
chain-ArePressed last least [] h (f ∷ front) q rest e = absurd (true≢false cc)
chain-ArePressed last least (p ∷ ps) h [] q rest e = let same : p ≡ q = cc in subst (IsFirstKey last least) same h.0
chain-ArePressed last least (p ∷ ps) h (f ∷ front) q rest e =
    let same : p ≡ f = cc in
    let others : ps ≡ front ++ q ∷ rest = cc in
    subst (λ r. IsFirstKey (last_key r.key front) least q) same (chain-ArePressed p.key least ps h.1 front q rest others)

pub chain-pressed : (last least : ℕ) (ps : List Press) → Chain last least ps → pressed last least (chars_of ps) ≡ Some (keys_of ps)
chain-pressed last least [] h = refl
chain-pressed last least (p ∷ ps) h = rw (is-first_key last least p.char p.key h.0, chain-pressed p.key least ps h.1) refl

-- the presses of characters that have keys
pub record Presses (last least : ℕ) (cs ks : List ℕ) : Type 0 where
  pub presses : List Press
  pub chars : chars_of presses ≡ cs
  pub keys : keys_of presses ≡ ks
  pub chain : Chain last least presses

pub pressed-chain : (last least : ℕ) (cs ks : List ℕ) → pressed last least cs ≡ Some ks → Presses last least cs ks
pressed-chain last least [] ks e = let same : [] ≡ ks = cc in record { presses = []; chars = refl; keys = same; chain = tt }
pressed-chain last least (c ∷ cs) ks e = by (first_key last least c) refl e (λ key rest. pressed-chain key least cs rest)
  where
    inner : (key : ℕ) (o : Option (List ℕ)) → pressed key least cs ≡ o → first_key last least c ≡ Some key → option_map (λ keys. key ∷ keys) o ≡ Some ks → ((rest : List ℕ) → pressed key least cs ≡ Some rest → Presses key least cs rest) → Presses last least (c ∷ cs) ks
    inner key None is first e rec = absurd (true≢false cc)
    inner key (Some rest) is first e rec =
        let r = rec rest is in
        let same : key ∷ rest ≡ ks = cc in
        record {
          presses = record { char = c; key = key } ∷ r.presses;
          chars = ap (λ l. c ∷ l) r.chars;
          keys = ap (λ l. key ∷ l) r.keys ∙ same;
          chain = (first_key-is last least c key first, r.chain);
        }

    by : (o : Option ℕ) → first_key last least c ≡ o → option_and_then (λ key. option_map (λ keys. key ∷ keys) (pressed key least cs)) o ≡ Some ks → ((key : ℕ) (rest : List ℕ) → pressed key least cs ≡ Some rest → Presses key least cs rest) → Presses last least (c ∷ cs) ks
    by None is e rec = absurd (true≢false cc)
    by (Some key) is e rec = inner key (pressed key least cs) refl is e (rec key)
