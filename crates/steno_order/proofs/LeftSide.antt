-- Reading on before the hyphen.
use Rattle.std.proofs.Common.{◌≡◌, ℕ, ◌+◌, ◌^◌, ◌<◌, List, [], ◌∷◌, ◌++◌, refl, sym, ap, arith, Bool, true, false, cond, true≢false, inl, inr, ◌∙◌, append-nil, append_assoc}
use Rattle.std.specs.Prelude.{◌&&◌, ◌||◌, ◌==◌, nat_lt, nat_le, max, Option, Some, None, option_map, option_and_then, sum_by, if◌then◌else◌}
use Rattle.std.specs.List.{list_all, onto_first, join_with_byte}
use Rattle.std.specs.Char.{is_ascii_digit}
use Rattle.std.proofs.Math.Pow.{pow_mono}
use Rattle.std.proofs.lemmas.Bool.{cases_lt, le-leb, lt-leb, lt-ltb, eqb-true}
use Rattle.std.proofs.lemmas.List.Sums.{sum_by-append}
use Rattle.std.proofs.lemmas.List.Folds.{list_all-append}
use Rattle.std.proofs.lemmas.List.Splits.{join_with_byte-slice_split}
use Rattle.text_rules.specs.Lines.{parts_between}
use Rattle.text_rules.proofs.Splits.{some_part}
use Rattle.steno_order.specs.declared.pressed.Pressed.{Pressed}
use Rattle.steno_order.specs.Keys.{hyphen, bar, has_bar}
use Rattle.steno_order.specs.Reading.{first_key, last_of, pressed, with_right, some_code}
use Rattle.steno_order.specs.inside.Steps.{next_key_of, divided, with_key, after_character, spelt_from}
use Rattle.steno_order.proofs.Presses.{pressed-chain}
use Rattle.steno_order.proofs.Spellings.{unsplit}
use Rattle.steno_order.proofs.Codes.{bit}
use Rattle.steno_order.proofs.States.{weight, HasPressed, not_lower, step, or_assoc, with_code}
use Rattle.steno_order.proofs.RightSide.{spelt_keys, right}

-- the keys so far, before any hyphen
pub record IsLeft (left : List ℕ) (last sum : ℕ) : Type 0 where
  pub sums : sum_by weight left ≡ sum
  pub ends : last_of 0 left ≡ last
  pub low : list_all (λ key. nat_lt key 13) left ≡ nat_lt last 13

last_more : (key0 : ℕ) (left : List ℕ) (key : ℕ) → last_of key0 (left ++ key ∷ []) ≡ key
last_more key0 [] key = refl
last_more key0 (k ∷ ks) key = last_more k ks key

left_more : (left : List ℕ) (last sum key : ℕ) → IsLeft left last sum → last < key → IsLeft (left ++ key ∷ []) key (sum + 2 ^ key)
left_more left last sum key h rises =
    let sums = h.sums in
    let more = sum_by-append weight left (key ∷ []) in
    let one : sum_by weight (key ∷ []) ≡ 2 ^ key = omega arith in
    record {
      sums = omega (arith, sums, more, one);
      ends = last_more 0 left key;
      low = list_all-append (λ k. nat_lt k 13) left (key ∷ []) ∙ (ap (λ t. t && (nat_lt key 13 && true)) h.low ∙ both_low);
    }
  where
    both_low : (nat_lt last 13 && (nat_lt key 13 && true)) ≡ nat_lt key 13
    both_low = elim (cases_lt key 13) [
      | inl lt ↦ rw (lt-ltb last 13 (omega arith), lt-ltb key 13 lt) refl
      | inr ge ↦ rw (not_lower key 13 ge) (none (nat_lt last 13))
    ]
      where
        none : (t : Bool) → (t && (false && true)) ≡ false
        none true = refl
        none false = refl

abbrev pub keys_after : List ℕ → ℕ → List (List ℕ) → Option (List ℕ)
keys_after left last (whole ∷ []) = option_map (λ keys. left ++ keys) (pressed last 1 whole)
keys_after left last (before ∷ after_character ∷ []) = option_and_then (λ keys. with_right after_character (left ++ keys)) (pressed last 1 before)
keys_after left last parts = None

abbrev pub spelt_left : Bool → List ℕ → List ℕ → Option ℕ
spelt_left b cs keys = some_code (sum_by weight keys + bit (b || has_bar cs))

-- two hyphens
many_none : (last least : ℕ) (cs y z : List ℕ) (zs : List (List ℕ)) → parts_between hyphen cs ≡ y ∷ z ∷ zs → pressed last least cs ≡ None
many_none last least cs y z zs e = by (pressed last least cs) refl
  where
    by : (o : Option (List ℕ)) → pressed last least cs ≡ o → o ≡ None
    by None is = refl
    by (Some keys) is =
        let r = pressed-chain last least cs keys is in
        let one : parts_between hyphen cs ≡ cs ∷ [] = ap (parts_between hyphen) (sym r.chars) ∙ (unsplit last least r.presses r.chain ∙ ap (λ l. l ∷ []) r.chars) in
        let two : cs ∷ [] ≡ y ∷ z ∷ zs = sym one ∙ e in
        absurd (true≢false cc)

joined_keys : (keys cs : List ℕ) (sum : ℕ) (b : Bool) → sum_by weight keys ≡ sum → (o : Option (List ℕ)) →
    option_and_then (spelt_keys sum b cs) o ≡ option_and_then (spelt_left b (hyphen ∷ cs)) (option_map (λ right. keys ++ right) o)
joined_keys keys cs sum b sums None = refl
joined_keys keys cs sum b sums (Some r) =
    let all = sum_by-append weight keys r in
    let same : sum + sum_by weight r ≡ sum_by weight (keys ++ r) = omega (arith, all, sums) in
    ap (λ s. some_code (s + bit (b || has_bar cs))) same

-- the state after_character the hyphen
holds_right : (code next last sum : ℕ) (b : Bool) → HasPressed code next last 1 sum b → HasPressed code (max next 11) last 11 sum b
holds_right code next last sum b h =
    let from = h.from in
    let few = h.few in
    let small = h.small in
    let mono = pow_mono {i = next} {j = max next 11} (omega arith) in
    record { coded = h.coded; even = h.even; from = omega arith; small = omega (arith, small, mono); few = omega arith }

divided_is : (p : Pressed) (last sum : ℕ) (b : Bool) → p.hyphen ≡ false → HasPressed p.code p.next last 1 sum b →
    divided p ≡ (if nat_lt last 13 then Some (record { code = p.code; next = max p.next 11; hyphen = true }) else None)
divided_is p last sum b side h = rw (side, h.from) (ap (λ t. if t then Some (record { code = p.code; next = max (max (last + 1) 1) 11; hyphen = true }) else None) same)
  where
    same : nat_le (max (last + 1) 1) 13 ≡ nat_lt last 13
    same = elim (cases_lt last 13) [
      | inl lt ↦ rw (lt-ltb last 13 lt, le-leb (max (last + 1) 1) 13 (omega arith)) refl
      | inr ge ↦ rw (not_lower last 13 ge, lt-leb (max (last + 1) 1) 13 (omega arith)) refl
    ]

-- a hyphen
at_hyphen : (p : Pressed) (last sum : ℕ) (b : Bool) (keys cs : List ℕ) → p.hyphen ≡ false → HasPressed p.code p.next last 1 sum b → IsLeft keys last sum → (parts : List (List ℕ)) → parts_between hyphen cs ≡ parts →
    option_and_then (λ q. spelt_from q cs) (divided p) ≡ option_and_then (spelt_left b (hyphen ∷ cs)) (keys_after keys last ([] ∷ parts))
at_hyphen p last sum b keys cs side h l parts e = rw (divided_is p last sum b side h) (by parts e (nat_lt last 13) (l.low))
  where
    q : Pressed
    q = record { code = p.code; next = max p.next 11; hyphen = true }

    after_it : spelt_from (record { code = p.code; next = max p.next 11; hyphen = true }) cs ≡ option_and_then (spelt_keys sum b cs) (pressed last 11 cs)
    after_it = right (record { code = p.code; next = max p.next 11; hyphen = true }) last sum b cs refl (holds_right p.code p.next last sum b h)

    by : (parts : List (List ℕ)) → parts_between hyphen cs ≡ parts → (t : Bool) → list_all (λ key. nat_lt key 13) keys ≡ t →
        option_and_then (λ r. spelt_from r cs) (if t then Some (record { code = p.code; next = max p.next 11; hyphen = true }) else None) ≡ option_and_then (spelt_left b (hyphen ∷ cs)) (keys_after keys last ([] ∷ parts))
    by [] e t low = absurd (some_part hyphen cs e)
    by (y ∷ []) e false low = rw (append-nil keys, low) refl
    by (y ∷ []) e true low =
        let same : y ≡ cs = ap (join_with_byte hyphen) (sym e) ∙ join_with_byte-slice_split hyphen cs in
        rw (append-nil keys, low, same, l.ends) (after_it ∙ joined_keys keys cs sum b l.sums (pressed last 11 cs))
    by (y ∷ z ∷ zs) e false low = refl
    by (y ∷ z ∷ zs) e true low = after_it ∙ ap (option_and_then (spelt_keys sum b cs)) (many_none last 11 cs y z zs e)

-- a character that presses no key, or one
no_keys : (left : List ℕ) (last c : ℕ) (x : List ℕ) (parts : List (List ℕ)) → first_key last 1 c ≡ None → keys_after left last ((c ∷ x) ∷ parts) ≡ None
no_keys left last c x [] none = rw none refl
no_keys left last c x (y ∷ []) none = rw none refl
no_keys left last c x (y ∷ z ∷ zs) none = refl

one_key : (left : List ℕ) (last c key : ℕ) (x : List ℕ) (parts : List (List ℕ)) → first_key last 1 c ≡ Some key → keys_after left last ((c ∷ x) ∷ parts) ≡ keys_after (left ++ key ∷ []) key (x ∷ parts)
one_key left last c key x [] first = rw first (whole (pressed key 1 x))
  where
    whole : (o : Option (List ℕ)) → option_map (λ keys. left ++ keys) (option_map (λ keys. key ∷ keys) o) ≡ option_map (λ keys. (left ++ key ∷ []) ++ keys) o
    whole None = refl
    whole (Some keys) = ap Some (sym (append_assoc left (key ∷ []) keys))
one_key left last c key x (y ∷ []) first = rw first (halves (pressed key 1 x))
  where
    halves : (o : Option (List ℕ)) → option_and_then (λ keys. with_right y (left ++ keys)) (option_map (λ keys. key ∷ keys) o) ≡ option_and_then (λ keys. with_right y ((left ++ key ∷ []) ++ keys)) o
    halves None = refl
    halves (Some keys) = ap (with_right y) (sym (append_assoc left (key ∷ []) keys))
one_key left last c key x (y ∷ z ∷ zs) first = refl

more_left : (c : ℕ) (b : Bool) (cs : List ℕ) → (c == bar) ≡ false → (o : Option (List ℕ)) → option_and_then (spelt_left (b || is_ascii_digit c) cs) o ≡ option_and_then (spelt_left b (c ∷ cs)) o
more_left c b cs no_bar None = refl
more_left c b cs no_bar (Some keys) = ap (λ t. some_code (sum_by weight keys + bit t)) (or_assoc b (is_ascii_digit c) (has_bar cs) ∙ ap (λ t. b || ((t || is_ascii_digit c) || has_bar cs)) (sym no_bar))

-- before the hyphen
pub left : (p : Pressed) (last sum : ℕ) (b : Bool) (keys cs : List ℕ) → p.hyphen ≡ false → HasPressed p.code p.next last 1 sum b → IsLeft keys last sum →
    spelt_from p cs ≡ option_and_then (spelt_left b cs) (keys_after keys last (parts_between hyphen cs))
left p last sum b keys [] side h l = with_code p.code p.next last 1 sum b h ∙ rw (append-nil keys, l.sums) refl
left p last sum b keys (c ∷ cs) side h l = by (c == hyphen) refl (parts_between hyphen cs) refl (λ q key sum' b' keys' side' h' l'. left q key sum' b' keys' cs side' h' l')
  where
    by : (t : Bool) → (c == hyphen) ≡ t → (parts : List (List ℕ)) → parts_between hyphen cs ≡ parts →
        ((q : Pressed) (key sum' : ℕ) (b' : Bool) (keys' : List ℕ) → q.hyphen ≡ false → HasPressed q.code q.next key 1 sum' b' → IsLeft keys' key sum' →
        spelt_from q cs ≡ option_and_then (spelt_left b' cs) (keys_after keys' key (parts_between hyphen cs))) →
        option_and_then (λ q. spelt_from q cs) (if t then divided p else option_map (with_key p c) (next_key_of p.next c)) ≡ option_and_then (spelt_left b (c ∷ cs)) (keys_after keys last (cond t ([] ∷ parts) (onto_first c parts)))
    by true is parts e rec =
        at_hyphen p last sum b keys cs side h l parts e
        ∙ ap (λ d. option_and_then (spelt_left b (d ∷ cs)) (keys_after keys last ([] ∷ parts))) (sym (eqb-true c hyphen is))
    by false isnt [] e rec = absurd (some_part hyphen cs e)
    by false isnt (x ∷ parts) e rec = elim (step p last 1 sum c b h) [
      | inl none ↦ rw (none.1) (ap (option_and_then (spelt_left b (c ∷ cs))) (sym (no_keys keys last c x parts none.0)))
      | inr some ↦ (
          rw (some.1.1.is_after)
          (rec some.1.0 some.0 (sum + 2 ^ some.0) (b || is_ascii_digit c) (keys ++ some.0 ∷ []) (some.1.1.same_side ∙ side) some.1.1.holds (left_more keys last sum some.0 l some.1.1.rises)
          ∙ (ap (λ parts'. option_and_then (spelt_left (b || is_ascii_digit c) cs) (keys_after (keys ++ some.0 ∷ []) some.0 parts')) e
          ∙ (more_left c b cs some.1.1.no_bar (keys_after (keys ++ some.0 ∷ []) some.0 (x ∷ parts))
          ∙ ap (option_and_then (spelt_left b (c ∷ cs))) (sym (one_key keys last c some.0 x parts some.1.1.first))))))
    ]
