-- An object that is read from a text: it has no more members than the text has bytes, and no name is longer than the text.
use Rattle.std.proofs.Common.{ℕ, zero, suc, ◌≡◌, ◌≤◌, ◌+◌, List, [], ◌∷◌, length, subst, arith, None, Some, Option, option_map, option_and_then, Ordering, Less, Equal, Greater}
use Rattle.std.specs.Prelude.{⊤}
use Rattle.std.specs.List.{AllByRecursion}
use Rattle.std.specs.Ordering.{nat_cmp, match_ordering}
use Rattle.std.specs.Cmp.Lexicographic.{slice_cmp}
use Rattle.json.specs.Token.{Token, begin_object, end_object, begin_array, end_array, key, string, number, boolean, null, bad}
use Rattle.json.specs.Json as json
use Rattle.json.specs.Json.{Parse, parse_map, after_end_array, read_key, items_step, members_step, items, members, value_with, value, if_last, no_items, item, no_members}
use Rattle.json.specs.Lex.{tokens}
use Rattle.serde_json.specs.Data as serde
use Rattle.serde_json.specs.Data.{put}
use Rattle.serde_json.specs.Read.{number_of, of_json, of_items, of_members, read, max_depth}
use Rattle.dict_json.specs.Reading.{Member, members_of}
use Rattle.dict_json.proofs.TokenSizes.{IsShort, tokens-few}

module _ (size : ℕ) where
  abbrev AllShort : List Token → Type 0
  AllShort = AllByRecursion (IsShort size)

  -- what was read is so, and all tokens that are left are short
  abbrev Keeps : {A : Type 0} → (A → Type 0) → Option (A × List Token) → Type 0
  Keeps Q None = ⊤
  Keeps Q (Some p) = Q p.0 × AllShort p.1

  keeps_map : {A B : Type 0} (Q : A → Type 0) (R : B → Type 0) (f : A → B) (r : Option (A × List Token)) → ((a : A) → Q a → R (f a)) → Keeps Q r → Keeps R (parse_map f r)
  keeps_map Q R f None h k = tt
  keeps_map Q R f (Some p) h k = (h p.0 k.0, k.1)

  keeps_then : {A B : Type 0} (Q : A → Type 0) (R : B → Type 0) (f : A × List Token → Option (B × List Token)) (r : Option (A × List Token))
      → ((p : A × List Token) → Q p.0 → AllShort p.1 → Keeps R (f p)) → Keeps Q r → Keeps R (option_and_then f r)
  keeps_then Q R f None h k = tt
  keeps_then Q R f (Some p) h k = h p k.0 k.1

  abbrev Any : {A : Type 0} → A → Type 0
  Any a = ⊤

  -- ---- arrays

  abbrev EndKeeps : Option (List Token) → Type 0
  EndKeeps None = ⊤
  EndKeeps (Some ts) = AllShort ts

  end_keeps : (ts : List Token) → AllShort ts → EndKeeps (after_end_array ts)
  end_keeps [] h = tt
  end_keeps (begin_object ∷ ts) h = tt
  end_keeps (end_object ∷ ts) h = tt
  end_keeps (begin_array ∷ ts) h = tt
  end_keeps (end_array ∷ ts) h = h.1
  end_keeps (key s ∷ ts) h = tt
  end_keeps (string s ∷ ts) h = tt
  end_keeps (number s ∷ ts) h = tt
  end_keeps (boolean b ∷ ts) h = tt
  end_keeps (null ∷ ts) h = tt
  end_keeps (bad ∷ ts) h = tt

  module _ (one : Parse json.Json) (keeps : (ts : List Token) → AllShort ts → Keeps Any (one ts)) where
    items_keeps : (n : ℕ) (ts : List Token) → AllShort ts → Keeps Any (items one n ts)
    unfolding items
    items_keeps zero ts h = tt
    items_keeps (suc n) ts h = by (after_end_array ts) (end_keeps ts h) (λ rest. items_keeps n rest)
      where
        by : (o : Option (List Token)) → EndKeeps o → ((rest : List Token) → AllShort rest → Keeps Any (items one n rest)) → Keeps Any (items_step one (items one n) ts o)
        by (Some rest) kept more = (tt, kept)
        by None kept more = keeps_then Any Any _ (one ts) (λ p q short. keeps_map Any Any (item p.0) (items one n p.1) (λ a b. tt) (more p.1 short)) (keeps ts h)

    -- ---- objects

    abbrev NameIsShort : Option (List ℕ) → Type 0
    NameIsShort None = ⊤
    NameIsShort (Some k) = length k ≤ size

    key_keeps : (ts : List Token) → AllShort ts → Keeps NameIsShort (read_key ts)
    key_keeps [] h = tt
    key_keeps (begin_object ∷ ts) h = tt
    key_keeps (end_object ∷ ts) h = (tt, h.1)
    key_keeps (begin_array ∷ ts) h = tt
    key_keeps (end_array ∷ ts) h = tt
    key_keeps (key s ∷ ts) h = h
    key_keeps (string s ∷ ts) h = tt
    key_keeps (number s ∷ ts) h = tt
    key_keeps (boolean b ∷ ts) h = tt
    key_keeps (null ∷ ts) h = tt
    key_keeps (bad ∷ ts) h = tt

  -- at most so many members, whose names are short
  abbrev AreSmall : ℕ → json.Members → Type 0
  AreSmall n json.no_members = ⊤
  AreSmall zero (json.member k j ms) = ⊥
  AreSmall (suc n) (json.member k j ms) = (length k ≤ size) × AreSmall n ms

  module _ (one : Parse json.Json) (keeps : (ts : List Token) → AllShort ts → Keeps Any (one ts)) where
    members_keeps : (n : ℕ) (ts : List Token) → AllShort ts → Keeps (AreSmall n) (members one n ts)
    unfolding members
    members_keeps zero ts h = tt
    members_keeps (suc n) ts h = keeps_then (NameIsShort one keeps) (AreSmall (suc n)) _ (read_key ts) (λ p. by p.0 p.1 (λ rest. members_keeps n rest)) (key_keeps one keeps ts h)
      where
        by : (o : Option (List ℕ)) (rest : List Token) → ((left : List Token) → AllShort left → Keeps (AreSmall n) (members one n left)) → NameIsShort one keeps o → AllShort rest → Keeps (AreSmall (suc n)) (members_step one (members one n) o rest)
        by None rest more short kept = (tt, kept)
        by (Some k) rest more short kept =
            keeps_then Any (AreSmall (suc n)) _ (one rest) (λ p q left. keeps_map (AreSmall n) (AreSmall (suc n)) (json.member k p.0) (members one n p.1) (λ ms small. (short, small)) (more p.1 left)) (keeps rest kept)

  -- ---- values

  value_with_keeps : (a : Parse json.Items) (o : Parse json.Members) → ((ts : List Token) → AllShort ts → Keeps Any (a ts)) → ((ts : List Token) → AllShort ts → Keeps Any (o ts)) → (ts : List Token) → AllShort ts → Keeps Any (value_with a o ts)
  value_with_keeps a o array_keeps object_keeps [] h = tt
  value_with_keeps a o array_keeps object_keeps (begin_object ∷ ts) h = keeps_map Any Any json.object (o ts) (λ x y. tt) (object_keeps ts h.1)
  value_with_keeps a o array_keeps object_keeps (end_object ∷ ts) h = tt
  value_with_keeps a o array_keeps object_keeps (begin_array ∷ ts) h = keeps_map Any Any json.array (a ts) (λ x y. tt) (array_keeps ts h.1)
  value_with_keeps a o array_keeps object_keeps (end_array ∷ ts) h = tt
  value_with_keeps a o array_keeps object_keeps (key s ∷ ts) h = tt
  value_with_keeps a o array_keeps object_keeps (string s ∷ ts) h = (tt, h.1)
  value_with_keeps a o array_keeps object_keeps (number s ∷ ts) h = (tt, h.1)
  value_with_keeps a o array_keeps object_keeps (boolean b ∷ ts) h = (tt, h.1)
  value_with_keeps a o array_keeps object_keeps (null ∷ ts) h = (tt, h.1)
  value_with_keeps a o array_keeps object_keeps (bad ∷ ts) h = tt

  forgets : {A : Type 0} (Q : A → Type 0) (r : Option (A × List Token)) → Keeps Q r → Keeps Any r
  forgets Q None k = tt
  forgets Q (Some p) k = (tt, k.1)

  value_keeps : (depth : ℕ) (ts : List Token) → AllShort ts → Keeps Any (value depth ts)
  unfolding value
  value_keeps zero = value_with_keeps (λ ts. None) (λ ts. None) (λ ts h. tt) (λ ts h. tt)
  value_keeps (suc d) = value_with_keeps _ _ (λ ts. items_keeps (value d) (value_keeps d) (length ts) ts) (λ ts h. forgets (AreSmall (length ts)) _ (members_keeps (value d) (value_keeps d) (length ts) ts h))

  -- an object with at most so many members, or another value
  abbrev IsSmall : ℕ → json.Json → Type 0
  IsSmall n json.null = ⊤
  IsSmall n (json.boolean b) = ⊤
  IsSmall n (json.number s) = ⊤
  IsSmall n (json.string s) = ⊤
  IsSmall n (json.array js) = ⊤
  IsSmall n (json.object ms) = AreSmall n ms

  weaker : (n m : ℕ) (ms : json.Members) → n ≤ m → AreSmall n ms → AreSmall m ms
  weaker n m json.no_members le h = tt
  weaker zero m (json.member k j ms) le h = absurd h
  weaker (suc n) zero (json.member k j ms) le h = absurd (omega (arith, le))
  weaker (suc n) (suc m) (json.member k j ms) le h = (h.0, weaker n m ms (omega (arith, le)) h.1)

  abbrev IsSmallValue : ℕ → Option (json.Json × List Token) → Type 0
  IsSmallValue n None = ⊤
  IsSmallValue n (Some p) = IsSmall n p.0

  object_small : (n : ℕ) (r : Option (json.Members × List Token)) → Keeps (AreSmall n) r → IsSmallValue n (parse_map json.object r)
  object_small n None k = tt
  object_small n (Some p) k = k.0

  array_small : (n : ℕ) (r : Option (json.Items × List Token)) → IsSmallValue n (parse_map json.array r)
  array_small n None = tt
  array_small n (Some p) = tt

  value_small : (d n : ℕ) (ts : List Token) → AllShort ts → length ts ≤ n + 1 → IsSmallValue n (value (suc d) ts)
  unfolding value
  value_small d n [] h le = tt
  value_small d n (begin_object ∷ ts) h le = object_small n _ (fewer (members (value d) (length ts) ts) (members_keeps (value d) (value_keeps d) (length ts) ts h.1))
    where
      fewer : (r : Option (json.Members × List Token)) → Keeps (AreSmall (length ts)) r → Keeps (AreSmall n) r
      fewer None k = tt
      fewer (Some p) k = (weaker (length ts) n p.0 (omega (arith, le)) k.0, k.1)
  value_small d n (end_object ∷ ts) h le = tt
  value_small d n (begin_array ∷ ts) h le = array_small n _
  value_small d n (end_array ∷ ts) h le = tt
  value_small d n (key s ∷ ts) h le = tt
  value_small d n (string s ∷ ts) h le = tt
  value_small d n (number s ∷ ts) h le = tt
  value_small d n (boolean b ∷ ts) h le = tt
  value_small d n (null ∷ ts) h le = tt
  value_small d n (bad ∷ ts) h le = tt

  -- ---- data

  -- at most so many members, with short names
  abbrev pub AreFew : ℕ → List Member → Type 0
  AreFew n ms = AllByRecursion (λ m. length m.name ≤ size) ms × (length ms ≤ n)

  put_few : (n : ℕ) (k : List ℕ) (d : serde.Data) (ms : serde.Members) → length k ≤ size → AreFew n (members_of ms) → AreFew (suc n) (members_of (put k d ms))
  put_few n k d serde.no_members short h = ((short, tt), omega arith)
  put_few zero k d (serde.member l e ms) short h = absurd (omega (arith, h.1))
  put_few (suc n) k d (serde.member l e ms) short h = by (slice_cmp nat_cmp k l) (put_few n k d ms short (h.0.1, omega (arith, h.1)))
    where
      by : (o : Ordering) → AreFew (suc n) (members_of (put k d ms)) → AreFew (suc (suc n)) (members_of (match_ordering o (serde.member k d (serde.member l e ms)) (serde.member l d ms) (serde.member l e (put k d ms))))
      by Less rest = ((short, h.0), omega (arith, h.1))
      by Equal rest = (h.0, omega (arith, h.1))
      by Greater rest = ((h.0.0, rest.0), omega (arith, rest.1))

  abbrev FewFound : ℕ → Option serde.Members → Type 0
  FewFound n None = ⊤
  FewFound n (Some ms) = AreFew n (members_of ms)

  more_found : (a n : ℕ) (r : Option serde.Members) → FewFound (suc a + n) r → FewFound (a + suc n) r
  more_found a n None h = tt
  more_found a n (Some ms) h = (h.0, omega (arith, h.1))

  of_members_few : (a n : ℕ) (ms : json.Members) (found : serde.Members) → AreSmall n ms → AreFew a (members_of found) → FewFound (a + n) (of_members ms found)
  of_members_few a n json.no_members found small few = (few.0, omega (arith, few.1))
  of_members_few a zero (json.member k j ms) found small few = absurd small
  of_members_few a (suc n) (json.member k j ms) found small few = by (of_json j) (λ d. more_found a n _ (of_members_few (suc a) n ms (put k d found) small.1 (put_few a k d found small.0 few)))
    where
      by : (o : Option serde.Data) → ((d : serde.Data) → FewFound (a + suc n) (of_members ms (put k d found))) → FewFound (a + suc n) (option_and_then (λ d. of_members ms (put k d found)) o)
      by None f = tt
      by (Some d) f = f d

  abbrev IsFew : ℕ → Option serde.Data → Type 0
  IsFew n None = ⊤
  IsFew n (Some serde.null) = ⊤
  IsFew n (Some (serde.boolean b)) = ⊤
  IsFew n (Some (serde.number x)) = ⊤
  IsFew n (Some (serde.string s)) = ⊤
  IsFew n (Some (serde.array ds)) = ⊤
  IsFew n (Some (serde.object ms)) = AreFew n (members_of ms)

  of_json_few : (n : ℕ) (j : json.Json) → IsSmall n j → IsFew n (of_json j)
  of_json_few n json.null h = tt
  of_json_few n (json.boolean b) h = tt
  of_json_few n (json.number s) h = by (number_of s)
    where
      by : (o : Option serde.Num) → IsFew n (option_map serde.number o)
      by None = tt
      by (Some x) = tt
  of_json_few n (json.string s) h = tt
  of_json_few n (json.array js) h = by (of_items js)
    where
      by : (o : Option serde.Items) → IsFew n (option_map serde.array o)
      by None = tt
      by (Some ds) = tt
  of_json_few n (json.object ms) h = by (of_members ms serde.no_members) (of_members_few 0 n ms serde.no_members h (tt, omega arith))
    where
      by : (o : Option serde.Members) → FewFound (0 + n) o → IsFew n (option_map serde.object o)
      by None k = tt
      by (Some found) k = (k.0, omega (arith, k.1))

  -- ---- the whole text

  whole_few : (n : ℕ) (r : Option (json.Json × List Token)) → IsSmallValue n r → IsFew n (option_and_then of_json (option_and_then (λ p. if_last p.0 p.1) r))
  whole_few n None h = tt
  whole_few n (Some (j, [])) h = of_json_few n j h
  whole_few n (Some (j, t ∷ ts)) h = tt

pub read_few : (text : List ℕ) (ms : serde.Members) → read text ≡ Some (serde.object ms) → AreFew (length text) (length text) (members_of ms)
read_few text ms e =
    let few = tokens-few text in
    subst (IsFew (length text) (length text)) e (whole_few (length text) (length text) (json.value max_depth (tokens text)) (value_small (length text) 126 (length text) (tokens text) few.0 few.1))
