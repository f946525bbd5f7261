-- The names of an object that is read rise by their bytes.
use Rattle.std.proofs.Common.{ℕ, ◌≡◌, List, [], ◌∷◌, map, filter, refl, sym, ap, subst, Some, None, Option, Bool, true, false, cond, option_map, option_and_then, Ordering, Less, Equal, Greater}
use Rattle.std.specs.Prelude.{⊤}
use Rattle.std.specs.List.{AllByRecursion}
use Rattle.std.specs.Ordering.{nat_cmp, match_ordering}
use Rattle.std.specs.Cmp.Lexicographic.{slice_cmp, nat_list_cmp_total}
use Rattle.json.specs.Token.{Token}
use Rattle.json.specs.Lex.{tokens}
use Rattle.json.specs.Json as json
use Rattle.json.specs.Json.{if_last, value}
use Rattle.serde_json.specs.Data.{Num, Data, null, boolean, number, string, array, object, Items, Members, no_members, member, put}
use Rattle.serde_json.specs.Read.{number_of, of_json, of_items, of_members, max_depth, read}
use Rattle.steno_rules.specs.Outlines.{outline_cmp}
use Rattle.steno_rules.specs.Nodes.{by_order, insert_new}
use Rattle.steno_rules.proofs.Rising.{Rises, pairs_of_rises, insert_rises}
use Rattle.dict_json.specs.Reading.{names_of, Keyed, AreInOrder}

-- one text comes before the other by its bytes
abbrev pub Before : List ℕ → List ℕ → Type 0
Before a b = slice_cmp nat_cmp a b ≡ Less

-- a member goes to the place of its name
pub put_names : (k : List ℕ) (d : Data) (ms : Members) → names_of (put k d ms) ≡ insert_new (names_of ms) k
put_names k d no_members = refl
put_names k d (member l e ms) = by (slice_cmp nat_cmp k l) (put_names k d ms)
  where
    by : (o : Ordering) → names_of (put k d ms) ≡ insert_new (names_of ms) k → names_of (match_ordering o (member k d (member l e ms)) (member l d ms) (member l e (put k d ms)))
        ≡ by_order o (k ∷ l ∷ names_of ms) (l ∷ names_of ms) (l ∷ insert_new (names_of ms) k)
    by Less rest = refl
    by Equal rest = refl
    by Greater rest = ap (λ ns. l ∷ ns) rest

pub put_rises : (k : List ℕ) (d : Data) (ms : Members) → Rises Before (names_of ms) → Rises Before (names_of (put k d ms))
put_rises k d ms h = subst (Rises Before) (sym (put_names k d ms)) (insert_rises outline_cmp nat_list_cmp_total (names_of ms) k h)

-- ---- what is read

abbrev RiseIn : Option Members → Type 0
RiseIn None = ⊤
RiseIn (Some ms) = Rises Before (names_of ms)

of_members_rise : (ms : json.Members) (found : Members) → Rises Before (names_of found) → RiseIn (of_members ms found)
of_members_rise json.no_members found h = h
of_members_rise (json.member k j ms) found h = by (of_json j) (λ d. of_members_rise ms (put k d found) (put_rises k d found h))
  where
    by : (o : Option Data) → ((d : Data) → RiseIn (of_members ms (put k d found))) → RiseIn (option_and_then (λ d. of_members ms (put k d found)) o)
    by None f = tt
    by (Some d) f = f d

-- the names rise where the value is an object
abbrev Ordered : Option Data → Type 0
Ordered None = ⊤
Ordered (Some null) = ⊤
Ordered (Some (boolean b)) = ⊤
Ordered (Some (number x)) = ⊤
Ordered (Some (string s)) = ⊤
Ordered (Some (array ds)) = ⊤
Ordered (Some (object ms)) = Rises Before (names_of ms)

of_json_ordered : (j : json.Json) → Ordered (of_json j)
unfolding Rises
of_json_ordered json.null = tt
of_json_ordered (json.boolean b) = tt
of_json_ordered (json.number s) = by (number_of s)
  where
    by : (o : Option Num) → Ordered (option_map number o)
    by None = tt
    by (Some x) = tt
of_json_ordered (json.string s) = tt
of_json_ordered (json.array js) = by (of_items js)
  where
    by : (o : Option Items) → Ordered (option_map array o)
    by None = tt
    by (Some ds) = tt
of_json_ordered (json.object ms) = by (of_members ms no_members) (of_members_rise ms no_members tt)
  where
    by : (o : Option Members) → RiseIn o → Ordered (option_map object o)
    by None h = tt
    by (Some found) h = h

whole_ordered : (r : Option (json.Json × List Token)) → Ordered (option_and_then of_json (option_and_then (λ p. if_last p.0 p.1) r))
whole_ordered None = tt
whole_ordered (Some (j, [])) = of_json_ordered j
whole_ordered (Some (j, t ∷ ts)) = tt

pub read_rises : (text : List ℕ) (ms : Members) → read text ≡ Some (object ms) → Rises Before (names_of ms)
read_rises text ms e = subst Ordered e (whole_ordered (value max_depth (tokens text)))

-- ---- some of the keys

above_some : (p : Keyed → Bool) (x : List ℕ) (ps : List Keyed) → AllByRecursion (Before x) (map (λ q. q.key) ps) → AllByRecursion (Before x) (map (λ q. q.key) (filter p ps))
above_some p x [] h = tt
above_some p x (q ∷ ps) h = by (p q) (above_some p x ps h.1)
  where
    by : (b : Bool) → AllByRecursion (Before x) (map (λ (r : Keyed). r.key) (filter p ps)) → AllByRecursion (Before x) (map (λ (r : Keyed). r.key) (cond b (q ∷ filter p ps) (filter p ps)))
    by true rest = (h.0, rest)
    by false rest = rest

some_rise : (p : Keyed → Bool) (ps : List Keyed) → Rises Before (map (λ q. q.key) ps) → Rises Before (map (λ q. q.key) (filter p ps))
unfolding Rises
some_rise p [] h = tt
some_rise p (q ∷ ps) h = by (p q) (some_rise p ps h.1)
  where
    by : (b : Bool) → Rises Before (map (λ (r : Keyed). r.key) (filter p ps)) → Rises Before (map (λ (r : Keyed). r.key) (cond b (q ∷ filter p ps) (filter p ps)))
    by true rest = (above_some p q.key ps h.0, rest)
    by false rest = rest

pub some_in_order : (p : Keyed → Bool) (ps : List Keyed) → Rises Before (map (λ q. q.key) ps) → AreInOrder (map (λ q. q.key) (filter p ps))
some_in_order p ps h = pairs_of_rises Before (map (λ q. q.key) (filter p ps)) (some_rise p ps h)
