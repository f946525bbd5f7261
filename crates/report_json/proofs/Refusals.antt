-- A part of a value that is refused refuses the whole.
use Rattle.std.proofs.Common.{ℕ, ◌≡◌, ◌+◌, ◌<◌, ◌∙◌, List, [], ◌∷◌, ◌++◌, All, Result, Err, IfErr, Some, ap, sym, refl, subst, arith, get_or, length, map, take, zero, suc}
use Rattle.std.specs.Prelude.{option_and_then}
use Rattle.std.proofs.lemmas.List.{map-append, take_more, length-map}
use Rattle.std.proofs.lemmas.List.Elements.{All-get_or}
use Rattle.serde_json.specs.Data.{Data, Members, array, boolean, float, item, member, negative, no_items, no_members, null, number, object, string, unsigned}
use Rattle.serde_json.specs.Find.{as_number, as_u64}
use Rattle.serde_json.specs.View.{items_of}
use Rattle.report_json.specs.JsonReports.{number_value}
use Rattle.report_json.specs.inside.Readings.{IsPartRefused}
use Rattle.report_json.specs.declared.faults.JsonFault.{JsonFault}
use Rattle.report_json.specs.declared.faults.JsonFault.TheVariants.{NotJson, NotReport, Memory}

-- ---- exits

-- what the whole is made of has such a part
abbrev pub HasPart : {A B V W : Type 0} → (A → Type 0) → (B → Type 0) → (A → V) → (B → W) → V → W → Type 0
HasPart {A} {B} IsPart IsWhole part_of whole_of part whole = (b : B) → IsWhole b → whole ≡ whole_of b → (a : A) × (IsPart a × (part ≡ part_of a))

pub refused_by : {A B V W : Type 0} (IsPart : A → Type 0) (IsWhole : B → Type 0) (part_of : A → V) (whole_of : B → W) (part : V) (whole : W) (fault : JsonFault)
    → HasPart IsPart IsWhole part_of whole_of part whole → IsPartRefused IsPart part_of part fault → IsPartRefused IsWhole whole_of whole fault
refused_by IsPart IsWhole part_of whole_of part whole NotJson has h = h
refused_by IsPart IsWhole part_of whole_of part whole NotReport has h = λ b is e. let p = has b is e in h p.0 p.1.0 p.1.1
refused_by IsPart IsWhole part_of whole_of part whole Memory has h = tt

-- the refusal of a part is handed on
pub exit_by : {A B V W R : Type 0} (IsPart : A → Type 0) (IsWhole : B → Type 0) (part_of : A → V) (whole_of : B → W) (part : V) (whole : W) (result : Result R JsonFault) (made fault : JsonFault)
    → result ≡ Err made → made ≡ fault → HasPart IsPart IsWhole part_of whole_of part whole → IsPartRefused IsPart part_of part fault → IfErr result (IsPartRefused IsWhole whole_of whole)
exit_by {R = R} IsPart IsWhole part_of whole_of part whole result made fault is by has h =
    subst (λ (r : Result R JsonFault). IfErr r (IsPartRefused IsWhole whole_of whole)) (sym (is ∙ ap Err by)) (refused_by IsPart IsWhole part_of whole_of part whole fault has h)

-- ---- lists

items_same : (xs ys : List Data) → items_of xs ≡ items_of ys → xs ≡ ys
items_same [] [] e = refl
items_same [] (y ∷ ys) e = absurd (apart e)
  where
    apart : no_items ≡ item y (items_of ys) → ⊥
    apart e = cc
items_same (x ∷ xs) [] e = absurd (apart e)
  where
    apart : item x (items_of xs) ≡ no_items → ⊥
    apart e = cc
items_same (x ∷ xs) (y ∷ ys) e =
    let first : x ≡ y = cc in
    let rest : items_of xs ≡ items_of ys = cc in
    ap (λ l. x ∷ l) (items_same xs ys rest) ∙ ap (λ d. d ∷ ys) first

pub array_same : (xs ys : List Data) → array (items_of xs) ≡ array (items_of ys) → xs ≡ ys
array_same xs ys e =
    let same : items_of xs ≡ items_of ys = cc in
    items_same xs ys same

get-map : {X Y : Type 0} (f : X → Y) (xs : List X) (i : ℕ) (x : X) (y : Y) → i < length xs → get_or (map f xs) i y ≡ f (get_or xs i x)
get-map f [] i x y inside = absurd (omega arith)
get-map f (z ∷ xs) zero x y inside = refl
get-map f (z ∷ xs) (suc i) x y inside = get-map f xs i x y (omega arith)

-- the next value of a list belongs to the list
pub next_has : {A X : Type 0} (Is : A → Type 0) (view : X → Data) (made : A → Data) (values : List X) (i : ℕ) (x : X) → i < length values → x ≡ get_or values i x
    → HasPart Is (All Is) made (map made) (view x) (map view values)
next_has {A} {X} Is view made values i x inside at = λ all are same. of all are same (omega (arith, inside, ap length same, length-map values view, length-map all made))
  where
    of : (all : List A) → All Is all → map view values ≡ map made all → i < length all → (a : A) × (Is a × (view x ≡ made a))
    of [] are same within = absurd (omega arith)
    of (first ∷ rest) are same within =
        let all = first ∷ rest in (
          get_or all i first,
          (
            All-get_or Is all i first within are,
            ap view at ∙ sym (get-map view values i x (view x) inside) ∙ ap (λ l. get_or l i (view x)) same ∙ get-map made all i first (view x) within,
          ),
        )

-- one more of a list
pub next_made : {A X Y : Type 0} (view : X → Y) (made : A → Y) (values : List X) (i : ℕ) (x : X) (so_far next : List A) (a : A) → i < length values → x ≡ get_or values i x
    → map view (take i values) ≡ map made so_far → view x ≡ made a → next ≡ so_far ++ a ∷ [] → map view (take (i + 1) values) ≡ map made next
next_made view made values i x so_far next a inside at before is more =
    ap (map view) (take_more values i x inside) ∙ map-append view (take i values) (get_or values i x ∷ [])
    ∙ ap (λ l. map view (take i values) ++ view l ∷ []) (sym at)
    ∙ ap (λ l. map view (take i values) ++ l ∷ []) is
    ∙ ap (λ l. l ++ made a ∷ []) before
    ∙ sym (map-append made so_far (a ∷ [])) ∙ ap (map made) (sym more)

-- ---- numbers

pub whole_number : (value : Data) (n : ℕ) → Some n ≡ option_and_then as_u64 (as_number value) → value ≡ number_value n
whole_number null n e = absurd cc
whole_number (boolean b) n e = absurd cc
whole_number (number (unsigned m)) n e =
    let same : n ≡ m = cc in
    ap number_value (sym same)
whole_number (number (negative z)) n e = absurd cc
whole_number (number (float x)) n e = absurd cc
whole_number (string s) n e = absurd cc
whole_number (array ds) n e = absurd cc
whole_number (object ms) n e = absurd cc

-- ---- members

-- of an object's value the members are known
pub members_same : {value : Data} (at next : Members) → value ≡ object at → value ≡ object next → at ≡ next
members_same at next e f =
    let same : object at ≡ object next = sym e ∙ f in
    cc

rest_of : Members → Members
rest_of no_members = no_members
rest_of (member name value rest) = rest

-- what stands behind the first name
pub behind : (name : List ℕ) (at rest next : Members) (a b : Data) → at ≡ member name a rest → at ≡ member name b next → rest ≡ next
unfolding rest_of
behind name at rest next a b e f = ap rest_of (sym e ∙ f)
