-- The numbers of the targets by one stroke.
use Rattle.std.proofs.Common.{◌≡◌, ℕ, ◌+◌, ◌-◌, ◌<◌, List, [], ◌∷◌, ◌++◌, length, map, refl, sym, ap, ap₂, subst, ◌∙◌, arith, Bool, true, false, true≢false, ◌&&◌, if◌then◌else◌, Option, Some, None, append-nil, length-append, Contains, is_some}
use Rattle.std.specs.Prelude.{MatchOption}
use Rattle.std.proofs.lemmas.List.{get_or_default, length-drop, map-append}
use Rattle.steno_rules.specs.Nodes.{nodes}
use Rattle.steno_rules.specs.Outlines.{is_word}
use Rattle.steno_rules.specs.States.{is_open}
use Rattle.steno_rules.specs.StateNumbers.{place_of}
use Rattle.steno_rules.proofs.NodeLemmas.{nodes-rising}
use Rattle.steno_rules.proofs.Numbers.{outline_of-once}
use Rattle.closure_laws.proofs.StateNumberLemmas.{place_inside, place_there}
use Rattle.closure_state.specs.Waits.{some_listed}
use Rattle.outline_trie.specs.Tries.{IsNode, node_strokes}
use Rattle.reading_laws.specs.Forks.{Fork, Same, Differ, End, targets_of_same, targets_of_two}
use Rattle.reading_laws.specs.ForkNumbers.{end_number, fork_number, fork_start}
use Rattle.reading_laws.proofs.ForkNumberLemmas.{start-number}
use Rattle.steno_rules.specs.Outlines.{AreWords, entry_number}
use Rattle.steno_rules.specs.Windows.{is_prefix}
use Rattle.steno_rules.proofs.Numbers.{entry_number-Some}
use Rattle.steno_rules.proofs.Prefixes.{is_prefix-entry}
use Rattle.steno_rules.proofs.Words.{is_prefix-open, word_is_entry}
use Rattle.outline_trie.proofs.LookLemmas.{node_test}
use Rattle.reading_laws.specs.ChosenReadings.{final_stroke}
use Rattle.free_parse.specs.Cursors.{AreForkNumbers, IsChildOf}
use Rattle.free_parse.specs.inside.Forks.{targets_to}
use Rattle.free_parse.specs.inside.Waits.{IsTakenFrom, number_if}

-- ---- numbers

-- a node's place is its number
place_node : (entries : List (List ℕ)) (node : ℕ) → IsNode entries node → place_of (nodes entries) (node_strokes entries node) ≡ node
place_node entries node inside =
    let z : List ℕ = node_strokes entries node in
    let has : Contains (nodes entries) z = (node, inside, get_or_default (nodes entries) node _ [] inside) in
    outline_of-once (nodes entries) (place_of (nodes entries) z) node (nodes-rising entries) (place_inside (nodes entries) z has) inside (place_there (nodes entries) z has)

-- The numbers of the forks of a node.
pub number_same : (entries : List (List ℕ)) (node : ℕ) → IsNode entries node → fork_number entries (Same (node_strokes entries node)) ≡ fork_start (nodes entries) node
number_same entries node inside = ap (fork_start (nodes entries)) (place_node entries node inside)

pub number_two : (entries : List (List ℕ)) (node : ℕ) (q : List ℕ) → IsNode entries node → fork_number entries (Differ (node_strokes entries node) q) ≡ fork_start (nodes entries) node + (length q + 1)
number_two entries node q inside = ap (λ k. fork_start (nodes entries) k + (length q + 1)) (place_node entries node inside)

-- ---- lists

-- a number that a flag lets in
listed : (entries : List (List ℕ)) (b : Bool) (s : Fork) (n : ℕ) → fork_number entries s ≡ n → some_listed (number_if b n) ≡ map (fork_number entries) (if b then (s ∷ []) else [])
listed entries true s n is = ap (λ k. k ∷ []) (sym is)
listed entries false s n is = refl

three : (f : Fork → ℕ) (a b c : List Fork) → map f (a ++ (b ++ c)) ≡ map f a ++ (map f b ++ map f c)
three f a b c = map-append f a (b ++ c) ∙ ap (λ l. map f a ++ l) (map-append f b c)

four : (f : Fork → ℕ) (a b c d : List Fork) → map f (a ++ (b ++ (c ++ d))) ≡ map f a ++ (map f b ++ (map f c ++ map f d))
four f a b c d = map-append f a (b ++ (c ++ d)) ∙ ap (λ l. map f a ++ l) (three f b c d)

-- The targets of a fork of one open word.
pub numbers_of_same : (entries words : List (List ℕ)) (child start : ℕ) (o e : Bool) → o ≡ is_open words (node_strokes entries child) → e ≡ is_word words (node_strokes entries child) → IsNode entries child →
    start ≡ fork_start (nodes entries) child →
    some_listed (number_if o start) ++ (some_listed (number_if e 0) ++ (some_listed (number_if (o && e) (start + 1)) ++ [])) ≡ map (fork_number entries) (targets_of_same words (node_strokes entries child))
numbers_of_same entries words child start o e opens ends inside begins =
    let z : List ℕ = node_strokes entries child in
    let a : List Fork = if o then (Same z ∷ []) else [] in
    let b : List Fork = if e then (Same [] ∷ []) else [] in
    let c : List Fork = if o && e then (Differ z [] ∷ []) else [] in
    ap₂ (λ x y. x ++ y) (listed entries o (Same z) start (number_same entries child inside ∙ sym begins))
    (ap₂ (λ x y. x ++ y) (listed entries e (Same []) 0 (start-number entries))
    (append-nil (some_listed (number_if (o && e) (start + 1))) ∙ listed entries (o && e) (Differ z []) (start + 1) (number_two entries child [] inside ∙ omega (arith, begins))))
    ∙ sym (three (fork_number entries) a b c)
    ∙ ap₂ (λ x y. map (fork_number entries) ((if x then (Same z ∷ []) else []) ++ ((if y then (Same [] ∷ []) else []) ++ (if x && y then (Differ z [] ∷ []) else [])))) opens ends

-- The targets of a fork of two.
pub numbers_of_two : (entries words : List (List ℕ)) (longer shorter start other depth end : ℕ) (lo le so se : Bool) → lo ≡ is_open words (node_strokes entries longer) → le ≡ is_word words (node_strokes entries longer) →
    so ≡ is_open words (node_strokes entries shorter) → se ≡ is_word words (node_strokes entries shorter) → IsNode entries longer → IsNode entries shorter →
    start ≡ fork_start (nodes entries) longer → other ≡ fork_start (nodes entries) shorter → depth ≡ length (node_strokes entries shorter) → end ≡ end_number entries →
    some_listed (number_if (lo && so) (start + 1 + depth)) ++ (some_listed (number_if (lo && se) (start + 1)) ++ (some_listed (number_if (so && le) (other + 1)) ++ some_listed (number_if (le && se) end)))
    ≡ map (fork_number entries) (targets_of_two words (node_strokes entries longer) (node_strokes entries shorter))
numbers_of_two entries words longer shorter start other depth end lo le so se a b c d inside within begins also long last =
    let v : List ℕ = node_strokes entries longer in
    let w : List ℕ = node_strokes entries shorter in
    ap₂ (λ x y. x ++ y) (listed entries (lo && so) (Differ v w) (start + 1 + depth) (number_two entries longer w inside ∙ omega (arith, begins, long)))
    (ap₂ (λ x y. x ++ y) (listed entries (lo && se) (Differ v []) (start + 1) (number_two entries longer [] inside ∙ omega (arith, begins)))
    (ap₂ (λ x y. x ++ y) (listed entries (so && le) (Differ w []) (other + 1) (number_two entries shorter [] within ∙ omega (arith, also)))
    (listed entries (le && se) End end (sym last))))
    ∙ sym (four (fork_number entries) (if lo && so then (Differ v w ∷ []) else []) (if lo && se then (Differ v [] ∷ []) else []) (if so && le then (Differ w [] ∷ []) else []) (if le && se then (End ∷ []) else []))
    ∙ ap₂ (λ x y. map (fork_number entries) ((if x && so then (Differ v w ∷ []) else []) ++ ((if x && se then (Differ v [] ∷ []) else []) ++ ((if so && y then (Differ w [] ∷ []) else []) ++ (if y && se then (End ∷ []) else []))))) a b
    ∙ ap₂ (λ x y. map (fork_number entries)
    ((if is_open words v && x then (Differ v w ∷ []) else []) ++ ((if is_open words v && y then (Differ v [] ∷ []) else []) ++ ((if x && is_word words v then (Differ w [] ∷ []) else []) ++ (if is_word words v && y then (End ∷ []) else []))))) c d

-- ---- by a child

-- what is no node is neither open nor a word
not_begun : (entries : List (List ℕ)) (w : List ℕ) → entry_number (nodes entries) w ≡ None → is_prefix entries w ≡ true → ⊥
not_begun entries w none begins = true≢false (sym begins ∙ sym (node_test entries w) ∙ ap is_some none)

-- A list that is no node can't be open,
pub shut_none : (entries words : List (List ℕ)) (w : List ℕ) → AreWords entries words → entry_number (nodes entries) w ≡ None → is_open words w ≡ false
shut_none entries words w are none = by (is_open words w) refl
  where
    by : (b : Bool) → is_open words w ≡ b → b ≡ false
    by false e = refl
    by true e = absurd (not_begun entries w none (is_prefix-open entries words w are e))

-- and it is no word.
pub no_word_none : (entries words : List (List ℕ)) (w : List ℕ) → AreWords entries words → entry_number (nodes entries) w ≡ None → is_word words w ≡ false
no_word_none entries words w are none = by (is_word words w) refl
  where
    by : (b : Bool) → is_word words w ≡ b → b ≡ false
    by false e = refl
    by true e = absurd (not_begun entries w none (is_prefix-entry entries w (word_is_entry entries words w are e)))

nothing : (a b : Bool) (s t r u : Fork) → (if a && false then (s ∷ []) else []) ++ ((if a && false then (t ∷ []) else []) ++ ((if false && b then (r ∷ []) else []) ++ (if b && false then (u ∷ []) else []))) ≡ []
nothing true true s t r u = refl
nothing true false s t r u = refl
nothing false true s t r u = refl
nothing false false s t r u = refl

none_listed : (a b c d : Bool) (s t r u : Fork) → c ≡ false → d ≡ false → (if a && c then (s ∷ []) else []) ++ ((if a && d then (t ∷ []) else []) ++ ((if c && b then (r ∷ []) else []) ++ (if b && d then (u ∷ []) else []))) ≡ []
none_listed a b c d s t r u h k =
    ap₂ (λ x y. (if a && x then (s ∷ []) else []) ++ ((if a && y then (t ∷ []) else []) ++ ((if x && b then (r ∷ []) else []) ++ (if b && y then (u ∷ []) else [])))) h k ∙ nothing a b s t r u

-- Where the shorter word and the stroke are no node, there is no target.
pub no_targets_to : (entries words : List (List ℕ)) (q child : ℕ) → AreWords entries words → None ≡ entry_number (nodes entries) (node_strokes entries q ++ final_stroke (node_strokes entries child)) → targets_to entries words (Some q) child ≡ []
no_targets_to entries words q child are none =
    let v : List ℕ = node_strokes entries child in
    let w : List ℕ = node_strokes entries q ++ final_stroke v in
    none_listed (is_open words v) (is_word words v) (is_open words w) (is_word words w) (Differ v w) (Differ v []) (Differ w []) End (shut_none entries words w are (sym none)) (no_word_none entries words w are (sym none))

-- the last stroke of a node that isn't the root is one
last_one : (x : List ℕ) → 0 < length x → length (final_stroke x) ≡ 1
last_one x some = omega (arith, length-drop (length x - 1) x, some)

-- Where they are one, it is shorter than the child.
pub record IsOther (entries : List (List ℕ)) (q child other : ℕ) : Type 0 where
  pub node_is : IsNode entries other
  pub is : node_strokes entries other ≡ node_strokes entries q ++ final_stroke (node_strokes entries child)
  pub fewer : length (node_strokes entries other) < length (node_strokes entries child)

pub other_is : (entries : List (List ℕ)) (q child other : ℕ) → IsChildOf entries (Some q) child → Some other ≡ entry_number (nodes entries) (node_strokes entries q ++ final_stroke (node_strokes entries child)) → IsOther entries q child other
other_is entries q child other h found =
    let x : List ℕ = node_strokes entries q in
    let v : List ℕ = node_strokes entries child in
    let at = entry_number-Some (nodes entries) (x ++ final_stroke v) other (sym found) in
    record { node_is = at.0; is = at.1; fewer = omega (arith, ap length at.1, length-append x (final_stroke v), last_one v (omega (arith, h.2)), h.2) }

-- ---- bounds

all_joined : (bound : ℕ) (xs ys : List ℕ) → AreForkNumbers bound xs → AreForkNumbers bound ys → AreForkNumbers bound (xs ++ ys)
all_joined bound [] ys h k = k
all_joined bound (x ∷ xs) ys h k = (h.0, all_joined bound xs ys h.1 k)

let_in : (bound : ℕ) (b : Bool) (n : ℕ) → n < bound → AreForkNumbers bound (some_listed (number_if b n))
let_in bound true n l = (l, tt)
let_in bound false n l = tt

-- Four numbers below a bound, some of which are let in.
pub four_below : (bound : ℕ) (a b c d : Bool) (i j k l : ℕ) → i < bound → j < bound → k < bound → l < bound →
    AreForkNumbers bound (some_listed (number_if a i) ++ (some_listed (number_if b j) ++ (some_listed (number_if c k) ++ some_listed (number_if d l))))
four_below bound a b c d i j k l p q r s =
    all_joined bound (some_listed (number_if a i)) _ (let_in bound a i p) (all_joined bound (some_listed (number_if b j)) _ (let_in bound b j q) (all_joined bound (some_listed (number_if c k)) (some_listed (number_if d l)) (let_in bound c k r) (let_in bound d l s)))

-- What is taken of such numbers is one.
pub taken_below : (bound : ℕ) (old : List ℕ) (o : Option ℕ) (new : List ℕ) → IsTakenFrom old o new → AreForkNumbers bound old → MatchOption o (Unit {0}) (λ t. t < bound)
taken_below bound old None new h all = tt
taken_below bound old (Some t) new h all = (subst (AreForkNumbers bound) h all).0
