-- The lists of targets that are left.
use Rattle.std.proofs.Common.{if◌then◌else◌, ◌≡◌, ◌≢◌, ℕ, ◌+◌, ◌<◌, ◌≤◌, ◌^◌, List, [], ◌∷◌, ◌++◌, length, map, filter, flat_map, refl, sym, ap, subst, ◌∙◌, arith, Bool, true, false, inl, inr, ◌⊎◌, Option, Some, None, Contains, AllPairs, nat_eq, nat_le, nat_lt, ◌||◌}
use Rattle.std.proofs.lemmas.List.Elements.{filter-append}
use Rattle.std.proofs.lemmas.List.Kept.{AllPairs-filter}
use Rattle.std.proofs.lemmas.Bool.{cases_order, le-leb}
use Rattle.std.proofs.lemmas.Bool.Decides.{nat_tests}
use Rattle.steno_rules.specs.Outlines.{is_word}
use Rattle.steno_rules.specs.States.{State as Abstract, state_of, targets_by, targets, kept_targets, is_kept, strokes_in, later_mark, is_open}
use Rattle.steno_rules.proofs.Lists.{none_in_nil, in_cons, in_first, in_later, in_filter, pairs_cons, all_of}
use Rattle.closure_laws.proofs.RisingMaps.{Agree, same_within}
use Rattle.closure_laws.proofs.StrokeLemmas.{strokes_in-rising}
use Rattle.closure_laws.proofs.TargetLemmas.{move_stroke, some_there}
use Rattle.closure_laws.proofs.KeptLemmas.{target_window}
use Rattle.match_window.specs.Ends.{next_window}
use Rattle.outline_trie.specs.Tries.{IsNode, node_strokes}
use Rattle.outline_trie.proofs.LookLemmas.{root_is}
use Rattle.match_window.proofs.RowLemmas.{node_some}
use Rattle.closure_state.specs.declared.state.State.{State}
use Rattle.closure_state.specs.declared.step.Step.{Step}
use Rattle.closure_state.specs.declared.strokes.Strokes.{Strokes}
use Rattle.closure_state.specs.NodeStates.{state_at, IsNodeState}
use Rattle.closure_state.specs.inside.Rows.{AreStateRows, IsDepthCut, IsRowsStep, lists_all}
use Rattle.closure_state.specs.inside.Strokes.{AreStrokes, IsStrokesStep}
use Rattle.closure_state.specs.inside.Left.{targets_for, targets_from, IsRowState, IsDepthOf, IsChainDepth}

-- what is listed for a stroke stands among its targets
for_by : (all : Bool) (entries words : List (List ℕ)) (s : Abstract) (c : ℕ) → targets_for all entries words s c ≢ [] → targets_by entries words s c ≢ []
for_by true entries words s c some = some
for_by false entries words s c some = λ none. some (ap (filter (is_kept s)) none)

-- so its stroke is one of the words'
for_stroke : (all : Bool) (entries words : List (List ℕ)) (s : Abstract) (c : ℕ) → targets_for all entries words s c ≢ [] → Contains (strokes_in words) c
for_stroke all entries words s c some = let t = some_there entries words s c (for_by all entries words s c some) in move_stroke entries words s t.0 c t.1

-- the strokes from a bound on
from_on : ℕ → List ℕ → List ℕ
from_on bound cs = filter (λ c. nat_le bound c) cs

told_le : (a b : ℕ) → nat_le a b ≡ true → a ≤ b
told_le a b h = grind (arith, nat_tests)

in_from : (bound : ℕ) (cs : List ℕ) (c : ℕ) → Contains (from_on bound cs) c → Contains cs c × (bound ≤ c)
unfolding from_on
in_from bound cs c has = let both = (in_filter (λ c. nat_le bound c) cs c).0 has in (both.0, told_le bound c both.1)

in_from_of : (bound : ℕ) (cs : List ℕ) (c : ℕ) → Contains cs c → bound ≤ c → Contains (from_on bound cs) c
unfolding from_on
in_from_of bound cs c has up = (in_filter (λ c. nat_le bound c) cs c).1 (has, le-leb bound c up)

rising_from : (bound : ℕ) (cs : List ℕ) → AllPairs (λ a b. a < b) cs → AllPairs (λ a b. a < b) (from_on bound cs)
unfolding from_on
rising_from bound cs rising = AllPairs-filter (λ a b. a < b) (λ c. nat_le bound c) cs rising

-- The targets from a bound on are those by the next stroke and those from behind it on.
pub from_step : (all : Bool) (entries words : List (List ℕ)) (s : Abstract) (bound code : ℕ) → bound ≤ code → ((c : ℕ) → bound ≤ c → c < code → targets_for all entries words s c ≡ []) →
    targets_from all entries words s bound ≡ targets_for all entries words s code ++ targets_from all entries words s (code + 1)
unfolding Agree from_on
from_step all entries words s bound code up none =
    let cs : List ℕ = strokes_in words in
    let f : ℕ → List Abstract = targets_for all entries words s in
    let rising = strokes_in-rising words in
    same_within (length (from_on bound cs) + length (code ∷ from_on (code + 1) cs)) f (from_on bound cs) (code ∷ from_on (code + 1) cs) (omega arith) (rising_from bound cs rising)
    (pairs_cons (λ a b. a < b) code (from_on (code + 1) cs) (all_of (λ c. code < c) (from_on (code + 1) cs) (λ c has. (let past = in_from (code + 1) cs c has in omega (arith, past.1)))) (rising_from (code + 1) cs rising))
    (λ c some. (
      λ has. (let past = in_from bound cs c has in elim (cases_order c code) [
        | inl is ↦ subst (λ k. Contains (code ∷ from_on (code + 1) cs) k) (sym is) (in_first code (from_on (code + 1) cs))
        | inr (inl lt) ↦ absurd (some (none c past.1 lt))
        | inr (inr gt) ↦ in_later code (from_on (code + 1) cs) c (in_from_of (code + 1) cs c past.0 (omega arith))
      ]),
      λ has. in_from_of bound cs c (for_stroke all entries words s c some) (elim (in_cons code (from_on (code + 1) cs) c has) [
        | inl is ↦ omega (arith, up, is)
        | inr later ↦ let past = in_from (code + 1) cs c later in omega (arith, up, past.1)
      ]),
    ))

-- Where no stroke from a bound on has targets none are left.
pub from_done : (all : Bool) (entries words : List (List ℕ)) (s : Abstract) (bound : ℕ) → ((c : ℕ) → bound ≤ c → targets_for all entries words s c ≡ []) → targets_from all entries words s bound ≡ []
unfolding Agree from_on
from_done all entries words s bound none =
    let cs : List ℕ = strokes_in words in
    same_within (length (from_on bound cs)) (targets_for all entries words s) (from_on bound cs) [] (omega arith) (rising_from bound cs (strokes_in-rising words)) (λ i j d l f. absurd (omega (arith, l, f)))
    (λ c some. (λ has. absurd (some (none c (in_from bound cs c has).1)), λ has. absurd (none_in_nil c has)))

-- all strokes are those from 0 on
from_all : (cs : List ℕ) → filter (λ c. nat_le 0 c) cs ≡ cs
from_all [] = refl
from_all (c ∷ cs) = rw (le-leb 0 c (omega arith)) (ap (λ l. c ∷ l) (from_all cs))

-- All targets are those from the first stroke on,
pub from_start : (entries words : List (List ℕ)) (s : Abstract) → targets_from true entries words s 0 ≡ targets entries words s
from_start entries words s = ap (flat_map (targets_by entries words s)) (from_all (strokes_in words))

-- what passes a test of joined lists
filter_joined : {X Y : Type 0} (p : Y → Bool) (f : X → List Y) (xs : List X) → flat_map (λ x. filter p (f x)) xs ≡ filter p (flat_map f xs)
filter_joined p f [] = refl
filter_joined p f (x ∷ xs) = ap (λ l. filter p (f x) ++ l) (filter_joined p f xs) ∙ sym (filter-append p (f x) (flat_map f xs))

-- and so the kept ones.
pub from_start_kept : (entries words : List (List ℕ)) (s : Abstract) → targets_from false entries words s 0 ≡ kept_targets entries words s
from_start_kept entries words s = ap (flat_map (λ c. filter (is_kept s) (targets_by entries words s c))) (from_all (strokes_in words)) ∙ filter_joined (is_kept s) (targets_by entries words s) (strokes_in words)

-- where all pass a test nothing is dropped
filter_all : {X : Type 0} (p : X → Bool) (xs : List X) → ((x : X) → Contains xs x → p x ≡ true) → filter p xs ≡ xs
filter_all p [] h = refl
filter_all p (x ∷ xs) h = rw (h x (in_first x xs)) (ap (λ l. x ∷ l) (filter_all p xs (λ y has. h y (in_later x xs y has))))

-- and where none passes nothing is left
filter_none : {X : Type 0} (p : X → Bool) (xs : List X) → ((x : X) → Contains xs x → p x ≡ false) → filter p xs ≡ []
filter_none p [] h = refl
filter_none p (x ∷ xs) h = rw (h x (in_first x xs)) (filter_none p xs (λ y has. h y (in_later x xs y has)))

kept_all : (u v w : ℕ) → (u ≡ 0) ⊎ (0 < v) → (nat_eq u 0 || nat_lt 0 v || nat_le 2 w) ≡ true
kept_all u v w h = grind (arith, nat_tests)

-- From fresh and with an open word all targets are kept.
pub kept_is_all : (entries words : List (List ℕ)) (s : Abstract) → (length s.u ≡ 0) ⊎ (0 < length s.v) → kept_targets entries words s ≡ targets entries words s
kept_is_all entries words s h = filter_all (is_kept s) (targets entries words s) (λ t has. kept_all (length s.u) (length s.v) (length t.u) h)

-- ---- where a window of few strokes has no targets

-- a mark that is left behind
no_later : (m d : ℕ) (u : List ℕ) → d ≡ m + 1 → length u ≤ d → later_mark (Some m) u ≡ []
no_later m d u is short = let test : nat_lt (m + 1) (length u) ≡ false = grind (arith, nat_tests) in rw test refl

-- With a mark, by a stroke that leads to a window of at most m + 1 strokes there is no target.
marked_short : (entries words : List (List ℕ)) (u v : List ℕ) (m d c : ℕ) → d ≡ m + 1 → length (next_window entries u c) ≤ d → targets_by entries words (state_of u v (Some m)) c ≡ []
marked_short entries words u v m d c is short =
    let none : later_mark (Some m) (next_window entries u c) ≡ [] = no_later m d (next_window entries u c) is short in
    rw none (both_nil (is_open words (v ++ c ∷ [])) (is_word words (v ++ c ∷ [])))
  where
    both_nil : (a b : Bool) → (if a then (map (state_of (next_window entries u c) (v ++ c ∷ [])) []) else []) ++ (if b then (map (state_of (next_window entries u c) []) ([] ++ [])) else []) ≡ []
    both_nil true true = refl
    both_nil true false = refl
    both_nil false true = refl
    both_nil false false = refl

-- what a target with a short window isn't
not_kept : (u v w : ℕ) → 0 < u → v ≡ 0 → w ≤ 1 → (nat_eq u 0 || nat_lt 0 v || nat_le 2 w) ≡ false
not_kept u v w a b c = grind (arith, nat_tests)

far_kept : (u v w : ℕ) → 2 ≤ w → (nat_eq u 0 || nat_lt 0 v || nat_le 2 w) ≡ true
far_kept u v w h = grind (arith, nat_tests)

-- By a stroke that leads to a window of two strokes all targets are kept.
kept_long : (entries words : List (List ℕ)) (s : Abstract) (c : ℕ) → 2 ≤ length (next_window entries s.u c) → targets_for false entries words s c ≡ targets_by entries words s c
kept_long entries words s c long = filter_all (is_kept s) (targets_by entries words s c) (λ t has. far_kept (length s.u) (length s.v) (length t.u) (omega (arith, long, ap length (target_window entries words s t c has))))

-- So a chain's strokes are those that have kept targets: with a mark,
pub cut_marked : (entries words : List (List ℕ)) (u v : List ℕ) (m d : ℕ) → d ≡ m + 1 → IsDepthCut entries words (state_of u v (Some m)) d
cut_marked entries words u v m d is = record {
  short = λ c short. ap (filter (is_kept (state_of u v (Some m)))) (marked_short entries words u v m d c is short);
  long = λ c long. kept_long entries words (state_of u v (Some m)) c (omega (arith, is, long));
}

-- and between two words.
pub cut_plain : (entries words : List (List ℕ)) (s : Abstract) (d : ℕ) → d ≡ 1 → 0 < length s.u → length s.v ≡ 0 → IsDepthCut entries words s d
cut_plain entries words s d is some none = record {
  short = λ c short. filter_none (is_kept s) (targets_by entries words s c) (λ t has. not_kept (length s.u) (length s.v) (length t.u) some none (omega (arith, is, short, ap length (target_window entries words s t c has))));
  long = λ c long. kept_long entries words s c (omega (arith, is, long));
}

-- ---- a step by a stroke

-- The next stroke of those that are left,
pub strokes_found : (entries words : List (List ℕ)) (s : State) (old new : Strokes) (o : Option Step) (step : Step) → o ≡ Some step → lists_all new.rows ≡ lists_all old.rows → new.bound ≡ step.code + 1 → new.bound ≤ 2 ^ 32 →
    IsRowsStep entries words s old.bound o new.rows → IsStrokesStep entries words s old (Some step) new
strokes_found entries words s old new o step some kind bound fits h =
    let all : Bool = lists_all new.rows in
    let k : IsRowsStep entries words s old.bound (Some step) new.rows = subst (λ o. IsRowsStep entries words s old.bound o new.rows) some h in (
      k.0,
      ap (λ b. targets_from b entries words (state_at entries s) old.bound) (sym kind)
          ∙ from_step all entries words (state_at entries s) old.bound step.code k.0.from k.1
          ∙ ap (λ l. l ++ targets_from all entries words (state_at entries s) (step.code + 1)) k.2
          ∙ ap (λ n. targets_by entries words (state_at entries s) step.code ++ targets_from all entries words (state_at entries s) n) (sym bound),
      omega (arith, bound, k.0.from),
      record { fits = fits; rows_are = subst (λ n. AreStateRows entries words s n new.rows) (sym bound) k.3 },
    )

-- and where none is left no target is.
pub strokes_done : (entries words : List (List ℕ)) (s : State) (old new : Strokes) (o : Option Step) → o ≡ None → lists_all new.rows ≡ lists_all old.rows → new.bound ≡ old.bound → AreStrokes entries words s old →
    IsRowsStep entries words s old.bound o new.rows → IsStrokesStep entries words s old None new
strokes_done entries words s old new o none kind bound are h =
    let all : Bool = lists_all new.rows in
    let k : IsRowsStep entries words s old.bound None new.rows = subst (λ o. IsRowsStep entries words s old.bound o new.rows) none h in
    let left : targets_from all entries words (state_at entries s) old.bound ≡ [] = from_done all entries words (state_at entries s) old.bound k.0 in (
      ap (λ b. targets_from b entries words (state_at entries s) old.bound) (sym kind) ∙ left,
      ap (λ n. targets_from all entries words (state_at entries s) n) bound ∙ left,
      record { fits = omega (arith, bound, are.fits); rows_are = subst (λ n. AreStateRows entries words s n new.rows) (sym bound) k.1 },
    )

-- ---- which strokes a state needs

-- a node that isn't the root has strokes
some_strokes : (entries : List (List ℕ)) (node : ℕ) → IsNode entries node → (node ≡ 0 → ⊥) → 0 < length (node_strokes entries node)
some_strokes entries node inside other = by (node_strokes entries node) (node_some entries node inside other)
  where
    by : (x : List ℕ) → x ≢ [] → 0 < length x
    by [] some = absurd (some refl)
    by (c ∷ x) some = omega arith

root_length : (entries : List (List ℕ)) (node : ℕ) → node ≡ 0 → length (node_strokes entries node) ≡ 0
root_length entries node root = ap (λ n. length (node_strokes entries n)) root ∙ ap length (root_is entries)

-- In a row all targets are kept.
pub kept_in_row : (entries words : List (List ℕ)) (s : State) → IsNodeState entries words s → IsRowState s → kept_targets entries words (state_at entries s) ≡ targets entries words (state_at entries s)
kept_in_row entries words s is (inl root) = kept_is_all entries words (state_at entries s) (inl (root_length entries s.window root))
kept_in_row entries words s is (inr other) = kept_is_all entries words (state_at entries s) (inr (some_strokes entries s.word is.word other))

-- A chain's depth is at least one,
pub depth_some : (s : State) (d : ℕ) → IsChainDepth s d → 1 ≤ d
depth_some s d h = by s.mark h.depth
  where
    by : (m : Option ℕ) → IsDepthOf m s.word d → 1 ≤ d
    by None k = omega (arith, k.1)
    by (Some m) k = omega (arith, k)

-- and cuts off what has no kept targets.
pub cut_of_depth : (entries words : List (List ℕ)) (s : State) (d : ℕ) → IsNodeState entries words s → IsChainDepth s d → IsDepthCut entries words (state_at entries s) d
cut_of_depth entries words s d is h = by s.mark h.depth
  where
    by : (m : Option ℕ) → IsDepthOf m s.word d → IsDepthCut entries words (state_of (node_strokes entries s.window) (node_strokes entries s.word) m) d
    by None k = cut_plain entries words (state_of (node_strokes entries s.window) (node_strokes entries s.word) None) d k.1 (some_strokes entries s.window is.window h.window) (root_length entries s.word k.0)
    by (Some m) k = cut_marked entries words (node_strokes entries s.window) (node_strokes entries s.word) m d k
