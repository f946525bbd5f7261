-- The targets of a fork by the children of its longer node.
use Rattle.std.proofs.Common.{◌≡◌, ℕ, zero, suc, ◌+◌, ◌*◌, ◌<◌, ◌≤◌, List, [], ◌∷◌, ◌++◌, length, map, flat_map, refl, sym, ap, ap₂, subst, ◌∙◌, arith, Bool, true, false, ◌&&◌, cond, if◌then◌else◌, Option, Some, None, IfSome, AllPairs, Contains, inl, inr, length-append, Less}
use Rattle.std.specs.List.{AllByRecursion}
use Rattle.std.specs.Ordering.{nat_cmp}
use Rattle.std.specs.Cmp.{nat_cmp_is}
use Rattle.std.specs.declared.cmp.Ordering.TheVariants.{Greater, Equal}
use Rattle.std.proofs.lemmas.Bool.{cases_order}
use Rattle.std.proofs.lemmas.List.{get_or_default, length-map, length_push, map-append, same_from_push}
use Rattle.graph_rules.specs.Graphs.{row}
use Rattle.steno_rules.specs.Nodes.{nodes}
use Rattle.steno_rules.specs.Outlines.{AreWords, is_word, outline_cmp, outline_of}
use Rattle.steno_rules.specs.States.{is_open, strokes_in}
use Rattle.steno_rules.specs.Windows.{is_prefix}
use Rattle.steno_rules.proofs.Lists.{all_of, none_in_nil, in_cons, in_first, in_later, in_map, in_map_of, pairs_cons, pairs_first, pairs_tail}
use Rattle.steno_rules.proofs.NodeLemmas.{nodes-Contains, nodes-rising}
use Rattle.steno_rules.proofs.Numbers.{entry_number-Some}
use Rattle.outline_trie.specs.Tries.{AreChildren, IsNode, child_of, node_strokes}
use Rattle.outline_trie.proofs.LookLemmas.{number_there}
use Rattle.closure_state.proofs.RowLemmas.{child_ends, child_inside}
use Rattle.reading_laws.specs.ChosenReadings.{final_stroke, open_fork}
use Rattle.reading_laws.specs.Forks.{Fork, Same, Differ, End, fork_targets, fork_targets_by, has_open_words, targets_of_same, targets_of_two}
use Rattle.reading_laws.specs.ForkNumbers.{fork_at, fork_lists, fork_number, fork_start, end_number}
use Rattle.reading_laws.proofs.ForkBounds.{fork_begins, longer_word}
use Rattle.reading_laws.proofs.ForkNumberLemmas.{fork_targets-over, no_targets, row_of_fork}
use Rattle.reading_laws.proofs.HalfLemmas.{final_stroke-push}
use Rattle.free_parse.specs.Cursors.{IsChildOf, numbers_to}
use Rattle.free_parse.specs.FreeGraphs.{FreeGraphView}
use Rattle.free_parse.specs.inside.Forks.{fork_of, targets_to}
use Rattle.free_parse.proofs.PartLemmas.{part_step}

-- ---- open forks

-- A fork that isn't the end by its number has open words.
pub opens_of_open : (entries words : List (List ℕ)) (n : ℕ) → has_open_words words (open_fork entries words n) ≡ true
opens_of_open entries words n = by (has_open_words words (fork_at entries n)) refl
  where
    by : (b : Bool) → has_open_words words (fork_at entries n) ≡ b → has_open_words words (cond b (fork_at entries n) End) ≡ true
    by true e = e
    by false e = refl

-- What can't be open has no targets, as the end has none.
pub targets_of_open : (entries words : List (List ℕ)) (n : ℕ) → fork_targets words (open_fork entries words n) ≡ fork_targets words (fork_at entries n)
targets_of_open entries words n = by (has_open_words words (fork_at entries n)) refl
  where
    by : (b : Bool) → has_open_words words (fork_at entries n) ≡ b → fork_targets words (cond b (fork_at entries n) End) ≡ cond b (flat_map (fork_targets_by words (fork_at entries n)) (strokes_in words)) []
    by true e = rw e refl
    by false e = no_targets words (strokes_in words)

-- So such a number has an empty list.
pub no_row : (entries words : List (List ℕ)) (n : ℕ) → End ≡ open_fork entries words n → row (fork_lists entries words) n ≡ []
no_row entries words n is =
    row_of_fork entries words n
    ∙ ap (map (fork_number entries)) (sym (targets_of_open entries words n) ∙ ap (fork_targets words) (sym is) ∙ no_targets words (strokes_in words))

-- ---- one child

-- a child's strokes are those of the node and the child's stroke
targets_of_child : (entries words : List (List ℕ)) (longer : ℕ) (shorter : Option ℕ) (code child : ℕ) → child_of entries longer code ≡ Some child →
    targets_to entries words shorter child ≡ fork_targets_by words (fork_of entries longer shorter) code
targets_of_child entries words longer None code child found = ap (targets_of_same words) (child_ends entries longer code child found)
targets_of_child entries words longer (Some q) code child found =
    let is = child_ends entries longer code child found in
    let last : final_stroke (node_strokes entries child) ≡ code ∷ [] = ap final_stroke is ∙ final_stroke-push (node_strokes entries longer) code in
    ap₂ (λ v e. targets_of_two words v (node_strokes entries q ++ e)) is last

-- ---- all children

abbrev pub AreRow : List (List ℕ) → ℕ → List (ℕ × ℕ) → Type 0
AreRow entries longer kids = AllByRecursion (λ (pair : ℕ × ℕ). child_of entries longer pair.0 ≡ Some pair.1) kids

row_of : (entries : List (List ℕ)) (longer : ℕ) (kids : List (ℕ × ℕ)) → ((code child : ℕ) → Contains kids (code, child) → child_of entries longer code ≡ Some child) → AreRow entries longer kids
row_of entries longer [] each = tt
row_of entries longer (pair ∷ kids) each = (each pair.0 pair.1 (in_first pair kids), row_of entries longer kids (λ code child has. each code child (in_later pair kids (code, child) has)))

unfoldable pub codes : List (ℕ × ℕ) → List ℕ
codes kids = map (λ (pair : ℕ × ℕ). pair.0) kids

joined_numbers : (g : FreeGraphView) (longer : ℕ) (shorter : Option ℕ) (kids : List (ℕ × ℕ)) → AreRow g.entries longer kids →
    numbers_to g shorter kids ≡ map (fork_number g.entries) (flat_map (fork_targets_by g.words (fork_of g.entries longer shorter)) (codes kids))
unfolding codes
joined_numbers g longer shorter [] h = refl
joined_numbers g longer shorter (pair ∷ kids) h =
    let f : Fork → ℕ = fork_number g.entries in
    let by : ℕ → List Fork = fork_targets_by g.words (fork_of g.entries longer shorter) in
    ap₂ (λ a b. a ++ b) (ap (map f) (targets_of_child g.entries g.words longer shorter pair.0 pair.1 h.0)) (joined_numbers g longer shorter kids h.1)
    ∙ sym (map-append f (by pair.0) (flat_map by (codes kids)))

pub rising_codes : (kids : List (ℕ × ℕ)) → AllPairs (λ (a b : ℕ × ℕ). a.0 < b.0) kids → AllPairs (λ a b. a < b) (codes kids)
unfolding codes
rising_codes [] h = λ i j d below inside. absurd (omega (arith, inside))
rising_codes (pair ∷ kids) h = pairs_cons (λ a b. a < b) pair.0 (codes kids) (all_of (λ c. pair.0 < c) (codes kids) (λ c has. let found = in_map (λ (p : ℕ × ℕ). p.0) kids c has in
    let less : pair.0 < found.0.0 = pairs_first (λ (a b : ℕ × ℕ). a.0 < b.0) pair kids found.0 h found.1 in subst (λ k. pair.0 < k) found.2 less)) (rising_codes kids (pairs_tail (λ (a b : ℕ × ℕ). a.0 < b.0) pair kids h))

longer_is : (entries : List (List ℕ)) (longer : ℕ) (shorter : Option ℕ) → longer_word (fork_of entries longer shorter) ≡ node_strokes entries longer
longer_is entries longer None = refl
longer_is entries longer (Some q) = refl

-- the code of a move is that of a child
code_there : (entries words : List (List ℕ)) (longer : ℕ) (shorter : Option ℕ) (kids : List (ℕ × ℕ)) (c : ℕ) (t : Fork) → AreWords entries words → AreChildren entries longer kids →
    Contains (fork_targets_by words (fork_of entries longer shorter) c) t → Contains (codes kids) c
unfolding codes
code_there entries words longer shorter kids c t are children h =
    let begins : is_prefix entries (node_strokes entries longer ++ c ∷ []) ≡ true = subst (λ p. is_prefix entries (p ++ c ∷ []) ≡ true) (longer_is entries longer shorter) (fork_begins entries words (fork_of entries longer shorter) t c are h) in
    let there = (nodes-Contains entries (node_strokes entries longer ++ c ∷ [])).1 begins in
    let same : node_strokes entries there.0 ≡ node_strokes entries longer ++ c ∷ [] = get_or_default (nodes entries) there.0 [] (node_strokes entries longer ++ c ∷ []) there.1 ∙ there.2 in
    in_map_of (λ (p : ℕ × ℕ). p.0) kids (c, there.0) ((children.each c there.0).1 (number_there entries (node_strokes entries longer ++ c ∷ []) there.0 there.1 same))

-- The targets of a fork are those by the children of its longer node.
pub numbers_of_row : (g : FreeGraphView) (longer : ℕ) (shorter : Option ℕ) (kids : List (ℕ × ℕ)) → AreWords g.entries g.words → AreChildren g.entries longer kids →
    has_open_words g.words (fork_of g.entries longer shorter) ≡ true → numbers_to g shorter kids ≡ map (fork_number g.entries) (fork_targets g.words (fork_of g.entries longer shorter))
numbers_of_row g longer shorter kids are children opens =
    let s : Fork = fork_of g.entries longer shorter in
    let all : flat_map (fork_targets_by g.words s) (codes kids) ≡ flat_map (fork_targets_by g.words s) (strokes_in g.words) =
    fork_targets-over g.words s (codes kids) (rising_codes kids children.rising) (λ c t h. code_there g.entries g.words longer shorter kids c t are children h) in
    joined_numbers g longer shorter kids (row_of g.entries longer kids (λ code child. (children.each code child).0))
    ∙ ap (map (fork_number g.entries)) (all ∙ sym (ap (λ b. if b then (flat_map (fork_targets_by g.words s) (strokes_in g.words)) else []) opens))

-- ---- whose children

child_of_fork : (entries : List (List ℕ)) (longer : ℕ) (shorter : Option ℕ) (code child : ℕ) → IfSome shorter (λ q. IsNode entries q × (length (node_strokes entries q) < length (node_strokes entries longer))) →
    child_of entries longer code ≡ Some child → IsChildOf entries shorter child
child_of_fork entries longer None code child h found = child_inside entries longer code child found
child_of_fork entries longer (Some q) code child h found =
    (child_inside entries longer code child found, h.0, omega (arith, ap length (child_ends entries longer code child found), length_push (node_strokes entries longer) code, h.1))

-- Each child of the longer node is one for the cursor.
pub row_owned : (entries : List (List ℕ)) (longer : ℕ) (shorter : Option ℕ) (kids : List (ℕ × ℕ)) → IfSome shorter (λ q. IsNode entries q × (length (node_strokes entries q) < length (node_strokes entries longer))) →
    ((code child : ℕ) → Contains kids (code, child) → child_of entries longer code ≡ Some child) → AllByRecursion (λ (pair : ℕ × ℕ). IsChildOf entries shorter pair.1) kids
row_owned entries longer shorter [] h each = tt
row_owned entries longer shorter (pair ∷ kids) h each =
    (child_of_fork entries longer shorter pair.0 pair.1 h (each pair.0 pair.1 (in_first pair kids)), row_owned entries longer shorter kids h (λ code child has. each code child (in_later pair kids (code, child) has)))

-- ---- how many

-- a greater stroke comes later
not_before : (v : List ℕ) (c d : ℕ) → c < d → outline_cmp (v ++ d ∷ []) (v ++ c ∷ []) ≡ Less → ⊥
not_before [] c d up h = let greater : nat_cmp d c ≡ Greater = sym (nat_cmp_is d c Greater up) in let wrong : Greater ≡ Less = rw greater at h in cc
not_before (x ∷ v) c d up h = let same : nat_cmp x x ≡ Equal = sym (nat_cmp_is x x Equal refl) in not_before v c d up (rw same at h)

later_child : (entries : List (List ℕ)) (longer c d p q : ℕ) → c < d → child_of entries longer c ≡ Some p → child_of entries longer d ≡ Some q → p < q
later_child entries longer c d p q up is k =
    let v : List ℕ = node_strokes entries longer in
    let a = entry_number-Some (nodes entries) (v ++ c ∷ []) p is in
    let b = entry_number-Some (nodes entries) (v ++ d ∷ []) q k in
    elim (cases_order p q) [
      | inl same ↦ let one : v ++ c ∷ [] ≡ v ++ d ∷ [] = sym a.1 ∙ ap (outline_of (nodes entries)) same ∙ b.1 in absurd (omega (arith, up, (same_from_push v v c d one).1))
      | inr (inl lt) ↦ lt
      | inr (inr gt) ↦
          let below : outline_cmp (outline_of (nodes entries) q) (outline_of (nodes entries) p) ≡ Less = nodes-rising entries q p [] gt a.0 in
          absurd (not_before v c d up (subst (λ x. outline_cmp x (v ++ c ∷ []) ≡ Less) b.1 (subst (λ x. outline_cmp (outline_of (nodes entries) q) x ≡ Less) a.1 below)))
    ]

each_of : (entries : List (List ℕ)) (longer : ℕ) (kids : List (ℕ × ℕ)) (code child : ℕ) → AreRow entries longer kids → Contains kids (code, child) → child_of entries longer code ≡ Some child
each_of entries longer [] code child h has = absurd (none_in_nil (code, child) has)
each_of entries longer (pair ∷ kids) code child h has = elim (in_cons pair kids (code, child) has) [
  | inl same ↦ subst (λ (p : ℕ × ℕ). child_of entries longer p.0 ≡ Some p.1) same h.0
  | inr later ↦ each_of entries longer kids code child h.1 later
]

-- the children from some node on
few_children : (entries : List (List ℕ)) (longer b : ℕ) (kids : List (ℕ × ℕ)) → AllPairs (λ (x y : ℕ × ℕ). x.0 < y.0) kids → AreRow entries longer kids → b ≤ length (nodes entries) →
    ((code child : ℕ) → Contains kids (code, child) → b ≤ child) → length kids + b ≤ length (nodes entries)
few_children entries longer b [] rising h inside past = omega (arith, inside)
few_children entries longer b (pair ∷ kids) rising h inside past =
    let at = entry_number-Some (nodes entries) (node_strokes entries longer ++ pair.0 ∷ []) pair.1 h.0 in
    let low = past pair.0 pair.1 (in_first pair kids) in
    let rest = few_children entries longer (pair.1 + 1) kids (pairs_tail (λ (x y : ℕ × ℕ). x.0 < y.0) pair kids rising) h.1 (omega (arith, at.0))
    (λ code child has. (let up : pair.1 < child = later_child entries longer pair.0 code pair.1 child (pairs_first (λ (x y : ℕ × ℕ). x.0 < y.0) pair kids (code, child) rising has) h.0 (each_of entries longer kids code child h.1 has) in omega (arith, up))) in
    omega (arith, rest, low)

-- a target that a flag lets in
one_if : (b : Bool) (s : Fork) → length (if b then (s ∷ []) else []) ≤ 1
one_if true s = omega arith
one_if false s = omega arith

four_by : (words : List (List ℕ)) (s : Fork) (c : ℕ) → length (fork_targets_by words s c) ≤ 4
four_by words (Same p) c =
    let w : List ℕ = p ++ c ∷ [] in
    let x : List Fork = if is_open words w then (Same w ∷ []) else [] in
    let y : List Fork = if is_word words w then (Same [] ∷ []) else [] in
    let z : List Fork = if is_open words w && is_word words w then (Differ w [] ∷ []) else [] in
    omega (arith, length-append x (y ++ z), length-append y z, one_if (is_open words w) (Same w), one_if (is_word words w) (Same []), one_if (is_open words w && is_word words w) (Differ w []))
four_by words (Differ p q) c =
    let v : List ℕ = p ++ c ∷ [] in
    let w : List ℕ = q ++ c ∷ [] in
    let x : List Fork = if is_open words v && is_open words w then (Differ v w ∷ []) else [] in
    let y : List Fork = if is_open words v && is_word words w then (Differ v [] ∷ []) else [] in
    let z : List Fork = if is_open words w && is_word words v then (Differ w [] ∷ []) else [] in
    let e : List Fork = if is_word words v && is_word words w then (End ∷ []) else [] in
    omega (
      arith,
      length-append x (y ++ (z ++ e)),
      length-append y (z ++ e),
      length-append z e,
      one_if (is_open words v && is_open words w) (Differ v w),
      one_if (is_open words v && is_word words w) (Differ v []),
      one_if (is_open words w && is_word words v) (Differ w []),
      one_if (is_word words v && is_word words w) End,
    )
four_by words End c = omega arith

few_numbers : (g : FreeGraphView) (longer : ℕ) (shorter : Option ℕ) (kids : List (ℕ × ℕ)) → AreRow g.entries longer kids → length (numbers_to g shorter kids) ≤ 4 * length kids
few_numbers g longer shorter [] h = omega arith
few_numbers g longer shorter (pair ∷ kids) h =
    let here : List Fork = targets_to g.entries g.words shorter pair.1 in
    let most : length here ≤ 4 = subst (λ l. length l ≤ 4) (sym (targets_of_child g.entries g.words longer shorter pair.0 pair.1 h.0)) (four_by g.words (fork_of g.entries longer shorter) pair.0) in
    omega (arith, length-append (map (fork_number g.entries) here) (numbers_to g shorter kids), length-map here (fork_number g.entries), most, few_numbers g longer shorter kids h.1)

-- there is no more than one node a number
few_nodes : (entries : List (List ℕ)) (k : ℕ) → k ≤ length (nodes entries) → k ≤ fork_start (nodes entries) k
few_nodes entries zero inside = omega arith
few_nodes entries (suc k) inside =
    let one : k + 1 ≡ suc k = omega arith in
    let step : fork_start (nodes entries) (suc k) ≡ fork_start (nodes entries) k + (length (node_strokes entries k) + 1) = subst (λ j. fork_start (nodes entries) j ≡ fork_start (nodes entries) k + (length (node_strokes entries k) + 1)) one (part_step entries k (omega (arith, inside))) in
    omega (arith, step, few_nodes entries k (omega (arith, inside)))

-- A fork has few targets.
pub few_targets : (g : FreeGraphView) (longer : ℕ) (shorter : Option ℕ) (kids : List (ℕ × ℕ)) → AreChildren g.entries longer kids → length (numbers_to g shorter kids) ≤ 4 * end_number g.entries
few_targets g longer shorter kids children =
    let are = row_of g.entries longer kids (λ code child. (children.each code child).0) in
    let rows = few_children g.entries longer 0 kids children.rising are (omega arith) (λ code child has. omega arith) in
    omega (arith, few_numbers g longer shorter kids are, rows, few_nodes g.entries (length (nodes g.entries)) (omega arith))
