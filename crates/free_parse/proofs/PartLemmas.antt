-- The parts of the nodes: where they begin, and whose a number is.
use Rattle.std.proofs.Common.{◌≡◌, ℕ, zero, suc, ◌+◌, ◌-◌, ◌<◌, ◌≤◌, List, [], ◌∷◌, ◌++◌, length, get_or, take, flat_map, replicate, refl, sym, ap, subst, ◌∙◌, arith, append_assoc, append-nil, length-append, inl, inr}
use Rattle.std.specs.List.{range_with_len}
use Rattle.std.proofs.lemmas.Bool.{cases_lt}
use Rattle.std.proofs.lemmas.List.{take_more, get_or_append_left, get_or-append_right, get_or-replicate, length-replicate}
use Rattle.std.proofs.lemmas.List.Sums.{sum_by_push}
use Rattle.std.proofs.lemmas.List.FromFn.{map-range_with_len_more, get_or-map-range_with_len, length-map-range_with_len}
use Rattle.steno_rules.specs.Nodes.{nodes}
use Rattle.outline_trie.specs.Tries.{IsNode, node_strokes}
use Rattle.reading_laws.specs.ForkNumbers.{fork_start, end_number}
use Rattle.reading_laws.proofs.ForkNumberLemmas.{part_before_end}
use Rattle.free_parse.specs.inside.Parts.{starts_to, owners_to, IsOwner}

-- a part begins where the one before it ends
start_step : (ns : List (List ℕ)) (k : ℕ) → k < length ns → fork_start ns (k + 1) ≡ fork_start ns k + (length (get_or ns k []) + 1)
start_step ns k l = rw (take_more ns k [] l) (sum_by_push (λ (z : List ℕ). length z + 1) (take k ns) (get_or ns k []))

-- the same of a node
pub part_step : (entries : List (List ℕ)) (node : ℕ) → IsNode entries node → fork_start (nodes entries) (node + 1) ≡ fork_start (nodes entries) node + (length (node_strokes entries node) + 1)
part_step entries node inside = start_step (nodes entries) node inside

-- and it ends before the end
pub part_within : (entries : List (List ℕ)) (node : ℕ) → IsNode entries node → fork_start (nodes entries) node + (length (node_strokes entries node) + 1) ≤ end_number entries
part_within entries node inside = part_before_end (nodes entries) node inside

-- the numbers up to one more
range_push : (a n : ℕ) → range_with_len a (suc n) ≡ range_with_len a n ++ (a + n) ∷ []
range_push a zero = ap (λ k. k ∷ []) (omega arith)
range_push a (suc n) = ap (λ l. a ∷ l) (range_push (a + 1) n ∙ ap (λ k. range_with_len (a + 1) n ++ k ∷ []) (omega arith))

joined_push : (f : ℕ → List ℕ) (xs : List ℕ) (y : ℕ) → flat_map f (xs ++ y ∷ []) ≡ flat_map f xs ++ f y
joined_push f [] y = append-nil (f y)
joined_push f (x ∷ xs) y = ap (λ l. f x ++ l) (joined_push f xs y) ∙ sym (append_assoc (f x) (flat_map f xs) (f y))

-- one node more
pub starts_more : (entries : List (List ℕ)) (node : ℕ) → starts_to entries (node + 1) ≡ starts_to entries node ++ fork_start (nodes entries) node ∷ []
starts_more entries node = map-range_with_len_more (fork_start (nodes entries)) 0 node node (omega arith)

owners_suc : (entries : List (List ℕ)) (node : ℕ) → owners_to entries (suc node) ≡ owners_to entries node ++ replicate (length (node_strokes entries node) + 1) node
owners_suc entries node =
    let f : ℕ → List ℕ = λ k. replicate (length (node_strokes entries k) + 1) k in
    ap (flat_map f) (range_push 0 node) ∙ joined_push f (range_with_len 0 node) (0 + node) ∙ ap (λ k. owners_to entries node ++ f k) (omega arith)

pub owners_more : (entries : List (List ℕ)) (node : ℕ) → owners_to entries (node + 1) ≡ owners_to entries node ++ replicate (length (node_strokes entries node) + 1) node
owners_more entries node = let one : node + 1 ≡ suc node = omega arith in ap (owners_to entries) one ∙ owners_suc entries node

-- the nodes so far have as many numbers as their parts
pub length-owners : (entries : List (List ℕ)) (k : ℕ) → k ≤ length (nodes entries) → length (owners_to entries k) ≡ fork_start (nodes entries) k
length-owners entries zero inside = refl
length-owners entries (suc k) inside =
    let one : k + 1 ≡ suc k = omega arith in
    let step : fork_start (nodes entries) (suc k) ≡ fork_start (nodes entries) k + (length (node_strokes entries k) + 1) = subst (λ j. fork_start (nodes entries) j ≡ fork_start (nodes entries) k + (length (node_strokes entries k) + 1)) one (part_step entries k (omega (arith, inside))) in
    omega (arith, ap length (owners_suc entries k), length-append (owners_to entries k) (replicate (length (node_strokes entries k) + 1) k), length-replicate (length (node_strokes entries k) + 1) k, length-owners entries k (omega (arith, inside)), step)

-- The nodes of all numbers.
pub owners_all : (entries : List (List ℕ)) (owners : List ℕ) → owners ≡ owners_to entries (length (nodes entries)) → length owners ≡ end_number entries
owners_all entries owners is = ap length is ∙ length-owners entries (length (nodes entries)) (omega arith)

-- The number of a part's begin.
pub start_is : (entries : List (List ℕ)) (starts : List ℕ) (node : ℕ) → starts ≡ starts_to entries (length (nodes entries)) → IsNode entries node → get_or starts node 0 ≡ fork_start (nodes entries) node
start_is entries starts node is inside = ap (λ l. get_or l node 0) is ∙ get_or-map-range_with_len (fork_start (nodes entries)) 0 (length (nodes entries)) node node 0 inside (omega arith)

-- a number of the first parts lies in that of its node
owner_of : (entries : List (List ℕ)) (k n : ℕ) → k ≤ length (nodes entries) → n < fork_start (nodes entries) k → IsOwner entries n (get_or (owners_to entries k) n 0)
owner_of entries zero n inside below = absurd (omega (arith, below))
owner_of entries (suc k) n inside below = elim (cases_lt n (fork_start (nodes entries) k)) [
  | inl lt ↦
      let same : get_or (owners_to entries (suc k)) n 0 ≡ get_or (owners_to entries k) n 0 =
      ap (λ l. get_or l n 0) (owners_suc entries k) ∙ get_or_append_left (owners_to entries k) (replicate (length (node_strokes entries k) + 1) k) 0 n (omega (arith, lt, long)) in
      subst (IsOwner entries n) (sym same) (owner_of entries k n (omega (arith, inside)) lt)
  | inr ge ↦
      let fits : n - fork_start (nodes entries) k < length (node_strokes entries k) + 1 = omega (arith, ge, below, step) in
      let same : get_or (owners_to entries (suc k)) n 0 ≡ k =
      ap (λ l. get_or l n 0) (owners_suc entries k) ∙ get_or-append_right (owners_to entries k) (replicate (length (node_strokes entries k) + 1) k) (fork_start (nodes entries) k) n 0 long ge
      ∙ get_or-replicate (length (node_strokes entries k) + 1) (n - fork_start (nodes entries) k) k 0 fits in
      subst (IsOwner entries n) (sym same) (record { node_is = omega (arith, inside); from = ge; to = omega (arith, fits) })
]
  where
    long : length (owners_to entries k) ≡ fork_start (nodes entries) k
    long = length-owners entries k (omega (arith, inside))

    one : k + 1 ≡ suc k
    one = omega arith

    step : fork_start (nodes entries) (suc k) ≡ fork_start (nodes entries) k + (length (node_strokes entries k) + 1)
    step = subst (λ j. fork_start (nodes entries) j ≡ fork_start (nodes entries) k + (length (node_strokes entries k) + 1)) one (part_step entries k (omega (arith, inside)))

-- The node of a number.
pub owner_is : (entries : List (List ℕ)) (owners : List ℕ) (n : ℕ) → owners ≡ owners_to entries (length (nodes entries)) → n < end_number entries → IsOwner entries n (get_or owners n 0)
owner_is entries owners n is below = rw is (owner_of entries (length (nodes entries)) n (omega arith) below)

-- Each node has a begin.
pub starts_all : (entries : List (List ℕ)) (starts : List ℕ) → starts ≡ starts_to entries (length (nodes entries)) → length starts ≡ length (nodes entries)
starts_all entries starts is = ap length is ∙ length-map-range_with_len (fork_start (nodes entries)) 0 (length (nodes entries))
