-- The words of a walk back, one state after another.
use Rattle.std.proofs.Common.{◌≡◌, ℕ, List, [], ◌∷◌, ◌++◌, length, map, Bool, true, false, cond, nat_eq, refl, sym, ap, ap₂, ◌∙◌, Some, Option, append-nil, append_assoc}
use Rattle.std.proofs.lemmas.List.Elements.{All-head, All-tail}
use Rattle.steno_rules.specs.Outlines.{AreEntries, entry_number}
use Rattle.steno_rules.specs.Conflicts.{AreWordNumbers, IsWordNumber, outlines_of}
use Rattle.steno_rules.specs.States.{State}
use Rattle.steno_rules.proofs.Numbers.{entry_number-outline_of}
use Rattle.closure_laws.specs.Examples.{example, last_stroke, open_after, trail, words_after}
use Rattle.conflict_example.specs.inside.Spellings.{IsSpelling, if_there, made_after, node_of, numbered_state, numbers_among, opened}
use Rattle.std.proofs.Common.{None, is_some}
use Rattle.std.specs.Prelude.{IfSome}
use Rattle.steno_rules.specs.Nodes.{nodes}
use Rattle.steno_rules.proofs.Numbers.{entry_number-Some, none_there, number_test}
use Rattle.steno_rules.proofs.Prefixes.{apart_entry}
use Rattle.outline_trie.specs.Tries.{IsNode, node_strokes}
use Rattle.outline_trie.proofs.LookLemmas.{front_none, node_test, root_number}

-- numbers of two lists, one behind the other
pub numbers_among-append : (entries xs ys : List (List ℕ)) → numbers_among entries (xs ++ ys) ≡ numbers_among entries xs ++ numbers_among entries ys
numbers_among-append entries [] ys = refl
numbers_among-append entries (x ∷ xs) ys =
    ap (λ l. if_there (entry_number entries x) ++ l) (numbers_among-append entries xs ys)
    ∙ sym (append_assoc (if_there (entry_number entries x)) (numbers_among entries xs) (numbers_among entries ys))

-- The outlines of words have the words' numbers.
pub numbers_among-words : (entries words : List (List ℕ)) (ws : List ℕ) → AreEntries entries → AreWordNumbers entries words ws →
    numbers_among entries (outlines_of entries ws) ≡ ws
numbers_among-words entries words [] are h = refl
numbers_among-words entries words (w ∷ ws) are h =
    let first = All-head (IsWordNumber entries words) w ws h in
    ap₂ (λ (o : Option ℕ) l. if_there o ++ l) (entry_number-outline_of entries w are.rising first.0)
    (numbers_among-words entries words ws are (All-tail (IsWordNumber entries words) w ws h))

-- and so does each of them
pub numbers_of_words : (entries words : List (List ℕ)) (ws : List ℕ) → AreEntries entries → AreWordNumbers entries words ws →
    map Some ws ≡ map (entry_number entries) (outlines_of entries ws)
numbers_of_words entries words [] are h = refl
numbers_of_words entries words (w ∷ ws) are h =
    let first = All-head (IsWordNumber entries words) w ws h in
    ap₂ (λ (o : Option ℕ) l. o ∷ l) (sym (entry_number-outline_of entries w are.rising first.0))
    (numbers_of_words entries words ws are (All-tail (IsWordNumber entries words) w ws h))

-- ---- one state

made_step : (entries : List (List ℕ)) (b : Bool) (before : List (List ℕ)) (word : List ℕ) →
    cond b (numbers_among entries before ++ if_there (entry_number entries word)) (numbers_among entries before) ≡ numbers_among entries (cond b (before ++ word ∷ []) before)
made_step entries true before word =
    sym (numbers_among-append entries before (word ∷ []) ∙ ap (λ l. numbers_among entries before ++ l) (append-nil (if_there (entry_number entries word))))
made_step entries false before word = refl

-- One state more is spelt.
pub spelt_more : (entries words : List (List ℕ)) (trail path : List ℕ) (open_node : Option ℕ) (made : List ℕ) (number : ℕ) (path' : List ℕ) (open_node' : Option ℕ) (made' : List ℕ) →
    IsSpelling entries words trail path open_node made → path ≡ path' ++ number ∷ [] →
    ((strokes : List ℕ) → open_node ≡ node_of entries strokes → open_node' ≡ node_of entries (opened (numbered_state entries words number) strokes)) →
    ((strokes : List ℕ) → open_node ≡ node_of entries strokes → made' ≡ made_after entries (numbered_state entries words number) strokes made) →
    IsSpelling entries words trail path' open_node' made'
spelt_more entries words trail path open_node made number path' open_node' made' h is opens makes =
    let s : State = numbered_state entries words number in
    let strokes : List ℕ = open_after (map (numbered_state entries words) h.done) in
    record {
      done = number ∷ h.done;
      split = sym (append_assoc path' (number ∷ []) h.done) ∙ ap (λ l. l ++ h.done) (sym is) ∙ h.split;
      open_is = opens strokes h.open_is;
      made_is = makes strokes h.open_is ∙ ap (made_after entries s strokes) h.made_is
          ∙ made_step entries (nat_eq (length s.v) 0) (words_after (map (numbered_state entries words) h.done)) (strokes ++ last_stroke s);
    }

-- Before any state nothing is spelt, and the root is open.
pub spelt_none : (entries words : List (List ℕ)) (trail : List ℕ) → IsSpelling entries words trail trail (Some 0) []
spelt_none entries words trail = record { done = []; split = append-nil trail; open_is = sym (root_number entries); made_is = refl }

-- Once the path is empty the example is spelt.
pub spelt_all : (entries words : List (List ℕ)) (table : List ℕ) (n number : ℕ) (walk path : List ℕ) (open_node : Option ℕ) (made : List ℕ) →
    IsSpelling entries words walk path open_node made → walk ≡ trail table n number → path ≡ [] → made ≡ numbers_among entries (example entries words table n number)
spelt_all entries words table n number walk path open_node made h is none =
    let all : h.done ≡ walk = ap (λ l. l ++ h.done) (sym none) ∙ h.split in
    h.made_is ∙ ap (λ l. numbers_among entries (words_after (map (numbered_state entries words) l))) (all ∙ is)

-- ---- the open word's node

-- A number of strokes is that of a node.
pub node_inside : (entries : List (List ℕ)) (o : Option ℕ) (x : List ℕ) → o ≡ node_of entries x → IfSome o (IsNode entries)
node_inside entries None x is = tt
node_inside entries (Some node) x is = (entry_number-Some (nodes entries) x node (sym is)).0

-- From a node one goes on by strokes as from its own,
pub node_goes_on : (entries : List (List ℕ)) (node : ℕ) (x y : List ℕ) → Some node ≡ node_of entries x → node_of entries (node_strokes entries node ++ y) ≡ node_of entries (x ++ y)
node_goes_on entries node x y is = ap (λ z. node_of entries (z ++ y)) (entry_number-Some (nodes entries) x node (sym is)).1

-- and from none to none.
pub none_goes_on : (entries : List (List ℕ)) (x y : List ℕ) → None ≡ node_of entries x → None ≡ node_of entries (x ++ y)
none_goes_on entries x y none = sym (front_none entries x y (sym none))

-- A node's entry is that of the strokes,
pub node_entry : (entries : List (List ℕ)) (node : ℕ) (x : List ℕ) → Some node ≡ node_of entries x → entry_number entries (node_strokes entries node) ≡ entry_number entries x
node_entry entries node x is = ap (entry_number entries) (entry_number-Some (nodes entries) x node (sym is)).1

-- and strokes that are no node are no entry.
pub none_entry : (entries : List (List ℕ)) (x : List ℕ) → None ≡ node_of entries x → None ≡ entry_number entries x
none_entry entries x none =
    sym (none_there (entry_number entries x) (number_test entries x ∙ apart_entry entries x (sym (node_test entries x) ∙ ap is_some (sym none))))

-- Where no word is open in a state the root is left,
pub ended : (entries : List (List ℕ)) (s : State) (strokes : List ℕ) → nat_eq (length s.v) 0 ≡ true → Some 0 ≡ node_of entries (opened s strokes)
ended entries s strokes is = rw is (sym (root_number entries))

-- and else the node of the open word.
pub goes_on : (entries : List (List ℕ)) (s : State) (strokes : List ℕ) (o : Option ℕ) → nat_eq (length s.v) 0 ≡ false →
    o ≡ node_of entries (strokes ++ last_stroke s) → o ≡ node_of entries (opened s strokes)
goes_on entries s strokes o is h = rw is h
