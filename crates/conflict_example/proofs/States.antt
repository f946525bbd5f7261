-- What a numbering tells of a number's state.
use Rattle.std.proofs.Common.{◌≡◌, ℕ, zero, suc, ◌<◌, List, [], ◌∷◌, ◌++◌, length, append-nil, false, nat_eq, Option, None, refl, sym, ap, ◌∙◌, arith}
use Rattle.std.proofs.lemmas.Bool.Decides.{nat_tests}
use Rattle.steno_rules.specs.Nodes.{nodes}
use Rattle.steno_rules.specs.Outlines.{outline_of}
use Rattle.steno_rules.specs.States.{State as Abstract}
use Rattle.steno_rules.specs.StateNumbers.{state_of_number}
use Rattle.steno_rules.proofs.NodeLemmas.{nodes-first, nodes-rising}
use Rattle.steno_rules.proofs.Numbers.{outline_of-once}
use Rattle.closure_laws.specs.Examples.{last_stroke, or_fresh}
use Rattle.closure_state.specs.declared.state.State.{State}
use Rattle.state_numbering.specs.ByNumber.{IsStateOf}
use Rattle.state_numbering.specs.Numberings.{NumberingView}
use Rattle.conflict_example.specs.inside.Spellings.{numbered_state}

-- the first node is empty
first_empty : (entries : List (List ℕ)) → outline_of (nodes entries) 0 ≡ []
first_empty entries = let first = nodes-first entries in ap (λ l. outline_of l 0) first.1

some_test : (n : ℕ) → 0 < n → nat_eq n 0 ≡ false
some_test n l = grind (arith, nat_tests)

-- only the first node is empty
node_test : (entries : List (List ℕ)) (k : ℕ) → k < length (nodes entries) → nat_eq k 0 ≡ nat_eq (length (outline_of (nodes entries) k)) 0
node_test entries zero inside = ap (λ l. nat_eq (length l) 0) (sym (first_empty entries))
node_test entries (suc k) inside = by (outline_of (nodes entries) (suc k)) refl
  where
    by : (x : List ℕ) → outline_of (nodes entries) (suc k) ≡ x → nat_eq (suc k) 0 ≡ nat_eq (length x) 0
    by [] is =
        let same : suc k ≡ 0 = outline_of-once (nodes entries) (suc k) 0 (nodes-rising entries) inside (omega arith) (is ∙ sym (first_empty entries)) in
        absurd (omega arith)
    by (c ∷ x) is = some_test (suc k) (omega arith) ∙ sym (some_test (length (c ∷ x)) (omega arith))

-- No word is open where the open word's node is the first one.
pub open_test : (v : NumberingView) (number : ℕ) (s : State) → IsStateOf v number s → nat_eq s.word 0 ≡ nat_eq (length (numbered_state v.entries v.words number).v) 0
open_test v number s h =
    node_test v.entries s.word h.state.word ∙ ap (λ (o : Option Abstract). nat_eq (length (or_fresh o).v) 0) (sym h.number_is)

-- A number without a state adds no stroke.
pub no_stroke : (v : NumberingView) (number : ℕ) (strokes : List ℕ) → state_of_number v.entries v.words number ≡ None →
    strokes ≡ strokes ++ last_stroke (numbered_state v.entries v.words number)
no_stroke v number strokes none = sym (ap (λ (o : Option Abstract). strokes ++ last_stroke (or_fresh o)) none ∙ append-nil strokes)
