-- Of the rows of the pairs that stay, with the words of their chosen open hits, there is one list at most.
use Rattle.std.proofs.Common.{◌≡◌, ℕ, ◌<◌, ◌≤◌, List, [], ◌∷◌, ◌++◌, length, map, sym, ap, subst, ◌∙◌, arith, Contains, Option, Some}
use Rattle.steno_rules.specs.Outlines.{entry_number, outline_of}
use Rattle.steno_rules.specs.StateNumbers.{state_of_number}
use Rattle.steno_rules.specs.States.{State}
use Rattle.steno_rules.proofs.Numbers.{entry_number-Some}
use Rattle.longest_match.specs.Rows.{IsBefore, Row}
use Rattle.closure_laws.specs.Examples.{example}
use Rattle.settled_laws.specs.OpenHits.{CanFinish}
use Rattle.settled_laws.specs.ChosenOpenHits.{ended_word, finished_example}
use Rattle.settled_laws.proofs.ChosenOpenLemmas.{chosen_open_once}
use Rattle.conflict_example.proofs.OneRow.{all_at, before_itself, before_trans, map_some, row_of, row_same, same_members}
use Rattle.settled_pairs.specs.SettledRows.{AreChosenRows, AreSettledPairs, IsChosenPair, IsShortestSettled}

-- ---- the word that is ended

-- two numbers, of which neither is greater
same_of : (a b : ℕ) → a ≤ b → b ≤ a → a ≡ b
same_of a b l m = omega arith

-- where all of the lists have numbers, the last one has
last_number : (entries : List (List ℕ)) (ws : List ℕ) (vs : List (List ℕ)) (x : List ℕ) → map Some ws ≡ map (entry_number entries) (vs ++ x ∷ []) → (w : ℕ) × (entry_number entries x ≡ Some w)
last_number entries [] [] x is = absurd (none (entry_number entries x) is)
  where
    none : (o : Option ℕ) → [] ≡ o ∷ [] → ⊥
    none o is = cc
last_number entries [] (v ∷ vs) x is = absurd (none (entry_number entries v) (map (entry_number entries) (vs ++ x ∷ [])) is)
  where
    none : (o : Option ℕ) (os : List (Option ℕ)) → [] ≡ o ∷ os → ⊥
    none o os is = cc
last_number entries (w ∷ ws) [] x is = (w, first (entry_number entries x) (map Some ws) is)
  where
    first : (o : Option ℕ) (os : List (Option ℕ)) → Some w ∷ os ≡ o ∷ [] → o ≡ Some w
    first o os is = cc
last_number entries (w ∷ ws) (v ∷ vs) x is = last_number entries ws vs x (rest (entry_number entries v) (map Some ws) (map (entry_number entries) (vs ++ x ∷ [])) is)
  where
    rest : (o : Option ℕ) (os more : List (Option ℕ)) → Some w ∷ os ≡ o ∷ more → os ≡ more
    rest o os more is = cc

-- lists that differ in the last one alone, which have one number, have the same numbers
last_same : (entries vs : List (List ℕ)) (x y : List ℕ) → entry_number entries x ≡ entry_number entries y → map (entry_number entries) (vs ++ x ∷ []) ≡ map (entry_number entries) (vs ++ y ∷ [])
last_same entries [] x y same = ap (λ o. o ∷ []) same
last_same entries (v ∷ vs) x y same = ap (λ os. entry_number entries v ∷ os) (last_same entries vs x y same)

-- of the words that begin with v and end by so few strokes, by which they can, the one that z ends is the first
abbrev IsFirst : List (List ℕ) → (List ℕ → Type 0) → List ℕ → List ℕ → Type 0
IsFirst entries Can v z =
    (w other : ℕ) (y : List ℕ) → w < length entries → other < length entries
    → outline_of entries w ≡ v ++ z → outline_of entries other ≡ v ++ y
    → Can y → length y ≡ length z → w ≤ other

-- words and the first one that so few strokes end are determined
ended_once : (entries : List (List ℕ)) (Can : List ℕ → Type 0) (vs : List (List ℕ)) (v z y a b : List ℕ) → map Some a ≡ map (entry_number entries) (vs ++ ended_word v z) → map Some b ≡ map (entry_number entries) (vs ++ ended_word v y)
    → Can z → Can y → length z ≡ length y → IsFirst entries Can v z → IsFirst entries Can v y → a ≡ b
ended_once entries Can vs [] z y a b ha hb can_z can_y long first_z first_y = map_some a b (ha ∙ sym hb)
ended_once entries Can vs (c ∷ v) z y a b ha hb can_z can_y long first_z first_y =
    let number_z = last_number entries a vs ((c ∷ v) ++ z) ha in
    let number_y = last_number entries b vs ((c ∷ v) ++ y) hb in
    let at_z = entry_number-Some entries ((c ∷ v) ++ z) number_z.0 number_z.1 in
    let at_y = entry_number-Some entries ((c ∷ v) ++ y) number_y.0 number_y.1 in
    let below : number_z.0 ≤ number_y.0 = first_z number_z.0 number_y.0 y at_z.0 at_y.0 at_z.1 at_y.1 can_y (sym long) in
    let above : number_y.0 ≤ number_z.0 = first_y number_y.0 number_z.0 z at_y.0 at_z.0 at_y.1 at_z.1 can_z long in
    let same : number_z.0 ≡ number_y.0 = same_of number_z.0 number_y.0 below above in
    map_some a b (ha ∙ last_same entries vs ((c ∷ v) ++ z) ((c ∷ v) ++ y) (number_z.1 ∙ ap Some same ∙ sym number_y.1) ∙ sym hb)

-- ---- the words of a pair

-- the words ws are those of the walk of n moves to the number, and the first one that strokes such as z end
record IsSpelt (entries words : List (List ℕ)) (table e : List ℕ) (s : State) (n number : ℕ) (z ws : List ℕ) : Type 0 where
  words_are : map Some ws ≡ map (entry_number entries) (finished_example entries words table n number s.v z)
  can : CanFinish entries words s e z
  first : IsFirst entries (λ y. CanFinish entries words s e y) s.v z

spelt_once : (entries words : List (List ℕ)) (table e : List ℕ) (s : State) (n number : ℕ) (z y ws vs : List ℕ) → IsSpelt entries words table e s n number z ws → IsSpelt entries words table e s n number y vs → length z ≡ length y → ws ≡ vs
spelt_once entries words table e s n number z y ws vs h g long =
    ended_once entries (λ x. CanFinish entries words s e x) (example entries words table n number) s.v z y ws vs h.words_are g.words_are h.can g.can long h.first g.first

some_same : (s t : State) → Some s ≡ Some t → s ≡ t
some_same s t is = cc

spelt_same : (entries words : List (List ℕ)) (table e : List ℕ) (s t : State) (n k number other : ℕ) (z y ws vs : List ℕ) → s ≡ t → n ≡ k → number ≡ other
    → IsSpelt entries words table e s n number z ws → IsSpelt entries words table e t k other y vs → length z ≡ length y → ws ≡ vs
spelt_same entries words table e s t n k number other z y ws vs states moves numbers h g long =
    let at_state = subst (λ (x : State). IsSpelt entries words table e x k other y vs) (sym states) g in
    let at_moves = subst (λ (x : ℕ). IsSpelt entries words table e s x other y vs) (sym moves) at_state in
    let at_number = subst (λ (x : ℕ). IsSpelt entries words table e s n x y vs) (sym numbers) at_moves in
    spelt_once entries words table e s n number z y ws vs h at_number long

-- the words of a chosen row
spelt_of : (entries words : List (List ℕ)) (table : List ℕ) (row : Row) → (h : IsChosenPair entries words table row)
    → IsSpelt entries words table (outline_of entries row.entry) h.hit.is.state h.distance h.number h.z row.words
spelt_of entries words table row h = record { words_are = h.words_are; can = h.hit.is.can; first = h.first }

-- two chosen rows of one pair have the same words
words_once : (entries words : List (List ℕ)) (table : List ℕ) (entry place s t : ℕ) (ws vs : List ℕ) → IsChosenPair entries words table (row_of entry place s ws) → IsChosenPair entries words table (row_of entry place t vs) → ws ≡ vs
words_once entries words table entry place s t ws vs h g =
    let once = chosen_open_once entries words entry place h.number h.distance g.number g.distance h.z g.z h.hit g.hit in
    let states = some_same h.hit.is.state g.hit.is.state (sym h.hit.is.is ∙ ap (state_of_number entries words) once.0 ∙ g.hit.is.is) in
    spelt_same entries words table (outline_of entries entry) h.hit.is.state g.hit.is.state h.distance g.distance h.number g.number h.z g.z ws vs states once.1 once.0
    (spelt_of entries words table (row_of entry place s ws) h) (spelt_of entries words table (row_of entry place t vs) g) once.2

-- two shortest rows of one pair have as many strokes
strokes_once : (entries words : List (List ℕ)) (entry place s t : ℕ) (ws vs : List ℕ) → IsShortestSettled entries words (row_of entry place s ws) → IsShortestSettled entries words (row_of entry place t vs) → s ≡ t
strokes_once entries words entry place s t ws vs h g =
    let least_h = h.least vs g.are_words g.stays in
    let least_g = g.least ws h.are_words h.stays in
    let strokes_h = h.strokes in
    let strokes_g = g.strokes in
    omega arith

-- ---- rows

-- a fact of a row is one of the row with the same pair
at_pair : (P : Row → Type 0) (row : Row) (entry place : ℕ) → entry ≡ row.entry → place ≡ row.place → P row → P (row_of entry place row.strokes row.words)
at_pair P row entry place e p h =
    subst (λ (i : ℕ). P (row_of entry i row.strokes row.words)) (sym p) (subst (λ (i : ℕ). P (row_of i row.place row.strokes row.words)) (sym e) h)

-- two rows of one pair are one
rows_agree : (entries words : List (List ℕ)) (table : List ℕ) (a b : Row) → IsShortestSettled entries words a → IsShortestSettled entries words b → IsChosenPair entries words table a → IsChosenPair entries words table b
    → a.entry ≡ b.entry → a.place ≡ b.place → a ≡ b
rows_agree entries words table a b sa sb ca cb entry place =
    row_same a b entry place
    (strokes_once entries words a.entry a.place a.strokes b.strokes a.words b.words sa (at_pair (IsShortestSettled entries words) b a.entry a.place entry place sb))
    (words_once entries words table a.entry a.place a.strokes b.strokes a.words b.words ca (at_pair (IsChosenPair entries words table) b a.entry a.place entry place cb))

rows_to : (entries words : List (List ℕ)) (table : List ℕ) (xs ys : List Row) → AreSettledPairs entries words xs → AreSettledPairs entries words ys → AreChosenRows entries words table xs → AreChosenRows entries words table ys
    → (z : Row) → Contains xs z → Contains ys z
rows_to entries words table xs ys cx cy hx hy z there =
    let shortest = all_at (IsShortestSettled entries words) xs z cx.each there in
    let has = cy.all z.entry z.place (record { ws = z.words; are_words = shortest.are_words; stays = shortest.stays }) in
    let same = rows_agree entries words table has.row z (all_at (IsShortestSettled entries words) ys has.row cy.each has.there) shortest
    (all_at (IsChosenPair entries words table) ys has.row hy has.there) (all_at (IsChosenPair entries words table) xs z hx there) has.entry_is has.place_is in
    subst (λ (r : Row). Contains ys r) same has.there

-- Two lists of rows that are exactly the pairs that stay, each with the words of its chosen open hit, are one.
pub settled_rows_once : (entries words : List (List ℕ)) (table : List ℕ) (xs ys : List Row)
    → AreSettledPairs entries words xs → AreSettledPairs entries words ys
    → AreChosenRows entries words table xs → AreChosenRows entries words table ys → xs ≡ ys
settled_rows_once entries words table xs ys cx cy hx hy =
    same_members IsBefore before_itself before_trans xs ys cx.in_order cy.in_order (rows_to entries words table xs ys cx cy hx hy) (rows_to entries words table ys xs cy cx hy hx)
