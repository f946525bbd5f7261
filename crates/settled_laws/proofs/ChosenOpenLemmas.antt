-- The chosen open hit of a pair has its least strokes, and the walk to it and the word that is ended have the pair.
use Rattle.std.proofs.Common.{◌≡◌, ℕ, ◌+◌, ◌-◌, ◌<◌, ◌≤◌, List, [], ◌∷◌, ◌++◌, length, refl, sym, ap, subst, ◌∙◌, arith, true}
use Rattle.std.specs.List.{concat, AllByRecursion}
use Rattle.std.proofs.lemmas.Bool.{cases_lt, cases_order}
use Rattle.graph_rules.specs.Graphs.{IsBest, AreSettled}
use Rattle.graph_rules.proofs.SettledLemmas.{best_once}
use Rattle.steno_rules.specs.Outlines.{AreWords, is_word, outline_of}
use Rattle.steno_rules.specs.Conflicts.{AreWordNumbers, outlines_of, joined_strokes}
use Rattle.steno_rules.specs.ClosureGraphs.{kept_lists}
use Rattle.steno_rules.specs.StateNumbers.{number_count}
use Rattle.steno_rules.specs.States.{State}
use Rattle.steno_rules.specs.Reached.{MarksBoundary}
use Rattle.closure_laws.specs.Examples.{example}
use Rattle.closure_laws.proofs.ConflictLemmas.{numbers_of}
use Rattle.closure_laws.proofs.ExampleLemmas.{example_stands}
use Rattle.settled_laws.specs.SettledPairs.{Stays, IsLeastSettled}
use Rattle.settled_laws.specs.OpenNumbers.{IsOpenNumber, IsLeastOpen}
use Rattle.settled_laws.specs.ChosenOpenHits.{IsChosenOpen, ended_word, finished_example}
use Rattle.settled_laws.proofs.SettledLemmas.{IsLeastSettled-number, ended_words, ends_of, stays_by_mark}

-- ---- the choice

-- two numbers, of which neither is greater
same_of : (a b : ℕ) → a ≤ b → b ≤ a → a ≡ b
same_of a b l m = omega arith

-- There is at most one,
pub chosen_open_once : (entries words : List (List ℕ)) (e place number n other k : ℕ) (z y : List ℕ) → IsChosenOpen entries words e place number n z →
    IsChosenOpen entries words e place other k y → (number ≡ other) × (n ≡ k) × (length z ≡ length y)
chosen_open_once entries words e place number n other k z y h g =
    let sums : n + length z ≡ k + length y = same_of (n + length z) (k + length y) (h.least other k y g.is) (g.least number n z h.is) in
    let same : number ≡ other = same_of number other (h.first other k y g.is (sym sums)) (g.first number n z h.is sums) in
    let moves : n ≡ k = best_once 0 (kept_lists entries words) other n k (subst (λ i. IsBest 0 (kept_lists entries words) i n) same h.is.best) g.is.best in
    (same, moves, omega (arith, sums, moves))

-- and its sum is the pair's least number of strokes.
pub chosen_open_least : (entries words : List (List ℕ)) (table : List ℕ) (e place number n : ℕ) (z : List ℕ) → AreWords entries words →
    AreSettled 0 (kept_lists entries words) table → IsChosenOpen entries words e place number n z → IsLeastSettled entries words e place (n + length z)
chosen_open_least entries words table e place number n z are settled h =
    (IsLeastSettled-number entries words table e place (n + length z) are settled).1 (record {
      number = number;
      moves = n;
      z = z;
      is = h.is;
      sum = refl;
      least = h.least;
    })

-- ---- the words

-- The words of the walk to an open hit and the one that z ends are words,
pub finished_words : (entries words : List (List ℕ)) (table : List ℕ) (e place number n : ℕ) (z : List ℕ) → AreWords entries words → number_count entries < 4294967296 →
    AreSettled 0 (kept_lists entries words) table → (h : IsOpenNumber entries words e place number n z) →
    (ws : List ℕ) × AreWordNumbers entries words ws × (outlines_of entries ws ≡ finished_example entries words table n number h.state.v z)
finished_words entries words table e place number n z are few settled h =
    let s : State = h.state in
    let stands = example_stands entries words table number n s are few settled h.is h.best in
    let can = ends_of entries words s (outline_of entries e) z h.can in
    numbers_of entries words (example entries words table n number ++ ended_word s.v z) are
    (ended_words entries words (example entries words table n number) s.u s.v (outline_of entries e) z stands.are_words can)

-- and have the pair, with as many strokes as moves and strokes of z.
pub finished_stays : (entries words : List (List ℕ)) (table : List ℕ) (e place number n : ℕ) (z : List ℕ) → AreWords entries words → number_count entries < 4294967296 →
    AreSettled 0 (kept_lists entries words) table → (h : IsOpenNumber entries words e place number n z) →
    (ws : List ℕ) → outlines_of entries ws ≡ finished_example entries words table n number h.state.v z →
    Stays entries ws e place × (length (joined_strokes entries ws) ≡ n + length z)
finished_stays entries words table e place number n z are few settled h ws same =
    let s : State = h.state in
    let vs : List (List ℕ) = example entries words table n number in
    let stands = example_stands entries words table number n s are few settled h.is h.best in
    let long : length (concat vs ++ s.v) ≡ n = stands.strokes in
    let marks : MarksBoundary vs (length (concat vs ++ s.v)) (length s.u) s.mark = subst (λ k. MarksBoundary vs k (length s.u) s.mark) (sym long) stands.marks in
    let made = stays_by_mark entries words vs s.u s.v s.mark e place z stands.window marks h.hit.piece h.hit.mark (ends_of entries words s (outline_of entries e) z h.can) ws same in
    (made.0, omega (arith, made.1, long))
