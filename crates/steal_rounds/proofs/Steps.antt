-- The steps of a search, over plain data.
use Rattle.std.proofs.Common.{◌≡◌, ℕ, suc, ◌+◌, ◌<◌, ◌≤◌, List, [], ◌∷◌, length, sym, subst, arith, refl}
use Rattle.graph_rules.proofs.Distances.{best_below}
use Rattle.round_core.specs.Rounds.{Has, AreRisingNumbers}
use Rattle.round_core.specs.Machines.{IsGraph}
use Rattle.dist_table.specs.declared.call.Call.{Call}
use Rattle.dist_table.specs.Tables.{TableView, PassView, LeavesWords}
use Rattle.dist_table.specs.Histories.{IsLegal}
use Rattle.round_core.specs.inside.InRounds.{moves_of}
use Rattle.steal_rounds.specs.inside.Crews.{IsRound}
use Rattle.steal_rounds.specs.inside.Fronts.{IsBeforeRound, IsWorked, IsCounted}
use Rattle.graph_rules.specs.Graphs.{row, AreSettled}
use Rattle.graph_rules.specs.Relaxed.{AreRelaxed}
use Rattle.graph_rules.proofs.RelaxedLemmas.{relaxed_settled}
use Rattle.round_core.specs.Searches.{SettledView, IsRounds, IsSearched, sum_reached}
use Rattle.dist_table.specs.Tables.{TableView, PassView, LeavesWords}
use Rattle.dist_table.specs.Histories.{IsLegal}
use Rattle.steal_rounds.specs.MadeMoves.{HasMoves}
use Rattle.steal_rounds.proofs.Finds.{are_relaxed}
use Rattle.steal_rounds.proofs.Fronts.{first_ready, next_ready}
use Rattle.steal_rounds.proofs.Counts.{next_counted}
use Rattle.steal_rounds.proofs.Rises.{few_rising}

pub graph_at : (o p : ℕ) (ls ms : List (List ℕ)) → o ≡ p → ls ≡ ms → IsGraph p ms → IsGraph o ls
graph_at o p ls ms e f h = subst (λ (x : ℕ × List (List ℕ)). IsGraph x.0 x.1) (λ i. (sym e i, sym f i)) h

here : (xs : List ℕ) → 0 < length xs → (s : ℕ) × Has xs s
here [] lt = absurd (omega (arith, lt))
here (x ∷ xs) lt = (x, (0, refl))

pub within_count : (t : TableView) (k : ℕ) (front : List ℕ) (seen : List Call) → IsBeforeRound t k front seen → 0 < length front → k < length t.lists
within_count t k front seen r some = let s = here front some in let b = r.frontier.best s.0 s.1 in best_below t.origin t.lists s.0 k b.0 b.1

pub is_round : (t : TableView) (k : ℕ) (front : List ℕ) (seen : List Call) → IsGraph t.origin t.lists → IsBeforeRound t k front seen → 0 < length front → IsRound t k front
is_round t k front seen g r some = (
  (let w = within_count t k front seen r some in let f = g.few in omega (arith, w, f)),
  (λ i s at. (let b = r.frontier.best s (i, at) in (b.0, (b.1).walk))),
  g.targets,
)

pub few_front : (t : TableView) (k : ℕ) (front : List ℕ) (seen : List Call) → IsGraph t.origin t.lists → IsBeforeRound t k front seen → length front ≤ 33554432
few_front t k front seen g r = let l = few_rising front (length t.lists) r.rising (λ y has. (r.frontier.best y has).0) in let f = g.few in omega (arith, l, f)

pub round_ready : (t : TableView) (k : ℕ) (front next notes : List ℕ) (seen now : List Call) → IsGraph t.origin t.lists → 0 < length front → IsBeforeRound t k front seen → IsWorked t k front seen now notes
    → ((u : ℕ) → Has next u → Has notes u) → ((u : ℕ) → Has notes u → Has next u) → AreRisingNumbers next → IsBeforeRound t (k + 1) next now
round_ready t k front next notes seen now g some r w fresh all rising =
    let s = here front some in
    let n = within_count t k front seen r some in let f = g.few in
    subst (λ m. IsBeforeRound t m next now) (omega arith) (next_ready t k front seen now notes (g, omega (arith, n, f)) r w next fresh all rising s.0 s.1)

pub round_counts : (t : TableView) (k relaxed moves sum : ℕ) (front : List ℕ) (seen : List Call) → IsBeforeRound t k front seen → IsCounted t k relaxed → moves ≡ moves_of t.lists front → sum ≡ relaxed + moves → IsCounted t (k + 1) sum
round_counts t k relaxed moves sum front seen r c is e =
    subst (λ (x : ℕ × ℕ). IsCounted t x.0 x.1) (λ i. (at i, total i)) (next_counted t k relaxed front seen r c)
  where
    at : suc k ≡ k + 1
    at = omega arith

    total : relaxed + moves_of t.lists front ≡ sum
    total = omega (arith, is, e)

pub search_ready : (t : TableView) (front : List ℕ) (seen : List Call) → IsGraph t.origin t.lists → front ≡ t.origin ∷ [] → seen ≡ [] → IsBeforeRound t 0 front seen
search_ready t front seen g e f = subst (λ (x : List ℕ × List Call). IsBeforeRound t 0 x.0 x.1) (λ i. (sym e i, sym f i)) (first_ready t g)

pub none_legal : (t : TableView) (seen : List Call) → seen ≡ [] → IsLegal t.origin t.lists seen
none_legal t seen e = subst (λ (l : List Call). IsLegal t.origin t.lists l) (sym e) tt

pub none_left : (xs : List ℕ) → length xs ≤ 0 → xs ≡ []
none_left [] le = refl
none_left (x ∷ xs) le = absurd (omega (arith, le))

pub is_searched : (t : TableView) (o : ℕ) (ls : List (List ℕ)) (p : PassView) (words : List ℕ) (v : SettledView) → p.table ≡ t → t.origin ≡ o → t.lists ≡ ls → length t.lists ≤ 33554432 → HasMoves t p.seen → LeavesWords p words → v.words ≡ words
    → IsRounds t.origin t.lists v.rounds → ((ws : List ℕ) → AreSettled t.origin t.lists ws → v.relaxed ≡ sum_reached (λ p. length (row t.lists p)) ws) → IsSearched o ls v
is_searched t o ls p words v of eo el few moves leaves is rounds relaxed = subst (λ (x : ℕ × List (List ℕ)). IsSearched x.0 x.1 v) (λ i. (eo i, el i)) (record { words = settled; rounds = rounds; relaxed = relaxed v.words settled })
  where
    settled : AreSettled t.origin t.lists v.words
    settled = subst (λ (ws : List ℕ). AreSettled t.origin t.lists ws) (sym is) (relaxed_settled t.origin t.lists words (omega (arith, few)) (subst (λ (x : TableView). AreRelaxed x.origin x.lists words) of (are_relaxed p words (subst (λ (x : TableView). HasMoves x p.seen) (sym of) moves) leaves)))
