-- What a search gives is one value.
use Rattle.std.proofs.Common.{◌≡◌, ℕ, List, sym, ap, ◌∙◌, arith}
use Rattle.graph_rules.proofs.SettledLemmas.{words_once}
use Rattle.graph_rules.specs.Graphs.{row}
use Rattle.round_core.specs.Searches.{SettledView, IsRounds, IsSearched, sum_reached}
use Rattle.std.proofs.Common.{length}

rounds_once : (o : ℕ) (ls : List (List ℕ)) (v w : ℕ) → IsRounds o ls v → IsRounds o ls w → v ≡ w
rounds_once o ls v w h k =
    let a = h.met in let b = k.met in
    let less = h.most b.0 b.1 b.2 b.3 in let more = k.most a.0 a.1 a.2 a.3 in
    let v_is = a.4 in let w_is = b.4 in
    omega (arith, less, more, v_is, w_is)

same_view : (v w : SettledView) → v.words ≡ w.words → v.rounds ≡ w.rounds → v.relaxed ≡ w.relaxed → v ≡ w
same_view v w words rounds relaxed =
    ap (λ x. record v { words = x }) words ∙ ap (λ x. record w { rounds = x; relaxed = v.relaxed }) rounds ∙ ap (λ x. record w { relaxed = x }) relaxed

pub search_once : (o : ℕ) (ls : List (List ℕ)) (v w : SettledView) → IsSearched o ls v → IsSearched o ls w → v ≡ w
search_once o ls v w h k =
    let words = words_once o ls v.words w.words h.words k.words in
    same_view v w words (rounds_once o ls v.rounds w.rounds h.rounds k.rounds)
    (h.relaxed ∙ ap (sum_reached (λ s. length (row ls s))) words ∙ sym k.relaxed)
