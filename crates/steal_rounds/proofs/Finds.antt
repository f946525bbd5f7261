-- The words that a search leaves on the table.
use Rattle.std.proofs.Common.{◌≡◌, ℕ, ◌<◌, ◌≤◌, Bool, true, false, List, [], ◌∷◌, length, get_or, replicate, refl, ap, sym, subst, ◌∙◌, arith, length-set}
use Rattle.std.specs.Prelude.{slice_index}
use mathlib.Core.List.{IsPrefix}
use Rattle.std.proofs.lemmas.List.{length-replicate}
use Rattle.graph_rules.specs.Graphs.{Stands, moved, unreached}
use Rattle.graph_rules.specs.Relaxed.{AreRelaxed}
use Rattle.dist_table.specs.declared.call.Call.{Call}
use Rattle.dist_table.specs.Histories.{words_after_call, replayed_words, opening_words}
use Rattle.dist_table.specs.Tables.{TableView, PassView, LeavesWords}
use Rattle.steal_rounds.specs.MadeMoves.{HasMoves}
use Rattle.steal_rounds.proofs.Spreads.{prefix_get}
use Rattle.steal_rounds.proofs.Falls.{fell, left_less, opens_zero}

length-words_after_call : (ws : List ℕ) (c : Call) → length (words_after_call ws c) ≡ length ws
length-words_after_call ws c = by c.relax refl
  where
    by : (b : Bool) → c.relax ≡ b → length (words_after_call ws c) ≡ length ws
    by true is = rw is (length-set ws c.state _)
    by false is = rw is refl

length-replayed_words : (ws : List ℕ) (log : List Call) → length (replayed_words ws log) ≡ length ws
length-replayed_words ws [] = refl
length-replayed_words ws (c ∷ log) = length-replayed_words (words_after_call ws c) log ∙ length-words_after_call ws c

pub are_relaxed : (p : PassView) (words : List ℕ) → HasMoves p.table p.seen → LeavesWords p words → AreRelaxed p.table.origin p.table.lists words
are_relaxed p words moves left = relaxed p.table p.seen words left.history moves left.begins left.left left.stand
  where
    relaxed : (t : TableView) (seen : List Call) (words : List ℕ) (log : List Call) → HasMoves t seen → IsPrefix seen log → words ≡ replayed_words (opening_words t.origin (length t.lists)) log
        → ((s : ℕ) → s < length t.lists → Stands t.origin t.lists s (slice_index words s)) → AreRelaxed t.origin t.lists words
    relaxed t seen words log moves grows is stand = record {
      count = ap length is ∙ length-replayed_words (opening_words t.origin (length t.lists)) log ∙ length-set (replicate (length t.lists) unreached) t.origin 0 ∙ length-replicate (length t.lists) unreached;
      start = let a = fell (opening_words t.origin (length t.lists)) log t.origin in let b = opens_zero t.origin (length t.lists) in let c = ap (λ (ws : List ℕ). get_or ws t.origin 0) is in omega (arith, a, b, c);
      stand = stand;
      moves = λ s n u best edge below.
          (let m = moves s n u best edge in
          subst (λ (ws : List ℕ). get_or ws u 0 ≤ moved n s) (sym is) (left_less (opening_words t.origin (length t.lists)) log m.0 m.1 u (moved n s) m.2 (prefix_get seen log m.0 _ grows m.3)));
    }
