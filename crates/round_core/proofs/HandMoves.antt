-- The moves that are left in a hand.
use Rattle.std.proofs.Common.{◌≡◌, ℕ, suc, ◌+◌, ◌-◌, ◌<◌, List, [], ◌∷◌, ◌++◌, length, get_or, take, drop, Option, Some, None, sym, ap, ◌∙◌, arith, false, true≢false}
use Rattle.std.specs.Prelude.{MatchOption, is_some}
use Rattle.graph_rules.specs.Graphs.{row}
use Rattle.round_core.specs.Machines.{Move, moves_from, moves_in}
use Rattle.round_core.proofs.Places.{drop_at, take_one}

-- a batch in hand, before its first move
pub batch_moves : (ls : List (List ℕ)) (front : List ℕ) (at size state next : ℕ) (ys : List ℕ) → 0 < size → at < length front → state ≡ get_or front at 0 → next ≡ at + 1 → ys ≡ row ls state
    → moves_from state ys ++ moves_in ls (take (size - 1) (drop next front)) ≡ moves_in ls (take size (drop at front))
batch_moves ls front at size state next ys some below is next_is ys_is =
    ap (λ l. moves_from state l ++ moves_in ls (take (size - 1) (drop next front))) ys_is
    ∙ ap (λ n. moves_from state (row ls state) ++ moves_in ls (take (size - 1) (drop n front))) (let e : next ≡ suc at = omega (arith, next_is) in e)
    ∙ ap (λ q. moves_in ls (q ∷ take (size - 1) (drop (suc at) front))) is
    ∙ ap (moves_in ls) (sym (take_one size (get_or front at 0) (drop (suc at) front) some))
    ∙ ap (λ l. moves_in ls (take size l)) (sym (drop_at front at below))

-- the next number of the batch, where no target of the number before is left
pub next_moves : (ls : List (List ℕ)) (s : ℕ) (xs front : List ℕ) (at more state next : ℕ) (ys : List ℕ) → xs ≡ [] → 0 < more → at < length front → state ≡ get_or front at 0 → next ≡ at + 1 → ys ≡ row ls state
    → moves_from state ys ++ moves_in ls (take (more - 1) (drop next front)) ≡ moves_from s xs ++ moves_in ls (take more (drop at front))
next_moves ls s xs front at more state next ys none some below is next_is ys_is = batch_moves ls front at more state next ys some below is next_is ys_is ∙ ap (λ l. moves_from s l ++ moves_in ls (take more (drop at front))) (sym none)

pub first_move : (ls : List (List ℕ)) (s t : ℕ) (xs ys ss : List ℕ) → xs ≡ t ∷ ys → moves_from s xs ++ moves_in ls ss ≡ record { source = s; target = t } ∷ (moves_from s ys ++ moves_in ls ss)
first_move ls s t xs ys ss is = ap (λ l. moves_from s l ++ moves_in ls ss) is

-- what one call of `next` tells
pub told : (ls : List (List ℕ)) (s : ℕ) (xs ys ss : List ℕ) (all : List Move) (next : Option ℕ) → MatchOption next ((xs ≡ []) × (ys ≡ [])) (λ t. xs ≡ t ∷ ys) → moves_from s xs ++ moves_in ls ss ≡ all
    → MatchOption next ((ys ≡ []) × (moves_from s ys ++ moves_in ls ss ≡ all)) (λ t. all ≡ record { source = s; target = t } ∷ (moves_from s ys ++ moves_in ls ss))
told ls s xs ys ss all None h is = (h.1, ap (λ l. moves_from s l ++ moves_in ls ss) (h.1 ∙ sym h.0) ∙ is)
told ls s xs ys ss all (Some t) h is = sym is ∙ first_move ls s t xs ys ss h

pub when_none : (A : Type 0) (B : ℕ → Type 0) (o : Option ℕ) → is_some o ≡ false → MatchOption o A B → A
when_none A B None e h = h
when_none A B (Some t) e h = absurd (true≢false e)
