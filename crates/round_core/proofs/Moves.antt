-- Batches of the frontier, and the moves of their numbers.
use Rattle.std.proofs.Common.{◌≡◌, ℕ, zero, suc, ◌+◌, ◌-◌, ◌*◌, ◌/◌, ◌%◌, ◌≤◌, ◌<◌, ◌⊎◌, List, [], ◌∷◌, ◌++◌, length, drop, Some, sym, ap, subst, arith, inl, inr}
use Rattle.std.specs.Prelude.{slice_get}
use Rattle.std.proofs.Math.Nat.{mod-lt}
use Rattle.std.proofs.lemmas.Nat.{div-add-mod', le-div, div_below, mul-le}
use Rattle.std.proofs.lemmas.Bool.{cases_lt}
use Rattle.graph_rules.specs.Graphs.{row, HasTarget}
use Rattle.round_core.specs.Machines.{Move, batch_of, batch_count, moves_from, moves_in}
use Rattle.round_core.specs.Rounds.{Has}
use Rattle.round_core.proofs.Members.{has_first, has_later}
use Rattle.round_core.proofs.Places.{get_below, get_drop, get_front, get_of_drop, get_of_take, get_take}

-- ---- batches

pub batch_has : (front : List ℕ) (size p i : ℕ) → 0 < size → slice_get front i ≡ Some p → (i / size < batch_count (length front) size) × Has (batch_of front size (i / size)) p
batch_has front size p i some e = (
  below,
  (i % size, get_take (drop (i / size * size) front) size (i % size) p (mod-lt i some) (get_drop front (i / size * size) (i % size) p (subst (λ n. slice_get front n ≡ Some p) (sym (div-add-mod' i size)) e))),
)
  where
    below : i / size < batch_count (length front) size
    below = let l = get_below front i p e in let d = div-add-mod' i size in let m = mod-lt i some in
        let s : (suc (i / size)) * size ≡ i / size * size + size = omega arith in
        let h : (suc (i / size)) * size ≤ length front + (size - 1) = omega (arith, l, d, s, some) in
        le-div (suc (i / size)) (length front + (size - 1)) size some h

pub batch_below : (states size b : ℕ) → 0 < size → b < batch_count states size → b * size < states
batch_below states size b some lt = elim (cases_lt (b * size) states) [
  | inl below ↦ below
  | inr ge ↦ absurd (none (div_below (states + (size - 1)) size (suc b) some (past ge)))
]
  where
    past : states ≤ b * size → states + (size - 1) < suc b * size
    past ge = let s : suc b * size ≡ b * size + size = omega arith in omega (arith, s, ge, some)

    none : batch_count states size < suc b → ⊥
    none l = omega (arith, lt, l)

pub in_batch : (front : List ℕ) (size b s : ℕ) → Has (batch_of front size b) s → Has front s
in_batch front size b s h = get_of_drop front (b * size) h.0 s (get_of_take (drop (b * size) front) size h.0 s h.1)

-- a round has no more batches than states
pub batches_short : (states size : ℕ) → 0 < states → 0 < size → batch_count states size ≤ states
batches_short states size some positive = let l = div_below (states + (size - 1)) size (suc states) positive (over (mul-le states 1 states size (omega arith) positive)) in close l
  where
    over : states * 1 ≤ states * size → states + (size - 1) < suc states * size
    over le = let s : suc states * size ≡ states * size + size = omega arith in omega (arith, le, s, positive)

    close : batch_count states size < suc states → batch_count states size ≤ states
    close l = omega (arith, l)

-- ---- the moves that are in a list

abbrev pub InMoves : List Move → ℕ → ℕ → Type 0
InMoves moves p t = (i : ℕ) × (slice_get moves i ≡ Some (record { source = p; target = t }))

in_left : (xs ys : List Move) (p t : ℕ) → InMoves xs p t → InMoves (xs ++ ys) p t
in_left xs ys p t h = (h.0, get_front xs ys h.0 (record { source = p; target = t }) h.1)

in_right : (xs ys : List Move) (p t : ℕ) → InMoves ys p t → InMoves (xs ++ ys) p t
in_right [] ys p t h = h
in_right (x ∷ xs) ys p t h = let rest = in_right xs ys p t h in (suc rest.0, rest.1)

in_from : (s : ℕ) (ts : List ℕ) (t i : ℕ) → slice_get ts i ≡ Some t → InMoves (moves_from s ts) s t
in_from s [] t i e = absurd (cc e)
in_from s (u ∷ ts) t zero e = (0, ap (λ x. Some (record { source = s; target = x })) (let same : u ≡ t = cc in same))
in_from s (u ∷ ts) t (suc i) e = let rest = in_from s ts t i e in (suc rest.0, rest.1)

pub in_all : (ls : List (List ℕ)) (ss : List ℕ) (p t i : ℕ) → slice_get ss i ≡ Some p → HasTarget ls p t → InMoves (moves_in ls ss) p t
in_all ls [] p t i e target = absurd (cc e)
in_all ls (s ∷ ss) p t zero e target = in_left (moves_from s (row ls s)) (moves_in ls ss) p t (subst (λ x. InMoves (moves_from x (row ls x)) p t) (let same : p ≡ s = cc in same) (in_from p (row ls p) t target.0 target.1))
in_all ls (s ∷ ss) p t (suc i) e target = in_right (moves_from s (row ls s)) (moves_in ls ss) p t (in_all ls ss p t i e target)

pub none_in : (p t : ℕ) → InMoves [] p t → ⊥
none_in p t h = let e = h.1 in absurd (cc e)

in_cons_at : (m : Move) (ms : List Move) (p t i : ℕ) → slice_get (m ∷ ms) i ≡ Some (record { source = p; target = t }) → ((p ≡ m.source) × (t ≡ m.target)) ⊎ InMoves ms p t
in_cons_at m ms p t zero e = let same : m ≡ record { source = p; target = t } = cc e in inl (sym (ap (λ x. x.source) same), sym (ap (λ x. x.target) same))
in_cons_at m ms p t (suc i) e = inr (i, e)

pub in_cons : (m : Move) (ms : List Move) (p t : ℕ) → InMoves (m ∷ ms) p t → ((p ≡ m.source) × (t ≡ m.target)) ⊎ InMoves ms p t
in_cons m ms p t h = in_cons_at m ms p t h.0 h.1

-- ---- what holds of all moves of a list

abbrev pub AllMoves : (ℕ → ℕ → Type 0) → List Move → Type 0
AllMoves P [] = Unit {0}
AllMoves P (m ∷ ms) = P m.source m.target × AllMoves P ms

all_append : (P : ℕ → ℕ → Type 0) (xs ys : List Move) → AllMoves P xs → AllMoves P ys → AllMoves P (xs ++ ys)
all_append P [] ys h k = k
all_append P (x ∷ xs) ys h k = (h.0, all_append P xs ys h.1 k)

all_from : (P : ℕ → ℕ → Type 0) (s : ℕ) (ts : List ℕ) → ((t : ℕ) → Has ts t → P s t) → AllMoves P (moves_from s ts)
all_from P s [] h = tt
all_from P s (t ∷ ts) h = (h t (has_first t ts), all_from P s ts (λ u has. h u (has_later t ts u has)))

pub all_in : (P : ℕ → ℕ → Type 0) (ls : List (List ℕ)) (ss : List ℕ) → ((s t : ℕ) → Has ss s → HasTarget ls s t → P s t) → AllMoves P (moves_in ls ss)
all_in P ls [] h = tt
all_in P ls (s ∷ ss) h = all_append P (moves_from s (row ls s)) (moves_in ls ss) (all_from P s (row ls s) (λ t has. h s t (has_first s ss) has)) (all_in P ls ss (λ q t has target. h q t (has_later s ss q has) target))
