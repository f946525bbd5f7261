use Rattle.std.proofs.Common.{◌≡◌, ℕ, List, [], ◌∷◌, length, drop, arith, refl, ◌⊎◌, inl, inr, length-drop, min}
use Rattle.std.proofs.lemmas.Bool.{cases_lt}
use Rattle.outline_trie.specs.inside.Tables.{shared}
use Rattle.outline_trie.proofs.shared.shared_len.Goals as goal

shared_none : (xs ys : List ℕ) → (length xs ≡ 0) ⊎ (length ys ≡ 0) → shared xs ys ≡ 0
shared_none [] ys h = refl
shared_none (x ∷ xs) [] h = refl
shared_none (x ∷ xs) (y ∷ ys) (inl h) = absurd (omega arith)
shared_none (x ∷ xs) (y ∷ ys) (inr h) = absurd (omega arith)

shared_all : (xs ys : List ℕ) (n m : ℕ) → n ≡ min (length xs) (length ys) → m ≡ n → shared (drop m xs) (drop m ys) ≡ 0
shared_all xs ys n m is all = elim (cases_lt (length xs) (length ys)) [
  | inl shorter ↦ shared_none (drop m xs) (drop m ys) (inl (omega (arith, length-drop m xs)))
  | inr longer ↦ shared_none (drop m xs) (drop m ys) (inr (omega (arith, length-drop m ys)))
]

pub returns-clause-is : goal.returns-clause-is
returns-clause-is c = let a = c.min-place-end.ensures in let b = c.min.ensures in
    omega (arith, c.loop-place.invariant, shared_all c.args.left.now c.args.right.now c.min.result c.loop-place.place b (omega arith))
