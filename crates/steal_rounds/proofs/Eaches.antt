-- Two lists, one by one.
use Rattle.std.proofs.Common.{◌≡◌, ◌<◌, List, [], ◌∷◌, ◌++◌, length, get_or, set, arith, All}
use Rattle.steal_rounds.specs.inside.Lists.{Each}

pub each_append : {X : Type 0} (R : X → X → Type 0) (xs ys us vs : List X) → Each R xs us → Each R ys vs → Each R (xs ++ ys) (us ++ vs)
each_append R [] ys [] vs p q = q
each_append R [] ys (u ∷ us) vs p q = absurd p
each_append R (x ∷ xs) ys [] vs p q = absurd p
each_append R (x ∷ xs) ys (u ∷ us) vs p q = (p.0, each_append R xs ys us vs p.1 q)

pub each_one : {X : Type 0} (R : X → X → Type 0) (xs : List X) (d y : X) → length xs ≡ 1 → R (get_or xs 0 d) y → Each R xs (set xs 0 y)
each_one R [] d y len r = absurd (omega (arith, len))
each_one R (x ∷ []) d y len r = (r, tt)
each_one R (x ∷ z ∷ zs) d y len r = absurd (omega (arith, len))

pub each_none : {X : Type 0} (R : X → X → Type 0) (xs : List X) → length xs < 1 → Each R xs xs
each_none R [] len = tt
each_none R (x ∷ xs) len = absurd (omega (arith, len))

pub all_on : {X : Type 0} (P Q : X → Type 0) → ((x : X) → P x → Q x) → (xs : List X) → All P xs → All Q xs
all_on P Q f xs h = λ k d lt. f _ (h k d lt)
