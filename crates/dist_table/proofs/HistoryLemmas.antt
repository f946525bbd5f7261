-- Histories that grow, and beginnings of them.
use Rattle.std.proofs.Common.{◌≡◌, ◌≢◌, ℕ, ◌<◌, ◌≤◌, ◌==◌, Bool, true, false, cond, List, [], ◌∷◌, ◌++◌, length, get_or, set, refl, ap, sym, subst, ◌∙◌, arith, append_assoc, eq-eqb, ne_eqb, min}
use Rattle.std.specs.Prelude.{slice_index, slice_set}
use Rattle.std.proofs.lemmas.List.{append-nil, get_or-set_same, get_or-set_other}
use Rattle.std.proofs.Math.Nat.{min-eq_left, min-eq_right, lt_of_not-le, le_of_lt}
use mathlib.Core.List.{IsPrefix}
use mathlib.Core.Logic.{dite}
use native.Mathlib.Decide.{dec_le, ℕ_discrete}
use Rattle.graph_rules.specs.Graphs.{Stands}
use Rattle.dist_table.specs.declared.call.Call.{Call}
use Rattle.dist_table.specs.Histories.{words_after_call, replayed_words, AreReplies, calls_by}

pub words_after-push : (ws : List ℕ) (cs : List Call) (c : Call) → replayed_words ws (cs ++ c ∷ []) ≡ words_after_call (replayed_words ws cs) c
words_after-push ws [] c = refl
words_after-push ws (d ∷ cs) c = words_after-push (words_after_call ws d) cs c

pub AreReplies-push : (ws : List ℕ) (cs : List Call) (c : Call) → AreReplies ws cs → c.reply ≡ slice_index (replayed_words ws cs) c.state → AreReplies ws (cs ++ c ∷ [])
AreReplies-push ws [] c h e = (e, tt)
AreReplies-push ws (d ∷ cs) c h e = (h.0, AreReplies-push (words_after_call ws d) cs c h.1 e)

pub AreReplies-front : (ws : List ℕ) (xs ys : List Call) → AreReplies ws (xs ++ ys) → AreReplies ws xs
AreReplies-front ws [] ys h = tt
AreReplies-front ws (x ∷ xs) ys h = (h.0, AreReplies-front (words_after_call ws x) xs ys h.1)

cons_if : (b : Bool) (c : Call) (xs ys : List Call) → cond b (c ∷ (xs ++ ys)) (xs ++ ys) ≡ cond b (c ∷ xs) xs ++ ys
cons_if true c xs ys = refl
cons_if false c xs ys = refl

pub calls_by-append : (n : ℕ) (xs ys : List Call) → calls_by n (xs ++ ys) ≡ calls_by n xs ++ calls_by n ys
calls_by-append n [] ys = refl
calls_by-append n (x ∷ xs) ys = ap (λ l. cond (x.pass == n) (x ∷ l) l) (calls_by-append n xs ys) ∙ cons_if (x.pass == n) x (calls_by n xs) (calls_by n ys)

pub calls_by-mine : (n : ℕ) (c : Call) → c.pass ≡ n → calls_by n (c ∷ []) ≡ c ∷ []
calls_by-mine n c e = ap (λ b. cond b (c ∷ []) []) (eq-eqb c.pass n e)

pub calls_by-other : (n : ℕ) (c : Call) → c.pass ≢ n → calls_by n (c ∷ []) ≡ []
calls_by-other n c e = ap (λ b. cond b (c ∷ []) []) (ne_eqb c.pass n e)

-- a call of another pass adds nothing
pub calls_by-same : (n : ℕ) (log : List Call) (c : Call) → c.pass ≢ n → calls_by n (log ++ c ∷ []) ≡ calls_by n log
calls_by-same n log c e = calls_by-append n log (c ∷ []) ∙ ap (λ l. calls_by n log ++ l) (calls_by-other n c e) ∙ append-nil (calls_by n log)

pub prefix_self : (xs : List Call) → IsPrefix xs xs
prefix_self xs = ([], append-nil xs)

pub prefix_trans : (xs ys zs : List Call) → IsPrefix xs ys → IsPrefix ys zs → IsPrefix xs zs
prefix_trans xs ys zs p q = (p.0 ++ q.0, sym (append_assoc xs p.0 q.0) ∙ (ap (λ w. w ++ q.0) p.1 ∙ q.1))

pub prefix_shorter : (xs ys zs : List Call) → IsPrefix xs zs → IsPrefix ys zs → length xs ≤ length ys → IsPrefix xs ys
prefix_shorter [] ys zs p q le = (ys, refl)
prefix_shorter (x ∷ xs) [] zs p q le = absurd (omega arith)
prefix_shorter (x ∷ xs) (y ∷ ys) [] p q le = absurd (cc (p.1))
prefix_shorter (x ∷ xs) (y ∷ ys) (z ∷ zs) p q le =
    let heads : x ≡ y = cc (p.1, q.1) in
    let rest = prefix_shorter xs ys zs (p.0, cc (p.1)) (q.0, cc (q.1)) (omega arith) in
    (rest.0, cc (heads, rest.1))

nothing_more : (xs ys : List Call) → xs ++ ys ≡ xs → ys ≡ []
nothing_more [] ys e = e
nothing_more (x ∷ xs) ys e = nothing_more xs ys (cc e)

front_empty : (xs ys : List Call) → xs ++ ys ≡ [] → xs ≡ []
front_empty [] ys e = refl
front_empty (x ∷ xs) ys e = absurd (cc e)

back_empty : (xs ys : List Call) → xs ++ ys ≡ [] → ys ≡ []
back_empty [] ys e = e
back_empty (x ∷ xs) ys e = absurd (cc e)

-- what stands in a beginning stands in all that goes on from it
pub calls_by-between : (n : ℕ) (xs ys zs : List Call) → IsPrefix xs ys → IsPrefix ys zs → calls_by n zs ≡ calls_by n xs → calls_by n zs ≡ calls_by n ys
calls_by-between n xs ys zs p q e =
    let a : calls_by n ys ≡ calls_by n xs ++ calls_by n p.0 = ap (calls_by n) (sym p.1) ∙ calls_by-append n xs p.0 in
    let b : calls_by n zs ≡ calls_by n ys ++ calls_by n q.0 = ap (calls_by n) (sym q.1) ∙ calls_by-append n ys q.0 in
    let c : calls_by n xs ++ (calls_by n p.0 ++ calls_by n q.0) ≡ calls_by n xs = sym (append_assoc (calls_by n xs) (calls_by n p.0) (calls_by n q.0)) ∙ ap (λ l. l ++ calls_by n q.0) (sym a) ∙ sym b ∙ e in
    let d = nothing_more (calls_by n xs) (calls_by n p.0 ++ calls_by n q.0) c in
    b ∙ ap (λ l. calls_by n ys ++ l) (back_empty (calls_by n p.0) (calls_by n q.0) d) ∙ append-nil (calls_by n ys)

pub calls_by-none : (n : ℕ) (xs zs : List Call) → IsPrefix xs zs → calls_by n zs ≡ [] → calls_by n xs ≡ []
calls_by-none n xs zs p e = front_empty (calls_by n xs) (calls_by n p.0) (sym (calls_by-append n xs p.0) ∙ ap (calls_by n) p.1 ∙ e)

min_stands : (o : ℕ) (ls : List (List ℕ)) (s a b : ℕ) → Stands o ls s a → Stands o ls s b → Dec (a ≤ b) → Stands o ls s (min a b)
min_stands o ls s a b p q (yes d) = subst (Stands o ls s) (sym (min-eq_left d)) p
min_stands o ls s a b p q (no d) = subst (Stands o ls s) (sym (min-eq_right (le_of_lt (lt_of_not-le d)))) q

-- each settled word stands after a settled word became the lesser of itself and a settled word that stands for it
pub stand_after : (o : ℕ) (ls : List (List ℕ)) (ws : List ℕ) (i value : ℕ) → ((j : ℕ) → j < length ws → Stands o ls j (slice_index ws j)) → Stands o ls i value → i < length ws
    → (j : ℕ) → j < length ws → Stands o ls j (slice_index (slice_set ws i (min (slice_index ws i) value)) j)
stand_after o ls ws i value h v lt j below =
    let x = min (get_or ws i 0) value in
    dite (ℕ_discrete j i)
    (λ e. subst (λ k. Stands o ls k (get_or (set ws i x) k 0)) (sym e)
    (subst (Stands o ls i) (sym (get_or-set_same ws i x 0 lt)) (min_stands o ls i (get_or ws i 0) value (h i lt) v (dec_le (get_or ws i 0) value))))
    (λ ne. subst (Stands o ls j) (sym (get_or-set_other ws i j x 0 ne)) (h j below))
