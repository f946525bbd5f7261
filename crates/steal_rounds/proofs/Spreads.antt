-- Moves that stand in histories that grow.
use Rattle.std.proofs.Common.{◌≡◌, ℕ, ◌+◌, ◌*◌, ◌<◌, ◌≤◌, ◌⊎◌, true, List, [], ◌∷◌, ◌++◌, length, get_or, Some, refl, ap, sym, subst, ◌∙◌, ⊎_elim, inl, inr, arith, append_assoc, length-append}
use Rattle.std.specs.Prelude.{slice_get}
use Rattle.std.proofs.lemmas.List.{append-nil}
use Rattle.std.proofs.lemmas.Option.{slice_get-get_or}
use mathlib.Core.List.{IsPrefix}
use Rattle.graph_rules.specs.Graphs.{HasTarget, row, moved, Stands}
use Rattle.round_core.specs.Rounds.{Has}
use Rattle.dist_table.specs.declared.call.Call.{Call}
use Rattle.dist_table.specs.Histories.{call}
use Rattle.dist_table.specs.Tables.{TableView, PassView, MakesRelax}
use Rattle.dist_table.specs.Histories.{IsLegal}
use Rattle.steal_rounds.specs.inside.Fronts.{IsWorked}
use Rattle.steal_rounds.specs.inside.Moves.{IsLegalPass}
use Rattle.steal_rounds.specs.inside.Moves.{Relaxed, Spread, Worked, IsLaterPass, FoundBy, Found, AddsFound}
use Rattle.round_core.specs.inside.InRounds.{moves_of}
use Rattle.std.specs.Prelude.{sum_by}
use Rattle.std.proofs.lemmas.List.Sums.{sum_by-append, sum_by-cons}
use Rattle.round_core.proofs.Places.{get_front, get_last, get_snoc}

pub prefix_self : {A : Type 0} (xs : List A) → IsPrefix xs xs
prefix_self xs = ([], append-nil xs)

pub prefix_trans : {A : Type 0} (xs ys zs : List A) → IsPrefix xs ys → IsPrefix ys zs → IsPrefix xs zs
prefix_trans xs ys zs p q = (p.0 ++ q.0, sym (append_assoc xs p.0 q.0) ∙ (ap (λ w. w ++ q.0) p.1 ∙ q.1))

pub prefix_get : {A : Type 0} (xs ys : List A) (i : ℕ) (x : A) → IsPrefix xs ys → slice_get xs i ≡ Some x → slice_get ys i ≡ Some x
prefix_get xs ys i x p e = subst (λ l. slice_get l i ≡ Some x) p.1 (get_front xs p.0 i x e)

pub prefix_length : {A : Type 0} (xs ys : List A) → IsPrefix xs ys → length xs ≤ length ys
prefix_length xs ys p = let e = ap length (sym p.1) in let l = length-append xs p.0 in omega (arith, e, l)

pub has_more : (xs ys : List ℕ) (u : ℕ) → IsPrefix xs ys → Has xs u → Has ys u
has_more xs ys u p h = (h.0, prefix_get xs ys h.0 u p h.1)

pub relaxed_more : (t : TableView) (k : ℕ) (seen now : List Call) (notes more : List ℕ) (s u : ℕ) → IsPrefix seen now → IsPrefix notes more → Relaxed t k seen notes s u → Relaxed t k now more s u
relaxed_more t k seen now notes more s u p q r = (
  r.0,
  r.1,
  r.2,
  prefix_get seen now r.0 (call r.1 true u (moved k s) r.2) p r.3,
  r.4,
  ⊎_elim (λ (lt : r.2 < moved k s). inl lt) (λ (h : Has notes u). inr (has_more notes more u q h)) r.5,
)

pub spread_more : (t : TableView) (k : ℕ) (seen now : List Call) (notes more : List ℕ) (s : ℕ) → IsPrefix seen now → IsPrefix notes more → Spread t k seen notes s → Spread t k now more s
spread_more t k seen now notes more s p q h u edge = relaxed_more t k seen now notes more s u p q (h u edge)

pub worked_more : (t : TableView) (k : ℕ) (seen now : List Call) (notes more states : List ℕ) → IsPrefix seen now → IsPrefix notes more → Worked t k seen notes states → Worked t k now more states
worked_more t k seen now notes more states p q h i s at = spread_more t k seen now notes more s p q (h i s at)

-- the same where what was noted stands in any order
pub worked_into : (t : TableView) (k : ℕ) (seen now : List Call) (notes more states : List ℕ) → IsPrefix seen now → ((v : ℕ) → Has notes v → Has more v) → Worked t k seen notes states → Worked t k now more states
worked_into t k seen now notes more states p q h i s at u edge =
    let r = h i s at u edge in
    (r.0, r.1, r.2, prefix_get seen now r.0 (call r.1 true u (moved k s) r.2) p r.3, r.4, ⊎_elim (λ (lt : r.2 < moved k s). inl lt) (λ (x : Has notes u). inr (q u x)) r.5)

-- what was found before or after is found over both
pub foundby_more : (t : TableView) (k : ℕ) (first old now last : List Call) (s u : ℕ) → IsPrefix first old → IsPrefix now last → FoundBy t k old now s u → FoundBy t k first last s u
foundby_more t k first old now last s u p q f =
    let l = prefix_length first old p in let b = f.1.3 in
    (f.0, (f.1.0, f.1.1, f.1.2, omega (arith, l, b), prefix_get now last f.1.0 (call f.1.1 true u (moved k s) f.1.2) q f.1.4, f.1.5))

pub found_more : (t : TableView) (k : ℕ) (states : List ℕ) (first old now last : List Call) (u : ℕ) → IsPrefix first old → IsPrefix now last → Found t k states old now u → Found t k states first last u
found_more t k states first old now last u p q f = (f.0, f.1, foundby_more t k first old now last f.0 u p q f.2)

pub adds_self : (t : TableView) (k : ℕ) (states : List ℕ) (old now : List Call) (notes : List ℕ) → AddsFound t k states old now notes notes
adds_self t k states old now notes u h = inl h

pub adds_on : (t : TableView) (k : ℕ) (states : List ℕ) (a b c : List Call) (xs ys zs : List ℕ) → IsPrefix a b → IsPrefix b c → AddsFound t k states a b xs ys → AddsFound t k states b c ys zs → AddsFound t k states a c xs zs
adds_on t k states a b c xs ys zs p q f g u h =
    ⊎_elim
    (λ (old : Has ys u). ⊎_elim (λ (older : Has xs u). inl older) (λ (new : Found t k states a b u). inr (found_more t k states a a b c u (prefix_self a) q new)) (f u old))
    (λ (new : Found t k states b c u). inr (found_more t k states a b c c u p (prefix_self c) new))
    (g u h)

pub goes_self : (t : TableView) (p : PassView) → IsLegalPass t p → IsLaterPass t p p
goes_self t p h = (h.0, (refl, refl), prefix_self p.seen, h.1)

pub goes_on : (t : TableView) (p q r : PassView) → IsLaterPass t p q → IsLaterPass t q r → IsLaterPass t p r
goes_on t p q r a b = (b.0, (b.1.0 ∙ a.1.0, b.1.1 ∙ a.1.1), prefix_trans p.seen q.seen r.seen a.2 b.2, b.3)

pub makes_goes : (t : TableView) (p q : PassView) (state value reply : ℕ) → p.table ≡ t → MakesRelax p state value reply q → IsLaterPass t p q
makes_goes t p q state value reply h m =
    let c = call p.number true state value reply in
    (m.0.0 ∙ h, m.0, (m.1.between ++ c ∷ [], sym (append_assoc p.seen m.1.between (c ∷ [])) ∙ sym m.1.ends), subst (λ (x : TableView). IsLegal x.origin x.lists q.seen) h m.1.legal)

-- where a call stands in the history that it ends
call_at : (t : TableView) (p q : PassView) (state value reply : ℕ) → (m : MakesRelax p state value reply q) → slice_get q.seen (length (p.seen ++ m.1.between)) ≡ Some (call p.number true state value reply)
call_at t p q state value reply m =
    let c = call p.number true state value reply in
    subst (λ l. slice_get l (length (p.seen ++ m.1.between)) ≡ Some c) (sym m.1.ends) (get_last (p.seen ++ m.1.between) c [])

-- a relax stands in the history, where its target was noted or its word was less
pub makes_relaxed : (t : TableView) (p q : PassView) (k s u reply : ℕ) (notes : List ℕ) → MakesRelax p u (moved k s) reply q → Stands t.origin t.lists u reply → ((reply < moved k s) ⊎ Has notes u) → Relaxed t k q.seen notes s u
makes_relaxed t p q k s u reply notes m stands how = (length (p.seen ++ m.1.between), p.number, reply, call_at t p q u (moved k s) reply m, stands, how)

pub makes_found : (t : TableView) (p q : PassView) (k s u reply : ℕ) → HasTarget t.lists s u → MakesRelax p u (moved k s) reply q → moved k s ≤ reply → FoundBy t k p.seen q.seen s u
makes_found t p q k s u reply edge m le = (edge, (length (p.seen ++ m.1.between), p.number, reply, (let l = length-append p.seen m.1.between in omega (arith, l)), call_at t p q u (moved k s) reply m, le))

-- the targets that were passed, and those that are left
abbrev pub Passing : TableView → ℕ → ℕ → List ℕ → List ℕ → List Call → List ℕ → Type 0
Passing t k s all left seen notes = (gone : List ℕ) × (gone ++ left ≡ all) × ((i u : ℕ) → slice_get gone i ≡ Some u → Relaxed t k seen notes s u)

pub passing_next : (t : TableView) (k s : ℕ) (all left : List ℕ) (u : ℕ) (seen now : List Call) (notes more : List ℕ) → IsPrefix seen now → IsPrefix notes more
    → Passing t k s all (u ∷ left) seen notes → Relaxed t k now more s u → Passing t k s all left now more
passing_next t k s all left u seen now notes more p q h r = (
  h.0 ++ u ∷ [],
  append_assoc h.0 (u ∷ []) left ∙ h.1,
  λ i x e. ⊎_elim (λ at. relaxed_more t k seen now notes more s x p q (h.2 i x at)) (λ (same : u ≡ x). subst (λ y. Relaxed t k now more s y) same r) (get_snoc h.0 u x i e),
)

passed_all : (t : TableView) (k s : ℕ) (all : List ℕ) (seen : List Call) (notes : List ℕ) → Passing t k s all [] seen notes → (u : ℕ) → ((i : ℕ) × (slice_get all i ≡ Some u)) → Relaxed t k seen notes s u
passed_all t k s all seen notes h u edge = h.2 edge.0 u (subst (λ l. slice_get l edge.0 ≡ Some u) (sym h.1 ∙ append-nil h.0) edge.1)

passing_at : (t : TableView) (k s : ℕ) (all l m : List ℕ) (seen : List Call) (notes : List ℕ) → l ≡ m → Passing t k s all l seen notes → Passing t k s all m seen notes
passing_at t k s all l m seen notes e h = subst (λ x. Passing t k s all x seen notes) e h

-- what is listed is a target
pub listed_target : (t : TableView) (s : ℕ) (targets : List ℕ) (i : ℕ) → targets ≡ row t.lists s → i < length targets → HasTarget t.lists s (get_or targets i 0)
listed_target t s targets i are lt = (i, subst (λ (l : List ℕ). slice_get l i ≡ Some (get_or targets i 0)) are (slice_get-get_or targets i 0 lt))

pub all_at : (t : TableView) (k s : ℕ) (all left : List ℕ) (seen : List Call) (notes : List ℕ) → left ≡ [] → Passing t k s all left seen notes → (u : ℕ) → ((i : ℕ) × (slice_get all i ≡ Some u)) → Relaxed t k seen notes s u
all_at t k s all left seen notes e h = passed_all t k s all seen notes (passing_at t k s all left [] seen notes e h)

-- what is kept while the moves of s are made
pub record Spreading (t : TableView) (k s : ℕ) (p q : PassView) (first notes all left : List ℕ) (moves : ℕ) : Type 0 where
  pub goes : IsLaterPass t p q
  pub notes_on : IsPrefix first notes
  pub passing : Passing t k s all left q.seen notes
  pub adds : (u : ℕ) → Has notes u → Has first u ⊎ FoundBy t k p.seen q.seen s u
  pub count : moves + length left ≡ length all

-- a relax of the next target
pub steps_on : (t : TableView) (p q r : PassView) (first notes more all left rest : List ℕ) (u k s reply moves : ℕ)
    → Spreading t k s p q first notes all left moves → left ≡ u ∷ rest → MakesRelax q u (moved k s) reply r → Stands t.origin t.lists u reply → IsPrefix notes more
    → ((reply < moved k s) ⊎ Has more u) → ((v : ℕ) → Has more v → Has notes v ⊎ FoundBy t k q.seen r.seen s v)
    → Spreading t k s p r first more all rest (moves + 1)
steps_on t p q r first notes more all left rest u k s reply moves h e m stands pre' how new =
    let on = makes_goes t q r u (moved k s) reply h.goes.0 m in record {
      goes = goes_on t p q r h.goes on;
      notes_on = prefix_trans first notes more h.notes_on pre';
      passing = passing_next t k s all rest u q.seen r.seen notes more on.2 pre' (passing_at t k s all left (u ∷ rest) q.seen notes e h.passing) (makes_relaxed t q r k s u reply more m stands how);
      adds = λ v has. ⊎_elim
          (λ (old : Has notes v). ⊎_elim (λ (older : Has first v). inl older) (λ (f : FoundBy t k p.seen q.seen s v). inr (foundby_more t k p.seen p.seen q.seen r.seen s v (prefix_self p.seen) on.2 f)) (h.adds v old))
          (λ (f : FoundBy t k q.seen r.seen s v). inr (foundby_more t k p.seen q.seen r.seen r.seen s v h.goes.2 (prefix_self r.seen) f))
          (new v has);
      count = let c = h.count in let l = ap length e in omega (arith, c, l);
    }

-- the target was noted
pub notes_it : (t : TableView) (q r : PassView) (notes more : List ℕ) (u k s reply : ℕ) → more ≡ notes ++ u ∷ [] → HasTarget t.lists s u → MakesRelax q u (moved k s) reply r → moved k s ≤ reply
    → (v : ℕ) → Has more v → Has notes v ⊎ FoundBy t k q.seen r.seen s v
notes_it t q r notes more u k s reply e edge m le v has =
    let at = subst (λ l. slice_get l has.0 ≡ Some v) e has.1 in
    ⊎_elim (λ old. inl (has.0, old)) (λ (same : u ≡ v). inr (subst (λ x. FoundBy t k q.seen r.seen s x) same (makes_found t q r k s u reply edge m le))) (get_snoc notes u v has.0 at)

pub noted_last : (notes more : List ℕ) (u : ℕ) → more ≡ notes ++ u ∷ [] → (j : ℕ) × (slice_get more j ≡ Some u)
noted_last notes more u e = (length notes, subst (λ l. slice_get l (length notes) ≡ Some u) (sym e) (get_last notes u []))

pub begins : (t : TableView) (k s : ℕ) (p : PassView) (notes all : List ℕ) → IsLegalPass t p → Spreading t k s p p notes notes all all 0
begins t k s p notes all h = record { goes = goes_self t p h; notes_on = prefix_self notes; passing = ([], refl, λ i u e. absurd (cc e)); adds = λ u has. inl has; count = omega arith }

-- what is kept while states of a batch are worked
pub record Working (t : TableView) (k : ℕ) (states done : List ℕ) (p q : PassView) (first notes : List ℕ) (moves : ℕ) : Type 0 where
  pub goes : IsLaterPass t p q
  pub notes_on : IsPrefix first notes
  pub made : Worked t k q.seen notes done
  pub adds : AddsFound t k states p.seen q.seen first notes
  pub count : moves ≡ moves_of t.lists done
  pub most : moves ≤ length done * 4294967296

pub works_none : (t : TableView) (k : ℕ) (states : List ℕ) (p : PassView) (notes : List ℕ) → IsLegalPass t p → Working t k states [] p p notes notes 0
works_none t k states p notes h = record { goes = goes_self t p h; notes_on = prefix_self notes; made = λ i s e. absurd (cc e); adds = λ u has. inl has; count = refl; most = omega arith }

-- a state more of a batch
pub works_next : (t : TableView) (k : ℕ) (states done : List ℕ) (p q r : PassView) (first notes more : List ℕ) (moves s n : ℕ)
    → Working t k states done p q first notes moves → Has states s → IsLaterPass t q r → IsPrefix notes more → ((u : ℕ) → Has more u → Has notes u ⊎ FoundBy t k q.seen r.seen s u)
    → Spread t k r.seen more s → n ≡ length (row t.lists s) → n < 4294967296 → Working t k states (done ++ s ∷ []) p r first more (moves + n)
works_next t k states done p q r first notes more moves s n h has goes pre new spread is lt = record {
  goes = goes_on t p q r h.goes goes;
  notes_on = prefix_trans first notes more h.notes_on pre;
  made = λ i u e. ⊎_elim (λ at. spread_more t k q.seen r.seen notes more u goes.2 pre (h.made i u at)) (λ (same : s ≡ u). subst (Spread t k r.seen more) same spread) (get_snoc done s u i e);
  adds = adds_on t k states p.seen q.seen r.seen first notes more h.goes.2 goes.2 h.adds
      (λ u at. ⊎_elim (λ (old : Has notes u). inl old) (λ (f : FoundBy t k q.seen r.seen s u). inr (s, has, f)) (new u at));
  count = let c = h.count in let a = sum_by-append (λ x. length (row t.lists x)) done (s ∷ []) in let b = sum_by-cons (λ x. length (row t.lists x)) s [] in let z : sum_by {X = ℕ} (λ x. length (row t.lists x)) [] ≡ 0 = refl in omega (arith, c, a, b, z, is);
  most = let m = h.most in let l = length-append done (s ∷ []) in omega (arith, m, l, lt);
}

pub adds_by_more : (t : TableView) (k s : ℕ) (p q r : List Call) (first notes : List ℕ) → ((u : ℕ) → Has notes u → Has first u ⊎ FoundBy t k p q s u) → IsPrefix q r → (u : ℕ) → Has notes u → Has first u ⊎ FoundBy t k p r s u
adds_by_more t k s p q r first notes h pre u has = ⊎_elim (λ (old : Has first u). inl old) (λ (f : FoundBy t k p q s u). inr (foundby_more t k p p q r s u (prefix_self p) pre f)) (h u has)

-- a whole round was worked with one pass, and what was noted stands in another order
pub alone_worked : (t : TableView) (k : ℕ) (front : List ℕ) (p q : PassView) (first notes sorted : List ℕ) → IsLaterPass t p q → first ≡ [] → Worked t k q.seen notes front → AddsFound t k front p.seen q.seen first notes
    → ((v : ℕ) → Has notes v → Has sorted v) → ((v : ℕ) → Has sorted v → Has notes v) → IsWorked t k front p.seen q.seen sorted
alone_worked t k front p q first notes sorted goes empty made adds into from = record {
  legal = goes.3;
  grows = goes.2;
  moves = λ s u has edge. worked_into t k q.seen q.seen notes sorted front (prefix_self q.seen) into made has.0 s has.1 u edge;
  adds = λ u has. ⊎_elim (λ (old : Has first u). absurd (let e = subst (λ l. slice_get l old.0 ≡ Some u) empty old.1 in cc e)) (λ (f : Found t k front p.seen q.seen u). f) (adds u (from u has));
}
