-- Turns that are taken one after the other, and records that are collected.
use Rattle.std.proofs.Common.{◌≡◌, ◌≢◌, ℕ, zero, suc, ◌+◌, ◌<◌, ◌≤◌, ◌⊎◌, List, [], ◌∷◌, ◌++◌, length, set, Some, false, refl, sym, subst, ◌∙◌, ⊎_elim, inl, inr, arith, length-set}
use Rattle.std.specs.Prelude.{slice_get, sum_by}
use Rattle.std.proofs.lemmas.Bool.{cases_lt}
use Rattle.std.proofs.lemmas.List.Sums.{sum_by-append, sum_by-cons}
use Rattle.round_core.specs.Rounds.{Has}
use Rattle.dist_table.specs.Tables.{TableView}
use Rattle.round_core.proofs.Places.{get_front, get_last, get_snoc}
use Rattle.steal_rounds.specs.declared.member.CrewMember.{CrewMember}
use Rattle.steal_rounds.specs.inside.Crews.{Turned}
use Rattle.steal_rounds.specs.inside.Records.{HadTurns, AreCollected}
use Rattle.steal_rounds.proofs.Lists.{set_get, get_below}

-- the first i workers had their turns
pub record Turning (t : TableView) (k : ℕ) (frontier : List ℕ) (old now : List CrewMember) (i : ℕ) : Type 0 where
  pub count : length now ≡ length old
  pub each : (a : ℕ) (n : CrewMember) → slice_get now a ≡ Some n → (m : CrewMember) × (slice_get old a ≡ Some m) × (((a < i) × Turned t k frontier m n) ⊎ ((i ≤ a) × (m ≡ n)))

pub turning_first : (t : TableView) (k : ℕ) (frontier : List ℕ) (old : List CrewMember) → Turning t k frontier old old 0
turning_first t k frontier old = record { count = refl; each = λ a n e. (n, e, inr (omega arith, refl)) }

pub turning_old : (t : TableView) (k : ℕ) (frontier : List ℕ) (old now : List CrewMember) (i : ℕ) (x : CrewMember) → Turning t k frontier old now i → slice_get now i ≡ Some x → slice_get old i ≡ Some x
turning_old t k frontier old now i x h e =
    let m = h.each i x e in
    ⊎_elim (λ (d : (i < i) × Turned t k frontier m.0 x). absurd (let l = d.0 in omega (arith, l))) (λ (d : (i ≤ i) × (m.0 ≡ x)). subst (λ y. slice_get old i ≡ Some y) d.1 m.1) m.2

pub turning_next : (t : TableView) (k : ℕ) (frontier : List ℕ) (old now : List CrewMember) (i : ℕ) (x y : CrewMember) → Turning t k frontier old now i → slice_get now i ≡ Some x → Turned t k frontier x y → Turning t k frontier old (set now i y) (i + 1)
turning_next t k frontier old now i x y h e turned = record {
  count = length-set now i y ∙ h.count;
  each = λ a n at. ⊎_elim
      (λ (g : (a ≡ i) × (y ≡ n)). (x, subst (λ c. slice_get old c ≡ Some x) (sym g.0) (turning_old t k frontier old now i x h e), inl ((let s = g.0 in omega (arith, s)), subst (Turned t k frontier x) g.1 turned)))
      (λ (g : (a ≢ i) × (slice_get now a ≡ Some n)). (let m = h.each a n g.1 in (
        m.0,
        m.1,
        ⊎_elim
            (λ (d : (a < i) × Turned t k frontier m.0 n). inl ((let l = d.0 in omega (arith, l)), d.1))
            (λ (d : (i ≤ a) × (m.0 ≡ n)). inr (elim (cases_lt i a) [ inl lt ↦ omega (arith, lt) | inr ge ↦ absurd (g.0 (let l = d.0 in omega (arith, l, ge))) ], d.1))
            m.2,
      )))
      (set_get now i y a n at);
}

pub turning_all : (t : TableView) (k : ℕ) (frontier : List ℕ) (old now : List CrewMember) (i : ℕ) → length now ≤ i → Turning t k frontier old now i → HadTurns t k frontier old now
turning_all t k frontier old now i all h = record {
  count = h.count;
  each = λ a n at. (let m = h.each a n at in let b = get_below now a n at in (m.0, m.1, ⊎_elim (λ (d : (a < i) × Turned t k frontier m.0 n). d.1) (λ (d : (i ≤ a) × (m.0 ≡ n)). absurd (let l = d.0 in omega (arith, l, b, all))) m.2));
}

pub collected_none : AreCollected [] [] 0
collected_none = record { ample = λ a m e. absurd (cc e); some = λ a u m e has. absurd (cc e); all = λ u has. (let e = has.1 in absurd (cc e)); moves_made = refl }

has_append : (xs ys : List ℕ) (i u : ℕ) → slice_get (xs ++ ys) i ≡ Some u → Has xs u ⊎ Has ys u
has_append [] ys i u e = inr (i, e)
has_append (x ∷ xs) ys zero u e = inl (0, e)
has_append (x ∷ xs) ys (suc i) u e = elim (has_append xs ys i u e) [ inl h ↦ inl (suc h.0, h.1) | inr h ↦ inr h ]

has_right : (xs ys : List ℕ) (u : ℕ) → Has ys u → Has (xs ++ ys) u
has_right [] ys u h = h
has_right (x ∷ xs) ys u h = let r = has_right xs ys u h in (suc r.0, r.1)

pub collected_next : (done : List CrewMember) (notes : List ℕ) (moves : ℕ) (m : CrewMember) → AreCollected done notes moves → m.short ≡ false → AreCollected (done ++ m ∷ []) (notes ++ m.notes.items) (moves + m.moves)
collected_next done notes moves m h short = record {
  ample = λ a n e. ⊎_elim (λ at. h.ample a n at) (λ (same : m ≡ n). subst (λ x. x.short ≡ false) same short) (get_snoc done m n a e);
  some = λ a u n e has. ⊎_elim
      (λ at. (let o = h.some a u n at has in (o.0, get_front notes m.notes.items o.0 u o.1)))
      (λ (same : m ≡ n). has_right notes m.notes.items u (subst (λ x. Has x.notes.items u) (sym same) has))
      (get_snoc done m n a e);
  all = λ u has. ⊎_elim
      (λ (old : Has notes u). (let o = h.all u old in (o.0, o.1, get_front done (m ∷ []) o.0 o.1 o.2, o.3)))
      (λ (new : Has m.notes.items u). (length done, m, get_last done m [], new))
      (has_append notes m.notes.items has.0 u has.1);
  moves_made = let s = h.moves_made in let a = sum_by-append (λ (x : CrewMember). x.moves) done (m ∷ []) in let b = sum_by-cons (λ (x : CrewMember). x.moves) m [] in let z : sum_by {X = CrewMember} (λ x. x.moves) [] ≡ 0 = refl in omega (arith, s, a, b, z);
}
