-- The pair that a state is a hit of.
use Rattle.std.proofs.Common.{◌≡◌, ℕ, zero, suc, ◌-◌, ◌<◌, List, [], ◌∷◌, length, refl, sym, ap, subst, arith, Bool, true, false, cond, true≢false, Option, Some, None, ◌∙◌}
use Rattle.std.specs.Prelude.{◌&&◌, nat_lt, nat_le}
use Rattle.std.proofs.lemmas.Bool.{ltb-true, lt-ltb, le-leb, leb-true}
use Rattle.steno_rules.specs.Outlines.{AreRising, entry_number, outline_of}
use Rattle.steno_rules.specs.Segments.{last_piece}
use Rattle.steno_rules.specs.States.{State, IsHit, IsHitMark}
use Rattle.steno_rules.proofs.Numbers.{entry_number-outline_of, entry_number-Some}
use Rattle.certificate_laws.specs.Closures.{Pair, pair_at, piece_pair, marked_pair, hit_pair}
use Rattle.certificate_laws.proofs.HoldLemmas.{both, both_back}

-- past the entries there is none
pub outline_past : (entries : List (List ℕ)) (e : ℕ) → 0 < length (outline_of entries e) → e < length entries
outline_past [] e some = absurd (omega arith)
outline_past (x ∷ xs) zero some = omega arith
outline_past (x ∷ xs) (suc e) some = let r = outline_past xs e some in omega arith

mark_pair : (entries : List (List ℕ)) (u : List ℕ) (mark : Option ℕ) (e place : ℕ) → AreRising entries → last_piece entries u ≡ Some (outline_of entries e) → IsHitMark mark (length (outline_of entries e)) place →
    marked_pair entries u mark ≡ Some (record { entry = e; place = place })
mark_pair entries u None e place rising piece mark = absurd mark
mark_pair entries u (Some m) e place rising piece mark =
    let below : e < length entries = outline_past entries e (omega (arith, mark.0, mark.1)) in
    let number = entry_number-outline_of entries e rising below in
    let test : (nat_le 1 m && nat_lt m (length (outline_of entries e))) ≡ true = both_back (nat_le 1 m) (nat_lt m (length (outline_of entries e))) (le-leb 1 m mark.0) (lt-ltb m (length (outline_of entries e)) mark.1) in
    ap (piece_pair entries m) piece
    ∙ (ap (pair_at m (length (outline_of entries e))) number
    ∙ (ap (λ b. cond b (Some (record { entry = e; place = length (outline_of entries e) - m })) None) test
    ∙ ap (λ k. Some (record { entry = e; place = k })) (sym mark.2)))

open_word : (entries : List (List ℕ)) (u v : List ℕ) (mark : Option ℕ) → v ≡ [] → cond (nat_lt 0 (length v)) None (marked_pair entries u mark) ≡ marked_pair entries u mark
open_word entries u v mark e = rw e refl

-- A hit's pair is announced.
pub hit_pair-there : (entries : List (List ℕ)) (s : State) (e place : ℕ) → AreRising entries → IsHit entries s e place → hit_pair entries s ≡ Some (record { entry = e; place = place })
hit_pair-there entries s e place rising hit = open_word entries s.u s.v s.mark hit.between_words ∙ mark_pair entries s.u s.mark e place rising hit.piece hit.mark

no_length : (v : List ℕ) → nat_lt 0 (length v) ≡ false → v ≡ []
no_length [] e = refl
no_length (c ∷ v) e = absurd (true≢false (sym (lt-ltb 0 (suc (length v)) (omega arith)) ∙ e))

piece_back : (entries : List (List ℕ)) (u : List ℕ) (m : ℕ) (o : Option (List ℕ)) (p : Pair) → last_piece entries u ≡ o → piece_pair entries m o ≡ Some p →
    (last_piece entries u ≡ Some (outline_of entries p.entry)) × IsHitMark (Some m) (length (outline_of entries p.entry)) p.place
piece_back entries u m None p is e = absurd (true≢false cc)
piece_back entries u m (Some x) p is e = by (entry_number entries x) refl e
  where
    test : (k : ℕ) → entry_number entries x ≡ Some k → (b : Bool) → (nat_le 1 m && nat_lt m (length x)) ≡ b → cond b (Some (record { entry = k; place = length x - m })) None ≡ Some p →
        (last_piece entries u ≡ Some (outline_of entries p.entry)) × IsHitMark (Some m) (length (outline_of entries p.entry)) p.place
    test k n false t e' = absurd (true≢false cc)
    test k n true t e' =
        let same : record { entry = k; place = length x - m } ≡ p = cc in
        let two = both (nat_le 1 m) (nat_lt m (length x)) t in
        let outline = (entry_number-Some entries x k n).1 in
        let long : length (outline_of entries k) ≡ length x = ap length outline in
        subst (λ q. (last_piece entries u ≡ Some (outline_of entries q.entry)) × IsHitMark (Some m) (length (outline_of entries q.entry)) q.place) same
        (is ∙ ap Some (sym outline), (leb-true 1 m two.0, omega (arith, ltb-true m (length x) two.1, long), ap (λ i. i - m) (sym long)))

    by : (o : Option ℕ) → entry_number entries x ≡ o → pair_at m (length x) o ≡ Some p → (last_piece entries u ≡ Some (outline_of entries p.entry)) × IsHitMark (Some m) (length (outline_of entries p.entry)) p.place
    by None n e' = absurd (true≢false cc)
    by (Some k) n e' = test k n (nat_le 1 m && nat_lt m (length x)) refl e'

-- And what is announced is a hit's pair.
pub hit_pair-hit : (entries : List (List ℕ)) (s : State) (p : Pair) → hit_pair entries s ≡ Some p → IsHit entries s p.entry p.place
hit_pair-hit entries s p e = by s.u s.v s.mark refl e
  where
    marked : (u v : List ℕ) (mark : Option ℕ) → v ≡ [] → marked_pair entries u mark ≡ Some p → IsHit entries (record { u = u; v = v; mark = mark }) p.entry p.place
    marked u v None none e' = absurd (true≢false cc)
    marked u v (Some m) none e' = let r = piece_back entries u m (last_piece entries u) p refl e' in record { between_words = none; piece = r.0; mark = r.1 }

    test : (u v : List ℕ) (mark : Option ℕ) (b : Bool) → nat_lt 0 (length v) ≡ b → cond b None (marked_pair entries u mark) ≡ Some p → IsHit entries (record { u = u; v = v; mark = mark }) p.entry p.place
    test u v mark true t e' = absurd (true≢false cc)
    test u v mark false t e' = marked u v mark (no_length v t) e'

    by : (u v : List ℕ) (mark : Option ℕ) → s ≡ record { u = u; v = v; mark = mark } → cond (nat_lt 0 (length v)) None (marked_pair entries u mark) ≡ Some p → IsHit entries s p.entry p.place
    by u v mark is e' = subst (λ t. IsHit entries t p.entry p.place) (sym is) (test u v mark (nat_lt 0 (length v)) refl e')
