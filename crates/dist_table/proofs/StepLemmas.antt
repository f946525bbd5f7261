-- Each step keeps the rule.
use Rattle.std.proofs.Common.{◌≡◌, ◌≢◌, ◌⊎◌, ℕ, zero, suc, ◌+◌, ◌*◌, ◌<◌, ◌≤◌, Bool, true, false, cond, List, [], ◌∷◌, ◌++◌, length, get_or, set, Some, None, refl, ap, sym, subst, ◌∙◌, ⊎_elim, arith, length-set, replicate, take, min, inl, inr, ◌/◌}
use Rattle.std.proofs.Math.Nat.{min-eq_left}
use Rattle.std.proofs.lemmas.Bool.{cases_lt}
use Rattle.std.specs.Prelude.{slice_index, nat_lt}
use Rattle.std.proofs.lemmas.List.{set-get_or, get_or-set_same, get_or-set_other, length-replicate}
use Rattle.std.proofs.lemmas.Bool.Decides.{nat_tests}
use mathlib.Core.List.{IsPrefix}
use mathlib.Core.Option.{some, none, some-ne-none, some-injective}
use mathlib.Core.Logic.{dite}
use native.Mathlib.Decide.{ℕ_discrete}
use lib.ListN.{get_elem?}
use Rattle.atomic_table.specs.Table.{State, Me, step, keeps, Allows, Splits, Joins, Final, Seen}
use Rattle.atomic_table.proofs.Lists.{at_set, at_snoc}
use Rattle.graph_rules.specs.Graphs.{Stands, Reaches, HasTarget, unreached, moved}
use Rattle.dist_table.specs.declared.call.Call.{Call}
use Rattle.dist_table.specs.declared.knowledge.Knowledge.{Knowledge}
use Rattle.dist_table.specs.Histories.{call, opening_words, words_after_call, replayed_words, AreReplies, IsLegal, calls_by}
use Rattle.dist_table.specs.Tables.{PassView, LeavesWords}
use Rattle.dist_table.specs.Rules.{HasNoFurtherCalls, first_pass, OwnsNumber, FitsHistory, HaveOwnNumbers, KeepsHistory}
use Rattle.dist_table.specs.inside.Steps.{seeing, pass_number, reserving, staying, leaving, joining, ended, aiming, TellsCall, TellsRelax, TellsLook, TellsReserved, TellsJoined, TellsAim, TellsSpared}
use Rattle.dist_table.proofs.HistoryLemmas.{words_after-push, AreReplies-push, calls_by-append, calls_by-mine, calls_by-same, prefix_self, prefix_trans, prefix_shorter, calls_by-between, calls_by-none, stand_after, AreReplies-front}

abbrev pub Holds : ℕ → List (List ℕ) → State ℕ Knowledge → Type 0
Holds o ls s = KeepsHistory o ls s.words s.views

some_same : (a b : ℕ) → Some a ≡ Some b → a ≡ b
some_same a b e = cc e

none_some : (n : ℕ) → None ≡ Some n → ⊥
none_some n e = cc e

-- a pass that has joined none since its last step
not_joined : (v : Knowledge) → v.joined ≡ None → HasNoFurtherCalls v
not_joined v alone = record { own = λ n m e _. absurd (none_some m (sym alone ∙ e)); taken = λ m e. absurd (none_some m (sym alone ∙ e)) }

-- a view is replaced: whatever it owns now, no other owns
apart_set : (views : List Knowledge) (id : ℕ) (w : Knowledge) → HaveOwnNumbers views
    → ((n : ℕ) → OwnsNumber w n → (j : ℕ) (u : Knowledge) → j ≢ id → get_elem? views j ≡ some u → OwnsNumber u n → ⊥)
    → HaveOwnNumbers (set views id w)
apart_set views id w apart mine i j u v eu ev ne n ou ov =
    ⊎_elim
    (λ (a : (i ≡ id) × (w ≡ u)). ⊎_elim
    (λ (b : (j ≡ id) × (w ≡ v)). absurd (ne (a.0 ∙ sym b.0)))
    (λ (b : (j ≢ id) × (get_elem? views j ≡ some v)). mine n (subst (λ x. OwnsNumber x n) (sym a.1) ou) j v b.0 b.1 ov)
    (at_set views id j w v ev))
    (λ (a : (i ≢ id) × (get_elem? views i ≡ some u)). ⊎_elim
    (λ (b : (j ≡ id) × (w ≡ v)). mine n (subst (λ x. OwnsNumber x n) (sym b.1) ov) i u a.0 a.1 ou)
    (λ (b : (j ≢ id) × (get_elem? views j ≡ some v)). apart i j u v a.1 b.1 ne n ou ov)
    (at_set views id j w v ev))
    (at_set views id i w u eu)

fits_set : (o : ℕ) (ls : List (List ℕ)) (history : List Call) (made : ℕ) (views : List Knowledge) (id : ℕ) (w : Knowledge)
    → ((j : ℕ) (u : Knowledge) → j ≢ id → get_elem? views j ≡ some u → FitsHistory o ls history made u) → FitsHistory o ls history made w
    → (j : ℕ) (u : Knowledge) → get_elem? (set views id w) j ≡ some u → FitsHistory o ls history made u
fits_set o ls history made views id w others mine j u e =
    ⊎_elim
    (λ (x : (j ≡ id) × (w ≡ u)). subst (FitsHistory o ls history made) x.1 mine)
    (λ (x : (j ≢ id) × (get_elem? views j ≡ some u)). others j u x.0 x.1)
    (at_set views id j w u e)

-- a view of another pass fits the history with one call more
fits_more : (o : ℕ) (ls : List (List ℕ)) (history : List Call) (made : ℕ) (u : Knowledge) (c : Call) → ((m : ℕ) → OwnsNumber u m → c.pass ≢ m) → FitsHistory o ls history made u → FitsHistory o ls (history ++ c ∷ []) made u
fits_more o ls history made u c foreign f = record {
  graph = f.graph;
  seen = prefix_trans u.seen history (history ++ c ∷ []) f.seen (c ∷ [], refl);
  former = f.former;
  latter = f.latter;
  mine = λ m e. calls_by-same m history c (foreign m (inl e)) ∙ f.mine m e;
  unused = λ m e. calls_by-same m history c (foreign m (inr e)) ∙ f.unused m e;
  below = f.below;
  differ = f.differ;
  joined = f.joined;
}

-- a call keeps the rule
called_keeps : (o : ℕ) (ls : List (List ℕ)) (words : List ℕ) (views : List Knowledge) (id i value : ℕ) (relax : Bool) (v : Knowledge)
    → (k : KeepsHistory o ls words views) → get_elem? views id ≡ some v → v.number ≡ Some (pass_number v)
    → let c = call (pass_number v) relax i value (slice_index words i) in
    length (words_after_call words c) ≡ length words
    → ((j : ℕ) → j < length words → Stands o ls j (slice_index (words_after_call words c) j))
    → KeepsHistory o ls (words_after_call words c) (set views id (seeing v (k.history ++ c ∷ [])))
called_keeps o ls words views id i value relax v k at isn len st =
    let n = pass_number v in
    let c = call n relax i value (slice_index words i) in
    let history = k.history ++ c ∷ [] in
    let w = seeing v history in
    let f = k.fits id v at in
    let lt : n < k.made = f.below n (inl isn) in
    record {
      history = history;
      made = k.made;
      count = len ∙ k.count;
      legal = AreReplies-push (opening_words o (length ls)) k.history c k.legal (ap (λ (ws : List ℕ). slice_index ws i) k.leaves);
      leaves = ap (λ (ws : List ℕ). words_after_call ws c) k.leaves ∙ sym (words_after-push (opening_words o (length ls)) k.history c);
      stand = λ j lt'. st j (subst (λ m. j < m) len lt');
      fits = fits_set o ls history k.made views id w
          (λ j u ne e. fits_more o ls k.history k.made u c (λ m own same. k.apart id j v u at e (λ x. ne (sym x)) m (inl (isn ∙ ap Some same)) own) (k.fits j u e))
          (record {
            graph = f.graph;
            seen = prefix_self history;
            former = (history, refl);
            latter = (history, refl);
            mine = λ m e. refl;
            unused = λ m e. calls_by-same m k.history c (λ same. f.differ n isn (e ∙ ap Some (sym same))) ∙ f.unused m e;
            below = f.below;
            differ = f.differ;
            joined = not_joined w refl;
          });
      apart = apart_set views id w k.apart (λ m own j u ne e other. k.apart id j v u at e (λ x. ne (sym x)) m own other);
      unmade = λ m le. calls_by-same m k.history c (λ same. absurd (omega (arith, lt, le, same))) ∙ k.unmade m le;
    }

-- what a call tells
called_tells : (o : ℕ) (ls : List (List ℕ)) (words : List ℕ) (views : List Knowledge) (id i value slots : ℕ) (relax : Bool) (v : Knowledge) (held : List (ℕ × ℕ))
    → (k : KeepsHistory o ls words views) → get_elem? views id ≡ some v → v.number ≡ Some (pass_number v) → i < length words
    → TellsCall relax (step slots i value 0 none) (v, held) (slice_index words i) (seeing v (k.history ++ call (pass_number v) relax i value (slice_index words i) ∷ []), held)
called_tells o ls words views id i value slots relax v held k at isn lt =
    let n = pass_number v in
    let c = call n relax i value (slice_index words i) in
    let history = k.history ++ c ∷ [] in
    let f = k.fits id v at in
    let g = f.graph n (inl isn) in
    let legal : AreReplies (opening_words o (length ls)) history = AreReplies-push (opening_words o (length ls)) k.history c k.legal (ap (λ (ws : List ℕ). slice_index ws i) k.leaves) in (
      refl,
      refl,
      record {
        between = f.seen.0;
        ends = ap (λ l. l ++ c ∷ []) (sym f.seen.1);
        legal = subst (λ (x : ℕ × List (List ℕ)). IsLegal x.0 x.1 history) (λ t. (sym g.0 t, sym g.1 t)) legal;
        own = calls_by-append n k.history (c ∷ []) ∙ ap (λ l. l ++ calls_by n (c ∷ [])) (f.mine n isn) ∙ ap (λ l. calls_by n v.seen ++ l) (calls_by-mine n c refl);
      },
      subst (λ (x : ℕ × List (List ℕ)). Stands x.0 x.1 i (slice_index words i)) (λ t. (sym g.0 t, sym g.1 t)) (k.stand i lt),
    )

pub relaxes : (o : ℕ) (ls : List (List ℕ)) (slots id i value : ℕ) (me : Me ℕ Knowledge) → i < length ls → (me.0).number ≡ Some (pass_number me.0) → Stands o ls i value
    → Allows (Holds o ls) slots id me i (λ n. min n value) (TellsRelax (step slots i value 0 none) me)
relaxes o ls slots id i value me lt isn st s k homes at fits =
    let v = me.0 in
    let lt' : i < length s.words = subst (λ n. i < n) (sym k.count) lt in
    let c = call (pass_number v) true i value (slice_index s.words i) in (
      seeing v (k.history ++ c ∷ []),
      keeps,
      tt,
      called_keeps o ls s.words s.views id i value true v k at isn (length-set s.words i (min (slice_index s.words i) value)) (stand_after o ls s.words i value k.stand st lt'),
      called_tells o ls s.words s.views id i value slots true v me.1 k at isn lt',
    )

pub looks_at : (o : ℕ) (ls : List (List ℕ)) (slots id i : ℕ) (me : Me ℕ Knowledge) → i < length ls → (me.0).number ≡ Some (pass_number me.0)
    → Allows (Holds o ls) slots id me i (λ n. n) (TellsLook (step slots i 0 0 none) me)
looks_at o ls slots id i me lt isn s k homes at fits =
    let v = me.0 in
    let lt' : i < length s.words = subst (λ n. i < n) (sym k.count) lt in
    let c = call (pass_number v) false i 0 (slice_index s.words i) in
    let w = seeing v (k.history ++ c ∷ []) in (
      w,
      keeps,
      tt,
      subst (λ ws. KeepsHistory o ls ws (set s.views id w)) (sym (set-get_or s.words i 0)) (called_keeps o ls s.words s.views id i 0 false v k at isn refl k.stand),
      called_tells o ls s.words s.views id i 0 slots false v me.1 k at isn lt',
    )

-- a step that changes nothing but one view
changed_keeps : (o : ℕ) (ls : List (List ℕ)) (words : List ℕ) (views : List Knowledge) (id made : ℕ) (w : Knowledge)
    → (k : KeepsHistory o ls words views) → k.made ≤ made → FitsHistory o ls k.history made w
    → ((n : ℕ) → OwnsNumber w n → (j : ℕ) (u : Knowledge) → j ≢ id → get_elem? views j ≡ some u → OwnsNumber u n → ⊥)
    → KeepsHistory o ls words (set views id w)
changed_keeps o ls words views id made w k more fit free = record {
  history = k.history;
  made = made;
  count = k.count;
  legal = k.legal;
  leaves = k.leaves;
  stand = k.stand;
  fits = fits_set o ls k.history made views id w (λ j u ne e. let f = k.fits j u e in record { graph = f.graph; seen = f.seen; former = f.former; latter = f.latter; mine = f.mine; unused = f.unused; below = λ n own. let lt = f.below n own in omega (arith, lt, more); differ = f.differ; joined = f.joined }) fit;
  apart = apart_set views id w k.apart free;
  unmade = λ n le. k.unmade n (omega (arith, le, more));
}

-- the view as it was, without the lists of its last join
quiet_fits : (o : ℕ) (ls : List (List ℕ)) (history : List Call) (made : ℕ) (v : Knowledge) → FitsHistory o ls history made v → FitsHistory o ls history made (seeing v v.seen)
quiet_fits o ls history made v f = record { graph = f.graph; seen = f.seen; former = (v.seen, refl); latter = (v.seen, refl); mine = f.mine; unused = f.unused; below = f.below; differ = f.differ; joined = not_joined (seeing v v.seen) refl }

still : (P : List ℕ → Type 0) (ws : List ℕ) (i : ℕ) → P ws → P (set ws i (get_or ws i 0))
still P ws i p = subst P (sym (set-get_or ws i 0)) p

-- the next moves go from another number
aimed_fits : (o : ℕ) (ls : List (List ℕ)) (history : List Call) (made d s : ℕ) (v : Knowledge) → FitsHistory o ls history made v → FitsHistory o ls history made (aiming v d s)
aimed_fits o ls history made d s v f = record { graph = f.graph; seen = f.seen; former = f.former; latter = f.latter; mine = f.mine; unused = f.unused; below = f.below; differ = f.differ; joined = record { own = f.joined.own; taken = f.joined.taken } }

pub aims_at : (o : ℕ) (ls : List (List ℕ)) (slots id i : ℕ) (me : Me ℕ Knowledge) → Allows (Holds o ls) slots id me i (λ n. n) (TellsAim (step slots i 0 0 none) me)
aims_at o ls slots id i me s k homes at fits =
    let v = me.0 in
    let w = aiming v (slice_index s.words i / 4294967296) i in (
      w,
      keeps,
      tt,
      still (λ ws. KeepsHistory o ls ws (set s.views id w)) s.words i
          (changed_keeps o ls s.words s.views id k.made w k (omega arith) (aimed_fits o ls k.history k.made (slice_index s.words i / 4294967296) i v (k.fits id v at)) (λ n own j u ne e other. k.apart id j v u at e (λ x. ne (sym x)) n own other)),
      (refl, refl),
    )

-- a relax that lowers nothing leaves the settled words as they are
lowers_nothing : (words : List ℕ) (n i value : ℕ) → slice_index words i ≤ value → words_after_call words (call n true i value (slice_index words i)) ≡ words
lowers_nothing words n i value le = ap (λ m. set words i m) (min-eq_left le) ∙ set-get_or words i 0

pub spares_at : (o : ℕ) (ls : List (List ℕ)) (slots id i : ℕ) (me : Me ℕ Knowledge) → i < length ls → (me.0).number ≡ Some (pass_number me.0)
    → Allows (Holds o ls) slots id me i (λ n. n) (TellsSpared (step slots i 0 0 none) me)
spares_at o ls slots id i me lt isn s k homes at fits = elim (cases_lt (moved me.0.distance me.0.source) (slice_index s.words i)) [
  | inl less ↦ (me.0, keeps, tt, still (λ ws. KeepsHistory o ls ws (set s.views id me.0)) s.words i (changed_keeps o ls s.words s.views id k.made me.0 k (omega arith) (k.fits id me.0 at) (λ n own j u ne e other. k.apart id j me.0 u at e (λ x. ne (sym x)) n own other)), inr (less, refl))
  | inr le ↦ (
      let value = moved me.0.distance me.0.source in
      let n = pass_number me.0 in
      let lt' : i < length s.words = subst (λ m. i < m) (sym k.count) lt in
      let c = call n true i value (slice_index s.words i) in
      let w = seeing me.0 (k.history ++ c ∷ []) in
      let same = lowers_nothing s.words n i value le in
      let kept = called_keeps o ls s.words s.views id i value true me.0 k at isn (ap {B = ℕ} length same) (λ j b. subst (λ (ws : List ℕ). Stands o ls j (slice_index ws j)) (sym same) (k.stand j b)) in
      (w, keeps, tt, still (λ ws. KeepsHistory o ls ws (set s.views id w)) s.words i (subst (λ (ws : List ℕ). KeepsHistory o ls ws (set s.views id w)) same kept), inl (le, called_tells o ls s.words s.views id i value slots true me.0 me.1 k at isn lt')))
]

pub settles_at : (o : ℕ) (ls : List (List ℕ)) (slots id i : ℕ) (me : Me ℕ Knowledge) → (me.0).number ≡ Some (pass_number me.0)
    → Allows (Holds o ls) slots id me i (λ n. n) (TellsJoined (step slots i 0 0 none) me)
settles_at o ls slots id i me isn s k homes at fits =
    let v = me.0 in
    let w = seeing v v.seen in
    let f = k.fits id v at in
    let g = f.graph (pass_number v) (inl isn) in
    let legal : AreReplies (opening_words o (length ls)) v.seen = AreReplies-front (opening_words o (length ls)) v.seen f.seen.0 (subst (λ l. AreReplies (opening_words o (length ls)) l) (sym f.seen.1) k.legal) in (
      w,
      keeps,
      tt,
      still (λ ws. KeepsHistory o ls ws (set s.views id w)) s.words i
          (changed_keeps o ls s.words s.views id k.made w k (omega arith) (quiet_fits o ls k.history k.made v f) (λ n own j u ne e other. k.apart id j v u at e (λ x. ne (sym x)) n own other)),
      (refl, refl, f.former, f.latter, subst (λ (x : ℕ × List (List ℕ)). AreReplies (opening_words x.0 (length x.1)) v.seen) (λ t. (sym g.0 t, sym g.1 t)) legal, f.joined),
    )

pub reserves_at : (o : ℕ) (ls : List (List ℕ)) (slots id i : ℕ) (me : Me ℕ Knowledge) → (me.0).number ≡ Some (pass_number me.0)
    → Allows (Holds o ls) slots id me i (λ n. n) (TellsReserved (step slots i 0 0 none) me)
reserves_at o ls slots id i me isn s k homes at fits =
    let v = me.0 in
    let m = k.made in
    let w = reserving v m in
    let f = k.fits id v at in
    let lt : pass_number v < m = f.below (pass_number v) (inl isn) in
    let fit : FitsHistory o ls k.history (suc m) w = record {
      graph = λ n own. f.graph (pass_number v) (inl isn);
      seen = f.seen;
      former = (v.seen, refl);
      latter = (v.seen, refl);
      mine = f.mine;
      unused = λ n e. k.unmade n (omega (arith, some_same m n e));
      below = λ n own. ⊎_elim (λ e. let lt' = f.below n (inl e) in omega (arith, lt')) (λ e. let same = some_same m n e in omega (arith, same)) own;
      differ = λ n e d. let same = some_same m n d in let lt' = f.below n (inl e) in absurd (omega (arith, lt', same));
      joined = not_joined w refl;
    } in (
      w,
      keeps,
      tt,
      still (λ ws. KeepsHistory o ls ws (set s.views id w)) s.words i
          (changed_keeps o ls s.words s.views id (suc m) w k (omega arith) fit
          (λ n own j u ne e other. ⊎_elim (λ x. k.apart id j v u at e (λ y. ne (sym y)) n (inl x) other)
          (λ x. let same = some_same m n x in let lt' = (k.fits j u e).below n other in absurd (omega (arith, lt', same))) own)),
      (refl, (m, refl, λ e. let same = some_same (pass_number v) m (sym isn ∙ e) in absurd (omega (arith, lt, same)), calls_by-none m v.seen k.history f.seen (k.unmade m (omega arith)))),
    )

-- the view at the place of a new one
last_or : (views : List Knowledge) (r u : Knowledge) (j : ℕ) → get_elem? (views ++ r ∷ []) j ≡ some u → (get_elem? views j ≡ some u) ⊎ ((r ≡ u) × (j ≡ length views))
last_or [] r u zero e = inr (some-injective r u e, refl)
last_or [] r u (suc j) e = absurd (some-ne-none u (sym e))
last_or (x ∷ xs) r u zero e = inl e
last_or (x ∷ xs) r u (suc j) e = ⊎_elim (λ t. inl t) (λ (t : (r ≡ u) × (j ≡ length xs)). inr (t.0, ap suc t.1)) (last_or xs r u j e)

below_length : (views : List Knowledge) (u : Knowledge) (j : ℕ) → get_elem? views j ≡ some u → j < length views
below_length [] u j e = absurd (some-ne-none u (sym e))
below_length (x ∷ xs) u zero e = omega arith
below_length (x ∷ xs) u (suc j) e = let h = below_length xs u j e in omega (arith, h)

apart_push : (views : List Knowledge) (r : Knowledge) → HaveOwnNumbers views → ((n : ℕ) → OwnsNumber r n → (j : ℕ) (u : Knowledge) → get_elem? views j ≡ some u → OwnsNumber u n → ⊥) → HaveOwnNumbers (views ++ r ∷ [])
apart_push views r apart free i j u v eu ev ne n ou ov =
    ⊎_elim
    (λ (a : get_elem? views i ≡ some u). ⊎_elim
    (λ (b : get_elem? views j ≡ some v). apart i j u v a b ne n ou ov)
    (λ (b : (r ≡ v) × (j ≡ length views)). free n (subst (λ x. OwnsNumber x n) (sym b.0) ov) i u a ou)
    (last_or views r v j ev))
    (λ (a : (r ≡ u) × (i ≡ length views)). ⊎_elim
    (λ (b : get_elem? views j ≡ some v). free n (subst (λ x. OwnsNumber x n) (sym a.0) ou) j v b ov)
    (λ (b : (r ≡ v) × (j ≡ length views)). absurd (ne (a.1 ∙ sym b.1)))
    (last_or views r v j ev))
    (last_or views r u i eu)

pub cuts : (o : ℕ) (ls : List (List ℕ)) (id : ℕ) (v : Knowledge) → Splits (Holds o ls) id v (staying v) (leaving v)
cuts o ls id v s k at =
    let l = staying v in
    let r = leaving v in
    let f = k.fits id v at in
    let fit : FitsHistory o ls k.history k.made l = record {
      graph = λ n own. ⊎_elim (λ e. f.graph n (inl e)) (λ e. absurd (none_some n e)) own;
      seen = f.seen;
      former = (v.seen, refl);
      latter = (v.seen, refl);
      mine = f.mine;
      unused = λ n e. absurd (none_some n e);
      below = λ n own. ⊎_elim (λ e. f.below n (inl e)) (λ e. absurd (none_some n e)) own;
      differ = λ n e d. none_some n d;
      joined = not_joined l refl;
    } in
    let fit' : FitsHistory o ls k.history k.made r = record {
      graph = λ n own. ⊎_elim (λ e. f.graph n (inr e)) (λ e. absurd (none_some n e)) own;
      seen = f.seen;
      former = (v.seen, refl);
      latter = (v.seen, refl);
      mine = λ n e. f.unused n e ∙ sym (calls_by-none n v.seen k.history f.seen (f.unused n e));
      unused = λ n e. absurd (none_some n e);
      below = λ n own. ⊎_elim (λ e. f.below n (inr e)) (λ e. absurd (none_some n e)) own;
      differ = λ n e d. none_some n d;
      joined = not_joined r refl;
    } in
    let k' : KeepsHistory o ls s.words (set s.views id l) = changed_keeps o ls s.words s.views id k.made l k (omega arith) fit
    (λ n own j u ne e other. ⊎_elim (λ x. k.apart id j v u at e (λ y. ne (sym y)) n (inl x) other) (λ x. absurd (none_some n x)) own) in
    record {
      history = k.history;
      made = k.made;
      count = k.count;
      legal = k.legal;
      leaves = k.leaves;
      stand = k.stand;
      fits = λ j u e. ⊎_elim (λ x. fits_set o ls k.history k.made s.views id l (λ i w ne e'. k.fits i w e') fit j u x) (λ (x : r ≡ u). subst (FitsHistory o ls k.history k.made) x fit') (at_snoc (set s.views id l) r u j e);
      apart = apart_push (set s.views id l) r k'.apart
          (λ n own j u e other. ⊎_elim
          (λ (x : r.number ≡ Some n). ⊎_elim
          (λ (y : (j ≡ id) × (l ≡ u)). ⊎_elim (λ (z : l.number ≡ Some n). f.differ n z x) (λ (z : l.reserved ≡ Some n). none_some n z) (subst (λ t. OwnsNumber t n) (sym y.1) other))
          (λ (y : (j ≢ id) × (get_elem? s.views j ≡ some u)). k.apart id j v u at y.1 (λ t. y.0 (sym t)) n (inr x) other)
          (at_set s.views id j l u e))
          (λ (x : r.reserved ≡ Some n). none_some n x) own);
      unmade = k.unmade;
    }

either_longer : (xs ys history : List Call) (b : Bool) → nat_lt (length xs) (length ys) ≡ b → IsPrefix xs history → IsPrefix ys history
    → IsPrefix (cond b ys xs) history × IsPrefix xs (cond b ys xs) × IsPrefix ys (cond b ys xs)
either_longer xs ys history true e p q = (q, prefix_shorter xs ys history p q (grind (arith, nat_tests)), prefix_self ys)
either_longer xs ys history false e p q = (p, prefix_self xs, prefix_shorter ys xs history q p (grind (arith, nat_tests)))

pub joins : (o : ℕ) (ls : List (List ℕ)) (id : ℕ) (v : Knowledge) (other : ℕ) (w : Knowledge) → Joins (Holds o ls) id v other w (joining v w) ended
joins o ls id v other w s k at two there =
    let b = joining v w in
    let f = k.fits id v at in
    let was : get_elem? s.views other ≡ some w = ⊎_elim (λ (x : (other ≡ id) × (b ≡ w)). absurd (two x.0)) (λ (x : (other ≢ id) × (get_elem? s.views other ≡ some w)). x.1) (at_set s.views id other b w there) in
    let h = k.fits other w was in
    let e = either_longer v.seen w.seen k.history (nat_lt (length v.seen) (length w.seen)) refl f.seen h.seen in
    let fit : FitsHistory o ls k.history k.made b = record {
      graph = f.graph;
      seen = e.0;
      former = e.1;
      latter = e.2;
      mine = λ n num. calls_by-between n v.seen b.seen k.history e.1 e.0 (f.mine n num);
      unused = f.unused;
      below = f.below;
      differ = f.differ;
      joined = record {
        own = λ n m _ num. sym (calls_by-between n v.seen b.seen k.history e.1 e.0 (f.mine n num)) ∙ f.mine n num;
        taken = λ m num. sym (calls_by-between m w.seen b.seen k.history e.2 e.0 (h.mine m num)) ∙ h.mine m num;
      };
    } in
    let k' : KeepsHistory o ls s.words (set s.views id b) = changed_keeps o ls s.words s.views id k.made b k (omega arith) fit (λ n own j u ne e' o'. k.apart id j v u at e' (λ y. ne (sym y)) n own o') in
    let gone : FitsHistory o ls k.history k.made ended = record {
      graph = λ n own. absurd (⊎_elim (none_some n) (none_some n) own);
      seen = (k.history, refl);
      former = ([], refl);
      latter = ([], refl);
      mine = λ n e'. absurd (none_some n e');
      unused = λ n e'. absurd (none_some n e');
      below = λ n own. absurd (⊎_elim (none_some n) (none_some n) own);
      differ = λ n e' d. none_some n e';
      joined = not_joined ended refl;
    } in
    record {
      history = k.history;
      made = k.made;
      count = k.count;
      legal = k.legal;
      leaves = k.leaves;
      stand = k.stand;
      fits = fits_set o ls k.history k.made (set s.views id b) other ended (λ j u ne e'. fits_set o ls k.history k.made s.views id b (λ i y _ e''. k.fits i y e'') fit j u e') gone;
      apart = apart_set (set s.views id b) other ended k'.apart (λ n own j u ne e' o'. absurd (⊎_elim (none_some n) (none_some n) own));
      unmade = k.unmade;
    }

get_or-replicate : (n i x : ℕ) → i < n → get_or (replicate n x) i 0 ≡ x
get_or-replicate zero i x lt = absurd (omega arith)
get_or-replicate (suc n) zero x lt = refl
get_or-replicate (suc n) (suc i) x lt = get_or-replicate n i x (omega arith)

begin_stands : (o : ℕ) (ls : List (List ℕ)) (i : ℕ) → o < length ls → i < length ls → Stands o ls i (get_or (opening_words o (length ls)) i 0)
begin_stands o ls i below lt =
    let n = length ls in
    dite (ℕ_discrete i o)
    (λ e. inr (inl (ap (λ j. get_or (opening_words o n) j 0) e ∙ get_or-set_same (replicate n unreached) o 0 0 (subst (λ m. o < m) (sym (length-replicate n unreached)) below), e)))
    (λ ne. inl (get_or-set_other (replicate n unreached) o i 0 0 ne ∙ get_or-replicate n i unreached lt))

one_view : (v u : Knowledge) (j : ℕ) → get_elem? (v ∷ []) j ≡ some u → (j ≡ 0) × (v ≡ u)
one_view v u zero e = (refl, some-injective v u e)
one_view v u (suc j) e = absurd (some-ne-none u (sym e))

pub begins : (o : ℕ) (ls : List (List ℕ)) → o < length ls → KeepsHistory o ls (opening_words o (length ls)) (first_pass o ls ∷ [])
begins o ls below =
    let v = first_pass o ls in
    let count : length (opening_words o (length ls)) ≡ length ls = length-set (replicate (length ls) unreached) o 0 ∙ length-replicate (length ls) unreached in
    let fit : FitsHistory o ls [] 1 v = record {
      graph = λ n own. (refl, refl);
      seen = ([], refl);
      former = ([], refl);
      latter = ([], refl);
      mine = λ n e. refl;
      unused = λ n e. refl;
      below = λ n own. ⊎_elim (λ e. let same = some_same 0 n e in omega (arith, same)) (λ e. absurd (none_some n e)) own;
      differ = λ n e d. none_some n d;
      joined = not_joined v refl;
    } in
    record {
      history = [];
      made = 1;
      count = count;
      legal = tt;
      leaves = refl;
      stand = λ i lt. begin_stands o ls i below (subst (λ m. i < m) count lt);
      fits = λ by u e. subst (FitsHistory o ls [] 1) (one_view v u by e).1 fit;
      apart = λ i j u w e d ne n a b. ne ((one_view v u i e).0 ∙ sym (one_view v w j d).0);
      unmade = λ n le. refl;
    }

-- the steps, at a graph that is known to be another's
module _ (o : ℕ) (ls : List (List ℕ)) (p : ℕ) (ms : List (List ℕ)) (eo : o ≡ p) (el : ls ≡ ms) where
  at_graph : (F : ℕ → List (List ℕ) → Type 0) → F p ms → F o ls
  at_graph F h = subst (λ (x : ℕ × List (List ℕ)). F x.0 x.1) (λ t. (sym eo t, sym el t)) h

  pub relaxes_as : (slots id i d s value : ℕ) (me : Me ℕ Knowledge) → i < length ms → (me.0).number ≡ Some (pass_number me.0) → Reaches p ms d s → HasTarget ms s i → s < 4294967296 → value ≡ (d + 1) * 4294967296 + s
      → Allows (Holds o ls) slots id me i (λ n. min n value) (TellsRelax (step slots i value 0 none) me)
  relaxes_as slots id i d s value me lt isn walk edge small is = at_graph (λ x xs. Allows (Holds x xs) slots id me i (λ n. min n value) (TellsRelax (step slots i value 0 none) me)) (relaxes p ms slots id i value me lt isn (inr (inr (d, s, is, small, walk, edge))))

  pub spares_as : (slots id i : ℕ) (me : Me ℕ Knowledge) → i < length ms → (me.0).number ≡ Some (pass_number me.0) → Allows (Holds o ls) slots id me i (λ n. n) (TellsSpared (step slots i 0 0 none) me)
  spares_as slots id i me lt isn = at_graph (λ x xs. Allows (Holds x xs) slots id me i (λ n. n) (TellsSpared (step slots i 0 0 none) me)) (spares_at p ms slots id i me lt isn)

  pub looks_as : (slots id i : ℕ) (me : Me ℕ Knowledge) → i < length ms → (me.0).number ≡ Some (pass_number me.0) → Allows (Holds o ls) slots id me i (λ n. n) (TellsLook (step slots i 0 0 none) me)
  looks_as slots id i me lt isn = at_graph (λ x xs. Allows (Holds x xs) slots id me i (λ n. n) (TellsLook (step slots i 0 0 none) me)) (looks_at p ms slots id i me lt isn)

-- what the table leaves at its end
pub ends : (p : PassView) (o : ℕ) (ls : List (List ℕ)) → o ≡ p.table.origin → ls ≡ p.table.lists → (id : ℕ) (v : Knowledge) → v.seen ≡ p.seen → v.number ≡ Some p.number → (words : List ℕ) (slots : List ℕ)
    → Final (Seen (Holds o ls) id v) words slots → LeavesWords p words
ends p o ls eo el id v seen num words slots f =
    let k = f.1.0 in
    let fit = k.fits id v f.1.1 in
    let at : (F : ℕ → List (List ℕ) → Type 0) → F o ls → F p.table.origin p.table.lists = at_graph p.table.origin p.table.lists o ls (sym eo) (sym el) in
    record {
      history = k.history;
      begins = subst (λ l. IsPrefix l k.history) seen fit.seen;
      own = fit.mine p.number num ∙ ap (calls_by p.number) seen;
      legal = at (λ x xs. IsLegal x xs k.history) k.legal;
      left = at (λ x xs. words ≡ replayed_words (opening_words x (length xs)) k.history) (sym f.2 ∙ k.leaves);
      stand = at (λ x xs. (s : ℕ) → s < length xs → Stands x xs s (slice_index words s))
          (λ s lt. subst (λ (ws : List ℕ). Stands o ls s (slice_index ws s)) f.2 (k.stand s (subst (λ n. s < n) (sym k.count) lt)));
    }

pub take_next : (xs : List ℕ) (i x : ℕ) → get_elem? xs i ≡ some x → take i xs ++ x ∷ [] ≡ take (suc i) xs
take_next [] i x e = absurd (some-ne-none x (sym e))
take_next (y ∷ ys) zero x e = ap (λ z. z ∷ []) (sym (some-injective y x e))
take_next (y ∷ ys) (suc i) x e = ap (λ l. y ∷ l) (take_next ys i x e)
