-- What holds of the records between the steps of a round.
use Rattle.std.proofs.Common.{◌≡◌, ℕ, List, Some, ap, sym, subst, ◌∙◌, arith}
use Rattle.std.specs.Prelude.{slice_get}
use Rattle.dist_table.specs.Tables.{TableView, PassView}
use Rattle.dist_table.specs.Histories.{IsLegal}
use Rattle.steal_rounds.specs.inside.Moves.{IsLegalPass}
use Rattle.dist_table.specs.declared.call.Call.{Call}
use Rattle.steal_rounds.specs.declared.member.CrewMember.{CrewMember}
use Rattle.steal_rounds.specs.inside.Lists.{Each}
use Rattle.steal_rounds.specs.inside.Crews.{Turned}
use Rattle.steal_rounds.specs.inside.Records.{Holds, AreHeld, AreReturned, IsBlank, HadTurns}
use Rattle.steal_rounds.proofs.Lists.{each_get, each_length}
use Rattle.steal_rounds.proofs.Takings.{same_thief_at, same_thieves_length}

pub held_turned : (t : TableView) (k : ℕ) (front : List ℕ) (v w : ℕ) (xs ys : List CrewMember) → Each (Turned t k front) xs ys → AreHeld v w xs → AreHeld v w ys
held_turned t k front v w xs ys run held = (
  held.0,
  λ a n e. (
      let x = each_get (Turned t k front) xs ys a n run e in let m = x.0 in let s = x.2.works.same in
      let h = subst (λ len. Holds len held.0 v w a m) (sym (each_length (Turned t k front) xs ys run)) (held.1 a m x.1) in
      let l = same_thieves_length m.thieves.items n.thieves.items s.thieves in
      let o = s.deque.4 in
      record {
        id = h.id ∙ ap Some (sym s.deque.0);
        aimed = λ j u thief at aims. (let z = same_thief_at m.thieves.items n.thieves.items j thief s.thieves at in h.aimed j u z.0 z.1 aims ∙ ap Some (sym z.2));
        few_later = λ lt l'. (let g = h.few_later lt l' in omega (arith, g, l));
        few = λ lt l'. (let g = h.few lt l' in omega (arith, g, l));
        many = λ lt l'. (let g = h.many lt l' in omega (arith, g, l));
        many_earlier = λ lt l'. (let g = h.many_earlier lt l' in omega (arith, g, l));
        none_out = λ lt. o ∙ h.none_out lt;
        all_out = λ lt. (let g = h.all_out lt in omega (arith, g, o));
        some_out = λ lt l'. (let g = h.some_out lt l' in omega (arith, g, o));
        others_out = λ lt l'. (let g = h.others_out lt l' in omega (arith, g, o));
      }),
)

pub blank_legal : (t : TableView) (p : PassView) (m : CrewMember) → IsLegal t.origin t.lists p.seen → IsBlank t p m → IsLegalPass t m.pass
blank_legal t p m legal h = (h.pass, subst (λ (l : List Call). IsLegal t.origin t.lists l) (sym h.seen) legal)

pub returned_legal : (t : TableView) (k : ℕ) (front : List ℕ) (xs ys zs : List CrewMember) → Each (Turned t k front) xs ys → AreReturned ys zs → (a : ℕ) (m : CrewMember) → slice_get zs a ≡ Some m → IsLegalPass t m.pass
returned_legal t k front xs ys zs run ret a m e =
    let y = ret.each a m e in let x = each_get (Turned t k front) xs ys a y.0 run y.1 in
    subst (λ (p : PassView). IsLegalPass t p) (sym y.2.pass) x.2.works.pass

pub turns_legal : (t : TableView) (k : ℕ) (front : List ℕ) (xs ys : List CrewMember) → HadTurns t k front xs ys → (a : ℕ) (m : CrewMember) → slice_get ys a ≡ Some m → (m.pass.table ≡ t)
turns_legal t k front xs ys h a m e = (h.each a m e).2.works.pass.0
