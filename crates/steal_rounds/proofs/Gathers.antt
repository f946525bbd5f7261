-- Passes that were joined, and those that are left.
use Rattle.std.proofs.Common.{◌≡◌, ℕ, zero, suc, List, [], ◌∷◌, ◌++◌, length, Some, ap, sym, subst, ◌∙◌, append_assoc}
use Rattle.std.specs.Prelude.{slice_get}
use mathlib.Core.List.{IsPrefix}
use Rattle.dist_table.specs.declared.call.Call.{Call}
use Rattle.dist_table.specs.Tables.{TableView, PassView, IsJoined}
use Rattle.dist_table.specs.Histories.{IsLegal}
use Rattle.round_core.proofs.Places.{get_front, get_last}
use Rattle.steal_rounds.specs.declared.member.CrewMember.{CrewMember}
use Rattle.steal_rounds.specs.inside.Moves.{IsLaterPass}
use Rattle.steal_rounds.proofs.Spreads.{prefix_trans}

abbrev pub Gathered : List CrewMember → List CrewMember → List Call → Type 0
Gathered all rest seen = (done : List CrewMember) × (rest ++ done ≡ all) × ((j : ℕ) (m : CrewMember) → slice_get done j ≡ Some m → IsPrefix m.pass.seen seen)

first_or : (x m : CrewMember) (done : List CrewMember) (seen now : List Call) (j : ℕ) → IsPrefix seen now → IsPrefix x.pass.seen now → ((i : ℕ) (u : CrewMember) → slice_get done i ≡ Some u → IsPrefix u.pass.seen seen) → slice_get (x ∷ done) j ≡ Some m → IsPrefix m.pass.seen now
first_or x m done seen now zero p q h e = let same : x ≡ m = cc e in subst (λ (u : CrewMember). IsPrefix u.pass.seen now) same q
first_or x m done seen now (suc j) p q h e = prefix_trans m.pass.seen seen now (h j m e) p

pub gathered_next : (all old rest : List CrewMember) (x : CrewMember) (seen now : List Call) → old ≡ rest ++ x ∷ [] → IsPrefix seen now → IsPrefix x.pass.seen now → Gathered all old seen → Gathered all rest now
gathered_next all old rest x seen now e p q h = (
  x ∷ h.0,
  sym (append_assoc rest (x ∷ []) h.0) ∙ ap (λ l. l ++ h.0) (sym e) ∙ h.1,
  λ j m at. first_or x m h.0 seen now j p q h.2 at,
)

pub member_there : (all old rest : List CrewMember) (x : CrewMember) (seen : List Call) → old ≡ rest ++ x ∷ [] → Gathered all old seen → slice_get all (length rest) ≡ Some x
member_there all old rest x seen e h = subst (λ l. slice_get l (length rest) ≡ Some x) h.1 (get_front old h.0 (length rest) x (subst (λ l. slice_get l (length rest) ≡ Some x) (sym e) (get_last rest x [])))

pub gathered_all : (all rest : List CrewMember) (seen : List Call) → rest ≡ [] → Gathered all rest seen → (j : ℕ) (m : CrewMember) → slice_get all j ≡ Some m → IsPrefix m.pass.seen seen
gathered_all all rest seen e h j m at = h.2 j m (subst (λ l. slice_get l j ≡ Some m) (sym h.1 ∙ ap (λ l. l ++ h.0) e) at)

-- a pass after a join with another of its table
pub joins_goes : (t : TableView) (p o q : PassView) → p.table ≡ t → IsJoined p o q → IsLaterPass t p q
joins_goes t p o q h j = (j.same.0 ∙ h, j.same, j.former, subst (λ (x : TableView). IsLegal x.origin x.lists q.seen) h j.legal)
