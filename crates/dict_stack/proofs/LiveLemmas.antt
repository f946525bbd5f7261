-- The live outlines rise, and are those that some dictionary has.
use Rattle.std.proofs.Common.{ℕ, List, [], ◌∷◌, Contains, flat_map, inl, inr, subst, sym, ◌↔◌}
use Rattle.std.proofs.lemmas.List.Elements.{Contains-append_cases, Contains-append_left, Contains-append_right}
use Rattle.steno_rules.specs.Outlines.{AreRising}
use Rattle.steno_rules.proofs.InOrder.{in_order-rising, in_order-Contains}
use Rattle.steno_rules.proofs.Lists.{none_in_nil, in_cons, in_first, in_later}
use Rattle.dict_json.specs.Dictionaries.{DictionaryView, entry_outlines}
use Rattle.dict_stack.specs.Stacks.{IsLive, IsHeldBySome, all_outlines}

-- the outlines of all dictionaries, one after another
abbrev outlines_of_all : List DictionaryView → List (List ℕ)
outlines_of_all ds = flat_map (λ d. entry_outlines d.entries) ds

pub live-rising : (ds : List DictionaryView) → AreRising (all_outlines ds)
live-rising ds = in_order-rising (outlines_of_all ds)

held_of : (ds : List DictionaryView) (x : List ℕ) → Contains (outlines_of_all ds) x → IsHeldBySome ds x
held_of [] x has = absurd (none_in_nil x has)
held_of (d ∷ ds) x has = elim (Contains-append_cases (entry_outlines d.entries) (outlines_of_all ds) x has) [
  | inl here ↦ (d, in_first d ds, here)
  | inr there ↦ (let rest = held_of ds x there in (rest.0, in_later d ds rest.0 rest.1, rest.2))
]

of_held : (ds : List DictionaryView) (x : List ℕ) (d : DictionaryView) → Contains ds d → Contains (entry_outlines d.entries) x → Contains (outlines_of_all ds) x
of_held [] x d in_ds has = absurd (none_in_nil d in_ds)
of_held (e ∷ ds) x d in_ds has = elim (in_cons e ds d in_ds) [
  | inl is ↦ Contains-append_left (entry_outlines e.entries) (outlines_of_all ds) x (subst (λ (v : DictionaryView). Contains (entry_outlines v.entries) x) (sym is) has)
  | inr later ↦ Contains-append_right (entry_outlines e.entries) (outlines_of_all ds) x (of_held ds x d later has)
]

pub live-held : (ds : List DictionaryView) (x : List ℕ) → IsLive ds x ↔ IsHeldBySome ds x
live-held ds x = (
  λ live. held_of ds x ((in_order-Contains (outlines_of_all ds) x).0 live),
  λ held. (in_order-Contains (outlines_of_all ds) x).1 (of_held ds x held.0 held.1 held.2),
)
