-- How far a walk over the members of an object has come.
use Rattle.std.proofs.Common.{ℕ, ◌≡◌, List, [], ◌∷◌, ◌++◌, filter_map, find, sym, ap, subst, ◌∙◌, None, Some, true, is_none, cond, All, string_bytes, String, rules, append_assoc}
use Rattle.std.specs.declared.alloc.Global.{Global}
use Rattle.std.specs.Option.{option_or}
use Rattle.std.proofs.lemmas.List.Elements.{filter_map-append, All-head, All-tail}
use Rattle.std.proofs.lemmas.List.Folds.{find-append}
use Rattle.serde_json.specs.Data.{string}
use Rattle.serde_json.specs.View.{view}
use Rattle.serde_json.specs.declared.value.Value as json
use Rattle.serde_json.specs.declared.value.Value.{Value, the_lemmas}
use Rattle.dict_json.specs.Reading.{Member, Keyed, keyed}
use Rattle.dict_json.specs.inside.Walks.{KeysView, walked}
use Rattle.dict_json.specs.Outcomes.{not_text, members_outcome}

-- the members walked so far are texts, and the walk has collected their keys
pub record IsWalking (members rest : List Member) (keys : KeysView) : Type 0 where
  pub front : List Member
  pub whole : members ≡ front ++ rest
  pub texts : find (λ m. is_none (keyed m)) front ≡ None
  pub collected : keys ≡ walked (filter_map keyed front)

pub view-String : (text : String Global) → view (json.String text) ≡ string (string_bytes text)
view-String text = search (rules, the_lemmas)

-- a value that is no string is no text
pub no_text : (name : List ℕ) (v : Value) → ((text : String Global) → v ≡ json.String text → ⊥) → is_none (keyed (record { name = name; value = view v })) ≡ true
no_text name v other = search (rules, the_lemmas)

-- one more member, whose value is a text
pub walking_more : (members at rest : List Member) (name text : List ℕ) (keys next : KeysView) → at ≡ record { name = name; value = string text } ∷ rest → IsWalking members at keys →
    ((pairs : List Keyed) → keys ≡ walked pairs → next ≡ walked (pairs ++ record { key = name; text = text } ∷ [])) → IsWalking members rest next
walking_more members at rest name text keys next e w adds =
    let m : Member = record { name = name; value = string text } in
    record {
      front = w.front ++ m ∷ [];
      whole = w.whole ∙ ap (λ l. w.front ++ l) e ∙ sym (append_assoc w.front (m ∷ []) rest);
      texts = find-append (λ q. is_none (keyed q)) w.front (m ∷ []) ∙ ap (λ o. option_or o None) w.texts;
      collected = adds (filter_map keyed w.front) w.collected ∙ ap walked (sym (filter_map-append keyed w.front (m ∷ [])));
    }

-- what holds of all members holds of the next one
pub walking_next : (P : Member → Type 0) (members at rest : List Member) (m : Member) (keys : KeysView) → at ≡ m ∷ rest → IsWalking members at keys → All P members → P m
walking_next P members at rest m keys e w all = first w.front (subst (All P) (w.whole ∙ ap (λ l. w.front ++ l) e) all)
  where
    first : (front : List Member) → All P (front ++ m ∷ rest) → P m
    first [] h = All-head P m rest h
    first (q ∷ front) h = first front (All-tail P q (front ++ m ∷ rest) h)

-- a next one that is no text is the first
pub walking_refused : (members at rest : List Member) (m : Member) (keys : KeysView) → at ≡ m ∷ rest → IsWalking members at keys → is_none (keyed m) ≡ true →
    members_outcome members (find (λ q. is_none (keyed q)) members) ≡ not_text m.name
walking_refused members at rest m keys e w no_text = ap (members_outcome members) (ap (find (λ q. is_none (keyed q))) (w.whole ∙ ap (λ l. w.front ++ l) e) ∙ find-append (λ q. is_none (keyed q)) w.front (m ∷ rest)
    ∙ (λ i. option_or (w.texts i) (cond (no_text i) (Some m) (find (λ q. is_none (keyed q)) rest))))
