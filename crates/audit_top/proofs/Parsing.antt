-- The parts of `parse`, and that its result is one value.
use Rattle.std.proofs.Common.{ℕ, ◌≡◌, ◌↔◌, ◌∙◌, List, ap, ap₂, sym, subst, refl, Option, None}
use Rattle.outside.specs.Sink.{Puts}
use Rattle.outside.specs.declared.fault.OutsideFault.{OutsideFault}
use Rattle.std.specs.Prelude.{IfSome, Result}
use Rattle.dict_stack.specs.Stacks.{StackView}
use Rattle.round_core.specs.Searches.{IsSearched, SettledView}
use Rattle.round_core.proofs.OneSearch.{search_once}
use Rattle.reading_laws.specs.ForkNumbers.{fork_lists}
use Rattle.reading_laws.specs.Readings.{IsFree}
use Rattle.conflict_example.specs.Chosen.{words_in_stack}
use Rattle.free_parse.specs.FoundReadings.{AreChosenTwo, AreFewest, ParsedAs, ReadingsView}
use Rattle.free_parse.specs.FreeGraphs.{FreeGraphView}
use Rattle.free_parse.specs.ParseTexts.{parse_text}
use Rattle.free_parse.proofs.FoundOnce.{found_once}
use Rattle.audit_top.specs.Audited.{reached_count}
use Rattle.audit_top.specs.Outcomes.{Expected}
use Rattle.audit_top.specs.Parsed.{IsParse, IsReadOneWay, parse_result}
use Rattle.audit_top.specs.declared.status.Status.{Status}
use Rattle.std.specs.Io.KnownBytes.{append_known}

-- what is printed of what was found is expected
pub parse-is : (stack : StackView) (searched : SettledView) (found : Option ReadingsView) → ParsedAs stack.outlines (words_in_stack stack) searched.words found
    → IsSearched 0 (fork_lists stack.outlines (words_in_stack stack)) searched → IsParse stack (parse_result stack searched found)
parse-is stack searched found parsed search = record { searched = searched; found = found; search = search; parsed = parsed; produces = refl }

text_is : (stack : StackView) (searched : SettledView) (found copied : Option ReadingsView) (states rounds : ℕ) (words : List ℕ) → words ≡ searched.words → states ≡ reached_count words → rounds ≡ searched.rounds → copied ≡ found
    → parse_text stack.outlines states rounds copied ≡ parse_text stack.outlines (reached_count searched.words) searched.rounds found
text_is stack searched found copied states rounds words are reached in_rounds is = rw (is, in_rounds, reached, are) refl

-- what was put is the expected text
pub put-parse : {T : Type 0} (stack : StackView) (searched : SettledView) (found copied : Option ReadingsView) (states rounds : ℕ) (words : List ℕ) (result : Result T OutsideFault) (old new : Option (List ℕ)) (faults later : ℕ)
    → words ≡ searched.words → states ≡ reached_count words → rounds ≡ searched.rounds → copied ≡ found
    → Puts (parse_text stack.outlines states rounds copied) result old new faults later → Puts (parse_text stack.outlines (reached_count searched.words) searched.rounds found) result old new faults later
put-parse stack searched found copied states rounds words result old new faults later are reached in_rounds is puts =
    subst (λ (text : List ℕ). Puts text result old new faults later) (text_is stack searched found copied states rounds words are reached in_rounds is) puts

-- the graph is that of the stack's words
pub of-forks : (stack : StackView) (graph : FreeGraphView) (s : SettledView) → graph.entries ≡ stack.outlines → graph.words ≡ words_in_stack stack
    → IsSearched 0 (fork_lists graph.entries graph.words) s → IsSearched 0 (fork_lists stack.outlines (words_in_stack stack)) s
of-forks stack graph s entries words searched =
    subst (λ es. IsSearched 0 (fork_lists es (words_in_stack stack)) s) entries (subst (λ ws. IsSearched 0 (fork_lists graph.entries ws) s) words searched)

pub parsed-of : (stack : StackView) (graph : FreeGraphView) (table : List ℕ) (found : Option ReadingsView) → graph.entries ≡ stack.outlines → graph.words ≡ words_in_stack stack
    → ParsedAs graph.entries graph.words table found → ParsedAs stack.outlines (words_in_stack stack) table found
parsed-of stack graph table found entries words parsed =
    subst (λ es. ParsedAs es (words_in_stack stack) table found) entries (subst (λ ws. ParsedAs graph.entries ws table found) words parsed)

pub parsed-are : (stack : StackView) (graph : FreeGraphView) (searched table : List ℕ) (found : Option ReadingsView) → table ≡ searched → graph.entries ≡ stack.outlines → graph.words ≡ words_in_stack stack
    → ((found ≡ None) ↔ IsFree graph.words) → IfSome found (AreFewest graph.entries graph.words) → IfSome found (AreChosenTwo graph.entries graph.words table) → ParsedAs stack.outlines (words_in_stack stack) searched found
parsed-are stack graph searched table found same entries words free fewest chosen =
    parsed-of stack graph searched found entries words (subst (λ t. ParsedAs graph.entries graph.words t found) same (record { free = free; fewest = fewest; chosen = chosen }))

-- of what is expected there is at most one
pub parsed-once : (stack : StackView) (a b : Expected) → IsParse stack a → IsParse stack b → a ≡ b
parsed-once stack a b ha hb =
    let searched : ha.searched ≡ hb.searched = search_once 0 (fork_lists stack.outlines (words_in_stack stack)) ha.searched hb.searched ha.search hb.search in
    let parsed = subst (λ (s : SettledView). ParsedAs stack.outlines (words_in_stack stack) s.words hb.found) (sym searched) hb.parsed in
    let found : ha.found ≡ hb.found = found_once stack.outlines (words_in_stack stack) ha.searched.words ha.found hb.found ha.parsed parsed in
    ha.produces ∙ ap₂ (λ (s : SettledView) (f : Option ReadingsView). parse_result stack s f) searched found ∙ sym hb.produces

-- the promise that speaks of no search
pub read-one-way : (stack : StackView) (old new : Option (List ℕ)) (status : Status) (result : Expected) → IsParse stack result → new ≡ append_known old result.text → status ≡ result.status → IsReadOneWay stack old new status
read-one-way stack old new status result h text ends = record {
  found = h.found;
  states = reached_count h.searched.words;
  rounds = h.searched.rounds;
  text = text ∙ ap (λ (r : Expected). append_known old r.text) h.produces;
  free = h.parsed.free;
  fewest = h.parsed.fewest;
  ends = ends ∙ ap (λ (r : Expected). r.status) h.produces;
}
