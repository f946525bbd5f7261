-- Numbers that are those of no hit.
use Rattle.std.proofs.Common.{◌≡◌, ℕ, ◌-◌, max, List, [], length, sym, ap, subst, ◌∙◌, arith, Option, None, Some, false, true≢false, is_some}
use Rattle.std.proofs.lemmas.List.{length-drop}
use Rattle.steno_rules.specs.Outlines.{AreWords, outline_of}
use Rattle.steno_rules.specs.States as states
use Rattle.steno_rules.specs.States.{IsHit, IsHitMark}
use Rattle.steno_rules.specs.StateNumbers.{state_of_number}
use Rattle.closure_laws.proofs.StateNumberLemmas.{shape_of_state, shaped-same}
use Rattle.closure_laws.proofs.NumberStateLemmas.{state_of_number-is}
use Rattle.outline_trie.specs.Tries.{node_strokes}
use Rattle.state_numbering.specs.declared.offset.Lengths.{Lengths}
use Rattle.state_numbering.specs.ByNumber.{HasNoHit}
use Rattle.state_numbering.specs.Numberings.{NumberingView}
use Rattle.state_numbering.proofs.DecodeLemmas.{IsCandidate, candidate, end_of}

-- a hit has a mark
unmarked : (mark : Option ℕ) (place n : ℕ) → is_some mark ≡ false → IsHitMark mark n place → ⊥
unmarked None place n none h = h
unmarked (Some m) place n none h = absurd (true≢false none)

-- A number without a state is that of no hit.
pub none_hits : (v : NumberingView) (number : ℕ) → state_of_number v.entries v.words number ≡ None → HasNoHit v number
none_hits v number none = λ s e place found hit. absurd cc

-- a state of the number is the candidate
same_candidate : (v : NumberingView) (number : ℕ) (t s : states.State) → AreWords v.entries v.words → IsCandidate v.entries number t →
    state_of_number v.entries v.words number ≡ Some s → s ≡ t
same_candidate v number t s are is found =
    let at = state_of_number-is v.entries v.words number s found in
    shaped-same v.entries s t (shape_of_state v.entries v.words s are at.0) is.shaped (at.1 ∙ sym is.number_is)

-- A number with an open word is that of no hit,
pub word_hits_not : (v : NumberingView) (number node : ℕ) (l : Lengths) → AreWords v.entries v.words → IsCandidate v.entries number (candidate v.entries node l) →
    max l.window l.word ≡ length (node_strokes v.entries node) → (l.word ≡ 0 → ⊥) → HasNoHit v number
word_hits_not v number node l are is long some = λ s e place found hit.
    let z : List ℕ = node_strokes v.entries node in
    let same = same_candidate v number (candidate v.entries node l) s are is found in
    let none : end_of z l.word ≡ [] = sym (ap (λ (t : states.State). t.v) same) ∙ hit.between_words in
    absurd (some (omega (arith, ap length none, length-drop (length z - l.word) z, long)))

-- and so is one without a mark.
pub unmarked_hits_not : (v : NumberingView) (number node : ℕ) (l : Lengths) → AreWords v.entries v.words → IsCandidate v.entries number (candidate v.entries node l) →
    is_some l.mark ≡ false → HasNoHit v number
unmarked_hits_not v number node l are is none = λ s e place found hit.
    let same = same_candidate v number (candidate v.entries node l) s are is found in
    unmarked l.mark place (length (outline_of v.entries e)) none (subst (λ (t : states.State). IsHitMark t.mark (length (outline_of v.entries e)) place) same hit.mark)
