use Rattle.std.proofs.Common.{◌≡◌, ◌+◌, ◌-◌, ◌∙◌, ap, arith, length, Some, true, false, not, eqb, List, ℕ}
use Rattle.stroke.specs.Pieces.{pieces as pieces_of}
use Rattle.std.specs.Option.{option_eq}
use Rattle.steno_rules.specs.Conflicts.{joined_strokes}
use Rattle.stroke.specs.declared.pieces.Piece.{Piece}
use Rattle.longest_match.proofs.ShowSteps.{shows_by_last, last_found, last_len, entry_tested}
use Rattle.translator.proofs.showing.shows.Goals as goal
use Rattle.translator.proofs.showing.shows.Goals.{then-ne-via-then-ne, then-ne-via-else-ne+then-place-eq0, then-ne-via-else-ne+else-place-eq0+then-place-last}

pub overflow_sub-len : goal.overflow_sub-len
overflow_sub-len c =
    let x = c.as_slice.ensures.value ∙ c.in_ok-strokes.ensures.strokes in
    let is_last = last_found c.args.entries.now _ _ _ _ c.in-Some.last.now x (c.in_ok-found.ensures.pieces ∙ ap (λ (es : List (List ℕ)). pieces_of es c.as_slice.result.now) c.requires.trie) c.deref.ensures.value c.in-Some.ensures.value in
    omega (arith, last_len c.args.entries.now _ c.in-Some.last.now is_last, c.len.ensures, ap length c.in_ok-strokes.ensures.strokes)

pub returns : goal.returns
returns c =
    let entries = c.args.entries.now in
    let words = c.args.words.now in
    let last : Piece = c.in-Some.last.now in
    let x = c.as_slice.ensures.value ∙ c.in_ok-strokes.ensures.strokes in
    let is_last = last_found entries _ _ _ _ last x (c.in_ok-found.ensures.pieces ∙ ap (λ (es : List (List ℕ)). pieces_of es c.as_slice.result.now) c.requires.trie) c.deref.ensures.value c.in-Some.ensures.value in
    let says = shows_by_last entries words c.args.entry c.args.place last c.requires.entries c.requires.entry is_last in
    let at : c.len.result - last.len + c.from-place.result ≡ length (joined_strokes entries words) - last.len + c.args.place =
    omega (arith, c.len.ensures, ap length c.in_ok-strokes.ensures.strokes, c.from-place.ensures) in
    let tested : option_eq eqb last.entry (Some c.args.entry) ≡ true = grind (arith, c.if-ne.ensures) in (
      λ t. says.1 ((entry_tested last.entry c.args.entry).0 tested, omega (arith, c.from-place.ensures, c.if-place-eq0.false), omega (arith, c.from-place.ensures, c.if-place-last.false), rw at at (c.is_cut.ensures.0 t)),
      λ h. c.is_cut.ensures.1 (rw at (says.0 h).3),
    )

pub returns-then-ne : goal.returns-then-ne
returns-then-ne c =
    let entries = c.args.entries.now in
    let words = c.args.words.now in
    let last : Piece = c.in-Some.last.now in
    let x = c.as_slice.ensures.value ∙ c.in_ok-strokes.ensures.strokes in
    let is_last = last_found entries _ _ _ _ last x (c.in_ok-found.ensures.pieces ∙ ap (λ (es : List (List ℕ)). pieces_of es c.as_slice.result.now) c.requires.trie) c.deref.ensures.value c.in-Some.ensures.value in
    let says = shows_by_last entries words c.args.entry c.args.place last c.requires.entries c.requires.entry is_last in (
      λ t. absurd (grind arith),
      λ h. absurd (elim c.then-ne.branch [
        | then-ne-via-then-ne w ↦ let tested = (entry_tested last.entry c.args.entry).1 (says.0 h).0 in let wrong : true ≡ false = w.if-ne.ensures ∙ ap not tested in cc wrong
        | then-ne-via-else-ne+then-place-eq0 w ↦ omega (arith, (says.0 h).1, c.from-place.ensures, w.if-place-eq0.true)
        | then-ne-via-else-ne+else-place-eq0+then-place-last w ↦ omega (arith, (says.0 h).2, c.from-place.ensures, w.if-place-last.true)
      ]),
    )
