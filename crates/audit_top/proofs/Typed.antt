-- What is known of outlines that are typed one after another.
use Rattle.std.proofs.Common.{ℕ, ◌+◌, ◌<◌, ◌≡◌, ◌∙◌, List, [], ◌∷◌, ◌++◌, get_or, length, map, sum, sum_by, take, ap, ap₂, refl, sym, subst, Option, Some, None, Bool, true, false, true≢false, arith, nat_lt, ◌&&◌, ◌^◌}
use Rattle.std.specs.Prelude.{is_some, unwrap_or}
use Rattle.std.specs.List.{concat, list_all}
use Rattle.std.proofs.lemmas.Bool.{and_parts}
use Rattle.std.proofs.lemmas.Bool.Decides.{Decides-ltb}
use Rattle.std.proofs.lemmas.List.{append-nil, map-append, take_more}
use Rattle.std.proofs.lemmas.List.Folds.{concat-append}
use Rattle.std.proofs.lemmas.List.Sums.{sum-map, sum_by-cons}
use Rattle.stroke.specs.declared.pieces.Piece.{Piece}
use Rattle.stroke.specs.Pieces.{pieces}
use Rattle.steno_order.specs.Reading.{spelt_strokes}
use Rattle.steno_order.specs.Spelling.{parts_of}
use Rattle.steno_order.proofs.Lists.{strokes-SpellingOfAll}
use Rattle.steno_order.proofs.ListLaws.{SpellingOfAll-length}
use Rattle.dict_stack.specs.Stacks.{StackView}
use Rattle.report.specs.Replays.{pieces_text}
use Rattle.report.proofs.SegmentedReplays.{pieces_text-segments}
use Rattle.typed_view.specs.declared.boundaries.Cover.{Cover}
use Rattle.typed_view.specs.Covers.{covers_of}
use Rattle.typed_view.specs.CoverLines.{covers_text}
use Rattle.commands.specs.Commands.{are_spelt, is_spelt, strokes_written}
use Rattle.audit_top.specs.Translated.{IsExplained, IsTypedText, all_typed, typed_parts, typed_strokes, typed_text}
use Rattle.audit_top.specs.Outcomes.{Expected}

-- a readable outline has as many strokes as parts
typed_length : (outline : List ℕ) → is_spelt outline ≡ true → length (typed_strokes outline) ≡ length (parts_of outline)
typed_length outline spelt = by (spelt_strokes outline) refl spelt
  where
    by : (o : Option (List ℕ)) → spelt_strokes outline ≡ o → is_some o ≡ true → length (unwrap_or o []) ≡ length (parts_of outline)
    by None is some = absurd (true≢false (sym some))
    by (Some strokes) is some = SpellingOfAll-length outline strokes (strokes-SpellingOfAll outline strokes is)

all_lengths : (outlines : List (List ℕ)) → list_all is_spelt outlines ≡ true
    → sum_by (λ outline. length (typed_strokes outline)) outlines ≡ strokes_written outlines
all_lengths [] spelt = refl
all_lengths (outline ∷ outlines) spelt =
    let parts = and_parts (is_spelt outline) (list_all is_spelt outlines) spelt in
    sum_by-cons (λ outline. length (typed_strokes outline)) outline outlines
    ∙ ap₂ (λ (a b : ℕ). a + b) (typed_length outline parts.0) (all_lengths outlines parts.1)
    ∙ sym (sum_by-cons (λ outline. length (parts_of outline)) outline outlines)

-- readable outlines have as many strokes as are written
pub sum-parts : (outlines : List (List ℕ)) → list_all is_spelt outlines ≡ true → sum (typed_parts outlines) ≡ strokes_written outlines
sum-parts outlines spelt = sum-map (λ outline. length (typed_strokes outline)) outlines ∙ all_lengths outlines spelt

-- ---- one outline more

pub typed-more : (outlines : List (List ℕ)) (i : ℕ) (strokes read : List ℕ) → i < length outlines → strokes ≡ all_typed (take i outlines) → read ≡ typed_strokes (get_or outlines i [])
    → strokes ++ read ≡ all_typed (take (i + 1) outlines)
typed-more outlines i strokes read below before is =
    ap₂ (λ (a b : List ℕ). a ++ b) before (is ∙ sym (append-nil (typed_strokes (get_or outlines i []))))
    ∙ sym (concat-append (map typed_strokes (take i outlines)) (typed_strokes (get_or outlines i []) ∷ []))
    ∙ ap concat (sym (map-append typed_strokes (take i outlines) (get_or outlines i [] ∷ [])))
    ∙ ap all_typed (sym (take_more outlines i [] below))

pub parts-more : (outlines : List (List ℕ)) (i : ℕ) (parts read : List ℕ) → i < length outlines → parts ≡ typed_parts (take i outlines) → read ≡ typed_strokes (get_or outlines i [])
    → parts ++ (length read ∷ []) ≡ typed_parts (take (i + 1) outlines)
parts-more outlines i parts read below before is =
    ap₂ (λ (a : List ℕ) (b : List ℕ). a ++ (length b ∷ [])) before is
    ∙ sym (map-append (λ outline. length (typed_strokes outline)) (take i outlines) (get_or outlines i [] ∷ []))
    ∙ ap typed_parts (sym (take_more outlines i [] below))

-- ---- what is written

-- the lines of the pieces and of the boundaries that were found are the expected text
pub typed_text-is : (stack : StackView) (strokes parts : List ℕ) (found : List Piece) (crossed : List Cover) → found ≡ pieces stack.outlines strokes → crossed ≡ covers_of parts found
    → pieces_text stack strokes found ++ covers_text stack.outlines crossed ≡ typed_text stack strokes parts
typed_text-is stack strokes parts found crossed is covers =
    ap (λ (cs : List Cover). pieces_text stack strokes found ++ covers_text stack.outlines cs) covers
    ∙ ap (λ (ps : List Piece). pieces_text stack strokes ps ++ covers_text stack.outlines (covers_of parts ps)) is
    ∙ ap (λ (text : List ℕ). text ++ covers_text stack.outlines (covers_of parts (pieces stack.outlines strokes))) (pieces_text-segments stack strokes)

-- readable outlines of few strokes
pub few-typed : (outlines : List (List ℕ)) → are_spelt outlines ≡ true → sum (typed_parts outlines) < 2 ^ 32
few-typed outlines spelt =
    let parts = and_parts (nat_lt 0 (length outlines) && list_all is_spelt outlines) (nat_lt (strokes_written outlines) (2 ^ 32)) spelt in
    let readable = (and_parts (nat_lt 0 (length outlines)) (list_all is_spelt outlines) parts.0).1 in
    let same = sum-parts outlines readable in
    let few = (Decides-ltb (strokes_written outlines) (2 ^ 32)).0 parts.1 in
    omega (arith, same, few)

-- what strokes and lengths that were read explain
pub typed-is : (outlines : List (List ℕ)) (strokes parts : List ℕ) (stack : StackView) (result : Expected) → strokes ≡ all_typed outlines → parts ≡ typed_parts outlines → IsTypedText strokes parts stack result → IsExplained outlines stack result
typed-is outlines strokes parts stack result are lengths is =
    subst (λ (s : List ℕ). IsTypedText s (typed_parts outlines) stack result) are
    (subst (λ (p : List ℕ). IsTypedText strokes p stack result) lengths is)
