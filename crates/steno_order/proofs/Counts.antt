-- A text has at least as many characters as strokes.
use Rattle.std.proofs.Common.{◌≡◌, ℕ, ◌+◌, ◌≤◌, List, [], ◌∷◌, length, length-append, map, arith, ap, subst, refl, true≢false, Option, Some, None}
use Rattle.std.specs.Prelude.{option_and_then, option_map}
use Rattle.std.specs.List.{join_with_byte}
use Rattle.std.proofs.lemmas.List.Splits.{join_with_byte-slice_split}
use Rattle.steno_order.specs.Keys.{slash}
use Rattle.steno_order.specs.Spelling.{parts_of}
use Rattle.steno_order.specs.Reading.{all_some, stroke_of, spelt_strokes}

-- the empty text spells no stroke
some_char : (part : List ℕ) (stroke : ℕ) → stroke_of part ≡ Some stroke → 1 ≤ length part
some_char [] stroke is = absurd (true≢false cc)
some_char (c ∷ part) stroke is = omega arith

-- one part more
joined : (part : List ℕ) (parts : List (List ℕ)) → length part + length (join_with_byte slash parts) ≤ length (join_with_byte slash (part ∷ parts))
joined part [] = omega arith
joined part (q ∷ parts) = omega (arith, length-append part (slash ∷ join_with_byte slash (q ∷ parts)))

parts-fit : (parts : List (List ℕ)) (strokes : List ℕ) → all_some (map stroke_of parts) ≡ Some strokes → length strokes ≤ length (join_with_byte slash parts)
parts-fit [] strokes is = let none : [] ≡ strokes = cc in subst (λ (s : List ℕ). length s ≤ 0) none (omega arith)
parts-fit (part ∷ parts) strokes is = by (stroke_of part) (all_some (map stroke_of parts)) refl refl (parts-fit parts) is
  where
    by : (first : Option ℕ) (rest : Option (List ℕ)) → stroke_of part ≡ first → all_some (map stroke_of parts) ≡ rest →
        ((ss : List ℕ) → all_some (map stroke_of parts) ≡ Some ss → length ss ≤ length (join_with_byte slash parts)) →
        option_and_then (λ x. option_map (λ xs. x ∷ xs) rest) first ≡ Some strokes →
        length strokes ≤ length (join_with_byte slash (part ∷ parts))
    by None rest one others tails is = absurd (true≢false cc)
    by (Some s) None one others tails is = absurd (true≢false cc)
    by (Some s) (Some ss) one others tails is =
        let all : s ∷ ss ≡ strokes = cc in
        let tail : length ss ≤ length (join_with_byte slash parts) = tails ss others in
        omega (arith, ap length all, some_char part s one, tail, joined part parts)

pub strokes-fit : (text strokes : List ℕ) → spelt_strokes text ≡ Some strokes → length strokes ≤ length text
strokes-fit text strokes is = subst (λ (t : List ℕ). length strokes ≤ length t) (join_with_byte-slice_split slash text) (parts-fit (parts_of text) strokes is)
