-- Where the next line ends in the bytes that are held.
use Rattle.std.proofs.Common.{◌≡◌, ℕ, ◌+◌, ◌≤◌, List, [], ◌∷◌, ◌++◌, length, take, drop, refl, sym, ap, subst, arith, Bool, true, false, ◌∙◌, append_assoc}
use Rattle.std.specs.Prelude.{◌||◌, ◌==◌, IfSome, Option}
use Rattle.std.specs.List.{slice_range}
use Rattle.std.proofs.Math.Seq.{take-add, take-append-add, take-length}
use Rattle.std.proofs.lemmas.List.{take-append-drop, drop-drop, length-drop, length-take-le}
use Rattle.std.proofs.lemmas.List.Folds.{list_any-append}
use Rattle.text_rules.specs.Lines.{has_byte}
use Rattle.outside.proofs.Known.{slice_range-rest}
use Rattle.certificate.specs.inside.Places.{IsPlace, IsFirstPlace}
use Rattle.certificate.specs.inside.Pieces.{Grows, IsReachOf}
use Rattle.certificate.specs.declared.pieces.Reach.{Reach}
use Rattle.certificate.specs.declared.pieces.Reach.TheVariants as reach

-- neither part has the byte
pub has_byte-append : (c : ℕ) (xs ys : List ℕ) → has_byte c xs ≡ false → has_byte c ys ≡ false → has_byte c (xs ++ ys) ≡ false
has_byte-append c xs ys first last = list_any-append (λ x. x == c) xs ys ∙ rw (first, last) refl

-- a beginning has no byte that the whole lacks
pub plain_take : (n : ℕ) (xs : List ℕ) → has_byte 10 xs ≡ false → has_byte 10 (take n xs) ≡ false
plain_take n xs plain = by (has_byte 10 (take n xs)) refl (sym (list_any-append (λ x. x == 10) (take n xs) (drop n xs)) ∙ ap (has_byte 10) (take-append-drop n xs) ∙ plain)
  where
    by : (b : Bool) → has_byte 10 (take n xs) ≡ b → (b || has_byte 10 (drop n xs)) ≡ false → b ≡ false
    by true is e = e
    by false is e = refl

-- the bytes that were not seen have none
pub none_seen : (left bytes : List ℕ) (seen : ℕ) → bytes ≡ left → has_byte 10 (take seen left) ≡ false
    → has_byte 10 (slice_range bytes seen (length bytes)) ≡ false → has_byte 10 left ≡ false
none_seen left bytes seen is before behind =
    ap (has_byte 10) (sym (take-append-drop seen left))
    ∙ has_byte-append 10 (take seen left) (drop seen left) before (ap (has_byte 10) (sym (slice_range-rest bytes seen ∙ ap (drop seen) is)) ∙ behind)

place_behind : (left : List ℕ) (seen place : ℕ) → seen ≤ length left → has_byte 10 (take seen left) ≡ false → IsFirstPlace 10 (drop seen left) place → IsFirstPlace 10 left (seen + place)
place_behind left seen place within before is = record {
  here = record {
    within = let below = is.here.within in let rest = length-drop seen left in omega arith;
    split =
        sym (take-append-drop seen left) ∙ ap (λ xs. take seen left ++ xs) is.here.split
        ∙ sym (append_assoc (take seen left) (take place (drop seen left)) (10 ∷ drop (place + 1) (drop seen left)))
        ∙ ap (λ xs. xs ++ 10 ∷ drop (place + 1) (drop seen left)) (sym (take-add seen place left))
        ∙ ap (λ xs. take (seen + place) left ++ 10 ∷ xs) (drop-drop (place + 1) seen left ∙ (let sum : seen + (place + 1) ≡ seen + place + 1 = omega arith in ap (λ n. drop n left) sum));
  };
  before = ap (has_byte 10) (take-add seen place left) ∙ has_byte-append 10 (take seen left) (take place (drop seen left)) before is.before;
}

-- the first place behind those that were seen
pub first_seen : (left bytes : List ℕ) (seen place : ℕ) → bytes ≡ left → seen ≤ length left → has_byte 10 (take seen left) ≡ false
    → IsFirstPlace 10 (slice_range bytes seen (length bytes)) place → IsFirstPlace 10 left (seen + place)
first_seen left bytes seen place is within before here =
    place_behind left seen place within before (subst (λ xs. IsFirstPlace 10 xs place) (slice_range-rest bytes seen ∙ ap (drop seen) is) here)

-- nothing was added
pub grows_none : (count : ℕ) (old new : List ℕ) → Grows count old new → count ≡ 0 → new ≡ old
grows_none count old new grown none =
    let len : length old ≡ length new = let more = grown.more in omega arith in
    sym (take-length new) ∙ ap (λ n. take n new) (sym len) ∙ grown.same

-- the beginning up to a byte, and this byte
pub take_next : (c : ℕ) (left : List ℕ) (n : ℕ) → IsPlace c left n → take (n + 1) left ≡ take n left ++ c ∷ []
take_next c left n is =
    ap (take (n + 1)) is.split
    ∙ (let same : n + 1 ≡ length (take n left) + 1 = (let len = length-take-le n left (let lt = is.within in omega arith) in omega arith) in
    ap (λ k. take k (take n left ++ c ∷ drop (n + 1) left)) same)
    ∙ take-append-add (take n left) (c ∷ drop (n + 1) left) 1

-- What is held, by what reaching answers: the line,
pub at_line : (r : Reach) (left : List ℕ) (rest : Option (List ℕ)) (body : ℕ) → IsReachOf r left rest → r ≡ reach.Line body → IsFirstPlace 10 left body
at_line r left rest body reached is = subst (λ a. IsReachOf a left rest) is reached

-- as many bytes as there is room for,
pub at_full : (r : Reach) (left : List ℕ) (rest : Option (List ℕ)) → IsReachOf r left rest → r ≡ reach.Full → (has_byte 10 left ≡ false) × (length left ≡ 65536)
at_full r left rest reached is = subst (λ a. IsReachOf a left rest) is reached

-- or all to the end of the file.
pub at_end : (r : Reach) (left : List ℕ) (rest : Option (List ℕ)) → IsReachOf r left rest → r ≡ reach.End → (has_byte 10 left ≡ false) × IfSome rest (λ more. more ≡ [])
at_end r left rest reached is = subst (λ a. IsReachOf a left rest) is reached
