-- The strokes read so far, with what is left of the text.
use Rattle.std.proofs.Common.{◌≡◌, ℕ, ◌+◌, ◌<◌, ◌≤◌, List, [], ◌∷◌, ◌++◌, length, take, set, refl, sym, ap, arith, ◌∙◌, append-nil, append_assoc}
use Rattle.std.specs.Prelude.{IfSome, map, position, Option, Some, None, option_map}
use Rattle.std.specs.Borrow.{Bor}
use Rattle.std.specs.Option.{is_none}
use Rattle.std.specs.List.{position_or_len}
use Rattle.std.proofs.lemmas.Bool.{lt-ltb}
use Rattle.std.proofs.lemmas.List.{length-map, length-append, map-append, take_more_set, length-set}
use Rattle.steno_rules.specs.Outlines.{most_strokes}
use Rattle.steno_order.specs.Reading.{readings, all_some, spelt_strokes, unreadable_part}
use Rattle.steno_order.specs.inside.Steps.{readings_left}

-- more than the length of the text that is left, if one is left
abbrev pub room : Option (List ℕ) → ℕ
room None = 0
room (Some text) = length text + 1

pub record IsRead (text strokes : List ℕ) (rest : Option (List ℕ)) : Type 0 where
  pub whole : readings text ≡ map Some strokes ++ readings_left rest
  pub short : length strokes + room rest ≤ length text + 1

pub none_read : (text : List ℕ) → IsRead text [] (Some text)
none_read text = record { whole = refl; short = omega arith }

pub one_read : (text strokes bytes : List ℕ) (stroke : ℕ) (rest : Option (List ℕ)) → IsRead text strokes (Some bytes) → readings bytes ≡ Some stroke ∷ readings_left rest → room rest ≤ length bytes → IsRead text (strokes ++ stroke ∷ []) rest
one_read text strokes bytes stroke rest h first less =
    let short = h.short in
    let len = length-append strokes (stroke ∷ []) in
    record {
      whole = h.whole ∙ (ap (λ r. map Some strokes ++ r) first ∙ (sym (append_assoc (map Some strokes) (Some stroke ∷ []) (readings_left rest)) ∙ ap (λ r. r ++ readings_left rest) (sym (map-append Some strokes (stroke ∷ [])))));
      short = omega (arith, len, short, less);
    }

all_some-map : (strokes : List ℕ) → all_some (map Some strokes) ≡ Some strokes
all_some-map [] = refl
all_some-map (s ∷ ss) = rw (all_some-map ss) refl

pub all_read : (text strokes : List ℕ) → IsRead text strokes None → spelt_strokes text ≡ Some strokes
all_read text strokes h = ap all_some (h.whole ∙ append-nil (map Some strokes)) ∙ all_some-map strokes

all_some-none : (strokes : List ℕ) (others : List (Option ℕ)) → all_some (map Some strokes ++ None ∷ others) ≡ None
all_some-none [] others = refl
all_some-none (s ∷ ss) others = rw (all_some-none ss others) refl

-- the next part spells none, so not all do
pub none_of_all : (text strokes bytes : List ℕ) (others : List (Option ℕ)) → IsRead text strokes (Some bytes) → readings bytes ≡ None ∷ others → spelt_strokes text ≡ None
none_of_all text strokes bytes others h next = ap all_some (h.whole ∙ ap (λ r. map Some strokes ++ r) next) ∙ all_some-none strokes others

first_none : (strokes : List ℕ) (others : List (Option ℕ)) → position_or_len is_none (map Some strokes ++ None ∷ others) ≡ length strokes
first_none [] others = refl
first_none (s ∷ ss) others = let rest = first_none ss others in omega (arith, rest)

pub none_next : (text strokes bytes : List ℕ) (others : List (Option ℕ)) → IsRead text strokes (Some bytes) → readings bytes ≡ None ∷ others → unreadable_part text ≡ Some (length strokes)
none_next text strokes bytes others h next =
    let at = first_none strokes others in
    let long : length (map Some strokes ++ None ∷ others) ≡ length strokes + (length others + 1) = length-append (map Some strokes) (None ∷ others) ∙ (let l : length (map Some strokes) ≡ length strokes = simp length-map in omega (arith, l)) in
    ap (position is_none) (h.whole ∙ ap (λ r. map Some strokes ++ r) next) ∙ rw (at, lt-ltb (length strokes) (length (map Some strokes ++ None ∷ others)) (omega (arith, long))) refl

-- the strokes of the parts so far are at the front of the places, while they have room there
pub record IsHeld (text places : List ℕ) (parts : ℕ) (rest : Option (List ℕ)) : Type 0 where
  pub strokes : List ℕ
  pub size : length places ≡ most_strokes
  pub read : IsRead text strokes rest
  pub count : length strokes ≡ parts
  pub held : parts ≤ most_strokes → take parts places ≡ strokes

pub one_held : (text places bytes : List ℕ) (parts stroke : ℕ) (rest : Option (List ℕ)) → IsHeld text places parts (Some bytes) → readings bytes ≡ Some stroke ∷ readings_left rest → room rest ≤ length bytes → IsHeld text (set places parts stroke) (parts + 1) rest
one_held text places bytes parts stroke rest h first less =
    let count = h.count in
    let size = h.size in
    let len = length-append h.strokes (stroke ∷ []) in
    record {
      strokes = h.strokes ++ stroke ∷ [];
      size = length-set places parts stroke ∙ size;
      read = one_read text h.strokes bytes stroke rest h.read first less;
      count = omega (arith, len, count);
      held = λ le. take_more_set places parts stroke (omega (arith, size, le)) ∙ ap (λ l. l ++ stroke ∷ []) (h.held (omega arith));
    }

-- how long the text that is left is
pub less_left : (rest : Option (Bor (List ℕ))) (bytes : List ℕ) → IfSome rest (λ text. length text.now < length bytes) → room (option_map (λ text. text.now) rest) ≤ length bytes
less_left None bytes h = omega arith
less_left (Some text) bytes h = omega (arith, h)
