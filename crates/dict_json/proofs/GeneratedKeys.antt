-- The keys of a generated dictionary are canonical texts of outlines.
use Rattle.std.proofs.Common.{ℕ, suc, ◌≡◌, ◌<◌, ◌≤◌, ◌+◌, ◌%◌, ◌/◌, List, [], ◌∷◌, length, map, refl, sym, ap, ap₂, subst, ◌∙◌, arith, Some, Bool, true, nat_lt, ◌&&◌, bytes_eq, slice_index_or}
use Rattle.std.specs.List.{AllByRecursion, list_all, join_with_byte, range_with_len}
use Rattle.std.proofs.lemmas.Bool.{and_parts, ltb-true}
use Rattle.std.proofs.lemmas.Slice.Eq.{bytes_eq-Decides}
use Rattle.std.proofs.lemmas.List.{length-map}
use Rattle.std.proofs.lemmas.List.FromFn.{length-range_with_len}
use Rattle.steno_rules.specs.Outlines.{IsStroke, most_strokes}
use Rattle.steno_order.specs.Keys.{slash}
use Rattle.steno_order.specs.Canonical.{canonical, canonical_text}
use Rattle.steno_order.specs.Reading.{spelt_strokes}
use Rattle.steno_order.proofs.Ranges.{tested}
use Rattle.std.proofs.lemmas.List.Elements.{All-from_recursion}
use Rattle.steno_order.proofs.ListLaws.{canonical_text-back}
use Rattle.dict_json.specs.Generated.{after_draws, entry_length, stroke_text, key_text}

-- the codes of what left keys, vowels and right keys are written as
abbrev left_codes : List ℕ
left_codes = 0 ∷ 2 ∷ 4 ∷ 8 ∷ 16 ∷ 32 ∷ 64 ∷ 128 ∷ 6 ∷ 20 ∷ 40 ∷ 80 ∷ 192 ∷ 60 ∷ 170 ∷ 86 ∷ []

abbrev vowel_codes : List ℕ
vowel_codes = 256 ∷ 512 ∷ 2048 ∷ 4096 ∷ 768 ∷ 2304 ∷ 6144 ∷ 6912 ∷ []

abbrev right_codes : List ℕ
right_codes = 0 ∷ 8192 ∷ 16384 ∷ 32768 ∷ 65536 ∷ 131072 ∷ 262144 ∷ 524288 ∷ 1048576 ∷ 2097152 ∷ 4194304 ∷ 98304 ∷ 163840 ∷ 327680 ∷ 1572864 ∷ 122880 ∷ []

-- the stroke of a number below 2048
abbrev code_at : ℕ → ℕ
code_at y = slice_index_or left_codes (y % 16) 0 + slice_index_or vowel_codes (y / 16 % 8) 0 + slice_index_or right_codes (y / 128) 0

abbrev is_canonical : ℕ → Bool
is_canonical y = nat_lt 0 (code_at y) && nat_lt (code_at y) 8388608 && bytes_eq (canonical (code_at y)) (stroke_text y)

-- computed for each of them
all_canonical : list_all is_canonical (range_with_len 0 2048) ≡ true
all_canonical = refl

code_stroke : (y : ℕ) → y < 2048 → IsStroke (code_at y) × (canonical (code_at y) ≡ stroke_text y)
code_stroke y small =
    let numbers = nat_lt 0 (code_at y) && nat_lt (code_at y) 8388608 in
    let all = and_parts numbers (bytes_eq (canonical (code_at y)) (stroke_text y)) (tested is_canonical 0 2048 all_canonical y (omega arith) (omega arith)) in
    let bounds = and_parts (nat_lt 0 (code_at y)) (nat_lt (code_at y) 8388608) all.0 in
    ((ltb-true 0 (code_at y) bounds.0, ltb-true (code_at y) 8388608 bounds.1), (bytes_eq-Decides (canonical (code_at y)) (stroke_text y)).0 all.1)

-- the strokes of the key whose first draw gave x
abbrev codes_of : ℕ → List ℕ → List ℕ
codes_of x ks = map (λ k. code_at (after_draws k x % 2048)) ks

strokes_are : (x : ℕ) (ks : List ℕ) → AllByRecursion IsStroke (codes_of x ks)
strokes_are x [] = tt
strokes_are x (k ∷ ks) = ((code_stroke (after_draws k x % 2048) (omega arith)).0, strokes_are x ks)

texts_are : (x : ℕ) (ks : List ℕ) → map canonical (codes_of x ks) ≡ map (λ k. stroke_text (after_draws k x % 2048)) ks
texts_are x [] = refl
texts_are x (k ∷ ks) = ap₂ (λ t ts. t ∷ ts) (code_stroke (after_draws k x % 2048) (omega arith)).1 (texts_are x ks)

spells_strokes : (x n m : ℕ) → n ≡ suc m → spelt_strokes (canonical_text (codes_of x (range_with_len 1 n))) ≡ Some (codes_of x (range_with_len 1 n))
spells_strokes x n m e =
    subst (λ k. spelt_strokes (canonical_text (codes_of x (range_with_len 1 k))) ≡ Some (codes_of x (range_with_len 1 k))) (sym e)
    (canonical_text-back (codes_of x (1 ∷ range_with_len 2 m)) (omega arith) (All-from_recursion IsStroke (codes_of x (1 ∷ range_with_len 2 m)) (strokes_are x (1 ∷ range_with_len 2 m))))

-- a text that is the canonical one of an outline's strokes, and spells them
pub record IsCanonicalKey (name : List ℕ) : Type 0 where
  pub strokes : List ℕ
  pub spells : spelt_strokes name ≡ Some strokes
  pub written : canonical_text strokes ≡ name
  pub few : length strokes ≤ most_strokes

pub key_canonical : (x : ℕ) → IsCanonicalKey (key_text x)
key_canonical x =
    let ks = range_with_len 1 (entry_length x) in
    let written : canonical_text (codes_of x ks) ≡ key_text x = ap (join_with_byte slash) (texts_are x ks) in
    let count : length (codes_of x ks) ≡ length ks = length-map ks (λ k. code_at (after_draws k x % 2048)) in
    record {
      strokes = codes_of x ks;
      spells = ap spelt_strokes (sym written) ∙ spells_strokes x (entry_length x) (x % 3) (omega arith);
      written = written;
      few = omega (arith, count, length-range_with_len 1 (entry_length x));
    }
