-- One more draw, and one more part of a joined text.
use Rattle.std.proofs.Common.{ℕ, zero, suc, ◌≡◌, ◌<◌, ◌+◌, ◌%◌, map, length, get_or, slice_index_or, Bor, arith, nat_lt, if◌then◌else◌, List, [], ◌∷◌, ◌++◌, refl, sym, ap, ◌∙◌, append_assoc}
use Rattle.std.proofs.lemmas.Bool.{lt-ltb}
use Rattle.std.proofs.lemmas.List.{get_or-map}
use Rattle.std.proofs.lemmas.List.FromFn.{map-range_with_len_more}
use Rattle.std.specs.List.{join_with_byte, range_with_len}
use Rattle.steno_order.specs.Keys.{slash}
use Rattle.dict_json.specs.Generated.{drawn, after_draws, stroke_text}

-- the value after one draw more
pub after_draws_more : (n x : ℕ) → drawn (after_draws n x) ≡ after_draws (suc n) x
after_draws_more zero x = refl
after_draws_more (suc n) x = after_draws_more n (drawn x)

-- a part more, after others
pub join_push : (c : ℕ) (x : List ℕ) (xs : List (List ℕ)) (y : List ℕ) → join_with_byte c (x ∷ xs ++ y ∷ []) ≡ join_with_byte c (x ∷ xs) ++ c ∷ y
join_push c x [] y = refl
join_push c x (z ∷ xs) y = ap (λ l. x ++ (c ∷ l)) (join_push c z xs y) ∙ sym (append_assoc x (c ∷ join_with_byte c (z ∷ xs)) (c ∷ y))

-- the texts of the first strokes of a key whose first draw gave x
abbrev pub front_of : ℕ → ℕ → List ℕ
front_of x n = join_with_byte slash (map (λ k. stroke_text (after_draws k x % 2048)) (range_with_len 1 n))

-- so many strokes of the key are written
pub record IsKeyFront (x n : ℕ) (key : List ℕ) (value : ℕ) : Type 0 where
  pub text : key ≡ front_of x n
  pub draws : value ≡ after_draws n x

-- the text of a place, in a list of borrowed texts
pub text_at : (texts : List (Bor (List ℕ))) (place : ℕ) (d : Bor (List ℕ)) → place < length texts → (get_or texts place d).now ≡ slice_index_or (map (λ (text : Bor (List ℕ)). text.now) texts) place []
text_at texts place d below = sym (get_or-map (λ (text : Bor (List ℕ)). text.now) texts place d [] below)

-- three texts added one after another
pub pushed : (old a b c : List ℕ) → ((old ++ a) ++ b) ++ c ≡ old ++ (a ++ b ++ c)
pushed old a b c = ap (λ l. l ++ c) (append_assoc old a b) ∙ append_assoc old (a ++ b) c

-- one stroke more
pub front_more : (x n : ℕ) → front_of x (n + 1) ≡ front_of x n ++ ((if nat_lt 0 n then slash ∷ [] else []) ++ stroke_text (after_draws (suc n) x % 2048))
front_more x n = ap (join_with_byte slash) (map-range_with_len_more (λ k. stroke_text (after_draws k x % 2048)) 1 n (suc n) (omega arith)) ∙ by n
  where
    by : (m : ℕ) → join_with_byte slash (map (λ k. stroke_text (after_draws k x % 2048)) (range_with_len 1 m) ++ stroke_text (after_draws (suc n) x % 2048) ∷ [])
        ≡ front_of x m ++ ((if nat_lt 0 m then slash ∷ [] else []) ++ stroke_text (after_draws (suc n) x % 2048))
    by zero = refl
    by (suc m) = join_push slash (stroke_text (after_draws 1 x % 2048)) (map (λ k. stroke_text (after_draws k x % 2048)) (range_with_len (1 + 1) m)) (stroke_text (after_draws (suc n) x % 2048))
        ∙ ap (λ b. front_of x (suc m) ++ ((if b then slash ∷ [] else []) ++ stroke_text (after_draws (suc n) x % 2048))) (sym (lt-ltb 0 (suc m) (omega arith)))

pub key_more : (x n : ℕ) (key next : List ℕ) (value draw : ℕ) → IsKeyFront x n key value → draw ≡ drawn value
    → next ≡ key ++ ((if nat_lt 0 n then slash ∷ [] else []) ++ stroke_text (draw % 2048)) → IsKeyFront x (n + 1) next draw
key_more x n key next value draw front drew adds =
    let draws : draw ≡ after_draws (suc n) x = drew ∙ ap drawn front.draws ∙ after_draws_more n x in
    let one : suc n ≡ n + 1 = omega arith in
    record {
      text = adds ∙ (λ i. front.text i ++ ((if nat_lt 0 n then slash ∷ [] else []) ++ stroke_text (draws i % 2048))) ∙ sym (front_more x n);
      draws = draws ∙ ap (λ k. after_draws k x) one;
    }
