-- Reading on after the hyphen.
use Rattle.std.proofs.Common.{◌≡◌, ℕ, ◌+◌, ◌^◌, List, [], ◌∷◌, refl, sym, ap, arith, Bool, true, false, inl, inr, ◌∙◌}
use Rattle.std.specs.Prelude.{◌||◌, ◌==◌, Option, Some, None, option_map, option_and_then, sum_by}
use Rattle.std.specs.Char.{is_ascii_digit}
use Rattle.std.proofs.lemmas.Bool.{eqb-true}
use Rattle.std.proofs.lemmas.List.Sums.{sum_by-cons}
use Rattle.steno_order.specs.declared.pressed.Pressed.{Pressed}
use Rattle.steno_order.specs.Keys.{hyphen, bar, has_bar}
use Rattle.steno_order.specs.Reading.{first_key, pressed, some_code}
use Rattle.steno_order.specs.inside.Steps.{spelt_from}
use Rattle.steno_order.proofs.Codes.{bit}
use Rattle.steno_order.proofs.States.{weight, HasPressed, no_press, step, or_assoc, with_code}

abbrev pub spelt_keys : ℕ → Bool → List ℕ → List ℕ → Option ℕ
spelt_keys sum b cs keys = some_code (sum + sum_by weight keys + bit (b || has_bar cs))

-- one key more is the first of the keys that are left
more_keys : (sum key c : ℕ) (b : Bool) (cs : List ℕ) → (c == bar) ≡ false → (o : Option (List ℕ)) →
    option_and_then (spelt_keys (sum + 2 ^ key) (b || is_ascii_digit c) cs) o ≡ option_and_then (spelt_keys sum b (c ∷ cs)) (option_map (λ keys. key ∷ keys) o)
more_keys sum key c b cs no_bar None = refl
more_keys sum key c b cs no_bar (Some keys) =
    let first = sum_by-cons weight key keys in
    let sums : sum + 2 ^ key + sum_by weight keys ≡ sum + sum_by weight (key ∷ keys) = omega (arith, first) in
    let bars : ((b || is_ascii_digit c) || has_bar cs) ≡ (b || ((c == bar || is_ascii_digit c) || has_bar cs)) = or_assoc b (is_ascii_digit c) (has_bar cs) ∙ ap (λ t. b || ((t || is_ascii_digit c) || has_bar cs)) (sym no_bar) in
    ap (λ s. some_code (s + bit ((b || is_ascii_digit c) || has_bar cs))) sums ∙ ap (λ t. some_code (sum + sum_by weight (key ∷ keys) + bit t)) bars

-- after the hyphen
pub right : (p : Pressed) (last sum : ℕ) (b : Bool) (cs : List ℕ) → p.hyphen ≡ true → HasPressed p.code p.next last 11 sum b →
    spelt_from p cs ≡ option_and_then (spelt_keys sum b cs) (pressed last 11 cs)
right p last sum b [] side h = with_code p.code p.next last 11 sum b h ∙ ap (λ s. some_code (s + bit (b || false))) (let e : sum ≡ sum + 0 = omega arith in e)
right p last sum b (c ∷ cs) side h = by (c == hyphen) refl (λ q key sum' b' side' h'. right q key sum' b' cs side' h')
  where
    by : (t : Bool) → (c == hyphen) ≡ t →
        ((q : Pressed) (key sum' : ℕ) (b' : Bool) → q.hyphen ≡ true → HasPressed q.code q.next key 11 sum' b' → spelt_from q cs ≡ option_and_then (spelt_keys sum' b' cs) (pressed key 11 cs)) →
        spelt_from p (c ∷ cs) ≡ option_and_then (spelt_keys sum b (c ∷ cs)) (pressed last 11 (c ∷ cs))
    by true is rec =
        let none : first_key last 11 c ≡ None = ap (first_key last 11) (eqb-true c hyphen is) ∙ no_press last 11 in
        rw (is, side, none) refl
    by false isnt rec = elim (step p last 11 sum c b h) [
      | inl none ↦ rw (isnt, none.1, none.0) refl
      | inr some ↦ (
          rw (isnt, some.1.1.is_after, some.1.1.first) (rec some.1.0 some.0 (sum + 2 ^ some.0) (b || is_ascii_digit c) (some.1.1.same_side ∙ side) some.1.1.holds ∙ more_keys sum some.0 c b cs some.1.1.no_bar (pressed some.0 11 cs)))
    ]
