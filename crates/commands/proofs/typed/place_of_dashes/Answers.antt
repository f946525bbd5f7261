use Rattle.std.proofs.Common.{ℕ, ◌≡◌, ◌<◌, ◌≤◌, ◌+◌, ◌∙◌, List, [], ap, arith, cond, get_or, length, map, string_bytes, sym, subst, true, false, Some, None, inl, inr}
use Rattle.std.specs.Prelude.{position, nat_lt}
use Rattle.std.specs.List.{position_or_len}
use Rattle.std.proofs.lemmas.Bool.Decides.{nat_tests}
use Rattle.std.proofs.lemmas.List.{length-map}
use Rattle.std.proofs.lemmas.Bool.{cases_lt}
use Rattle.std.proofs.lemmas.List.Sums.{position_or_len_is}
use Rattle.commands.specs.Reading.{is_dashes}
use Rattle.dict_files.proofs.Turns.{arg-turn}
use Rattle.commands.proofs.typed.place_of_dashes.Goals as goal

found : (args : List (List ℕ)) (i : ℕ) → i < length args → ((k : ℕ) → k < i → is_dashes (get_or args k []) ≡ false) → is_dashes (get_or args i []) ≡ true → Some i ≡ position is_dashes args
found args i below before here =
    let first : position_or_len is_dashes args ≡ i = position_or_len_is is_dashes args i [] (omega (arith, below)) before (λ _. here) in
    let test : nat_lt i (length args) ≡ true = grind (arith, nat_tests) in
    sym (ap (λ (n : ℕ). cond (nat_lt n (length args)) (Some n) None) first ∙ ap (λ b. cond b (Some i) None) test)

none : (args : List (List ℕ)) (i : ℕ) → length args ≤ i → ((k : ℕ) → k < i → is_dashes (get_or args k []) ≡ false) → None ≡ position is_dashes args
none args i all before =
    let first : position_or_len is_dashes args ≡ length args = position_or_len_is is_dashes args (length args) [] (omega arith) (λ k below. before k (omega (arith, below, all))) (λ below. absurd (omega (arith, below))) in
    let test : nat_lt (length args) (length args) ≡ false = grind (arith, nat_tests) in
    sym (ap (λ (n : ℕ). cond (nat_lt n (length args)) (Some n) None) first ∙ ap (λ b. cond b (Some (length args)) None) test)

none_more : (args : List (List ℕ)) (i : ℕ) → ((k : ℕ) → k < i → is_dashes (get_or args k []) ≡ false) → is_dashes (get_or args i []) ≡ false → (k : ℕ) → k < i + 1 → is_dashes (get_or args k []) ≡ false
none_more args i before here k below = elim (cases_lt k i) [
  | inl less ↦ before k less
  | inr not_less ↦ let e : k ≡ i = omega (arith, below, not_less) in subst (λ n. is_dashes (get_or args n []) ≡ false) (sym e) here
]

pub returns-then-eq : goal.returns-then-eq
returns-then-eq c =
    let args = map string_bytes c.args.args.now in
    let within : c.loop-place.place < length args = omega (arith, length-map c.args.args.now string_bytes, c.loop-place-test.true) in
    let turn = c.as_str.ensures.value ∙ arg-turn c.args.args.now c.loop-place.place c.index-args-place.result c.index-args-place.is c.loop-place-test.true in
    let tested : c.eq.result ≡ is_dashes c.as_str.result.now = c.eq.ensures in
    found args c.loop-place.place within c.loop-place.invariant (ap is_dashes (sym turn) ∙ sym tested ∙ c.if-eq.true)

pub loop-place-preserved : goal.loop-place-preserved
loop-place-preserved c =
    let args = map string_bytes c.args.args.now in
    let turn = c.as_str.ensures.value ∙ arg-turn c.args.args.now c.loop-place.place c.index-args-place.result c.index-args-place.is c.loop-place-test.true in
    let tested : c.eq.result ≡ is_dashes c.as_str.result.now = c.eq.ensures in
    none_more args c.loop-place.place c.loop-place.invariant (ap is_dashes (sym turn) ∙ sym tested ∙ c.if-eq.false)

pub returns : goal.returns
returns c =
    let count = length-map c.args.args.now string_bytes in
    none (map string_bytes c.args.args.now) c.loop-place.place (omega (arith, count, c.loop-place-test.false)) c.loop-place.invariant
