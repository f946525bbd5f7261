-- Two texts that are put one after the other.
use Rattle.std.proofs.Common.{ℕ, ◌+◌, ◌≡◌, ◌≤◌, ◌∙◌, List, ◌++◌, ap, sym, refl, length, length-append, take, Option, Result, Ok, Err, arith, subst, true≢false}
use Rattle.std.specs.Io.KnownBytes.{append_known}
use Rattle.std.proofs.lemmas.List.{take-append-le}
use Rattle.std.proofs.Math.Seq.{take-append-add}
use Rattle.outside.specs.Faults.{Rose}
use Rattle.outside.specs.Sink.{Puts}
use Rattle.outside.specs.declared.fault.OutsideFault.{OutsideFault}
use Rattle.outside.specs.declared.fault.OutsideFault.TheVariants.{Memory}
use Rattle.outside.proofs.Known.{append_known-append, append_known-empty}

-- memory ran out before anything was put
pub puts-nothing : {T : Type 0} (bytes : List ℕ) (text : Option (List ℕ)) (faults : ℕ) → Puts bytes {T = T} (Err Memory) text text faults faults
puts-nothing bytes text faults = record {
  all = tt;
  prefix = (0, omega arith, sym (append_known-empty text));
  later = omega arith;
  failed = λ f. absurd (true≢false (sym f));
  steady = λ s. refl;
}

-- the first text wasn't put whole
pub puts-first : {T U : Type 0} (first second : List ℕ) (fault : OutsideFault) (old new : Option (List ℕ)) (before now : ℕ)
    → Puts first {T = T} (Err fault) old new before now → Puts (first ++ second) {T = U} (Err fault) old new before now
puts-first first second fault old new before now puts = record {
  all = tt;
  prefix = by puts.prefix;
  later = puts.later;
  failed = λ f. puts.failed f;
  steady = λ s. puts.steady s;
}
  where
    by : (n : ℕ) × (n ≤ length first) × (new ≡ append_known old (take n first)) → (n : ℕ) × (n ≤ length (first ++ second)) × (new ≡ append_known old (take n (first ++ second)))
    by (n, within, is) = (n, omega (arith, within, length-append first second), is ∙ ap (append_known old) (sym (take-append-le n first second within)))

-- it was put whole, and then the second one
pub puts-second : {T : Type 0} (first second : List ℕ) (result : Result T OutsideFault) (old mid new : Option (List ℕ)) (before then now : ℕ)
    → mid ≡ append_known old first → then ≡ before → Puts second result mid new then now → Puts (first ++ second) result old new before now
puts-second first second (Ok value) old mid new before then now put same puts = record {
  all = puts.all ∙ ap (λ text. append_known text second) put ∙ append_known-append old first second;
  prefix = tt;
  later = omega (arith, puts.later, same);
  failed = λ f. absurd (true≢false (sym f));
  steady = λ s. puts.steady s ∙ same;
}
puts-second first second (Err fault) old mid new before then now put same puts = record {
  all = tt;
  prefix = by puts.prefix;
  later = omega (arith, puts.later, same);
  failed = λ f. rose (puts.failed f);
  steady = λ s. puts.steady s ∙ same;
}
  where
    by : (n : ℕ) × (n ≤ length second) × (new ≡ append_known mid (take n second)) → (n : ℕ) × (n ≤ length (first ++ second)) × (new ≡ append_known old (take n (first ++ second)))
    by (n, within, is) = (
      length first + n,
      omega (arith, within, length-append first second),
      is ∙ ap (λ text. append_known text (take n second)) put ∙ append_known-append old first (take n second) ∙ ap (append_known old) (sym (take-append-add first second n)),
    )

    rose : Rose then now → Rose before now
    rose r = subst (λ (n : ℕ). Rose n now) same r

-- a text is another one
pub puts-as : {T : Type 0} (made text : List ℕ) (result : Result T OutsideFault) (old new : Option (List ℕ)) (before now : ℕ) → made ≡ text → Puts made result old new before now → Puts text result old new before now
puts-as made text result old new before now is puts = subst (λ (t : List ℕ). Puts t result old new before now) is puts

-- the same for an answer that hands the fault on
pub puts-cut : {T U : Type 0} (first second : List ℕ) (fault handed : OutsideFault) (result : Result U OutsideFault) (old new : Option (List ℕ)) (before now : ℕ) → result ≡ Err handed → handed ≡ fault
    → Puts first {T = T} (Err fault) old new before now → Puts (first ++ second) result old new before now
puts-cut first second fault handed result old new before now is same puts =
    subst (λ r. Puts (first ++ second) r old new before now) (sym (is ∙ ap Err same)) (puts-first first second fault old new before now puts)
