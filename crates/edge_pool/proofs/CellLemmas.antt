-- Runs of cells after a write.
use Rattle.std.proofs.Common.{◌≡◌, ℕ, ◌+◌, ◌-◌, ◌<◌, ◌≤◌, List, ◌++◌, length, get_or, take, drop, set, replicate, sym, ◌∙◌, arith, inl, inr, length-set, length-drop, length-append, get_or-set_same, get_or-set_other}
use Rattle.std.proofs.lemmas.Bool.{cases_eq, cases_lt}
use Rattle.std.proofs.lemmas.List.{length-take-le, length-replicate, get_or-take, get_or-drop, get_or-replicate, ext_get_or, get_or_append_left, get_or-append_right}
use Rattle.edge_pool.specs.inside.Runs.{IsCleared}

abbrev pub run : List (ℕ × ℕ) → ℕ → ℕ → List (ℕ × ℕ)
run cells place len = take len (drop place cells)

pub length-run : (cells : List (ℕ × ℕ)) (place len : ℕ) → place + len ≤ length cells → length (run cells place len) ≡ len
length-run cells place len within = length-take-le len (drop place cells) (omega (arith, length-drop place cells))

pub get_or-run : (cells : List (ℕ × ℕ)) (place len k : ℕ) → k < len → get_or (run cells place len) k (0, 0) ≡ get_or cells (place + k) (0, 0)
get_or-run cells place len k below = get_or-take len (drop place cells) k (0, 0) below ∙ get_or-drop place cells k (0, 0)

-- a run is known by its cells
pub run_is : (cells : List (ℕ × ℕ)) (place len : ℕ) (xs : List (ℕ × ℕ)) → place + len ≤ length cells → length xs ≡ len →
    ((k : ℕ) → k < len → get_or cells (place + k) (0, 0) ≡ get_or xs k (0, 0)) → run cells place len ≡ xs
run_is cells place len xs within long each =
    ext_get_or (0, 0) (run cells place len) xs (length-run cells place len within ∙ sym long)
    (λ k below. let inside : k < len = omega (arith, length-run cells place len within) in get_or-run cells place len k inside ∙ each k inside)

pub run_same : (old new : List (ℕ × ℕ)) (place len : ℕ) → length new ≡ length old → place + len ≤ length old →
    ((k : ℕ) → place ≤ k → k < place + len → get_or new k (0, 0) ≡ get_or old k (0, 0)) → run new place len ≡ run old place len
run_same old new place len long within each =
    run_is new place len (run old place len) (omega arith) (length-run old place len within)
    (λ k below. each (place + k) (omega arith) (omega arith) ∙ sym (get_or-run old place len k below))

pub run_zeros : (cells : List (ℕ × ℕ)) (place len : ℕ) → place + len ≤ length cells → ((k : ℕ) → place ≤ k → k < place + len → get_or cells k (0, 0) ≡ (0, 0)) →
    run cells place len ≡ replicate len (0, 0)
run_zeros cells place len within each =
    run_is cells place len (replicate len (0, 0)) within (length-replicate len (0, 0))
    (λ k below. each (place + k) (omega arith) (omega arith) ∙ sym (get_or-replicate len k (0, 0) (0, 0) below))

-- a run in which one cell was set
pub run_set : (cells : List (ℕ × ℕ)) (place len k : ℕ) (pair : ℕ × ℕ) → place + len ≤ length cells → k < len →
    run (set cells (place + k) pair) place len ≡ set (run cells place len) k pair
run_set cells place len k pair within below =
    run_is (set cells (place + k) pair) place len (set (run cells place len) k pair) (omega (arith, length-set cells (place + k) pair))
    (length-set (run cells place len) k pair ∙ length-run cells place len within)
    (λ j inside. elim (cases_eq j k) [
      | inl same ↦ rw same (
          get_or-set_same cells (place + k) pair (0, 0) (omega arith)
          ∙ sym (get_or-set_same (run cells place len) k pair (0, 0) (omega (arith, length-run cells place len within)))
          )
      | inr apart ↦
          get_or-set_other cells (place + k) (place + j) pair (0, 0) (λ e. apart (omega (arith, e)))
          ∙ sym (get_or-set_other (run cells place len) k j pair (0, 0) apart ∙ get_or-run cells place len j inside)
    ])

-- a run whose end was cleared
pub run_longer : (old new : List (ℕ × ℕ)) (place len longer : ℕ) → IsCleared old new (place + len) (place + longer) → len ≤ longer → place + longer ≤ length old →
    run new place longer ≡ run old place len ++ replicate (longer - len) (0, 0)
run_longer old new place len longer cleared le within =
    run_is new place longer (run old place len ++ replicate (longer - len) (0, 0)) (omega (arith, cleared.length))
    (length-append (run old place len) (replicate (longer - len) (0, 0)) ∙ sum)
    (λ k below. elim (cases_lt k len) [
      | inl front ↦
          cleared.before (place + k) (omega arith)
          ∙ sym (get_or_append_left (run old place len) (replicate (longer - len) (0, 0)) (0, 0) k (omega (arith, long)) ∙ get_or-run old place len k front)
      | inr back ↦
          cleared.cleared (place + k) (omega arith) (omega arith)
          ∙ sym (get_or-append_right (run old place len) (replicate (longer - len) (0, 0)) len k (0, 0) long back
          ∙ get_or-replicate (longer - len) (k - len) (0, 0) (0, 0) (omega arith))
    ])
  where
    long : length (run old place len) ≡ len
    long = length-run old place len (omega arith)

    sum : length (run old place len) + length (replicate {A = ℕ × ℕ} (longer - len) (0, 0)) ≡ longer
    sum = rw (long, length-replicate {A = ℕ × ℕ} (longer - len) (0, 0)) (omega arith)
