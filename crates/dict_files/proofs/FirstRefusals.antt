-- The first refusal of some files, file by file.
use Rattle.std.proofs.Common.{ℕ, ◌≡◌, ◌<◌, ◌≤◌, ◌+◌, ◌∙◌, List, [], ◌∷◌, ◌++◌, length, ap, sym, refl, arith, Option, Some, None, false, true, nat_lt, subst}
use Rattle.std.proofs.lemmas.Bool.Decides.{nat_tests}
use Rattle.dict_json.specs.Outcomes.{dictionary_outcome}
use Rattle.dict_json.specs.Dictionaries.{DictionaryView}
use Rattle.dict_stack.specs.Stacks.{all_outlines, most_entries, most_dictionaries}
use Rattle.report.specs.Refusals.{RefusalView, too_many_bytes, too_many_dictionaries, too_many_entries}
use Rattle.dict_files.specs.Refusals.{dictionaries_refusal, dictionaries_of, file_refusal, first_refusal, first_of, if_over, outline_count, outcome_refusal}
use Rattle.dict_files.specs.declared.loading.TheConstants.{MAX_BYTES}

-- a number at most at its limit, and one over it
pub if_over-within : (most : ℕ) (fault : ℕ → RefusalView) (n : ℕ) → n ≤ most → if_over most fault n ≡ None
if_over-within most fault n within = let test : nat_lt most n ≡ false = grind (arith, nat_tests) in rw test refl

pub if_over-over : (most : ℕ) (fault : ℕ → RefusalView) (n : ℕ) → most < n → if_over most fault n ≡ Some (fault n)
if_over-over most fault n over = let test : nat_lt most n ≡ true = grind (arith, nat_tests) in rw test refl

-- the test of a file's length
pub file_refusal-long : (file : ℕ) (bytes : List ℕ) → MAX_BYTES < length bytes → file_refusal file bytes ≡ Some (too_many_bytes file)
file_refusal-long file bytes long = let test : nat_lt MAX_BYTES (length bytes) ≡ true = grind (arith, nat_tests) in rw test refl

pub file_refusal-short : (file : ℕ) (bytes : List ℕ) → length bytes ≤ MAX_BYTES → file_refusal file bytes ≡ outcome_refusal file (dictionary_outcome bytes)
file_refusal-short file bytes short = let test : nat_lt MAX_BYTES (length bytes) ≡ false = grind (arith, nat_tests) in rw test refl

first_of-assoc : (a b c : Option RefusalView) → first_of (first_of a b) c ≡ first_of a (first_of b c)
first_of-assoc None b c = refl
first_of-assoc (Some f) b c = refl

-- of two lists of files
pub first_refusal-append : (file : ℕ) (xs ys : List (List ℕ)) → first_refusal file (xs ++ ys) ≡ first_of (first_refusal file xs) (first_refusal (file + length xs) ys)
first_refusal-append file [] ys = let same : file ≡ file + 0 = omega arith in ap (λ (n : ℕ). first_refusal n ys) same
first_refusal-append file (x ∷ xs) ys =
    let same : file + 1 + length xs ≡ file + length (x ∷ xs) = omega arith in
    ap (first_of (file_refusal file x)) (first_refusal-append (file + 1) xs ys ∙ ap (λ (n : ℕ). first_of (first_refusal (file + 1) xs) (first_refusal n ys)) same)
    ∙ sym (first_of-assoc (file_refusal file x) (first_refusal (file + 1) xs) (first_refusal (file + length (x ∷ xs)) ys))

first_of-none : (a : Option RefusalView) → first_of a None ≡ a
first_of-none None = refl
first_of-none (Some f) = refl

-- where the files before are accepted, the next one decides
pub first_refusal-next : (xs : List (List ℕ)) (x : List ℕ) (place : ℕ) → length xs ≡ place → first_refusal 1 xs ≡ None → first_refusal 1 (xs ++ x ∷ []) ≡ file_refusal (place + 1) x
first_refusal-next xs x place count none =
    let here : 1 + length xs ≡ place + 1 = omega (arith, count) in
    first_refusal-append 1 xs (x ∷ []) ∙ ap (λ o. first_of o (first_refusal (1 + length xs) (x ∷ []))) none
    ∙ ap (λ (n : ℕ). first_refusal n (x ∷ [])) here ∙ first_of-none (file_refusal (place + 1) x)

-- a refusal of the first files is that of all
pub first_refusal-stays : (xs ys : List (List ℕ)) (fault : RefusalView) → first_refusal 1 xs ≡ Some fault → first_refusal 1 (xs ++ ys) ≡ Some fault
first_refusal-stays xs ys fault here = first_refusal-append 1 xs ys ∙ ap (λ o. first_of o (first_refusal (1 + length xs) ys)) here

-- ---- of a whole command line

pub dictionaries-many : (args contents : List (List ℕ)) → most_dictionaries < length args → dictionaries_refusal args contents ≡ Some (too_many_dictionaries (length args))
dictionaries-many args contents many =
    ap (λ o. first_of o (first_of (first_refusal 1 contents) (if_over most_entries too_many_entries (outline_count contents)))) (if_over-over most_dictionaries too_many_dictionaries (length args) many)

few_first : (args contents : List (List ℕ)) → length args ≤ most_dictionaries
    → dictionaries_refusal args contents ≡ first_of (first_refusal 1 contents) (if_over most_entries too_many_entries (outline_count contents))
few_first args contents few =
    ap (λ o. first_of o (first_of (first_refusal 1 contents) (if_over most_entries too_many_entries (outline_count contents)))) (if_over-within most_dictionaries too_many_dictionaries (length args) few)

pub dictionaries-refused : (args contents : List (List ℕ)) (fault : RefusalView) → length args ≤ most_dictionaries → first_refusal 1 contents ≡ Some fault → dictionaries_refusal args contents ≡ Some fault
dictionaries-refused args contents fault few here =
    few_first args contents few ∙ ap (λ o. first_of o (if_over most_entries too_many_entries (outline_count contents))) here

entries_first : (args contents : List (List ℕ)) → length args ≤ most_dictionaries → first_refusal 1 contents ≡ None
    → dictionaries_refusal args contents ≡ if_over most_entries too_many_entries (outline_count contents)
entries_first args contents few none =
    few_first args contents few ∙ ap (λ o. first_of o (if_over most_entries too_many_entries (outline_count contents))) none

pub dictionaries-entries : (args contents : List (List ℕ)) → length args ≤ most_dictionaries → first_refusal 1 contents ≡ None → most_entries < outline_count contents
    → dictionaries_refusal args contents ≡ Some (too_many_entries (outline_count contents))
dictionaries-entries args contents few none over = entries_first args contents few none ∙ if_over-over most_entries too_many_entries _ over

pub dictionaries-accepted : (args contents : List (List ℕ)) → length args ≤ most_dictionaries → first_refusal 1 contents ≡ None → outline_count contents ≤ most_entries
    → dictionaries_refusal args contents ≡ None
dictionaries-accepted args contents few none within = entries_first args contents few none ∙ if_over-within most_entries too_many_entries _ within
