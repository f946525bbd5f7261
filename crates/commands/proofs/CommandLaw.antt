-- The arguments that the function takes for a command are those that are written so.
use Rattle.std.proofs.Common.{ℕ, ◌+◌, ◌-◌, ◌<◌, ◌≤◌, ◌≡◌, ◌^◌, ◌∙◌, ◌++◌, ◌&&◌, List, [], ◌∷◌, Bool, true, false, true≢false, cond, refl, subst, sym, ap, ap₂, arith, Option, Some, None, length, take, drop, get_or, option_map, nat_lt}
use Rattle.std.specs.Prelude.{option_and_then, codes, decimal, position}
use Rattle.std.specs.Str.{bytes_eq}
use Rattle.std.specs.List.{list_all, position_or_len, AllByRecursion}
use Rattle.std.proofs.lemmas.Bool.{and_parts}
use Rattle.std.proofs.lemmas.Bool.Decides.{nat_tests}
use Rattle.std.proofs.Math.Seq.{drop-append-add, get_or-append_seam, take-append_seam}
use Rattle.std.proofs.Math.ListN.{get_or-append}
use Rattle.std.proofs.lemmas.List.Sums.{position_or_len_is}
use Rattle.std.proofs.lemmas.List.Folds.{list_all_at}
use Rattle.std.proofs.lemmas.List.{take-append-drop, drop_more, length-append}
use Rattle.std.proofs.lemmas.List.Quantifiers.{position-Some}
use Rattle.std.proofs.lemmas.Bool.Decides.{Decides-ltb}
use Rattle.std.proofs.lemmas.Slice.Eq.{bytes_eq-Decides}
use Rattle.text_rules.specs.Decimals.{decimal_value}
use Rattle.text_rules.proofs.Numbers.{decimal-number, number-decimal}
use Rattle.dict_json.specs.Generated.{most_generated}
use Rattle.steal_rounds.specs.declared.searches.TheConstants.{MAX_WORKERS}
use Rattle.brief_trial.specs.declared.briefs.TheConstants.{MAX_TRIERS}
use Rattle.commands.specs.Commands.{CommandView, IsCommand, are_files, are_numbers, are_spelt, are_workers, are_trial_workers, are_briefs, arguments_of, dashes, is_spelt, is_valid, strokes_written, replay, explain, audit, audit_json, rows, audit_to, check, upgrade, settled, parse, try_briefs, generate, audit_generated}
use Rattle.commands.specs.Reading.{Reader, readers, read_by, command_of, if_valid, replay_of, is_dashes, explain_of, searchers_of, search_of, rows_of, audit_to_of, check_of, upgrade_of, try_of, generate_of, audit_generated_of}

valid_is : (c d : CommandView) → if_valid c ≡ Some d → (c ≡ d) × (is_valid d ≡ true)
valid_is c d h = by (is_valid c) refl h
  where
    by : (b : Bool) → is_valid c ≡ b → cond b (Some c) None ≡ Some d → (c ≡ d) × (is_valid d ≡ true)
    by true test h = let same : c ≡ d = cc in (same, subst (λ e. is_valid e ≡ true) same test)
    by false test h = absurd (true≢false cc)

-- ---- what the function takes is written so

replay_written : (args : List (List ℕ)) (c : CommandView) → replay_of args ≡ Some c → IsCommand (codes "replay" ∷ args) c
replay_written [] c h = absurd (true≢false cc)
replay_written (outline ∷ dicts) c h = let v = valid_is (replay outline dicts) c h in (ap arguments_of v.0, v.1)

-- what stands around the first `--`
around_first : (args : List (List ℕ)) (place : ℕ) → position is_dashes args ≡ Some place → args ≡ take place args ++ (dashes ∷ drop (place + 1) args)
around_first args place is =
    let found = position-Some is_dashes args place [] is in
    let here : get_or args place [] ≡ dashes = (bytes_eq-Decides (get_or args place []) dashes).0 found.1 in
    sym (take-append-drop place args) ∙ ap (λ l. take place args ++ l) (drop_more args place [] found.0 ∙ ap (λ x. x ∷ drop (place + 1) args) here)

explain_written : (args : List (List ℕ)) (c : CommandView) → explain_of args ≡ Some c → IsCommand (codes "explain" ∷ args) c
explain_written args c h = by (position is_dashes args) refl h
  where
    by : (p : Option ℕ) → position is_dashes args ≡ p → option_and_then (λ place. if_valid (explain (take place args) (drop (place + 1) args))) p ≡ Some c → IsCommand (codes "explain" ∷ args) c
    by None is h = absurd (true≢false cc)
    by (Some place) is h =
        let v = valid_is (explain (take place args) (drop (place + 1) args)) c h in
        (ap (λ l. codes "explain" ∷ l) (around_first args place is) ∙ ap arguments_of v.0, v.1)

-- workers and dictionaries that are read are written so
searchers_written : (args : List (List ℕ)) (n : ℕ) (dicts : List (List ℕ)) → searchers_of args ≡ Some (n, dicts) → (args ≡ decimal n ∷ dicts) × (are_workers n && are_files dicts ≡ true)
searchers_written [] n dicts h = absurd (true≢false cc)
searchers_written (workers ∷ others) n dicts h = by (decimal_value MAX_WORKERS workers) refl h
  where
    found : (m : ℕ) → decimal_value MAX_WORKERS workers ≡ Some m → (b : Bool) → are_workers m && are_files others ≡ b → cond {A = Option (ℕ × List (List ℕ))} b (Some (m, others)) None ≡ Some (n, dicts) → (workers ∷ others ≡ decimal n ∷ dicts) × (are_workers n && are_files dicts ≡ true)
    found m is true test h =
        let same : ◌≡◌ {A = ℕ × List (List ℕ)} (m, others) (n, dicts) = cc in
        let same_n : m ≡ n = ap (λ (p : ℕ × List (List ℕ)). p.0) same in
        let same_dicts : others ≡ dicts = ap (λ (p : ℕ × List (List ℕ)). p.1) same in
        let read = number-decimal MAX_WORKERS m workers (omega arith) is in
        let valid : are_workers n && are_files dicts ≡ true = subst (λ k. are_workers k && are_files dicts ≡ true) same_n (subst (λ l. are_workers m && are_files l ≡ true) same_dicts test) in
        let written : workers ∷ others ≡ decimal n ∷ dicts = ap (λ w. w ∷ others) read.0 ∙ ap₂ (λ k l. decimal k ∷ l) same_n same_dicts in
        (written, valid)
    found m is false test h = absurd (true≢false cc)

    by : (m : Option ℕ) → decimal_value MAX_WORKERS workers ≡ m → option_and_then (λ n. cond {A = Option (ℕ × List (List ℕ))} (are_workers n && are_files others) (Some (n, others)) None) m ≡ Some (n, dicts)
        → (workers ∷ others ≡ decimal n ∷ dicts) × (are_workers n && are_files dicts ≡ true)
    by None is h = absurd (true≢false cc)
    by (Some m) is h = found m is (are_workers m && are_files others) refl h

-- a command that is asked for by its workers and dictionaries
record IsSearch (first : List (List ℕ) → List (List ℕ)) (command : ℕ → List (List ℕ) → CommandView) : Type 0 where
  written : (n : ℕ) (dicts : List (List ℕ)) → arguments_of (command n dicts) ≡ first (decimal n ∷ dicts)
  valid : (n : ℕ) (dicts : List (List ℕ)) → is_valid (command n dicts) ≡ (are_workers n && are_files dicts)

search_written : (first : List (List ℕ) → List (List ℕ)) (command : ℕ → List (List ℕ) → CommandView) → IsSearch first command → (args : List (List ℕ)) (c : CommandView) → search_of command args ≡ Some c → IsCommand (first args) c
search_written first command search args c h = by (searchers_of args) refl h
  where
    by : (found : Option (ℕ × List (List ℕ))) → searchers_of args ≡ found → option_map (λ found. command found.0 found.1) found ≡ Some c → IsCommand (first args) c
    by None is h = absurd (true≢false cc)
    by (Some (n, dicts)) is h =
        let same : command n dicts ≡ c = cc in
        let written = searchers_written args n dicts is in
        (ap first written.0 ∙ sym (search.written n dicts) ∙ ap arguments_of same, subst (λ d. is_valid d ≡ true) same (search.valid n dicts ∙ written.1))

-- each such command
is_audit : IsSearch (λ args. codes "audit" ∷ args) audit
is_audit = record { written = λ n dicts. refl; valid = λ n dicts. refl }

is_audit_json : IsSearch (λ args. codes "audit-json" ∷ args) audit_json
is_audit_json = record { written = λ n dicts. refl; valid = λ n dicts. refl }

is_settled : IsSearch (λ args. codes "settled" ∷ args) settled
is_settled = record { written = λ n dicts. refl; valid = λ n dicts. refl }

is_parse : IsSearch (λ args. codes "parse" ∷ args) parse
is_parse = record { written = λ n dicts. refl; valid = λ n dicts. refl }

is_audit_to : (certificate : List ℕ) → IsSearch (λ args. codes "audit-to" ∷ certificate ∷ args) (audit_to certificate)
is_audit_to certificate = record { written = λ n dicts. refl; valid = λ n dicts. refl }

audit_to_written : (args : List (List ℕ)) (c : CommandView) → audit_to_of args ≡ Some c → IsCommand (codes "audit-to" ∷ args) c
audit_to_written [] c h = absurd (true≢false cc)
audit_to_written (certificate ∷ args) c h = search_written (λ args. codes "audit-to" ∷ certificate ∷ args) (audit_to certificate) (is_audit_to certificate) args c h

rows_written : (args : List (List ℕ)) (c : CommandView) → rows_of args ≡ Some c → IsCommand (codes "rows" ∷ args) c
rows_written [] c h = absurd (true≢false cc)
rows_written (file ∷ []) c h = let v = valid_is (rows file) c h in (ap arguments_of v.0, v.1)
rows_written (file ∷ more ∷ args) c h = absurd (true≢false cc)

check_written : (args : List (List ℕ)) (c : CommandView) → check_of args ≡ Some c → IsCommand (codes "check" ∷ args) c
check_written [] c h = absurd (true≢false cc)
check_written (certificate ∷ dicts) c h = let v = valid_is (check certificate dicts) c h in (ap arguments_of v.0, v.1)

upgrade_written : (args : List (List ℕ)) (c : CommandView) → upgrade_of args ≡ Some c → IsCommand (codes "upgrade" ∷ args) c
upgrade_written [] c h = absurd (true≢false cc)
upgrade_written (certificate ∷ []) c h = absurd (true≢false cc)
upgrade_written (certificate ∷ target ∷ []) c h = let v = valid_is (upgrade certificate target) c h in (ap arguments_of v.0, v.1)
upgrade_written (certificate ∷ target ∷ more ∷ args) c h = absurd (true≢false cc)

try_written : (args : List (List ℕ)) (c : CommandView) → try_of args ≡ Some c → IsCommand (codes "try" ∷ args) c
try_written [] c h = absurd (true≢false cc)
try_written (workers ∷ []) c h = absurd (true≢false cc)
try_written (workers ∷ briefs ∷ dicts) c h = by (decimal_value MAX_TRIERS workers) refl h
  where
    by : (n : Option ℕ) → decimal_value MAX_TRIERS workers ≡ n → option_and_then (λ n. if_valid (try_briefs n briefs dicts)) n ≡ Some c → IsCommand (codes "try" ∷ workers ∷ briefs ∷ dicts) c
    by None is h = absurd (true≢false cc)
    by (Some n) is h =
        let v = valid_is (try_briefs n briefs dicts) c h in
        let read = number-decimal MAX_TRIERS n workers (omega arith) is in
        (ap (λ w. codes "try" ∷ w ∷ briefs ∷ dicts) read.0 ∙ ap arguments_of v.0, v.1)

generate_written : (args : List (List ℕ)) (c : CommandView) → generate_of args ≡ Some c → IsCommand (codes "generate" ∷ args) c
generate_written [] c h = absurd (true≢false cc)
generate_written (start ∷ []) c h = absurd (true≢false cc)
generate_written (start ∷ count ∷ []) c h = by (decimal_value (2 ^ 64 - 1) start) (decimal_value most_generated count) refl refl h
  where
    by : (s n : Option ℕ) → decimal_value (2 ^ 64 - 1) start ≡ s → decimal_value most_generated count ≡ n → option_and_then (λ s. option_and_then (λ n. if_valid (generate s n)) n) s ≡ Some c → IsCommand (codes "generate" ∷ start ∷ count ∷ []) c
    by None n is_s is_n h = absurd (true≢false cc)
    by (Some s) None is_s is_n h = absurd (true≢false cc)
    by (Some s) (Some n) is_s is_n h =
        let v = valid_is (generate s n) c h in
        let read_s = number-decimal (2 ^ 64 - 1) s start (omega arith) is_s in
        let read_n = number-decimal most_generated n count (omega arith) is_n in
        (ap₂ (λ a b. codes "generate" ∷ a ∷ b ∷ []) read_s.0 read_n.0 ∙ ap arguments_of v.0, v.1)
generate_written (start ∷ count ∷ more ∷ args) c h = absurd (true≢false cc)

audit_generated_written : (args : List (List ℕ)) (c : CommandView) → audit_generated_of args ≡ Some c → IsCommand (codes "audit-generated" ∷ args) c
audit_generated_written [] c h = absurd (true≢false cc)
audit_generated_written (start ∷ []) c h = absurd (true≢false cc)
audit_generated_written (start ∷ count ∷ []) c h = absurd (true≢false cc)
audit_generated_written (start ∷ count ∷ workers ∷ []) c h = by (decimal_value (2 ^ 64 - 1) start) (decimal_value most_generated count) (decimal_value MAX_WORKERS workers) refl refl refl h
  where
    by : (s n w : Option ℕ) → decimal_value (2 ^ 64 - 1) start ≡ s → decimal_value most_generated count ≡ n → decimal_value MAX_WORKERS workers ≡ w
        → option_and_then (λ s. option_and_then (λ n. option_and_then (λ w. if_valid (audit_generated s n w)) w) n) s ≡ Some c → IsCommand (codes "audit-generated" ∷ start ∷ count ∷ workers ∷ []) c
    by None n w is_s is_n is_w h = absurd (true≢false cc)
    by (Some s) None w is_s is_n is_w h = absurd (true≢false cc)
    by (Some s) (Some n) None is_s is_n is_w h = absurd (true≢false cc)
    by (Some s) (Some n) (Some w) is_s is_n is_w h =
        let v = valid_is (audit_generated s n w) c h in
        let read_s = number-decimal (2 ^ 64 - 1) s start (omega arith) is_s in
        let read_n = number-decimal most_generated n count (omega arith) is_n in
        let read_w = number-decimal MAX_WORKERS w workers (omega arith) is_w in
        (ap₂ (λ a b. codes "audit-generated" ∷ a ∷ b ∷ workers ∷ []) read_s.0 read_n.0 ∙ ap (λ x. codes "audit-generated" ∷ decimal s ∷ decimal n ∷ x ∷ []) read_w.0 ∙ ap arguments_of v.0, v.1)
audit_generated_written (start ∷ count ∷ workers ∷ more ∷ args) c h = absurd (true≢false cc)

-- what a reader takes is written with its name
abbrev Reads : CommandView → Reader → Type 0
Reads c r = (args : List (List ℕ)) → r.read args ≡ Some c → IsCommand (r.name ∷ args) c

all_read : (c : CommandView) → AllByRecursion (Reads c) readers
all_read c = (
  λ args h. replay_written args c h,
  (
    λ args h. explain_written args c h,
    (
      λ args h. search_written (λ args. codes "audit" ∷ args) audit is_audit args c h,
      (
        λ args h. search_written (λ args. codes "audit-json" ∷ args) audit_json is_audit_json args c h,
        (
          λ args h. rows_written args c h,
          (
            λ args h. audit_to_written args c h,
            (
              λ args h. check_written args c h,
              (
                λ args h. upgrade_written args c h,
                (
                  λ args h. search_written (λ args. codes "settled" ∷ args) settled is_settled args c h,
                  (
                    λ args h. search_written (λ args. codes "parse" ∷ args) parse is_parse args c h,
                    (
                      λ args h. try_written args c h,
                      (
                        λ args h. generate_written args c h,
                        (λ args h. audit_generated_written args c h, tt),
                      ),
                    ),
                  ),
                ),
              ),
            ),
          ),
        ),
      ),
    ),
  ),
)

by_reader : (c : CommandView) (rs : List Reader) (name : List ℕ) (args : List (List ℕ)) → AllByRecursion (Reads c) rs → read_by rs name args ≡ Some c → IsCommand (name ∷ args) c
by_reader c [] name args all h = absurd (true≢false cc)
by_reader c (r ∷ rs) name args all h = by (bytes_eq name r.name) refl h (by_reader c rs name args all.1)
  where
    by : (b : Bool) → bytes_eq name r.name ≡ b → cond b (r.read args) (read_by rs name args) ≡ Some c → (read_by rs name args ≡ Some c → IsCommand (name ∷ args) c) → IsCommand (name ∷ args) c
    by true test h later = subst (λ n. IsCommand (n ∷ args) c) (sym ((bytes_eq-Decides name r.name).0 test)) (all.0 args h)
    by false test h later = later h

pub command-written : (args : List (List ℕ)) (c : CommandView) → command_of args ≡ Some c → IsCommand args c
command-written [] c h = absurd (true≢false cc)
command-written (name ∷ args) c h = by_reader c readers name args (all_read c) h

-- ---- and what is written so is taken

if_valid-is : (c : CommandView) → is_valid c ≡ true → if_valid c ≡ Some c
if_valid-is c valid = rw valid refl

-- the numbers of a valid command
start_few : (start count : ℕ) → are_numbers start count ≡ true → start < 2 ^ 64
start_few start count valid = grind (arith, nat_tests)

count_few : (start count : ℕ) → are_numbers start count ≡ true → count ≤ most_generated
count_few start count valid = grind (arith, nat_tests)

workers_few : (workers : ℕ) → are_workers workers ≡ true → workers ≤ MAX_WORKERS
workers_few workers valid = grind (arith, nat_tests)

trial_workers_few : (workers : ℕ) → are_trial_workers workers ≡ true → workers ≤ MAX_TRIERS
trial_workers_few workers valid = grind (arith, nat_tests)

searchers_are : (workers : ℕ) (dicts : List (List ℕ)) → are_workers workers && are_files dicts ≡ true → searchers_of (decimal workers ∷ dicts) ≡ Some (workers, dicts)
searchers_are workers dicts valid =
    let few = workers_few workers (and_parts (are_workers workers) (are_files dicts) valid).0 in
    ap (option_and_then (λ n. cond {A = Option (ℕ × List (List ℕ))} (are_workers n && are_files dicts) (Some (n, dicts)) None)) (decimal-number MAX_WORKERS workers few (omega arith))
    ∙ ap (λ b. cond {A = Option (ℕ × List (List ℕ))} b (Some (workers, dicts)) None) valid

-- what is behind the dashes
drop_seam : (outlines dicts : List (List ℕ)) → drop (length outlines + 1) (outlines ++ (dashes ∷ dicts)) ≡ dicts
drop_seam outlines dicts = drop-append-add outlines (dashes ∷ dicts) 1

-- readable outlines are no dashes
not_dashes : (outline : List ℕ) → is_spelt outline ≡ true → is_dashes outline ≡ false
not_dashes outline spelt = by (is_dashes outline) refl
  where
    by : (b : Bool) → is_dashes outline ≡ b → b ≡ false
    by false test = refl
    by true test =
        let e : outline ≡ dashes = (bytes_eq-Decides outline dashes).0 test in
        let none : is_spelt dashes ≡ true = subst (λ o. is_spelt o ≡ true) e spelt in
        absurd (true≢false (sym none))

-- each of some readable outlines is readable
pub readable_at : (outlines : List (List ℕ)) (k : ℕ) → list_all is_spelt outlines ≡ true → k < length outlines → is_spelt (get_or outlines k []) ≡ true
readable_at outlines k spelt below = by (is_spelt (get_or outlines k [])) refl
  where
    by : (b : Bool) → is_spelt (get_or outlines k []) ≡ b → b ≡ true
    by true test = refl
    by false test = absurd (true≢false (sym spelt ∙ list_all_at is_spelt outlines k [] below test))

-- the first dashes are behind them
dashes_after : (outlines dicts : List (List ℕ)) → list_all is_spelt outlines ≡ true → position_or_len is_dashes (outlines ++ (dashes ∷ dicts)) ≡ length outlines
dashes_after outlines dicts spelt =
    let args = outlines ++ (dashes ∷ dicts) in
    let count = length-append outlines (dashes ∷ dicts) in
    position_or_len_is is_dashes args (length outlines) [] (omega (arith, count))
    (λ k below. ap is_dashes (get_or-append outlines (dashes ∷ dicts) [] k below) ∙ not_dashes (get_or outlines k []) (readable_at outlines k spelt below))
    (λ within. ap is_dashes (get_or-append_seam outlines dashes dicts []))

explain_is : (outlines dicts : List (List ℕ)) → is_valid (explain outlines dicts) ≡ true → explain_of (outlines ++ (dashes ∷ dicts)) ≡ Some (explain outlines dicts)
explain_is outlines dicts valid =
    let spelt = (and_parts (are_spelt outlines) (are_files dicts) valid).0 in
    let readable = (and_parts (nat_lt 0 (length outlines)) (list_all is_spelt outlines) (and_parts (nat_lt 0 (length outlines) && list_all is_spelt outlines) (nat_lt (strokes_written outlines) (2 ^ 32)) spelt).0).1 in
    let args = outlines ++ (dashes ∷ dicts) in
    let first : position_or_len is_dashes args ≡ length outlines = dashes_after outlines dicts readable in
    let within : position_or_len is_dashes args < length args = omega (arith, first, length-append outlines (dashes ∷ dicts)) in
    let place : position is_dashes args ≡ Some (length outlines) = rw (first) (ap (λ b. cond b (Some (length outlines)) None) ((Decides-ltb (length outlines) (length args)).1 (subst (λ n. n < length args) first within))) in
    ap (option_and_then (λ place. if_valid (explain (take place args) (drop (place + 1) args)))) place
    ∙ ap₂ (λ a b. if_valid (explain a b)) (take-append_seam outlines (dashes ∷ dicts)) (drop_seam outlines dicts)
    ∙ if_valid-is (explain outlines dicts) valid

command_is : (c : CommandView) → is_valid c ≡ true → command_of (arguments_of c) ≡ Some c
command_is (replay outline dicts) valid = if_valid-is (replay outline dicts) valid
command_is (explain outlines dicts) valid = explain_is outlines dicts valid
command_is (audit workers dicts) valid = ap (option_map (λ found. audit found.0 found.1)) (searchers_are workers dicts valid)
command_is (audit_json workers dicts) valid = ap (option_map (λ found. audit_json found.0 found.1)) (searchers_are workers dicts valid)
command_is (rows file) valid = refl
command_is (audit_to certificate workers dicts) valid = ap (option_map (λ found. audit_to certificate found.0 found.1)) (searchers_are workers dicts valid)
command_is (check certificate dicts) valid = if_valid-is (check certificate dicts) valid
command_is (upgrade certificate target) valid = refl
command_is (settled workers dicts) valid = ap (option_map (λ found. settled found.0 found.1)) (searchers_are workers dicts valid)
command_is (parse workers dicts) valid = ap (option_map (λ found. parse found.0 found.1)) (searchers_are workers dicts valid)
command_is (try_briefs workers briefs dicts) valid =
    let few = trial_workers_few workers (and_parts (are_trial_workers workers) (are_briefs briefs && are_files dicts) valid).0 in
    ap (option_and_then (λ n. if_valid (try_briefs n briefs dicts))) (decimal-number MAX_TRIERS workers few (omega arith))
    ∙ if_valid-is (try_briefs workers briefs dicts) valid
command_is (generate start count) valid =
    let few_s = start_few start count valid in
    let few_n = count_few start count valid in
    ap₂ (λ s n. option_and_then (λ s. option_and_then (λ n. if_valid (generate s n)) n) s) (decimal-number (2 ^ 64 - 1) start (omega arith) (omega arith)) (decimal-number most_generated count few_n (omega arith))
    ∙ if_valid-is (generate start count) valid
command_is (audit_generated start count workers) valid =
    let parts = and_parts (are_numbers start count) (are_workers workers) valid in
    let few_s = start_few start count parts.0 in
    let few_n = count_few start count parts.0 in
    let few_w = workers_few workers parts.1 in
    ap₂ (λ s n. option_and_then (λ s. option_and_then (λ n. option_and_then (λ w. if_valid (audit_generated s n w)) (decimal_value MAX_WORKERS (decimal workers))) n) s)
    (decimal-number (2 ^ 64 - 1) start (omega arith) (omega arith)) (decimal-number most_generated count few_n (omega arith))
    ∙ ap (option_and_then (λ w. if_valid (audit_generated start count w))) (decimal-number MAX_WORKERS workers few_w (omega arith))
    ∙ if_valid-is (audit_generated start count workers) valid

pub written-command : (args : List (List ℕ)) (c : CommandView) → IsCommand args c → command_of args ≡ Some c
written-command args c is = ap command_of is.0 ∙ command_is c is.1
