-- What is known of a command that arguments were read as.
use Rattle.std.proofs.Common.{ℕ, zero, suc, ◌≡◌, ◌<◌, ◌^◌, ◌++◌, IfSome, option_map, sym, List, [], ◌∷◌, length, All, subst, arith, Option, Some, None, map, String, string_bytes, string_len, Global}
use Rattle.commands.specs.Commands.{CommandView, arguments_of, command_view, dashes, replay, explain, audit, audit_json, rows, audit_to, check, upgrade, settled, parse, try_briefs, generate, audit_generated}
use Rattle.commands.specs.Reading.{command_of}
use Rattle.commands.specs.Written.{ForOutlines, IsWritten}
use Rattle.commands.specs.declared.command.Command.{Command}
use Rattle.commands.proofs.CommandLaw.{command-written}

all_rest : (P : List ℕ → Type 0) (x : List ℕ) (xs : List (List ℕ)) → All P (x ∷ xs) → All P xs
all_rest P x xs all k d below = all (suc k) d (omega (arith, below))

all_before : (P : List ℕ → Type 0) (xs ys : List (List ℕ)) → All P (xs ++ ys) → All P xs
all_before P [] ys all k d below = absurd (omega (arith, below))
all_before P (x ∷ xs) ys all zero d below = all 0 d (omega arith)
all_before P (x ∷ xs) ys all (suc k) d below = all_before P xs ys (all_rest P x (xs ++ ys) all) k d (omega (arith, below))

-- outlines are among the arguments
outlines_short : (c : CommandView) → All (λ arg. length arg < 2 ^ 32) (arguments_of c) → ForOutlines c (λ outline. length outline < 2 ^ 32)
outlines_short (replay outline dicts) short = short 1 [] (omega arith)
outlines_short (explain outlines dicts) short =
    all_before (λ arg. length arg < 2 ^ 32) outlines (dashes ∷ dicts) (all_rest (λ arg. length arg < 2 ^ 32) _ (outlines ++ (dashes ∷ dicts)) short)
outlines_short (audit workers dicts) short = tt
outlines_short (audit_json workers dicts) short = tt
outlines_short (rows file) short = tt
outlines_short (audit_to certificate workers dicts) short = tt
outlines_short (check certificate dicts) short = tt
outlines_short (upgrade certificate target) short = tt
outlines_short (settled workers dicts) short = tt
outlines_short (parse workers dicts) short = tt
outlines_short (try_briefs workers briefs dicts) short = short 2 [] (omega arith)
outlines_short (generate start count) short = tt
outlines_short (audit_generated start count workers) short = tt

-- the arguments of the program, as lists of bytes
args_short : (args : List (String Global)) → All (λ arg. string_len arg < 2 ^ 32) args → All (λ arg. length arg < 2 ^ 32) (map string_bytes args)
args_short [] short k d below = absurd (omega (arith, below))
args_short (a ∷ args) short zero d below = omega (arith, short 0 a (omega arith), (a.bytes.ok).0)
args_short (a ∷ args) short (suc k) d below = args_short args (λ j e b. short (suc j) e (omega (arith, b))) k d (omega (arith, below))

pub read-written : (args : List (String Global)) (read : Option Command) → All (λ arg. string_len arg < 2 ^ 32) args → option_map command_view read ≡ command_of (map string_bytes args)
    → IfSome read (λ c. IsWritten (command_view c))
read-written args None short is = tt
read-written args (Some command) short is =
    let written = command-written (map string_bytes args) (command_view command) (sym is) in
    record { valid = written.1; short = outlines_short (command_view command) (subst (All (λ arg. length arg < 2 ^ 32)) written.0 (args_short args short)) }
