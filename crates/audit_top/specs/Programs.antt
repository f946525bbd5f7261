-- What the program does between the arguments that the system gives it and its exit status.
--     IsProgram given before after code    given these arguments, or an error in their place, it ends with this code
use Rattle.std.specs.Prelude.{ℕ, ◌≡◌, ◌⊎◌, ◌<◌, ◌^◌, List, All, None, Result, Ok, Err, String, drop, map, string_bytes, string_len}
use Rattle.std.specs.declared.alloc.Global.{Global}
use Rattle.std.specs.Vec.Iter.{into_iter_items}
use Rattle.std.specs.IoError.{error_kind}
use Rattle.std.specs.declared.io.Error.{Error}
use Rattle.std.specs.declared.io.ErrorKind.{ErrorKind}
use Rattle.std.specs.declared.io.ErrorKind.TheVariants.{OutOfMemory}
use Rattle.std.specs.declared.vec.IntoIter.{IntoIter}
use Rattle.commands.specs.Reading.{command_of}
use Rattle.audit_top.specs.Runs.{IsRun, World}
use Rattle.audit_top.specs.Statuses.{exit_code}
use Rattle.audit_top.specs.declared.status.Status.{Status}
use Rattle.audit_top.specs.declared.status.Status.TheVariants.{Memory, Output}

-- these arguments are run; one of 2^32 bytes or more is in no command
pub record RunsGiven (args : List (String Global)) (before after : World) (status : Status)
    : Type 0 where
  pub short : All (λ arg. string_len arg < 2 ^ 32) args
      → IsRun (command_of (map string_bytes args)) before after status
  pub long : (All (λ arg. string_len arg < 2 ^ 32) args → ⊥) → IsRun None before after status

-- an error in the arguments' place is no command; where memory ran out, the program says so
pub record RunsNone (kind : ErrorKind) (before after : World) (status : Status) : Type 0 where
  pub none : IsRun None before after status
  pub memory : kind ≡ OutOfMemory → (status ≡ Output) ⊎ (status ≡ Memory)

-- what the system gives
abbrev pub Given : Type 0
Given = Result (IntoIter (String Global) Global) Error

-- the first argument is the program's name
abbrev pub Runs : Given → World → World → Status → Type 0
Runs (Ok given) before after status =
    RunsGiven (drop 1 (into_iter_items given)) before after status
Runs (Err error) before after status = RunsNone (error_kind error) before after status

pub record IsProgram (given : Given) (before after : World) (code : ℕ) : Type 0 where
  pub status : Status
  pub runs : Runs given before after status
  pub ends : code ≡ exit_code status
