-- Which calls of an object in memory fail.
use Rattle.std.specs.Prelude.{ℕ, List, [], ◌≡◌, Bool, true, false, nat_eq, Result, Ok, Err, ⊤}
use Rattle.std.specs.List.{list_any}
use Rattle.outside.specs.Places.{raised}
use Rattle.outside.specs.declared.fault.OutsideFault.{OutsideFault}
use Rattle.outside.specs.declared.fault.OutsideFault.TheVariants.{Failed, Memory}

pub record ScriptView : Type 0 where
  -- how many calls there were, and so the next one's number
  pub calls : ℕ
  -- the numbers of the calls that fail
  pub failing : List ℕ

-- no calls so far, and none that fails
abbrev pub no_script : ScriptView
no_script = record { calls = 0; failing = [] }

-- one call later
abbrev pub counted : ScriptView → ScriptView
counted s = record s { calls = raised s.calls }

-- the next call is one of those that fail
abbrev pub is_listed : ScriptView → Bool
is_listed s = list_any (λ call. nat_eq call s.calls) s.failing

-- a call succeeds only where no fault is due, and fails only where one is; memory may be wanted in each case
abbrev pub AsDue : {T : Type 0} → Bool → Result T OutsideFault → Type 0
AsDue due (Ok x) = due ≡ false
AsDue due (Err Failed) = due ≡ true
AsDue due (Err Memory) = ⊤
