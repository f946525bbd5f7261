-- When a stack is refused.
use Rattle.std.specs.Prelude.{ℕ, ◌≡◌, ◌<◌, List, length, ⊤}
use Rattle.dict_stack.specs.Stacks.{most_entries}
use Rattle.dict_stack.specs.declared.faults.StackFault.{StackFault}
use Rattle.dict_stack.specs.declared.faults.StackFault.TheVariants.{TooManyEntries, Memory}

-- these outlines are more than a stack has, and the fault says how many; memory may run out at any time
abbrev pub IsStackCause : List (List ℕ) → StackFault → Type 0
IsStackCause outlines (TooManyEntries count) = (most_entries < length outlines) × (count ≡ length outlines)
IsStackCause outlines Memory = ⊤
