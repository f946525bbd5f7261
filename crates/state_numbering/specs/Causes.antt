-- When states aren't numbered.
--     most_states                  the most numbers that a numbering has
--     IsNumberCause count fault    the fault's cause, where so many numbers were needed
use Rattle.std.specs.Prelude.{ℕ, ◌≡◌, ◌<◌, ◌≤◌}
use Rattle.state_numbering.specs.declared.count.TheConstants.{MAX_STATES}
use Rattle.state_numbering.specs.declared.fault.NumberFault.{NumberFault}
use Rattle.state_numbering.specs.declared.fault.NumberFault.TheVariants.{TooManyStates, Memory}

abbrev pub most_states : ℕ
most_states = MAX_STATES

-- too many numbers were counted, and the fault says how many, or the count is within the limit and memory ran out
abbrev pub IsNumberCause : ℕ → NumberFault → Type 0
IsNumberCause count (TooManyStates told) = (most_states < count) × (told ≡ count)
IsNumberCause count Memory = count ≤ most_states
