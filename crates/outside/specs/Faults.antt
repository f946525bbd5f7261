-- Counts of faults, and which answers tell of one.
use Rattle.std.specs.Prelude.{ℕ, ◌+◌, ◌-◌, ◌^◌, ◌≤◌, ◌≡◌, min, Bool, true, false, Result, Ok, Err}
use Rattle.outside.specs.declared.fault.OutsideFault.{OutsideFault}
use Rattle.outside.specs.declared.fault.OutsideFault.TheVariants.{Failed, Memory}
use Rattle.outside.specs.declared.fault.ReadFault.{ReadFault}
use Rattle.outside.specs.declared.fault.ReadFault.TheVariants as read

-- the count is greater now, or stands at its last value
abbrev pub Rose : ℕ → ℕ → Type 0
Rose before now = min (before + 1) (2 ^ 64 - 1) ≤ now

-- a call that doesn't answer with a fault leaves the count
abbrev pub Steady : Bool → ℕ → ℕ → Type 0
Steady failed before now = failed ≡ false → now ≡ before

-- the answer tells of a fault
abbrev pub is_failed : {T : Type 0} → Result T OutsideFault → Bool
is_failed (Ok x) = false
is_failed (Err Failed) = true
is_failed (Err Memory) = false

-- the answer tells of want of memory
abbrev pub is_memory : {T : Type 0} → Result T OutsideFault → Bool
is_memory (Ok x) = false
is_memory (Err Failed) = false
is_memory (Err Memory) = true

-- the answer of reading a whole file tells of a fault
abbrev pub is_read_failed : {T : Type 0} → Result T ReadFault → Bool
is_read_failed (Ok x) = false
is_read_failed (Err read.Failed) = true
is_read_failed (Err read.TooLong) = false
is_read_failed (Err read.Memory) = false

-- why a file wasn't read, by why one of its calls was refused
abbrev pub read_fault_of : OutsideFault → ReadFault
read_fault_of Failed = read.Failed
read_fault_of Memory = read.Memory
