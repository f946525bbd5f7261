-- Which answers are a fault of the files.
--     cert_fault_of fault       what a fault of the files makes of a line
--     is_cert_failed result     the answer is a fault of the files
--     IsOutside fault           a fault of the files, or memory ran out
use Rattle.std.specs.Prelude.{Bool, true, false, Result, Ok, Err, ⊤}
use Rattle.outside.specs.declared.fault.OutsideFault.{OutsideFault}
use Rattle.outside.specs.declared.fault.OutsideFault.TheVariants as outside
use Rattle.certificate.specs.declared.faults.CertFault.{CertFault}
use Rattle.certificate.specs.declared.faults.CertFault.TheVariants as of

-- why a line isn't read or written, by why a call of the files was refused
abbrev pub cert_fault_of : OutsideFault → CertFault
cert_fault_of outside.Failed = of.Failed
cert_fault_of outside.Memory = of.Memory

-- the answer is a fault of the files
abbrev pub is_cert_failed : {T : Type 0} → Result T CertFault → Bool
is_cert_failed (Ok x) = false
is_cert_failed (Err of.Failed) = true
is_cert_failed (Err of.Memory) = false
is_cert_failed (Err of.TooLong) = false
is_cert_failed (Err (of.Bad line)) = false

-- a fault of the files, or memory ran out: nothing that a line is refused for
abbrev pub IsOutside : CertFault → Type 0
IsOutside of.Failed = ⊤
IsOutside of.Memory = ⊤
IsOutside of.TooLong = ⊥
IsOutside (of.Bad line) = ⊥
