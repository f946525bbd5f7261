-- How a refusal of a call below becomes a `LoadFault`.
use Rattle.std.specs.Prelude.{ℕ}
use Rattle.outside.specs.declared.fault.ReadFault.{ReadFault}
use Rattle.outside.specs.declared.fault.ReadFault.TheVariants as read
use Rattle.dict_json.specs.declared.faults.DictFault.{DictFault}
use Rattle.dict_json.specs.declared.faults.DictFault.TheVariants as why
use Rattle.dict_stack.specs.declared.faults.StackFault.{StackFault}
use Rattle.dict_stack.specs.declared.faults.StackFault.TheVariants as stack
use Rattle.dict_files.specs.declared.faults.LoadFault.{LoadFault}
use Rattle.dict_files.specs.declared.faults.LoadFault.TheVariants as of

abbrev pub load_by_stack : StackFault → LoadFault
load_by_stack (stack.TooManyEntries count) = of.Entries count
load_by_stack stack.Memory = of.Memory

abbrev pub load_by_read : ℕ → ReadFault → LoadFault
load_by_read file read.Failed = of.Failed file
load_by_read file read.TooLong = of.TooLong file
load_by_read file read.Memory = of.Memory

abbrev pub load_by_dictionary : ℕ → DictFault → LoadFault
load_by_dictionary file why.Memory = of.Memory
load_by_dictionary file why.NotJson = of.Refused file why.NotJson
load_by_dictionary file why.NotObject = of.Refused file why.NotObject
load_by_dictionary file (why.NotText key) = of.Refused file (why.NotText key)
load_by_dictionary file (why.TooLong key parts) = of.Refused file (why.TooLong key parts)
