-- What each refusal of reading says.
--     IsDictCause outcome fault    the fault is the outcome; memory may run out at any place
use Rattle.std.specs.Prelude.{◌≡◌}
use Rattle.dict_json.specs.Outcomes.{Outcome, not_json, not_object, not_text, too_long}
use Rattle.dict_json.specs.declared.faults.DictFault.{DictFault}
use Rattle.dict_json.specs.declared.faults.DictFault.TheVariants as fault

-- by cases on the fault
abbrev pub IsDictCause : Outcome → DictFault → Type 0
IsDictCause outcome fault.NotJson = outcome ≡ not_json
IsDictCause outcome fault.NotObject = outcome ≡ not_object
IsDictCause outcome (fault.NotText key) = outcome ≡ not_text key
IsDictCause outcome (fault.TooLong key parts) = outcome ≡ too_long key parts
IsDictCause outcome fault.Memory = Unit {0}
