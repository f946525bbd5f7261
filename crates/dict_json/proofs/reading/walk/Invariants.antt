use Rattle.serde_json.specs.View.{members_view}
use Rattle.dict_json.specs.Reading.{members_of}
use Rattle.dict_json.proofs.MemberLemmas.{IsWalking}
use Rattle.dict_json.proofs.reading.walk.Given as goal

abbrev pub invariant-loop-key : goal.invariant-loop-key
invariant-loop-key l = IsWalking (members_of (members_view l.fn.map.entries)) (members_of (members_view l.key-iterator)) l.keys
