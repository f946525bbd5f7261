use Rattle.std.proofs.Common.{◌≡◌, take}
use Rattle.dict_json.specs.inside.Walks.{walked}
use Rattle.dict_json.proofs.reading.walk_members.Given as goal

-- the keys so far
abbrev pub invariant-loop-member : goal.invariant-loop-member
invariant-loop-member l = l.keys ≡ walked (take l.member-index l.members)
