use Rattle.std.proofs.Common.{◌≡◌, length}
use Rattle.dict_json.specs.inside.Texts.{text_tokens}
use Rattle.dict_json.proofs.members.take_members.Given as goal

-- the members so far
abbrev pub invariant-members : goal.invariant-members
invariant-members l = l.initial.reader ≡ text_tokens l.members.items l.reader

abbrev pub decreases-members : goal.decreases-members
decreases-members l = length l.reader
