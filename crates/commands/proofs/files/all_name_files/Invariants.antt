use Rattle.std.proofs.Common.{◌≡◌, map, not, string_bytes, take, true}
use Rattle.std.specs.List.{list_all}
use Rattle.std.specs.Str.{bytes_eq}
use Rattle.dict_files.specs.DictFiles.{match_prefix}
use Rattle.commands.proofs.files.all_name_files.Given as goal

-- each of the arguments so far
abbrev pub invariant-loop-arg : goal.invariant-loop-arg
invariant-loop-arg l = list_all (λ arg. not (bytes_eq arg match_prefix)) (take l.arg-index (map string_bytes l.args)) ≡ true
