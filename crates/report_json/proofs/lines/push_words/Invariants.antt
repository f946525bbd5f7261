use Rattle.std.proofs.Common.{◌≡◌, ◌++◌, map, take}
use Rattle.text_rules.specs.Lines.{barred}
use Rattle.steno_order.specs.Canonical.{canonical_text}
use Rattle.report_json.proofs.lines.push_words.Given as goal

-- the words so far
abbrev pub invariant-loop-place : goal.invariant-loop-place
invariant-loop-place l = l.page.items ≡ l.initial.page.items ++ barred (map canonical_text (take l.place l.words))
