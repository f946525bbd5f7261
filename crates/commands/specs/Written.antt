-- What is known of a command that arguments were read as.
use Rattle.std.specs.Prelude.{ℕ, ◌≡◌, ◌<◌, ◌^◌, List, true, length, ⊤, All}
use Rattle.commands.specs.Commands.{CommandView, replay, explain, audit, audit_json, rows, audit_to, check, upgrade, settled, parse, try_briefs, generate, audit_generated, is_valid}

-- a fact of each text of outlines that a command has
abbrev pub ForOutlines : CommandView → (List ℕ → Type 0) → Type 0
ForOutlines (replay outline dicts) P = P outline
ForOutlines (explain outlines dicts) P = All P outlines
ForOutlines (audit workers dicts) P = ⊤
ForOutlines (audit_json workers dicts) P = ⊤
ForOutlines (rows file) P = ⊤
ForOutlines (audit_to certificate workers dicts) P = ⊤
ForOutlines (check certificate dicts) P = ⊤
ForOutlines (upgrade certificate target) P = ⊤
ForOutlines (settled workers dicts) P = ⊤
ForOutlines (parse workers dicts) P = ⊤
ForOutlines (try_briefs workers briefs dicts) P = P briefs
ForOutlines (generate start count) P = ⊤
ForOutlines (audit_generated start count workers) P = ⊤

-- it is valid, and its texts of outlines are short enough to be read
pub record IsWritten (command : CommandView) : Type 0 where
  pub valid : is_valid command ≡ true
  pub short : ForOutlines command (λ text. length text < 2 ^ 32)
