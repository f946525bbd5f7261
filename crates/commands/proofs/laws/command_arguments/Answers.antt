use Rattle.commands.proofs.CommandLaw.{command-written, written-command}
use Rattle.commands.proofs.laws.command_arguments.Goals as goal

pub returns : goal.returns
returns c = λ args command. (command-written args command, written-command args command)
