use Rattle.commands.proofs.Written.{read-written}
use Rattle.commands.proofs.words.read_words.Goals as goal

pub returns-clause-written : goal.returns-clause-written
returns-clause-written c = read-written c.args.args.now c.read_args.result c.requires c.read_args.ensures
