use Rattle.outside.proofs.Lists.{drop-moved}
use Rattle.outside.proofs.memory.held_files.HeldFiles.take.Goals as goal

pub returns-clause-moved : goal.returns-clause-moved
returns-clause-moved c =
    drop-moved c.args.self.now.rest.items c.args.self.now.at c.copy_front-count.result _ _ (rw c.deref.ensures.value at c.rest_from-rest.ensures) c.copy_front-count.ensures.moved
