use Rattle.std.proofs.Common.{◌∙◌}
use Rattle.state_numbering.proofs.DecodeLemmas.{suffix_whole}
use Rattle.state_numbering.proofs.numbering.Numbering.end_of.Goals as goal

pub returns-then-len-depth : goal.returns-then-len-depth
returns-then-len-depth c = suffix_whole c.args.self.now.entries c.args.node c.args.len c.requires.node (c.if-len-depth.true ∙ c.requires.depth)
