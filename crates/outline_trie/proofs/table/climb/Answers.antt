use Rattle.std.proofs.Common.{◌-◌, ap, sym, ◌∙◌, length, get_or, add-one}
use Rattle.outline_trie.specs.inside.Tables.{ancestor}
use Rattle.outline_trie.proofs.TableLemmas.{up_more}
use Rattle.outline_trie.proofs.table.climb.Goals as goal

pub loop-preserved : goal.loop-preserved
loop-preserved c = record {
  inside = c.requires.below c.loop.node 0 c.loop.invariant.inside;
  is =
      ap (λ n. get_or c.args.parents.now n 0) c.loop.invariant.is ∙ sym (up_more c.args.parents.now (length c.args.parents.now - 1) c.loop.counter)
      ∙ ap (ancestor c.args.parents.now (length c.args.parents.now - 1)) (sym (add-one c.loop.counter));
}
