use Rattle.std.proofs.Common.{◌≡◌, ◌∷◌, [], ◌++◌, length, ap, ◌∙◌, arith}
use Rattle.outline_trie.proofs.RowLemmas.{taken_more}
use Rattle.outline_trie.proofs.room.Room.push_row.Goals as goal

pub returns-clause-more : goal.returns-clause-more
returns-clause-more c =
    let indexes : c.push_reserved-2.new.self.items ≡ c.args.self.now.indexes.items ++ length c.args.self.now.blocks.items ∷ [] =
    c.push_reserved-2.ensures.items ∙ ap (λ n. c.args.self.now.indexes.items ++ n ∷ []) (omega (arith, c.len.ensures, c.args.self.now.blocks.ok.0)) in
    rw (c.push_reserved-3.ensures.items, indexes) (
    taken_more c.args.self.now.pool c.take.new.self c.args.self.now.blocks.items c.args.self.now.indexes.items c.in-Ok.block c.args.len c.requires.rows c.requires.few
    c.in-Ok.ensures.taken c.in-Ok.ensures.len c.in-Ok.ensures.fresh c.take.ensures.others
    )
