use Rattle.conflict_example.proofs.Noted.{row_of_hit, walk_of_hit}
use Rattle.conflict_example.proofs.rows.row.Goals as goal

pub example-requires : goal.example-requires
example-requires c =
    walk_of_hit c.args.numbering.now c.args.words.now c.args.entry c.args.place c.args.hit c.requires.closure c.requires.hit

pub returns-clause-found : goal.returns-clause-found
returns-clause-found c =
    let v = c.args.numbering.now in
    rw c.new.ensures
    (row_of_hit v c.args.words.now c.args.entry c.args.place c.args.hit c.in_ok-made.made.items c.requires.closure c.requires.hit c.requires.entry c.in_ok-made.ensures)
