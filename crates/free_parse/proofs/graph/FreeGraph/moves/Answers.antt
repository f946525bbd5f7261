use Rattle.std.proofs.Common.{◌++◌, ap, sym, subst, ◌∙◌, length, arith}
use Rattle.reading_laws.specs.ForkNumbers.{fork_count}
use Rattle.free_parse.specs.Cursors.{AreForkNumbers, numbers_to}
use Rattle.free_parse.proofs.MoveLemmas.{few_targets, numbers_of_row, row_owned}
use Rattle.free_parse.proofs.graph.FreeGraph.moves.Goals as goal

pub returns-clause-left : goal.returns-clause-left
returns-clause-left c =
    let g = c.args.self.now in
    ap (λ w. w ++ numbers_to g c.args.fork.shorter c.children.result.now) c.none.ensures
    ∙ numbers_of_row g c.args.fork.longer c.args.fork.shorter c.children.result.now c.children.ensures.words c.children.ensures.children c.requires.opens

pub returns-clause-few : goal.returns-clause-few
returns-clause-few c =
    let g = c.args.self.now in
    omega (
      arith,
      ap (λ w. length (w ++ numbers_to g c.args.fork.shorter c.children.result.now)) c.none.ensures,
      few_targets g c.args.fork.longer c.args.fork.shorter c.children.result.now c.children.ensures.children,
      c.children.ensures.few,
    )

pub returns-clause-mine : goal.returns-clause-mine
returns-clause-mine c = record {
  children = row_owned c.args.self.now.entries c.args.fork.longer c.args.fork.shorter c.children.result.now c.requires.nodes.shorter (λ code child. (c.children.ensures.children.each code child).0);
  below = subst (AreForkNumbers (fork_count c.args.self.now.entries)) (sym c.none.ensures) tt;
}
