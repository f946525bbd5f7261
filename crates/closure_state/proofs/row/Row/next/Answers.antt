use Rattle.std.proofs.Common.{subst, sym}
use Rattle.match_window.specs.inside.Rows.{IsNodeOf}
use Rattle.closure_state.specs.inside.Chains.{AreChildrenFrom}
use Rattle.std.proofs.lemmas.List.{nil_from_length}
use Rattle.closure_state.proofs.RowLemmas.{row_done, row_first, child_inside}
use Rattle.closure_state.proofs.row.Row.next.Goals as goal

pub returns-in_default : goal.returns-in_default
returns-in_default c = record { step = λ x bound r. (λ code from. row_done c.args.trie.now c.args.opened bound code c.args.self.now.row.now r.children (nil_from_length c.args.self.now.row.now c.in_default.ensures.cases) from, r) }

pub window_by-requires-clause-child : goal.window_by-requires-clause-child
window_by-requires-clause-child c =
    let r = c.requires.row in
    let first = row_first c.args.trie.now c.args.opened r.1 c.in-Some.field-0-0.now c.in-Some.rest.now (subst (AreChildrenFrom c.args.trie.now c.args.opened r.1) c.in-Some.ensures.cases.0 r.2.children) in
    child_inside c.args.trie.now c.args.opened c.in-Some.field-0-0.now.0 c.in-Some.field-0-0.now.1 first.child

pub returns : goal.returns
returns c = record {
  step = λ x bound r.
      let first = row_first c.args.trie.now c.args.opened bound c.in-Some.field-0-0.now c.in-Some.rest.now (subst (AreChildrenFrom c.args.trie.now c.args.opened bound) c.in-Some.ensures.cases.0 r.children) in (
        record {
          from = first.from;
          word = sym first.child;
          window = subst (λ w. IsNodeOf c.args.trie.now w c.window_by.result) (sym (r.same c.in-Some.field-0-0.now.0)) (c.window_by.ensures c.in-Some.field-0-0.now.0 first.child);
        },
        first.before,
        record { children = first.left; inside = r.inside; same = r.same },
      );
}
