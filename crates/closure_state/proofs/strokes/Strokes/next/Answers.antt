use Rattle.std.proofs.Common.{◌+◌, ◌≤◌, ap, refl, rules}
use Rattle.closure_state.proofs.LeftLemmas.{strokes_found, strokes_done}
use Rattle.closure_state.proofs.strokes.Strokes.next.Goals as goal

pub returns-in-Some : goal.returns-in-Some
returns-in-Some c = λ words are.
    let fits : c.from.result + 1 ≤ 4294967296 = search (rules, c.next.type_inv) in
    strokes_found c.args.trie.now words c.args.state c.args.self.now _ c.next.result c.in-Some.step c.in-Some.is c.next.ensures.kind (ap (λ n. n + 1) c.from.ensures) fits (c.next.ensures.step words are.rows_are)

pub returns-in-None : goal.returns-in-None
returns-in-None c = λ words are. strokes_done c.args.trie.now words c.args.state c.args.self.now _ c.next.result c.in-None.is c.next.ensures.kind refl are (c.next.ensures.step words are.rows_are)
