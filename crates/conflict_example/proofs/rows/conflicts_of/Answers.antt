use Rattle.std.proofs.Common.{◌+◌, arith, subst, sym, refl, List}
use Rattle.longest_match.specs.Rows.{Row}
use Rattle.conflict_example.specs.inside.FoundRows.{AreRowsBetween}
use Rattle.conflict_example.proofs.AtStack.{chosen_of, closure_of, one_of, small_of}
use Rattle.conflict_example.proofs.RowSteps.{rows_none}
use Rattle.conflict_example.proofs.rows.conflicts_of.Goals as goal

pub first_hits-requires-clause-closure : goal.first_hits-requires-clause-closure
first_hits-requires-clause-closure c =
    closure_of c.args.numbering.now c.args.words.now c.count-count.ensures.words
    (omega (arith, c.count-count.ensures.count, c.count-count.ensures.most)) c.requires.settled

pub push_rows-requires-clause-closure : goal.push_rows-requires-clause-closure
push_rows-requires-clause-closure c =
    closure_of c.args.numbering.now c.args.words.now c.count-count.ensures.words
    (omega (arith, c.count-count.ensures.count, c.count-count.ensures.most)) c.requires.settled

pub returns-clause-exact : goal.returns-clause-exact
returns-clause-exact c =
    let v = c.args.numbering.now in
    let e = c.args.entry in
    let rows = c.in_ok-push_rows.ensures e (omega arith)
    (subst (λ (rows : List Row). AreRowsBetween v.entries v.words c.args.words.now e e 1 rows) (sym c.new-rows.ensures.items) (rows_none v.entries v.words c.args.words.now e)) in
    one_of v c.args.entries.now c.args.words.now e c.push_rows.new.rows.items c.requires.entries rows

pub returns-clause-chosen : goal.returns-clause-chosen
returns-clause-chosen c =
    let v = c.args.numbering.now in
    let e = c.args.entry in
    let rows = c.in_ok-push_rows.ensures e (omega arith)
    (subst (λ (rows : List Row). AreRowsBetween v.entries v.words c.args.words.now e e 1 rows) (sym c.new-rows.ensures.items) (rows_none v.entries v.words c.args.words.now e)) in
    chosen_of v c.args.entries.now v.words c.args.words.now e (e + 1) 1 c.push_rows.new.rows.items c.requires.entries refl rows

pub returns-clause-small : goal.returns-clause-small
returns-clause-small c =
    let v = c.args.numbering.now in
    let e = c.args.entry in
    let rows = c.in_ok-push_rows.ensures e (omega arith)
    (subst (λ (rows : List Row). AreRowsBetween v.entries v.words c.args.words.now e e 1 rows) (sym c.new-rows.ensures.items) (rows_none v.entries v.words c.args.words.now e)) in
    small_of v c.args.entries.now c.args.words.now e (e + 1) c.push_rows.new.rows.items c.requires.entries c.requires.outlines c.requires.few (omega (arith, c.requires.entry)) rows
