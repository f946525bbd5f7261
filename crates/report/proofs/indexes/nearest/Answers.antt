use Rattle.std.proofs.Common.{◌≡◌, ◌∙◌, sym, subst, arith, rules, length, [], nat_eq, true, ℕ, Option}
use Rattle.std.proofs.lemmas.List.{get_or_read}
use Rattle.std.specs.Cmp.Lexicographic.{bytes_decides, pointwise}
use Rattle.std.proofs.lemmas.Fn.{always_returns_same}
use Rattle.steno_rules.specs.Outlines.{outline_cmp, outline_of}
use Rattle.steno_rules.proofs.NodeLemmas.{same_of_equal}
use Rattle.dict_stack.proofs.FindLemmas.{searchable}
use Rattle.report.specs.inside.Indexes.{IsBegunFrom}
use Rattle.report.proofs.Chains.{begun_same, begun_place}
use Rattle.report.proofs.indexes.nearest.Goals as goal

pub returns-then-eq-clause-begun : goal.returns-then-eq-clause-begun
returns-then-eq-clause-begun c =
    let entries = c.args.outlines.now in
    let x = c.args.strokes.now in
    let guess = c.args.guess in
    let read : c.index-outlines-guess.result ≡ outline_of entries guess = get_or_read entries guess c.index-outlines-guess.result c.requires.guess c.index-outlines-guess.is [] in
    let tested : pointwise nat_eq c.strokes.result.now x ≡ true = sym c.eq.ensures ∙ c.if-eq.true in
    begun_same entries x guess c.requires.guess (sym (c.strokes.ensures.strokes ∙ read) ∙ (bytes_decides c.strokes.result.now x).0 tested)

pub returns-in-Ok-clause-begun : goal.returns-in-Ok-clause-begun
returns-in-Ok-clause-begun c =
    let entries = c.args.outlines.now in
    let x = c.args.strokes.now in
    let same = c.in-Ok.ensures.position (λ y. outline_cmp y x) (always_returns_same _ _ _ (λ a r q k. search rules)) in
    begun_same entries x c.in-Ok.entry c.in-Ok.ensures.bound (same_of_equal (outline_of entries c.in-Ok.entry) x (same []))

pub returns-in-Err-clause-begun : goal.returns-in-Err-clause-begun
returns-in-Err-clause-begun c =
    let entries = c.args.outlines.now in
    let x = c.args.strokes.now in
    let split = c.in-Err.ensures.position (λ y. outline_cmp y x) (always_returns_same _ _ _ (λ a r q k. search rules)) (searchable entries x c.requires.entries.rising) in
    subst (λ (o : Option ℕ). IsBegunFrom entries (length entries) x o) (sym c.place_before.ensures)
    (begun_place entries x c.in-Err.place c.requires.entries.rising (omega (arith, c.in-Err.ensures.bound))
    (λ k l. split.0 k [] (omega (arith, c.in-Err.ensures.bound)) l) (λ k l m. split.1 k [] l m))
