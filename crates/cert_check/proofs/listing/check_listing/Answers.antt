use Rattle.std.proofs.Common.{◌≡◌, ◌∙◌, ◌+◌, ap, sym, subst, true, false, List}
use Rattle.steno_rules.specs.ClosureGraphs.{kept_lists}
use Rattle.cert_check.specs.Verdicts.{closure_at}
use Rattle.cert_check.specs.declared.places.Place.{Place}
use Rattle.cert_check.specs.inside.Founds.{AreFound}
use Rattle.cert_check.specs.inside.Moves.{IsFirstStuck, all_pass, steps_on}
use Rattle.cert_check.specs.inside.Places.{place_within, places_from, states_at}
use Rattle.certificate_laws.specs.Validity.{listed_pairs}
use Rattle.cert_check.proofs.FoundLemmas.{at_places}
use Rattle.cert_check.proofs.ListingChecks.{start_fails, move_fails, count_fails, few_places, listing_found}
use Rattle.cert_check.proofs.listing.check_listing.Goals as goal

pub returns-then-not-is_within-clause-err : goal.returns-then-not-is_within-clause-err
returns-then-not-is_within-clause-err c before is =
    start_fails c.args.stack.now.outlines c.args.stack.now.words c.args.upper.now before c.args.announced is
    (ap (λ (ps : List Place). place_within ps 0 0) (sym c.deref.ensures.value) ∙ (sym c.is_within.ensures ∙ c.if-not-is_within.true)) _ (ap (λ n. n + 1) c.from-line.ensures)

pub returns-in-Some-clause-err : goal.returns-in-Some-clause-err
returns-in-Some-clause-err c before is =
    let stuck = subst (IsFirstStuck (steps_on (kept_lists c.new.result.entries c.new.result.words) c.deref-2.result.now) (places_from 0 c.deref-2.result.now)) (sym c.from.ensures) c.in-Some.ensures in
    move_fails c.args.stack.now.outlines c.args.stack.now.words c.args.upper.now before c.args.announced c.requires.entries is
    (ap (λ (ps : List Place). place_within ps 0 0) (sym c.deref.ensures.value) ∙ (sym c.is_within.ensures ∙ c.if-not-is_within.false)) c.from.result
    (at_places (λ w ps. IsFirstStuck (steps_on (kept_lists w.entries w.words) ps) (places_from 0 ps) c.from.result) c.new.result c.args.numbering.now c.args.stack.now c.deref-2.result.now c.args.upper.now.places.items
    c.new.ensures c.requires.over c.deref-2.ensures.value stuck)

pub returns-then-len-from-clause-err : goal.returns-then-len-from-clause-err
returns-then-len-from-clause-err c before is =
    let closure = closure_at c.args.stack.now in
    let founds = c.in-Ok.founds in
    count_fails c.args.stack.now.outlines c.args.stack.now.words c.args.upper.now before c.args.announced c.requires.entries is
    (ap (λ (ps : List Place). place_within ps 0 0) (sym c.deref.ensures.value) ∙ (sym c.is_within.ensures ∙ c.if-not-is_within.false))
    (at_places (λ w ps. all_pass (steps_on (kept_lists w.entries w.words) ps) (places_from 0 ps) ≡ true) c.new.result c.args.numbering.now c.args.stack.now c.deref-2.result.now c.args.upper.now.places.items
    c.new.ensures c.requires.over c.deref-2.ensures.value c.in-None.ensures)
    founds.items (subst (λ (ps : List Place). AreFound closure (states_at ps) (listed_pairs closure (states_at ps)) founds.items) c.deref-3.ensures.value c.in-Ok.ensures.found)
    (λ same. c.if-len-from.true (c.len.ensures ∙ (founds.ok.0 ∙ (same ∙ sym c.from-2.ensures)))) _ (ap (λ n. n + 1) c.from-line.ensures)

pub returns-clause-found : goal.returns-clause-found
returns-clause-found c before is =
    let closure = closure_at c.args.stack.now in
    let founds = c.in-Ok.founds in
    listing_found c.args.stack.now.outlines c.args.stack.now.words c.args.upper.now before c.args.announced c.requires.entries c.requires.sound.limit is
    (ap (λ (ps : List Place). place_within ps 0 0) (sym c.deref.ensures.value) ∙ (sym c.is_within.ensures ∙ c.if-not-is_within.false))
    (at_places (λ w ps. all_pass (steps_on (kept_lists w.entries w.words) ps) (places_from 0 ps) ≡ true) c.new.result c.args.numbering.now c.args.stack.now c.deref-2.result.now c.args.upper.now.places.items
    c.new.ensures c.requires.over c.deref-2.ensures.value c.in-None.ensures)
    founds.items (subst (λ (ps : List Place). AreFound closure (states_at ps) (listed_pairs closure (states_at ps)) founds.items) c.deref-3.ensures.value c.in-Ok.ensures.found)
    (sym founds.ok.0 ∙ (sym c.len.ensures ∙ (c.if-len-from.false ∙ c.from-2.ensures)))

pub first_stuck-requires-clause-count : goal.first_stuck-requires-clause-count
first_stuck-requires-clause-count c = few_places c.new.result c.args.stack.now c.deref-2.result.now c.args.upper.now.places.items (c.new.ensures ∙ c.requires.over) c.deref-2.ensures.value c.requires.sound.few
