use Rattle.std.proofs.Common.{subst, sym}
use Rattle.cert_check.specs.Verdicts.{closure_at}
use Rattle.cert_check.specs.inside.LeastDistances.{AreLeast}
use Rattle.cert_check.specs.inside.Places.{states_at}
use Rattle.cert_check.proofs.FoundLemmas.{at_stack, found_entries, found_listed}
use Rattle.cert_check.proofs.pairs.found_pairs.Goals as goal

pub returns-clause-found : goal.returns-clause-found
returns-clause-found c =
    let least = at_stack c.args.numbering.now c.args.stack.now (λ closure. AreLeast closure (states_at c.args.places.now) c.in_ok-slots.slots.items) c.requires.over c.in_ok-slots.ensures in
    found_listed c.args.stack.now c.args.places.now c.deref-3.result.now c.all_founds.result (subst (AreLeast (closure_at c.args.stack.now) (states_at c.args.places.now)) (sym c.deref-3.ensures.value) least) c.all_founds.ensures

pub returns-clause-entries : goal.returns-clause-entries
returns-clause-entries c = found_entries c.args.stack.now c.deref-3.result.now c.all_founds.result c.all_founds.ensures
