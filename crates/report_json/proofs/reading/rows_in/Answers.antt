use Rattle.std.proofs.Common.{◌≡◌, ◌∙◌, ap, sym, map}
use Rattle.serde_json.specs.Data.{array}
use Rattle.serde_json.specs.View.{items_of, view}
use Rattle.serde_json.proofs.Views.{view-Array}
use Rattle.report_json.proofs.PartsOf.{rows_refused}
use Rattle.report_json.proofs.reading.rows_in.Goals as goal

pub returns-in-Array-clause-err : goal.returns-in-Array-clause-err
returns-in-Array-clause-err c =
    let values = map view c.deref.result.now in
    let at : view c.args.value.now ≡ array (items_of values) = ap view c.in-Array.is ∙ view-Array c.in-Array.values ∙ ap (λ l. array (items_of (map view l))) (sym c.deref.ensures.value) in
    rows_refused (view c.args.value.now) values c.rows_of.result at c.rows_of.ensures.err
