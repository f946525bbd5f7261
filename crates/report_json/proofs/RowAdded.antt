-- The lines of a row, part by part.
use Rattle.std.proofs.Common.{◌≡◌, ℕ, List, [], ◌∷◌, ◌++◌, refl, append_assoc, flat_map, subst, Option, Result}
use Rattle.std.specs.Prelude.{codes}
use Rattle.text_rules.specs.Lines.{line}
use Rattle.outside.specs.Sink.{Puts}
use Rattle.outside.specs.declared.fault.OutsideFault.{OutsideFault}
use Rattle.report_json.specs.JsonLines.{listing_text, row_listing}
use Rattle.report_json.specs.JsonReports.{JsonReportView, JsonRowView}

-- the parts, added one after another
pub row_added : (old outline place strokes words : List ℕ) →
    ((((((((old ++ codes "conflict ") ++ outline) ++ codes " place ") ++ place) ++ codes " strokes ") ++ strokes) ++ codes "\nwords ") ++ words) ++ 10 ∷ []
    ≡ old ++ (line (codes "conflict" ∷ outline ∷ codes "place" ∷ place ∷ codes "strokes" ∷ strokes ∷ []) ++ line (codes "words" ∷ words ∷ []))
row_added old outline place strokes words = simp (append_assoc) refl

-- where the lines of the rows were put, the text was
pub lines_put : {T : Type 0} (report : JsonReportView) (rows : List JsonRowView) (result : Result T OutsideFault) (old new : Option (List ℕ)) (before after : ℕ) → rows ≡ report.rows
    → Puts (flat_map row_listing rows) result old new before after → Puts (listing_text report) result old new before after
lines_put report rows result old new before after are h = subst (λ (rs : List JsonRowView). Puts (flat_map row_listing rs) result old new before after) are h
