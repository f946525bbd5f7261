-- The places of conflicts lie inside outlines, so `json_of` takes the rows of every audit.
use Rattle.std.proofs.Common.{ℕ, zero, suc, ◌≤◌, List, [], ◌∷◌, All, arith, length}
use Rattle.std.proofs.lemmas.List.Elements.{All-head, All-tail, All-weaker}
use Rattle.steno_rules.specs.Outlines.{IsOutline, outline_of}
use Rattle.longest_match.specs.Rows.{AreConflicts, IsShortest, Row}
use Rattle.report_json.specs.JsonReports.{IsInner}

-- no number has more strokes
short_outline : (entries : List (List ℕ)) (e : ℕ) → All IsOutline entries → length (outline_of entries e) ≤ 64
short_outline [] e are = omega arith
short_outline (first ∷ rest) zero are = let at_most = (All-head IsOutline first rest are).at_most in omega (arith, at_most)
short_outline (first ∷ rest) (suc e) are = short_outline rest e (All-tail IsOutline first rest are)

inner_place : (entries words : List (List ℕ)) (row : Row) → All IsOutline entries → IsShortest entries words row → IsInner row
inner_place entries words row are shortest =
    let after = shortest.shown.after_start in
    let before = shortest.shown.before_end in
    record { at_least = after; at_most = omega (arith, before, short_outline entries row.entry are) }

-- the rows of an audit have places inside outlines
pub inner_places : (entries words : List (List ℕ)) (rows : List Row) → All IsOutline entries → AreConflicts entries words rows → All IsInner rows
inner_places entries words rows are conflicts =
    All-weaker (IsShortest entries words) IsInner (λ row shortest. inner_place entries words row are shortest) rows conflicts.each
