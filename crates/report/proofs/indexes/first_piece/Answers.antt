use Rattle.std.proofs.Common.{◌≡◌, ◌∙◌, ap, sym, subst, arith, length, ℕ, Option, Some}
use Rattle.std.proofs.lemmas.List.{get_or_read}
use Rattle.stroke.specs.declared.pieces.Piece.{Piece}
use Rattle.steno_rules.specs.Outlines.{outline_of}
use Rattle.report.specs.inside.Indexes.{IsLongestOf}
use Rattle.report.proofs.Chains.{piece_found, piece_none}
use Rattle.report.proofs.indexes.first_piece.Goals as goal

abbrev the_piece : ℕ → ℕ → Piece
the_piece n e = record { len = n; entry = Some e }

pub returns-in-Some : goal.returns-in-Some
returns-in-Some c =
    let entries = c.args.outlines.now in
    let x = c.args.strokes.now in
    let e = c.in-Some.entry in
    let found = subst (λ (o : Option ℕ). IsLongestOf entries (length entries) x o) c.in-Some.is (c.along.ensures.longest (length entries) (omega arith) c.nearest.ensures.begun) in
    let read : c.index-outlines-entry.result ≡ outline_of entries e = get_or_read entries e c.index-outlines-entry.result found.below c.index-outlines-entry.is _ in
    ap (λ (n : ℕ). the_piece n e) (ap length (c.strokes.ensures.strokes ∙ read)) ∙ sym (piece_found entries x e c.requires.entries c.requires.some found)

pub returns-in-None : goal.returns-in-None
returns-in-None c =
    let entries = c.args.outlines.now in
    let x = c.args.strokes.now in
    let none = subst (λ (o : Option ℕ). IsLongestOf entries (length entries) x o) c.in-None.is (c.along.ensures.longest (length entries) (omega arith) c.nearest.ensures.begun) in
    sym (piece_none entries x c.requires.entries c.requires.some none)
