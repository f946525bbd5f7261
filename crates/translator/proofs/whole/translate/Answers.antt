use Rattle.std.proofs.Common.{◌≡◌, ◌<◌, length, sum_by, All, IfSome, sym, subst}
use Rattle.std.proofs.lemmas.Result.{IfOk-weaker}
use Rattle.stroke.proofs.PieceFacts.{pieces-lengths, pieces-numbers}
use Rattle.stroke.specs.declared.pieces.Piece.{Piece}
use Rattle.translator.proofs.whole.translate.Goals as goal

pub returns-clause-lengths : goal.returns-clause-lengths
returns-clause-lengths c = IfOk-weaker c.collect.result _ _ (λ found is. subst (λ l. sum_by (λ (p : Piece). p.len) l ≡ length c.args.strokes.now) (sym is) (pieces-lengths c.args.trie.now c.args.strokes.now)) c.collect.ensures

pub returns-clause-numbers : goal.returns-clause-numbers
returns-clause-numbers c = IfOk-weaker c.collect.result _ _ (λ found is. subst (All (λ (p : Piece). IfSome p.entry (λ e. e < length c.args.trie.now))) (sym is) (pieces-numbers c.args.trie.now c.args.strokes.now)) c.collect.ensures
