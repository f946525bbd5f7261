use Rattle.cert_check.specs.Verdicts.{closure_at}
use Rattle.cert_check.proofs.RowAnswers.{AreSuchSoFar}
use Rattle.cert_check.proofs.rows.are_words_of.Given as goal

abbrev pub invariant-loop-word : goal.invariant-loop-word
invariant-loop-word l = AreSuchSoFar (closure_at l.stack) l.words l.word-index l.sum l.most
