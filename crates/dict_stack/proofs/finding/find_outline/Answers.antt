use Rattle.std.proofs.Common.{refl, rules}
use Rattle.std.proofs.lemmas.Fn.{always_returns_same}
use Rattle.steno_rules.specs.Outlines.{outline_cmp}
use Rattle.dict_stack.proofs.FindLemmas.{number_found, place_missing}
use Rattle.dict_stack.proofs.finding.find_outline.Goals as goal

pub returns-in-Ok-clause-found : goal.returns-in-Ok-clause-found
returns-in-Ok-clause-found c =
    number_found c.args.outlines.now c.args.outlines.now c.args.strokes.now c.in-Ok.entry refl c.requires.rising c.in-Ok.ensures.bound
    (c.in-Ok.ensures.position (λ y. outline_cmp y c.args.strokes.now) (always_returns_same _ _ _ (λ a r q k. search rules)))

pub returns-in-Err-clause-missing : goal.returns-in-Err-clause-missing
returns-in-Err-clause-missing c =
    place_missing c.args.outlines.now c.args.outlines.now c.args.strokes.now c.in-Err.place refl c.requires.rising c.in-Err.ensures.bound
    (c.in-Err.ensures.position (λ y. outline_cmp y c.args.strokes.now) (always_returns_same _ _ _ (λ a r q k. search rules)))
