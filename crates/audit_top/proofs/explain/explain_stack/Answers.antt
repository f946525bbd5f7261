use Rattle.std.proofs.Common.{◌≤◌, ◌∙◌, ap, arith, length, map, string_bytes, subst, sum}
use Rattle.std.proofs.lemmas.Result.{err_from_is_err_and}
use Rattle.steno_rules.specs.Nodes.{nodes}
use Rattle.outline_trie.specs.declared.trie.TheConstants.Trie.{MAX_NODES}
use Rattle.audit_top.specs.Outcomes.{UnlessRefused, trie_limit}
use Rattle.audit_top.specs.Translated.{IsExplained}
use Rattle.audit_top.proofs.Reports.{trie-within}
use Rattle.audit_top.proofs.Stops.{answers-weaker, ran-out, unless-none}
use Rattle.audit_top.proofs.Typed.{few-typed, typed-is}
use Rattle.audit_top.proofs.explain.explain_stack.Goals as goal

pub returns-in_err-typed : goal.returns-in_err-typed
returns-in_err-typed g c =
    let p = err_from_is_err_and c.from_residual-in_err-typed.result c.from_residual-in_err-typed.ensures.1 in
    ran-out _ _ _ p.0 p.1 p.2

pub explain_typed-requires-clause-few : goal.explain_typed-requires-clause-few
explain_typed-requires-clause-few g c =
    let few = few-typed (map string_bytes c.args.outlines.now) c.requires.spelt in
    let same = ap sum (c.deref-2.ensures.value ∙ c.in_ok-typed.ensures.parts) in
    omega (arith, few, same)

pub returns : goal.returns
returns g c =
    let stack = c.args.stack.now in
    let outlines = map string_bytes c.args.outlines.now in
    let within : length (nodes stack.outlines) ≤ MAX_NODES = subst (λ es. length (nodes es) ≤ MAX_NODES) c.outlines.ensures.outlines c.in_ok-trie.ensures.within in
    answers-weaker _ (UnlessRefused (trie_limit stack) (IsExplained outlines stack)) _ _ _
    (λ r is. unless-none (trie_limit stack) (IsExplained outlines stack) (trie-within stack within) r
    (typed-is outlines c.deref.result.now c.deref-2.result.now stack r (c.deref.ensures.value ∙ c.in_ok-typed.ensures.strokes) (c.deref-2.ensures.value ∙ c.in_ok-typed.ensures.parts) is)) c.explain_typed.ensures
