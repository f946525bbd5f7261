use Rattle.std.proofs.Common.{◌≡◌, ◌≤◌, ◌∙◌, length, subst}
use Rattle.std.proofs.lemmas.Result.{err_from_is_err_and}
use Rattle.steno_rules.specs.Nodes.{nodes}
use Rattle.steno_rules.specs.StateNumbers.{number_count}
use Rattle.outline_trie.specs.declared.trie.TheConstants.Trie.{MAX_NODES}
use Rattle.state_numbering.specs.Causes.{most_states}
use Rattle.commands.specs.Commands.{brief_outlines}
use Rattle.audit_top.specs.Outcomes.{UnlessRefused, search_limit}
use Rattle.audit_top.specs.Tried.{IsTry}
use Rattle.audit_top.proofs.Reports.{numbers-stopped, search-within}
use Rattle.audit_top.proofs.Stops.{answers-weaker, ran-out, unless-none}
use Rattle.audit_top.proofs.tries.try_stack.Goals as goal

pub returns-in_err-windows : goal.returns-in_err-windows
returns-in_err-windows g c =
    let p = err_from_is_err_and c.from_residual-in_err-windows.result c.from_residual-in_err-windows.ensures.1 in
    ran-out _ _ _ p.0 p.1 p.2

pub returns-in_err-words : goal.returns-in_err-words
returns-in_err-words g c =
    let p = err_from_is_err_and c.from_residual-in_err-words.result c.from_residual-in_err-words.ensures.1 in
    ran-out _ _ _ p.0 p.1 p.2

pub returns-in_err-outlines : goal.returns-in_err-outlines
returns-in_err-outlines g c =
    let p = err_from_is_err_and c.from_residual-in_err-outlines.result c.from_residual-in_err-outlines.ensures.1 in
    ran-out _ _ _ p.0 p.1 p.2

pub returns-in_err-numbering : goal.returns-in_err-numbering
returns-in_err-numbering g c =
    let stack = c.args.stack.now in
    let p = err_from_is_err_and c.from_residual-in_err-numbering.result c.from_residual-in_err-numbering.ensures.1 in
    let within : length (nodes stack.outlines) ≤ MAX_NODES = subst (λ es. length (nodes es) ≤ MAX_NODES) c.outlines.ensures.outlines c.in_ok-trie.ensures.within in
    numbers-stopped (IsTry (brief_outlines c.args.briefs.now) stack) stack _ _ p.0 c.in_err-numbering.field-0.0 c.in_ok-trie.trie (c.in_ok-trie.ensures.built ∙ c.outlines.ensures.outlines) within c.in_err-numbering.ensures.cause p.1 p.2

pub returns : goal.returns
returns g c =
    let stack = c.args.stack.now in
    let built : c.in_ok-trie.trie ≡ stack.outlines = c.in_ok-trie.ensures.built ∙ c.outlines.ensures.outlines in
    let within : length (nodes stack.outlines) ≤ MAX_NODES = subst (λ es. length (nodes es) ≤ MAX_NODES) c.outlines.ensures.outlines c.in_ok-trie.ensures.within in
    let few : number_count stack.outlines ≤ most_states = subst (λ es. number_count es ≤ most_states) built c.in_ok-numbering.ensures.within in
    let outlines = brief_outlines c.args.briefs.now in
    let same : c.deref.result.now ≡ outlines = c.deref.ensures.value ∙ c.in_ok-outlines.ensures.read in
    answers-weaker (IsTry c.deref.result.now stack) (UnlessRefused (search_limit stack) (IsTry outlines stack)) _ _ _
    (λ r is. unless-none (search_limit stack) (IsTry outlines stack) (search-within stack within few) r
    (subst (λ bs. IsTry bs stack r) same is)) c.try_within.ensures
