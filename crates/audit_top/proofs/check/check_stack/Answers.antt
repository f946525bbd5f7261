use Rattle.std.proofs.Common.{◌≡◌, ◌≤◌, ◌∙◌, Some, length, subst}
use Rattle.std.proofs.lemmas.Result.{err_from_is_err_and}
use Rattle.steno_rules.specs.Nodes.{nodes}
use Rattle.steno_rules.specs.StateNumbers.{number_count}
use Rattle.outline_trie.specs.declared.trie.TheConstants.Trie.{MAX_NODES}
use Rattle.state_numbering.specs.Causes.{most_states}
use Rattle.report.specs.Refusals.{certificate_failed}
use Rattle.audit_top.specs.Outcomes.{UnlessRefused, search_limit}
use Rattle.audit_top.specs.Checked.{IsCheck}
use Rattle.audit_top.specs.inside.Answers.{reads_only}
use Rattle.audit_top.proofs.OtherFiles.{goes-behind, output-goes}
use Rattle.audit_top.proofs.Reports.{numbers-stopped, search-over_nodes, search-within, trie-stopped}
use Rattle.audit_top.proofs.Stacks.{some_file}
use Rattle.audit_top.proofs.Stops.{ran-out}
use Rattle.audit_top.proofs.check.check_stack.Goals as goal

pub returns-in_err-trie : goal.returns-in_err-trie
returns-in_err-trie g c =
    let stack = c.args.stack.now in
    let name = c.args.certificate.now in
    let held = (g.F.Files.view c.args.files.now).held in
    let p = err_from_is_err_and c.from_residual.result c.from_residual.ensures.1 in
    output-goes certificate_failed (search_limit stack) (reads_only name) (λ file. UnlessRefused (search_limit stack) (IsCheck file stack)) _ _ _ _
    (trie-stopped (IsCheck (some_file held (Some name)) stack) stack (search_limit stack) _ _ p.0 c.in_err-trie.field-0.0 c.outlines.result.now c.outlines.ensures.outlines (search-over_nodes stack) c.in_err-trie.ensures.cause p.1 p.2)

pub returns-in_err-windows : goal.returns-in_err-windows
returns-in_err-windows g c =
    let stack = c.args.stack.now in
    let p = err_from_is_err_and c.from_residual-in_err-windows.result c.from_residual-in_err-windows.ensures.1 in
    output-goes certificate_failed (search_limit stack) (reads_only c.args.certificate.now) (λ file. UnlessRefused (search_limit stack) (IsCheck file stack)) _ _ _ _ (ran-out _ _ _ p.0 p.1 p.2)

pub returns-in_err-words : goal.returns-in_err-words
returns-in_err-words g c =
    let stack = c.args.stack.now in
    let p = err_from_is_err_and c.from_residual-in_err-words.result c.from_residual-in_err-words.ensures.1 in
    output-goes certificate_failed (search_limit stack) (reads_only c.args.certificate.now) (λ file. UnlessRefused (search_limit stack) (IsCheck file stack)) _ _ _ _ (ran-out _ _ _ p.0 p.1 p.2)

pub returns-in_err-numbering : goal.returns-in_err-numbering
returns-in_err-numbering g c =
    let stack = c.args.stack.now in
    let name = c.args.certificate.now in
    let held = (g.F.Files.view c.args.files.now).held in
    let p = err_from_is_err_and c.from_residual-in_err-numbering.result c.from_residual-in_err-numbering.ensures.1 in
    let within : length (nodes stack.outlines) ≤ MAX_NODES = subst (λ es. length (nodes es) ≤ MAX_NODES) c.outlines.ensures.outlines c.in_ok-trie.ensures.within in
    output-goes certificate_failed (search_limit stack) (reads_only name) (λ file. UnlessRefused (search_limit stack) (IsCheck file stack)) _ _ _ _
    (numbers-stopped (IsCheck (some_file held (Some name)) stack) stack _ _ p.0 c.in_err-numbering.field-0.0 c.in_ok-trie.trie (c.in_ok-trie.ensures.built ∙ c.outlines.ensures.outlines) within c.in_err-numbering.ensures.cause p.1 p.2)

pub returns : goal.returns
returns g c =
    let stack = c.args.stack.now in
    let built : c.in_ok-trie.trie ≡ stack.outlines = c.in_ok-trie.ensures.built ∙ c.outlines.ensures.outlines in
    let within : length (nodes stack.outlines) ≤ MAX_NODES = subst (λ es. length (nodes es) ≤ MAX_NODES) c.outlines.ensures.outlines c.in_ok-trie.ensures.within in
    let few : number_count stack.outlines ≤ most_states = subst (λ es. number_count es ≤ most_states) built c.in_ok-numbering.ensures.within in
    goes-behind certificate_failed (search_limit stack) (reads_only c.args.certificate.now) (λ file. IsCheck file stack) _ _ _ _ _ (search-within stack within few) c.check_numbered.ensures
