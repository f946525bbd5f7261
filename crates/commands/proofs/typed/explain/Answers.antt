use Rattle.std.proofs.Common.{◌≡◌, ◌+◌, ◌∙◌, ap, ap₂, drop, map, string_bytes, sym, take, Some}
use Rattle.std.specs.ControlFlow.{continue_value}
use Rattle.std.specs.Prelude.{option_and_then, position}
use Rattle.std.proofs.lemmas.List.{drop-drop, drop-map, take-map}
use Rattle.commands.specs.Commands.{explain}
use Rattle.commands.specs.Reading.{if_valid, is_dashes}
use Rattle.commands.proofs.typed.explain.Goals as goal

pub returns : goal.returns
returns c =
    let args = c.args.args.now in
    let place = c.in_ok-place.place in
    let front = ap (map string_bytes) c.split_at.ensures.front ∙ sym (take-map string_bytes place args) in
    let back = ap (map string_bytes) (c.split_at-2.ensures.back ∙ ap (drop 1) c.split_at.ensures.back ∙ drop-drop 1 place args) ∙ sym (drop-map string_bytes (place + 1) args) in
    let found : Some place ≡ position is_dashes (map string_bytes args) =
    ap continue_value (sym c.in_ok-place.is) ∙ sym c.branch-place.ensures ∙ c.place_of_dashes.ensures in
    c.explain_outlines.ensures ∙ ap₂ (λ a b. if_valid (explain a b)) front back
    ∙ ap (option_and_then (λ p. if_valid (explain (take p (map string_bytes args)) (drop (p + 1) (map string_bytes args))))) found
