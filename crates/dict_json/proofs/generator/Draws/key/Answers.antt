use Rattle.std.proofs.Common.{string_bytes, [], ◌∷◌, ◌++◌, ◌∙◌, ◌%◌, sym, ap, nat_lt, if◌then◌else◌}
use Rattle.steno_order.specs.Keys.{slash}
use Rattle.dict_json.specs.Generated.{drawn, stroke_text}
use Rattle.dict_json.proofs.DrawLemmas.{key_more}
use Rattle.dict_json.proofs.generator.Draws.key.Goals as goal

pub loop-place-preserved : goal.loop-place-preserved
loop-place-preserved c =
    let same = c.draw-in-loop-place.ensures.result ∙ sym c.draw-in-loop-place.ensures.new in
    key_more (drawn c.args.self.now) c.loop-place.place (string_bytes c.loop-place.key) (string_bytes c.push_part.new.key) c.loop-place.self c.draw-in-loop-place.new.self c.loop-place.invariant c.draw-in-loop-place.ensures.new
    (c.in_ok-push_part.ensures ∙ ap (λ v. string_bytes c.loop-place.key ++ ((if nat_lt 0 c.loop-place.place then slash ∷ [] else []) ++ stroke_text (v % 2048))) same)
