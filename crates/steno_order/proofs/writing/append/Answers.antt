use Rattle.std.proofs.Common.{◌++◌, ◌∷◌, [], ap, map, ◌∙◌}
use Rattle.std.specs.Prelude.{if◌then◌else◌, string_bytes}
use Rattle.steno_order.specs.Keys.{bar, hyphen}
use Rattle.steno_order.specs.Canonical.{bar_text, hyphen_text, keys_from, mark}
use Rattle.steno_order.proofs.Writes.{four_parts}
use Rattle.steno_order.proofs.writing.append.Goals as goal

pub returns-clause-bytes : goal.returns-clause-bytes
returns-clause-bytes c =
    four_parts (string_bytes c.args.text.now) (string_bytes c.push_if.new.text) (string_bytes c.append_keys.new.text) (string_bytes c.push_if-2.new.text) (string_bytes c.append_keys-2.new.text)
    (bar_text c.args.stroke) (map (mark c.args.stroke) (keys_from c.args.stroke 1 12)) (hyphen_text c.args.stroke) (map (mark c.args.stroke) (keys_from c.args.stroke 13 10))
    (c.push_if.ensures.bytes ∙ ap (λ b. string_bytes c.args.text.now ++ (if b then bar ∷ [] else [])) c.is_barred.ensures)
    c.append_keys.ensures.bytes
    (c.push_if-2.ensures.bytes ∙ ap (λ b. string_bytes c.append_keys.new.text ++ (if b then hyphen ∷ [] else [])) c.is_divided.ensures)
    c.append_keys-2.ensures.bytes
