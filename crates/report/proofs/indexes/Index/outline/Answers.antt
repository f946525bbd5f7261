use Rattle.std.proofs.Common.{◌<◌, ◌+◌, ◌∙◌, ap, arith, length, drop}
use Rattle.std.specs.Prelude.{string_bytes}
use Rattle.std.proofs.lemmas.List.{get_or_read}
use Rattle.steno_rules.specs.Outlines.{outline_of}
use Rattle.steno_order.specs.Canonical.{canonical_text}
use Rattle.report.proofs.TextIndexes.{text_at, place_read}
use Rattle.report.proofs.indexes.Index.outline.Goals as goal

pub overflow_sub-len : goal.overflow_sub-len
overflow_sub-len c =
    let o = c.self.inside.stack.now.outlines in
    let inside : c.args.entry < length o = omega (arith, c.requires, ap (λ s. length s.outlines) c.self.view_is) in
    let at = text_at o (string_bytes c.self.inside.texts.text) c.self.inside.texts.ends.items c.args.entry inside c.self.invariant.texts in
    let ends = c.self.inside.texts.ends.items in
    let from = get_or_read ends c.args.entry c.index-from.result.now (omega (arith, inside, c.self.invariant.texts.count)) c.index-from.ensures 0 in
    let to = get_or_read ends (c.args.entry + 1) c.index.result.now (omega (arith, inside, c.self.invariant.texts.count)) c.index.ensures 0 in
    omega (arith, from, to, at.order)

pub split_at-requires : goal.split_at-requires
split_at-requires c =
    let o = c.self.inside.stack.now.outlines in
    let inside : c.args.entry < length o = omega (arith, c.requires, ap (λ s. length s.outlines) c.self.view_is) in
    let at = text_at o (string_bytes c.self.inside.texts.text) c.self.inside.texts.ends.items c.args.entry inside c.self.invariant.texts in
    let ends = c.self.inside.texts.ends.items in
    let from = get_or_read ends c.args.entry c.index-from.result.now (omega (arith, inside, c.self.invariant.texts.count)) c.index-from.ensures 0 in
    omega (arith, from, at.order, at.within, ap length c.as_bytes.ensures.value)

pub split_at-requires-2 : goal.split_at-requires-2
split_at-requires-2 c =
    let o = c.self.inside.stack.now.outlines in
    let inside : c.args.entry < length o = omega (arith, c.requires, ap (λ s. length s.outlines) c.self.view_is) in
    let at = text_at o (string_bytes c.self.inside.texts.text) c.self.inside.texts.ends.items c.args.entry inside c.self.invariant.texts in
    let ends = c.self.inside.texts.ends.items in
    let from = get_or_read ends c.args.entry c.index-from.result.now (omega (arith, inside, c.self.invariant.texts.count)) c.index-from.ensures 0 in
    let to = get_or_read ends (c.args.entry + 1) c.index.result.now (omega (arith, inside, c.self.invariant.texts.count)) c.index.ensures 0 in
    omega (arith, from, to, at.order, at.within, ap length c.as_bytes.ensures.value, c.split_at.ensures.back_len)

pub returns : goal.returns
returns c =
    let o = c.self.inside.stack.now.outlines in
    let inside : c.args.entry < length o = omega (arith, c.requires, ap (λ s. length s.outlines) c.self.view_is) in
    let at = text_at o (string_bytes c.self.inside.texts.text) c.self.inside.texts.ends.items c.args.entry inside c.self.invariant.texts in
    let ends = c.self.inside.texts.ends.items in
    let from = get_or_read ends c.args.entry c.index-from.result.now (omega (arith, inside, c.self.invariant.texts.count)) c.index-from.ensures 0 in
    let to = get_or_read ends (c.args.entry + 1) c.index.result.now (omega (arith, inside, c.self.invariant.texts.count)) c.index.ensures 0 in
    place_read (string_bytes c.self.inside.texts.text) _ _ (canonical_text (outline_of o c.args.entry)) c.index-from.result.now c.index.result.now c.split_at.result.1.now c.split_at-2.result.0.now at from to
    (c.split_at.ensures.back ∙ ap (drop c.index-from.result.now) c.as_bytes.ensures.value) c.split_at-2.ensures.front
    ∙ ap (λ s. canonical_text (outline_of s.outlines c.args.entry)) c.self.view_is
