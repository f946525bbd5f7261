use Rattle.std.proofs.Common.{◌≡◌, ◌≤◌, ◌+◌, ◌-◌, ◌∙◌, ap, arith, take, length, refl}
use Rattle.std.proofs.lemmas.List.{length-take}
use Rattle.std.specs.List.{slice_range}
use Rattle.certificate.proofs.Passing.{from_front, held_more, length-held, passes_more, written}
use Rattle.certificate.proofs.pieces.Pieces.fill.Goals as goal

pub returns-clause-passes : goal.returns-clause-passes
returns-clause-passes g c =
    let held = c.self.inside.end - c.self.inside.start in
    let buffer = c.take_behind.new.buffer in
    let count = c.in_ok-count.count in
    let moved_len = c.move_to_front.ensures.len ∙ c.deref_mut.ensures.len in
    let len = c.in_ok-count.ensures.len ∙ c.deref_mut-2.ensures.len in
    let front : take held buffer ≡ c.args.self.now.left =
    c.in_ok-count.ensures.front
    ∙ ap (take held) (c.deref_mut-2.ensures.value ∙ written _ c.move_to_front.new.buffer _ moved_len)
    ∙ c.move_to_front.ensures.front
    ∙ ap (λ xs. slice_range xs c.self.inside.start c.self.inside.end) c.deref_mut.ensures.value
    ∙ ap (λ v. v.left) c.self.view_is in
    let within = c.in_ok-count.ensures.within in
    let some : held ≤ held + count = omega arith in
    let more : length (slice_range buffer held (held + count)) ≡ count = length-held buffer held (held + count) some within ∙ omega arith in
    let left = from_front buffer _ (held + count) (written _ buffer _ len) in
    let size = c.self.inside.buffer.ok.0 in
    let room = c.self.invariant.2 in
    let range = c.self.invariant.3 in
    let count_is : c.self.inside.taken ≡ c.args.self.now.taken = ap (λ v. v.taken) c.self.view_is in
    passes_more c.args.self.now (slice_range buffer held (held + count)) _ _ _ _
    (omega arith)
    (left ∙ held_more buffer c.args.self.now.left held count front)
    (let short = length-take (held + count) buffer in let whole = ap length left in omega arith)
    (c.saturating_add-self-inside.ensures ∙ (rw (more, count_is) refl))
    c.in_ok-count.ensures.moved c.in_ok-count.ensures.takes
