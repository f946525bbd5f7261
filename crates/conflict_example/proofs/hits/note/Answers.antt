use Rattle.std.proofs.Common.{◌≡◌, ◌+◌, ◌-◌, ◌*◌, ◌/◌, get_or, arith, ap}
use Rattle.conflict_example.proofs.Noted.{noted, not_noted}
use Rattle.pair_slots.specs.Slots.{slot_of}
use Rattle.conflict_example.proofs.hits.note.Goals as goal

pub returns-in-Some : goal.returns-in-Some
returns-in-Some c =
    let v = c.args.numbering.now in
    let hit = c.in-Some.hit in
    let h = c.in-Some.ensures in
    let slot : get_or c.args.starts.now hit.entry 0 + (hit.place - 1) ≡ slot_of v.entries hit.entry hit.place =
    ap (λ k. k + (hit.place - 1)) (c.requires.starts.each hit.entry (omega (arith, h.entry))) in
    noted v.entries v.words c.args.number c.args.word h.state hit.entry hit.place _ _ c.args.best.now.items c.keep_lesser.new.best.items
    c.requires.entries c.requires.few c.requires.below (omega arith) c.requires.settled c.requires.reached h.number_is h.entry h.hit slot (ap (λ k. c.args.word / 4294967296 * 4294967296 + k) c.from.ensures) c.keep_lesser.ensures c.requires.first

pub returns-in-None : goal.returns-in-None
returns-in-None c =
    let v = c.args.numbering.now in
    not_noted v.entries v.words c.args.number c.args.best.now.items c.in-None.ensures c.requires.first
