use Rattle.std.proofs.Common.{◌≡◌, ◌+◌, ◌-◌, ◌*◌, get_or, arith, ap}
use Rattle.steno_rules.specs.WordSets.{words_in}
use Rattle.pair_slots.specs.Slots.{slot_of}
use Rattle.settled_pairs.proofs.FirstSums.{sums_noted, sums_without}
use Rattle.settled_pairs.proofs.sums.note.Goals as goal

pub returns-in-Some : goal.returns-in-Some
returns-in-Some c =
    let entries = c.args.trie.now in
    let words = words_in entries c.args.words.now in
    let sum = c.in-Some.sum in
    let slot : get_or c.args.starts.now sum.entry 0 + (sum.place - 1) ≡ slot_of entries sum.entry sum.place =
    ap (λ k. k + (sum.place - 1)) (c.requires.starts.each sum.entry (omega (arith, c.in-Some.ensures.sum.entry))) in
    sums_noted entries words c.args.number sum _ _ c.args.least.now.items c.keep_lesser.new.least.items c.requires.entries c.in-Some.ensures.sum
    (omega (arith, c.in-Some.ensures.small, c.requires.below, c.requires.few)) slot (ap (λ k. sum.strokes * 4294967296 + k) c.from.ensures) c.keep_lesser.ensures c.requires.first

pub returns-in-None : goal.returns-in-None
returns-in-None c = sums_without c.args.trie.now (words_in c.args.trie.now c.args.words.now) c.args.number c.args.least.now.items c.in-None.ensures.sum c.requires.first
