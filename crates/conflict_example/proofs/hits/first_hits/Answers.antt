use Rattle.std.proofs.Common.{◌≡◌, ◌<◌, arith, subst, get_or, length, ℕ}
use Rattle.conflict_example.specs.inside.FirstHits.{AreFirst}
use Rattle.conflict_example.proofs.Noted.{graph_count, passed}
use Rattle.conflict_example.proofs.hits.first_hits.Goals as goal
use Rattle.conflict_example.proofs.hits.first_hits.Goals.{then-word, else-word}

pub bounds-words-number : goal.bounds-words-number
bounds-words-number c =
    let v = c.args.numbering.now in
    omega (arith, c.loop-number-test.true, c.requires.count, c.requires.closure.settled.count, graph_count v.entries v.words)

pub note-requires-clause-settled : goal.note-requires-clause-settled
note-requires-clause-settled c =
    let v = c.args.numbering.now in
    c.requires.closure.settled.each c.loop-number.number (omega (arith, c.loop-number-test.true, c.requires.count, c.requires.closure.settled.count, graph_count v.entries v.words))

pub loop-number-preserved : goal.loop-number-preserved
loop-number-preserved c =
    let v = c.args.numbering.now in
    let number = c.loop-number.number in
    let below : number < length c.args.words.now = omega (arith, c.loop-number-test.true, c.requires.count, c.requires.closure.settled.count, graph_count v.entries v.words) in
    record {
      fits = omega arith;
      first = elim c.if-word.branch [
        | then-word w ↦ rw w.best-is w.note.ensures
        | else-word w ↦
            rw w.best-is (passed v.entries v.words number (get_or c.args.words.now number 0) c.loop-number.best.items c.requires.closure.few
            (c.requires.closure.settled.each number below) w.if-word.false c.loop-number.invariant.first)
      ];
    }

pub returns : goal.returns
returns c =
    let v = c.args.numbering.now in
    let all : c.loop-number.number ≡ c.args.count = omega (arith, c.loop-number-test.false, c.loop-number.invariant.fits) in
    subst (λ (n : ℕ). AreFirst v.entries v.words n c.loop-number.best.items) all c.loop-number.invariant.first
