use Rattle.std.proofs.Common.{◌≡◌, ◌<◌, ◌≤◌, arith, ap, subst, get_or, length, ℕ}
use Rattle.graph_rules.specs.Graphs.{IsSettledWord}
use Rattle.steno_rules.specs.ClosureGraphs.{kept_lists}
use Rattle.steno_rules.specs.StateNumbers.{number_count}
use Rattle.steno_rules.specs.WordSets.{words_in}
use Rattle.state_numbering.specs.Numberings.{NumberingView}
use Rattle.conflict_example.proofs.Noted.{graph_count}
use Rattle.settled_pairs.specs.inside.Sums.{AreFirstSums}
use Rattle.settled_pairs.proofs.FirstSums.{sums_passed}
use Rattle.settled_pairs.proofs.sums.first_sums.Goals as goal
use Rattle.settled_pairs.proofs.sums.first_sums.Goals.{then-word, else-word}

pub bounds-table-number : goal.bounds-table-number
bounds-table-number c =
    let v = c.args.numbering.now in
    let same : number_count v.entries ≡ number_count c.args.trie.now = ap (λ (w : NumberingView). number_count w.entries) c.requires.numbering in
    omega (arith, c.loop-number-test.true, c.requires.count, same, c.requires.closure.settled.count, graph_count v.entries v.words)

pub note-requires-clause-settled : goal.note-requires-clause-settled
note-requires-clause-settled c =
    let v = c.args.numbering.now in
    let number = c.loop-number.number in
    let same : number_count v.entries ≡ number_count c.args.trie.now = ap (λ (w : NumberingView). number_count w.entries) c.requires.numbering in
    let below : number < length c.args.table.now = omega (arith, c.loop-number-test.true, c.requires.count, same, c.requires.closure.settled.count, graph_count v.entries v.words) in
    subst (λ (w : NumberingView). IsSettledWord 0 (kept_lists w.entries w.words) number (get_or c.args.table.now number 0)) c.requires.numbering (c.requires.closure.settled.each number below)

pub loop-number-preserved : goal.loop-number-preserved
loop-number-preserved c =
    let v = c.args.numbering.now in
    let entries = c.args.trie.now in
    let words = words_in entries c.args.words.now in
    let number = c.loop-number.number in
    let same : number_count v.entries ≡ number_count c.args.trie.now = ap (λ (w : NumberingView). number_count w.entries) c.requires.numbering in
    let below : number < length c.args.table.now = omega (arith, c.loop-number-test.true, c.requires.count, same, c.requires.closure.settled.count, graph_count v.entries v.words) in
    let few : number_count entries ≤ 33554432 = subst (λ (w : NumberingView). number_count w.entries ≤ 33554432) c.requires.numbering c.requires.closure.few in
    record {
      fits = omega arith;
      first = elim c.if-word.branch [
        | then-word w ↦ rw w.least-is w.note.ensures
        | else-word w ↦
            rw w.least-is (sums_passed entries words number (get_or c.args.table.now number 0) c.loop-number.least.items few
            (subst (λ (w : NumberingView). IsSettledWord 0 (kept_lists w.entries w.words) number (get_or c.args.table.now number 0)) c.requires.numbering (c.requires.closure.settled.each number below))
            w.if-word.false c.loop-number.invariant.first)
      ];
    }

pub returns : goal.returns
returns c =
    let entries = c.args.trie.now in
    let words = words_in entries c.args.words.now in
    let all : c.loop-number.number ≡ number_count entries = omega (arith, c.loop-number-test.false, c.loop-number.invariant.fits, c.requires.count) in
    subst (λ (n : ℕ). AreFirstSums entries words n c.loop-number.least.items) all c.loop-number.invariant.first
