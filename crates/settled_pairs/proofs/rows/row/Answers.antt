use Rattle.std.proofs.Common.{◌≡◌, ◌-◌, ◌/◌, ◌%◌, ◌++◌, subst}
use Rattle.steno_rules.specs.WordSets.{words_in}
use Rattle.closure_laws.specs.Examples.{example}
use Rattle.state_numbering.specs.Numberings.{NumberingView, numbering_of}
use Rattle.conflict_example.specs.inside.Closures.{IsClosure}
use Rattle.conflict_example.specs.inside.Spellings.{if_there, numbers_among}
use Rattle.settled_pairs.proofs.FoundRows.{number_open, row_of_sum, row_walk}
use Rattle.settled_pairs.proofs.rows.row.Goals as goal

pub finish_at-finish-requires-clause-opened : goal.finish_at-finish-requires-clause-opened
finish_at-finish-requires-clause-opened c =
    let closure : IsClosure (numbering_of c.args.trie.now c.args.words.now) c.args.table.now = subst (λ (v : NumberingView). IsClosure v c.args.table.now) c.requires.numbering c.requires.closure in
    number_open c.args.trie.now (words_in c.args.trie.now c.args.words.now) c.args.entry c.args.place c.args.hit closure.few c.requires.hit

pub example-requires : goal.example-requires
example-requires c =
    let closure : IsClosure (numbering_of c.args.trie.now c.args.words.now) c.args.table.now = subst (λ (v : NumberingView). IsClosure v c.args.table.now) c.requires.numbering c.requires.closure in
    row_walk c.args.trie.now (words_in c.args.trie.now c.args.words.now) c.args.table.now c.args.entry c.args.place c.args.hit c.finish_at-finish.result closure.are_entries closure.few closure.settled c.requires.hit c.finish_at-finish.ensures

pub returns-clause-found : goal.returns-clause-found
returns-clause-found c =
    let entries = c.args.trie.now in
    let words = words_in entries c.args.words.now in
    let table = c.args.table.now in
    let hit = c.args.hit in
    let f = c.finish_at-finish.result in
    let closure : IsClosure (numbering_of entries c.args.words.now) table = subst (λ (v : NumberingView). IsClosure v table) c.requires.numbering c.requires.closure in
    let made : c.in_ok-made.made.items ≡ numbers_among entries (example entries words table (hit / 4294967296 - f.strokes) (hit % 4294967296)) =
    subst (λ (v : NumberingView). c.in_ok-made.made.items ≡ numbers_among v.entries (example v.entries v.words table (hit / 4294967296 - f.strokes) (hit % 4294967296))) c.requires.numbering c.in_ok-made.ensures in
    let all : c.push_ended.new.made.items ≡ c.in_ok-made.made.items ++ if_there f.word = c.in_ok-push_ended.ensures in
    rw (c.new.ensures, all)
    (row_of_sum entries words table c.args.entry c.args.place hit f c.in_ok-made.made.items closure.are_entries closure.are_words c.requires.outlines closure.few closure.settled c.requires.entry c.requires.hit
    c.finish_at-finish.ensures made)
