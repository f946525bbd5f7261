use Rattle.std.proofs.Common.{◌≡◌, ◌+◌, ◌-◌, true, false, get_or, take, take_all, sym, subst, ◌∙◌, arith}
use Rattle.std.proofs.lemmas.List.{take_more}
use Rattle.steno_rules.specs.Outlines.{is_word}
use Rattle.steno_rules.specs.WordSets.{words_in}
use Rattle.outline_trie.specs.Tries.{node_strokes}
use Rattle.closure_state.proofs.RowLemmas.{child_ends, child_inside}
use Rattle.closure_state.proofs.WaitLemmas.{is_word_flag}
use Rattle.settled_pairs.proofs.WayLemmas.{NoWayAmong, among_more, among_none, child_at, first_found, no_way_among, no_way_behind, no_way_here, none_behind, none_by, way_here}
use Rattle.settled_pairs.specs.inside.Ways.{IsStepOn}
use Rattle.settled_pairs.proofs.ways.+first_way.Goals.{in-Some+else-is_some, in_default}
use Rattle.settled_pairs.proofs.ways.+first_way.Goals as goal

pub returns-then-is_word : goal.returns-then-is_word
returns-then-is_word t c =
    let entries = c.args.trie.now in
    let words = words_in entries c.args.words.now in
    let word : is_word words (node_strokes entries c.args.node) ≡ true = sym (is_word_flag entries c.args.words.now c.args.node c.requires.node) ∙ sym c.is_word.ensures ∙ c.if-is_word.true in
    way_here entries words (node_strokes entries c.args.node) (node_strokes entries c.args.window) c.args.passed c.args.left c.entry.result c.requires.words.are_words c.if-left-eq0.true word c.entry.ensures

pub returns-else-is_word : goal.returns-else-is_word
returns-else-is_word t c =
    let entries = c.args.trie.now in
    let words = words_in entries c.args.words.now in
    let none : is_word words (node_strokes entries c.args.node) ≡ false = sym (is_word_flag entries c.args.words.now c.args.node c.requires.node) ∙ sym c.is_word.ensures ∙ c.if-is_word.false in
    no_way_here entries words (node_strokes entries c.args.node) (node_strokes entries c.args.window) c.args.passed c.args.left c.if-left-eq0.true none

pub loop-pair-init : goal.loop-pair-init
loop-pair-init t c = among_none c.args.trie.now (words_in c.args.trie.now c.args.words.now) (node_strokes c.args.trie.now c.args.node) (node_strokes c.args.trie.now c.args.window) c.args.passed c.args.left

pub window_by-requires-clause-child : goal.window_by-requires-clause-child
window_by-requires-clause-child t c =
    let kids = c.children-pair-items.result.now in
    let i = c.loop-pair.pair-index in
    child_inside c.args.trie.now c.args.node (get_or kids i (0, 0)).0 (get_or kids i (0, 0)).1 (child_at c.args.trie.now c.args.node kids i c.children-pair-items.ensures c.loop-pair-test.true)

pub first_way-found-requires : goal.first_way-found-requires
first_way-found-requires t c =
    let entries = c.args.trie.now in
    let kids = c.children-pair-items.result.now in
    let pair = get_or kids c.loop-pair.pair-index (0, 0) in
    let child = child_at entries c.args.node kids c.loop-pair.pair-index c.children-pair-items.ensures c.loop-pair-test.true in
    let step : IsStepOn entries (node_strokes entries c.args.window) pair.0 c.args.passed c.in-Some.next =
    c.in-Some.ensures (words_in entries c.args.words.now) (node_strokes entries c.args.node) pair.0 c.requires.near (child_ends entries c.args.node pair.0 pair.1 child) in (
      omega (arith, c.decreases, c.if-left-eq0.false),
      (c.requires.windows, (c.requires.words, (c.requires.near, (child_inside entries c.args.node pair.0 pair.1 child, (step.inside, omega (arith, c.requires.short, c.if-left-eq0.false)))))),
    )

pub returns-then-is_some : goal.returns-then-is_some
returns-then-is_some t c =
    let entries = c.args.trie.now in
    let words = words_in entries c.args.words.now in
    let kids = c.children-pair-items.result.now in
    let i = c.loop-pair.pair-index in
    let pair = get_or kids i (0, 0) in
    let child = child_at entries c.args.node kids i c.children-pair-items.ensures c.loop-pair-test.true in
    let is = child_ends entries c.args.node pair.0 pair.1 child in
    let step : IsStepOn entries (node_strokes entries c.args.window) pair.0 c.args.passed c.in-Some.next =
    c.in-Some.ensures words (node_strokes entries c.args.node) pair.0 c.requires.near is in
    first_found entries words c.args.node (node_strokes entries c.args.window) c.args.passed c.args.left i c.in-Some.next kids c.requires.words.are_words (omega (arith, c.if-left-eq0.false))
    c.children-pair-items.ensures c.loop-pair-test.true c.loop-pair.invariant is step c.first_way-found.result (sym c.is_some.ensures ∙ c.if-is_some.true) c.first_way-found.ensures

pub loop-pair-preserved : goal.loop-pair-preserved
loop-pair-preserved t c =
    let entries = c.args.trie.now in
    let words = words_in entries c.args.words.now in
    let front = node_strokes entries c.args.node in
    let behind = node_strokes entries c.args.window in
    let kids = c.children-pair-items.result.now in
    let i = c.loop-pair.pair-index in
    let pair = get_or kids i (0, 0) in
    let child = child_at entries c.args.node kids i c.children-pair-items.ensures c.loop-pair-test.true in
    let is = child_ends entries c.args.node pair.0 pair.1 child in
    subst (NoWayAmong entries words front behind c.args.passed c.args.left) (sym (take_more kids i (0, 0) c.loop-pair-test.true))
    (among_more entries words front behind c.args.passed c.args.left (take i kids) pair c.loop-pair.invariant (elim c.match-window_by.branch [
      | in-Some+else-is_some w ↦
          no_way_behind entries words front behind pair.0 c.args.passed c.args.left pair.1 w.in-Some.next is (w.in-Some.ensures words front pair.0 c.requires.near is)
          (none_behind entries words (node_strokes entries pair.1) (node_strokes entries w.in-Some.next) (c.args.passed + 1) (c.args.left - 1) w.first_way-found.result (sym w.is_some.ensures ∙ w.if-is_some.false) w.first_way-found.ensures)
      | in_default w ↦
          none_by entries words front behind pair.0 c.args.passed c.args.left c.window_by.result w.in_default.is (c.window_by.ensures words front pair.0 c.requires.near is)
    ]))

pub returns : goal.returns
returns t c =
    let entries = c.args.trie.now in
    let words = words_in entries c.args.words.now in
    let kids = c.children-pair-items.result.now in
    let all = take_all c.loop-pair.pair-index kids (omega (arith, c.loop-pair-test.false)) in
    no_way_among entries words c.args.node (node_strokes entries c.args.window) c.args.passed c.args.left kids c.requires.words.are_words (omega (arith, c.if-left-eq0.false)) c.children-pair-items.ensures
    (subst (NoWayAmong entries words (node_strokes entries c.args.node) (node_strokes entries c.args.window) c.args.passed c.args.left) all c.loop-pair.invariant)
