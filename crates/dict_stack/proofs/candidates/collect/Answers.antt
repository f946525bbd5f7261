use Rattle.std.proofs.Common.{◌≡◌, length, get_or, false, subst, rules, arith}
use Rattle.std.proofs.lemmas.Iterator.Consumers.{YieldsList-turn}
use Rattle.std.proofs.lemmas.Iterator.Adapters.{YieldsList-from_vec}
use Rattle.dict_stack.proofs.CollectLemmas.{AddsDictionary, places, collected_push}
use Rattle.dict_stack.proofs.candidates.collect.Goals as goal

pub bounds-word_files-len : goal.bounds-word_files-len
bounds-word_files-len c =
    let turn = YieldsList-turn (YieldsList-from_vec {s = c.into_iter-dictionary-iterator.result} c.args.dictionaries.items (search rules) (search rules))
    c.loop-dictionary.yielded c.loop-dictionary.dictionary-iterator c.loop-dictionary.yielded_by c.next.result c.next.new.self c.in-Some.dictionary c.in-Some.is c.next.ensures.steps in
    let count = places c.loop-dictionary.yielded c.args.word_files.now c.loop-dictionary.collected c.loop-dictionary.invariant in
    omega (arith, turn.0, count, c.len-in-loop-dictionary.ensures, c.requires.each)

pub add-requires : goal.add-requires
add-requires c =
    let turn = YieldsList-turn (YieldsList-from_vec {s = c.into_iter-dictionary-iterator.result} c.args.dictionaries.items (search rules) (search rules))
    c.loop-dictionary.yielded c.loop-dictionary.dictionary-iterator c.loop-dictionary.yielded_by c.next.result c.next.new.self c.in-Some.dictionary c.in-Some.is c.next.ensures.steps in
    let count = places c.loop-dictionary.yielded c.args.word_files.now c.loop-dictionary.collected c.loop-dictionary.invariant in
    record {
      few = omega (arith, turn.0, count, c.requires.few);
      few_keys = omega (arith, count, c.loop-dictionary.invariant.few_keys);
    }

pub loop-dictionary-preserved : goal.loop-dictionary-preserved
loop-dictionary-preserved c =
    let adds = c.in_ok-add.ensures in
    let count = places c.loop-dictionary.yielded c.args.word_files.now c.loop-dictionary.collected c.loop-dictionary.invariant in
    let place : c.len-in-loop-dictionary.result ≡ length c.loop-dictionary.yielded = omega (arith, count, c.len-in-loop-dictionary.ensures) in
    collected_push c.loop-dictionary.yielded c.in-Some.dictionary c.args.word_files.now c.loop-dictionary.collected c.add.new.self c.loop-dictionary.invariant
    (subst (λ n. AddsDictionary c.loop-dictionary.collected c.in-Some.dictionary (get_or c.args.word_files.now n false) c.add.new.self) place (record {
      candidates = adds.candidates;
      skipped = adds.skipped;
      skipped_total = adds.skipped_total;
      folded_total = adds.folded_total;
      are_outlines = adds.are_outlines;
      few_more = adds.few_more;
    }))
