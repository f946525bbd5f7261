use Rattle.brief_trial.proofs.MadeTrials.{found_of}
use Rattle.brief_trial.proofs.searching.search_entry.Goals as goal

pub returns-clause-found : goal.returns-clause-found
returns-clause-found c =
    found_of c.in_ok-numbering.numbering c.new-graph.result c.in_ok-trie.trie c.args.entries.now c.in_ok-words.words c.args.words.now c.in_ok-searched.searched c.words-2.result.now c.args.entry
    c.in_ok-rows.rows.items c.in_ok-trie.ensures.built c.in_ok-numbering.ensures.numbered c.in_ok-words.ensures.words c.new-graph.ensures c.in_ok-searched.ensures c.words-2.ensures
    c.in_ok-rows.ensures.exact c.in_ok-rows.ensures.chosen
