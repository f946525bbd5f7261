use Rattle.std.proofs.Common.{◌≡◌, All, length}
use Rattle.steno_rules.specs.Outlines.{IsOutline}
use Rattle.report_json.specs.inside.Tokens.{each_token, word_tokens}
use Rattle.report_json.proofs.taking.take_words.Given as goal

-- the words so far
abbrev pub invariant-words : goal.invariant-words
invariant-words l = record {
  taken : l.initial.reader ≡ each_token word_tokens l.words.items l.reader;
  are : All IsOutline l.words.items;
}

abbrev pub decreases-words : goal.decreases-words
decreases-words l = length l.reader
