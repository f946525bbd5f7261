use Rattle.steno_order.proofs.Lists.{SpellingOfAll-strokes, strokes-SpellingOfAll, SpellingOfAll-unique}
use Rattle.steno_order.proofs.ListLaws.{SpellingOfAll-IsStroke, SpellingOfAll-length, SpellingOfAll-some, spelt_strokes-none, none-spelt_strokes}
use Rattle.steno_order.proofs.laws.list_spellings.Goals as goal

pub returns : goal.returns
returns c = record {
  read = λ text strokes. (SpellingOfAll-strokes text strokes, strokes-SpellingOfAll text strokes);
  one = SpellingOfAll-unique;
  strokes = SpellingOfAll-IsStroke;
  parts = SpellingOfAll-length;
  not_empty = SpellingOfAll-some;
  none = λ text. (spelt_strokes-none text, λ first. none-spelt_strokes text first.0 first.1);
}
