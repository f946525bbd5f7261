use Rattle.std.proofs.Common.{◌≡◌, ◌-◌, ◌^◌}
use Rattle.steno_rules.specs.WordSets.{words_in}
use Rattle.closure_state.specs.inside.Strokes.{AreStrokes, left_of}
use Rattle.closure_state.proofs.strokes.Strokes.refill.Given as goal

abbrev pub invariant-loop-step : goal.invariant-loop-step
invariant-loop-step l = record {
  strokes_are : AreStrokes l.trie (words_in l.trie l.words) l.state l.self;
  left : left_of l.trie (words_in l.trie l.words) l.state l.initial.self ≡ left_of l.trie (words_in l.trie l.words) l.state l.self;
}

abbrev pub decreases-loop-step : goal.decreases-loop-step
decreases-loop-step l = 2 ^ 32 - l.self.bound
