-- The finishes of a state are the ways below its open word's node.
use Rattle.std.proofs.Common.{◌≡◌, ◌≢◌, ℕ, ◌+◌, ◌-◌, ◌<◌, List, [], ◌∷◌, length, refl, sym, ap, subst, ◌∙◌, arith, true, inl, inr, Some, None}
use Rattle.std.specs.List.{concat}
use Rattle.std.proofs.lemmas.Bool.{cases_lt}
use Rattle.steno_rules.specs.Segments.{last_piece}
use Rattle.steno_rules.specs.Windows.{is_prefix}
use Rattle.steno_rules.specs.States.{State}
use Rattle.translation_laws.proofs.FrontLemmas.{last_piece-at}
use Rattle.translation_laws.proofs.PieceLemmas.{piece-some, pieces-are}
use Rattle.translation_laws.proofs.WindowEnds.{window-whole}
use Rattle.outline_trie.specs.Tries.{node_strokes}
use Rattle.outline_trie.proofs.LookLemmas.{root_is}
use Rattle.match_window.proofs.RowLemmas.{node_some}
use Rattle.closure_state.specs.declared.state.State as nodes
use Rattle.closure_state.specs.NodeStates.{IsNodeState, state_at}
use Rattle.settled_laws.specs.OpenHits.{CanFinish}
use Rattle.steno_rules.proofs.SegmentLemmas.{last_piece-short}
use Rattle.settled_pairs.specs.Finishes.{HasNoFinish, IsFinishOf}
use Rattle.settled_pairs.specs.inside.Ways.{HasNoWay, IsNearestWay, IsWay, Passes}
use Rattle.settled_pairs.proofs.KeepLemmas.{keeps_passes, passes_keeps}

-- a last piece has strokes
last_some : (entries : List (List ℕ)) (x e : List ℕ) → last_piece entries x ≡ Some e → 0 < length e
last_some entries x e last =
    let there = last_piece-at entries x e last in
    piece-some entries e (concat there.after) (pieces-are entries x there.before e there.after there.split)

-- and stands at the end
at_end : (entries : List (List ℕ)) (x e : List ℕ) → last_piece entries x ≡ Some e → length x ≡ (length x - length e) + length e + 0
at_end entries x e last = omega (arith, last_piece-short entries x e last)

-- What finishes is a way,
way_of_can : (entries words : List (List ℕ)) (s : State) (e z : List ℕ) → is_prefix entries s.u ≡ true → last_piece entries s.u ≡ Some e → s.v ≢ [] → CanFinish entries words s e z → IsWay entries words s.v s.u 0 (length z) z
way_of_can entries words s e z begins last some (inl h) = absurd (some h.0)
way_of_can entries words s e z begins last some (inr h) = record {
  long = refl;
  word = h.1.word;
  passes = subst (λ w. Passes entries w 0 z) (window-whole entries s.u begins) (keeps_passes entries s.u e (length s.u - length e) 0 z (at_end entries s.u e last) h.1.piece);
}

-- and a way finishes.
can_of_way : (entries words : List (List ℕ)) (s : State) (e z : List ℕ) (n : ℕ) → is_prefix entries s.u ≡ true → last_piece entries s.u ≡ Some e → s.v ≢ [] → IsWay entries words s.v s.u 0 n z → CanFinish entries words s e z
can_of_way entries words s e z n begins last some h = inr (
  some,
  record {
    word = h.word;
    piece = passes_keeps entries s.u e (length s.u - length e) 0 z (last_piece-at entries s.u e last) (last_some entries s.u e last) (at_end entries s.u e last)
        (subst (λ w. Passes entries w 0 z) (sym (window-whole entries s.u begins)) h.passes);
  },
)

-- ---- the finish

-- Without an open word nothing is left to write.
finish_closed : (entries words : List (List ℕ)) (s : State) → s.v ≡ [] → IsFinishOf entries words s (record { strokes = 0; word = None })
finish_closed entries words s closed e last = record { ends = (closed, refl); least = λ y can. omega arith }

-- With one the nearest way is the finish,
finish_nearest : (entries words : List (List ℕ)) (s : State) (n w : ℕ) → is_prefix entries s.u ≡ true → s.v ≢ [] → IsNearestWay entries words s.v s.u (n, w) → IsFinishOf entries words s (record { strokes = n; word = Some w })
finish_nearest entries words s n w begins some h e last = record {
  ends = (
    some,
    record {
      z = h.first.z;
      can = can_of_way entries words s e h.first.z n begins last some h.first.way;
      strokes = h.first.way.long;
      entry = h.first.entry;
      is = h.first.is;
      first = λ other y inside is can long.
          h.first.first other y inside is (subst (λ k. IsWay entries words s.v s.u 0 k y) long (way_of_can entries words s e y begins last some can));
    },
  );
  least = λ y can. elim (cases_lt (length y) n) [
    | inl lt ↦ absurd (h.none_shorter (length y) lt y (way_of_can entries words s e y begins last some can))
    | inr ge ↦ omega arith
  ];
}

-- and where there is none, nothing finishes.
finish_none : (entries words : List (List ℕ)) (s : State) → is_prefix entries s.u ≡ true → s.v ≢ [] → ((left : ℕ) → HasNoWay entries words s.v s.u 0 left) → HasNoFinish entries words s
finish_none entries words s begins some none e z last can = none (length z) z (way_of_can entries words s e z begins last some can)

-- ---- by nodes

pub finish_at_root : (entries words : List (List ℕ)) (s : nodes.State) → s.word ≡ 0 → IsFinishOf entries words (state_at entries s) (record { strokes = 0; word = None })
finish_at_root entries words s root = finish_closed entries words (state_at entries s) (ap (node_strokes entries) root ∙ root_is entries)

-- The open word has a stroke.
pub word_some : (entries words : List (List ℕ)) (s : nodes.State) → IsNodeState entries words s → (s.word ≡ 0 → ⊥) → node_strokes entries s.word ≢ []
word_some entries words s is other = node_some entries s.word is.word other

some_long : (x : List ℕ) → x ≢ [] → 0 < length x
some_long [] some = absurd (some refl)
some_long (c ∷ x) some = omega arith

pub word_long : (entries words : List (List ℕ)) (s : nodes.State) → IsNodeState entries words s → (s.word ≡ 0 → ⊥) → 0 < length (node_strokes entries s.word)
word_long entries words s is other = some_long (node_strokes entries s.word) (word_some entries words s is other)

pub finish_found : (entries words : List (List ℕ)) (s : nodes.State) (n w : ℕ) → IsNodeState entries words s → (s.word ≡ 0 → ⊥) → IsNearestWay entries words (node_strokes entries s.word) (node_strokes entries s.window) (n, w) →
    IsFinishOf entries words (state_at entries s) (record { strokes = n; word = Some w })
finish_found entries words s n w is other h = finish_nearest entries words (state_at entries s) n w is.state.window (word_some entries words s is other) h

pub finish_lost : (entries words : List (List ℕ)) (s : nodes.State) → IsNodeState entries words s → (s.word ≡ 0 → ⊥) → ((left : ℕ) → HasNoWay entries words (node_strokes entries s.word) (node_strokes entries s.window) 0 left) →
    HasNoFinish entries words (state_at entries s)
finish_lost entries words s is other none = finish_none entries words (state_at entries s) is.state.window (word_some entries words s is other) none
