-- What two readings are after one move, by the nodes of two forks.
use Rattle.std.proofs.Common.{◌≡◌, ◌≢◌, ℕ, List, [], ◌∷◌, refl, sym, ap, ap₂, ◌∙◌, true, false, Some, None}
use Rattle.outline_trie.specs.Tries.{IsNode, node_strokes}
use Rattle.outline_trie.proofs.LookLemmas.{number_there, root_is, root_number}
use Rattle.reading_laws.specs.Forks.{Fork, Same, Differ, End}
use Rattle.reading_laws.specs.ChosenReadings.{Halves, end_word, halves_on, longer_in, one_ended}
use Rattle.free_parse.specs.declared.fork.NodeFork.{NodeFork}
use Rattle.free_parse.specs.inside.Forks.{fork_by, fork_of}

-- The readings differ for the first time.
pub on_first : (entries : List (List ℕ)) (from to : NodeFork) (other : ℕ) (h : Halves) → from.shorter ≡ None → to.shorter ≡ Some other →
    halves_on (fork_by entries from) (fork_by entries to) h ≡ longer_in false (end_word true (node_strokes entries to.longer) h)
on_first entries from to other h a b = ap₂ (λ x y. halves_on (fork_of entries from.longer x) (fork_of entries to.longer y) h) a b

-- One of them ends its word.
pub on_one : (entries : List (List ℕ)) (from to : NodeFork) (shorter other : ℕ) (h : Halves) → from.shorter ≡ Some shorter → to.shorter ≡ Some other → other ≡ 0 →
    halves_on (fork_by entries from) (fork_by entries to) h ≡ one_ended (node_strokes entries from.longer) (node_strokes entries shorter) (node_strokes entries to.longer) h
on_one entries from to shorter other h a b root =
    ap₂ (λ x y. halves_on (fork_of entries from.longer x) (fork_of entries to.longer y) h) a b
    ∙ ap (λ r. halves_on (Differ (node_strokes entries from.longer) (node_strokes entries shorter)) (Differ (node_strokes entries to.longer) r) h) (ap (node_strokes entries) root ∙ root_is entries)

-- only the root has no strokes
some_strokes : (entries : List (List ℕ)) (node : ℕ) → IsNode entries node → (node ≡ 0 → ⊥) → node_strokes entries node ≢ []
some_strokes entries node inside other none =
    let wrong : Some node ≡ Some 0 = sym (number_there entries [] node inside none) ∙ root_number entries in
    other cc

both_go_on : (p q w r : List ℕ) (h : Halves) → r ≢ [] → halves_on (Differ p q) (Differ w r) h ≡ h
both_go_on p q w [] h some = absurd (some refl)
both_go_on p q w (c ∷ r) h some = refl

-- Both go on.
pub on_both : (entries : List (List ℕ)) (from to : NodeFork) (shorter other : ℕ) (h : Halves) → from.shorter ≡ Some shorter → to.shorter ≡ Some other → IsNode entries other → (other ≡ 0 → ⊥) →
    halves_on (fork_by entries from) (fork_by entries to) h ≡ h
on_both entries from to shorter other h a b inside some =
    ap₂ (λ x y. halves_on (fork_of entries from.longer x) (fork_of entries to.longer y) h) a b
    ∙ both_go_on (node_strokes entries from.longer) (node_strokes entries shorter) (node_strokes entries to.longer) (node_strokes entries other) h (some_strokes entries other inside some)

-- A move to the end changes nothing yet.
pub on_end : (s : Fork) (h : Halves) → halves_on s End h ≡ h
on_end (Same p) h = refl
on_end (Differ p q) h = refl
on_end End h = refl
