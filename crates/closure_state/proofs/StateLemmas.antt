-- Which numbers stand for a state, and for a hit.
use Rattle.std.proofs.Common.{◌≡◌, ℕ, zero, suc, ◌-◌, ◌<◌, ◌≤◌, List, [], ◌∷◌, length, drop, refl, sym, ap, subst, ◌∙◌, arith, true, false, true≢false, inl, inr, ◌⊎◌, ◌↔◌, Option, Some, None, nat_eq, IfSome, IsTrue}
use Rattle.std.specs.Prelude.{option_map, is_some}
use Rattle.std.specs.Cmp.Lexicographic.{bytes_decides}
use Rattle.std.proofs.lemmas.Bool.{cases_lt, le-leb, eqb-true, eq-eqb}
use Rattle.std.proofs.lemmas.List.{get_or_default}
use Rattle.steno_rules.specs.Outlines.{is_entry, entry_number, outline_of}
use Rattle.steno_rules.specs.Nodes.{nodes}
use Rattle.steno_rules.specs.Segments.{last_piece}
use Rattle.steno_rules.specs.States.{is_open, IsHit, IsHitMark}
use Rattle.steno_rules.proofs.Numbers.{entry_number-Some, number_test}
use Rattle.steno_rules.proofs.Entries.{is_entry-Decides}
use Rattle.std.proofs.lemmas.List.Elements.{Contains-get_or}
use Rattle.steno_rules.proofs.NodeLemmas.{nodes-Contains}
use Rattle.stroke.specs.Pieces.{piece_of}
use Rattle.stroke.specs.declared.pieces.Piece.{Piece}
use Rattle.closure_laws.proofs.StateLemmas.{EndsOther}
use Rattle.closure_laws.proofs.StateNumberLemmas.{end_of}
use Rattle.outline_trie.specs.Tries.{IsNode, node_strokes, suffix_of}
use Rattle.outline_trie.proofs.LookLemmas.{number_there, root_is}
use Rattle.match_window.proofs.RowLemmas.{node_some}
use Rattle.steno_rules.proofs.SegmentLemmas.{last_piece-short}
use Rattle.closure_state.specs.declared.state.State.{State}
use Rattle.closure_state.specs.NodeStates.{state_at, IsNodeState, IsNodeHit}

-- the node of a node's last strokes
suffix_at : (entries : List (List ℕ)) (node d : ℕ) → d ≤ length (node_strokes entries node) → suffix_of entries node d ≡ entry_number (nodes entries) (drop (length (node_strokes entries node) - d) (node_strokes entries node))
suffix_at entries node d short = rw (le-leb d (length (node_strokes entries node)) short) refl

-- A node is the end of another one where that is its suffix,
pub end_told : (entries : List (List ℕ)) (node end d : ℕ) → d ≡ length (node_strokes entries end) → length (node_strokes entries end) ≤ length (node_strokes entries node) → suffix_of entries node d ≡ Some end → EndsOther (node_strokes entries node) (node_strokes entries end)
end_told entries node end d long short found =
    let u : List ℕ = node_strokes entries node in
    let v : List ℕ = node_strokes entries end in
    let at = entry_number-Some (nodes entries) (drop (length u - d) u) end (sym (suffix_at entries node d (omega (arith, long, short))) ∙ found) in
    inl ((bytes_decides v (drop (length u - length v) u)).1 (at.1 ∙ ap (λ n. drop (length u - n) u) long))

-- and in no other case.
pub end_is : (entries : List (List ℕ)) (node end d : ℕ) → d ≡ length (node_strokes entries end) → length (node_strokes entries end) ≤ length (node_strokes entries node) → IsNode entries end → EndsOther (node_strokes entries node) (node_strokes entries end) → suffix_of entries node d ≡ Some end
end_is entries node end d long short inside ends =
    let u : List ℕ = node_strokes entries node in
    let v : List ℕ = node_strokes entries end in
    suffix_at entries node d (omega (arith, long, short)) ∙ number_there entries (drop (length u - d) u) end inside (end_of u v ends short ∙ ap (λ n. drop (length u - n) u) (sym long))

-- Numbers of nodes stand for a state where the word is open, the mark inside and one an end of the other.
pub node_state : (entries words : List (List ℕ)) (s : State) → IsNode entries s.window → IsNode entries s.word → is_open words (node_strokes entries s.word) ≡ true → EndsOther (node_strokes entries s.window) (node_strokes entries s.word) →
    IfSome s.mark (λ m. (length (node_strokes entries s.word) ≤ m) × (m < length (node_strokes entries s.window))) → IsNodeState entries words s
node_state entries words s window word opens ends mark = record {
  window = window;
  word = word;
  state = record {
    window = (nodes-Contains entries (node_strokes entries s.window)).0 (s.window, window, get_or_default (nodes entries) s.window (node_strokes entries s.window) [] window);
    word = opens;
    ends = ends;
    marked = mark;
  };
}

-- The look-up of the suffix is the test.
pub ends_some : (entries : List (List ℕ)) (node end d found : ℕ) → d ≡ length (node_strokes entries end) → length (node_strokes entries end) ≤ length (node_strokes entries node) → IsNode entries end → Some found ≡ suffix_of entries node d →
    IsTrue (nat_eq found end) ↔ EndsOther (node_strokes entries node) (node_strokes entries end)
ends_some entries node end d found long short inside is = (
  λ t. end_told entries node end d long short (sym is ∙ ap (λ n. Some n) (eqb-true found end t)),
  λ ends. (let same : Some found ≡ Some end = is ∙ end_is entries node end d long short inside ends in eq-eqb found end cc),
)

pub ends_none : (entries : List (List ℕ)) (node end d : ℕ) → d ≡ length (node_strokes entries end) → length (node_strokes entries end) ≤ length (node_strokes entries node) → IsNode entries end → None ≡ suffix_of entries node d →
    IsTrue false ↔ EndsOther (node_strokes entries node) (node_strokes entries end)
ends_none entries node end d long short inside is = (
  λ t. absurd (true≢false (sym t)),
  λ ends. (let same : None ≡ Some end = is ∙ end_is entries node end d long short inside ends in cc),
)

-- ---- hits

-- With an open word there is no hit.
pub no_hit_open : (entries : List (List ℕ)) (s : State) → IsNode entries s.word → (s.word ≡ 0 → ⊥) → (e place : ℕ) → IsHit entries (state_at entries s) e place → ⊥
no_hit_open entries s inside other e place h = node_some entries s.word inside other h.between_words

-- of a number past the entries there is no outline
outline_past : (entries : List (List ℕ)) (e : ℕ) → length entries ≤ e → outline_of entries e ≡ []
outline_past [] e h = refl
outline_past (x ∷ entries) zero h = absurd (omega (arith, h))
outline_past (x ∷ entries) (suc e) h = outline_past entries e (omega (arith, h))

-- Where the last piece is no entry there is no hit.
pub no_hit_lone : (entries : List (List ℕ)) (s : State) (piece : Piece) → Some piece ≡ option_map (piece_of entries) (last_piece entries (node_strokes entries s.window)) → piece.entry ≡ None → (e place : ℕ) → IsHit entries (state_at entries s) e place → ⊥
no_hit_lone entries s piece is none e place h =
    let at : Some piece ≡ Some (piece_of entries (outline_of entries e)) = is ∙ ap (option_map (piece_of entries)) h.piece in
    let same : piece ≡ piece_of entries (outline_of entries e) = cc in
    let apart : entry_number entries (outline_of entries e) ≡ None = ap (λ (p : Piece). p.entry) (sym same) ∙ none in
    elim (cases_lt e (length entries)) [
      | inl lt ↦
          let has : is_entry entries (outline_of entries e) ≡ true = (is_entry-Decides entries (outline_of entries e)).1 (Contains-get_or entries e [] lt) in
          true≢false (sym has ∙ sym (number_test entries (outline_of entries e)) ∙ ap is_some apart)
      | inr past ↦ no_mark s.mark (ap length (outline_past entries e past)) h.mark
    ]
  where
    no_mark : (m : Option ℕ) → length (outline_of entries e) ≡ 0 → IsHitMark m (length (outline_of entries e)) place → ⊥
    no_mark None long k = k
    no_mark (Some m) long k = omega (arith, long, k.1)

-- The pieces of a hit.
pub hit_there : (entries : List (List ℕ)) (s : State) (piece : Piece) (m entry place : ℕ) → Some piece ≡ option_map (piece_of entries) (last_piece entries (node_strokes entries s.window)) → piece.entry ≡ Some entry → s.word ≡ 0 → s.mark ≡ Some m →
    1 ≤ m → m < piece.len → place ≡ piece.len - m → IsNodeHit entries s (record { entry = entry; place = place })
hit_there entries s piece m entry place is found root mark some inside at = by (last_piece entries (node_strokes entries s.window)) refl is
  where
    by : (o : Option (List ℕ)) → last_piece entries (node_strokes entries s.window) ≡ o → Some piece ≡ option_map (piece_of entries) o → IsNodeHit entries s (record { entry = entry; place = place })
    by None last e = cc
    by (Some p) last e =
        let same : piece ≡ piece_of entries p = cc in
        let number : entry_number entries p ≡ Some entry = ap (λ (q : Piece). q.entry) (sym same) ∙ found in
        let there = entry_number-Some entries p entry number in
        let long : piece.len ≡ length (outline_of entries entry) = ap (λ (q : Piece). q.len) same ∙ ap length (sym there.1) in record {
          entry = there.0;
          hit = record {
            between_words = ap (node_strokes entries) root ∙ root_is entries;
            piece = last ∙ ap (λ x. Some x) (sym there.1);
            mark = subst (λ o. IsHitMark o (length (outline_of entries entry)) place) (sym mark) (some, omega (arith, inside, long), omega (arith, at, long));
          };
        }

-- Where the mark lies at the start of the last piece or before it there is no hit.
pub no_hit_mark : (entries : List (List ℕ)) (s : State) (piece : Piece) (m : ℕ) → Some piece ≡ option_map (piece_of entries) (last_piece entries (node_strokes entries s.window)) → s.mark ≡ Some m → (m ≡ 0) ⊎ (piece.len ≤ m) → (e place : ℕ) → IsHit entries (state_at entries s) e place → ⊥
no_hit_mark entries s piece m is mark out e place h =
    let at : Some piece ≡ Some (piece_of entries (outline_of entries e)) = is ∙ ap (option_map (piece_of entries)) h.piece in
    let same : piece ≡ piece_of entries (outline_of entries e) = cc in
    let long : piece.len ≡ length (outline_of entries e) = ap (λ (p : Piece). p.len) same in
    let k : IsHitMark (Some m) (length (outline_of entries e)) place = subst (λ o. IsHitMark o (length (outline_of entries e)) place) mark h.mark in
    elim out [ inl none ↦ omega (arith, none, k.0) | inr far ↦ omega (arith, far, long, k.1) ]

-- The last piece is no longer than the window.
pub piece_short : (entries : List (List ℕ)) (x : List ℕ) (piece : Piece) → Some piece ≡ option_map (piece_of entries) (last_piece entries x) → piece.len ≤ length x
piece_short entries x piece is = by (last_piece entries x) refl is
  where
    by : (o : Option (List ℕ)) → last_piece entries x ≡ o → Some piece ≡ option_map (piece_of entries) o → piece.len ≤ length x
    by None last e = cc
    by (Some p) last e =
        let same : piece ≡ piece_of entries p = cc in
        let long : piece.len ≡ length p = ap (λ (q : Piece). q.len) same in
        omega (arith, long, last_piece-short entries x p last)
