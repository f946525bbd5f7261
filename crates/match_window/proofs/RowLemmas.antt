-- What a row holds, by the rows of nodes of fewer strokes.
use Rattle.std.proofs.Common.{◌≡◌, ◌≢◌, ℕ, ◌+◌, ◌<◌, ◌≤◌, List, [], ◌∷◌, ◌++◌, length, get_or, sym, ap, ap₂, subst, ◌∙◌, arith, Bool, true, false, Option, Some, None}
use Rattle.std.specs.Prelude.{option_map, unwrap_or, MatchOption, is_some}
use Rattle.std.proofs.lemmas.List.{length_push, get_or_default, get_or_read}
use Rattle.stroke.specs.Pieces.{piece_of}
use Rattle.steno_rules.specs.Outlines.{is_entry, entry_number}
use Rattle.steno_rules.specs.Segments.{last_piece}
use Rattle.steno_rules.specs.Windows.{is_prefix, window}
use Rattle.steno_rules.specs.Nodes.{nodes}
use Rattle.steno_rules.proofs.NodeLemmas.{nodes-Contains, nodes-rising}
use Rattle.steno_rules.proofs.Numbers.{entry_number-Some, outline_of-once, number_test}
use Rattle.translation_laws.proofs.WindowEnds.{window-whole}
use Rattle.outline_trie.specs.Tries.{IsNode, node_strokes, child_of, IsParent, IsLast}
use Rattle.outline_trie.proofs.LookLemmas.{root_is, root_inside, number_there, node_test}
use Rattle.match_window.specs.Ends.{shorter_end}
use Rattle.match_window.specs.inside.Rows.{last_entry, IsNodeOf, IsWindowRow, IsKept, AreKeptBelow, AreLong}
use Rattle.match_window.proofs.EndLemmas.{window_apart, window_none, window_short, end_entry, end_one, end_more, end_shorter, last_entry-entry, last_entry-one, last_entry-more, piece_lone, piece_entry}

module _ (entries : List (List ℕ)) where
  -- ---- nodes

  -- The root has no strokes,
  pub root_node : IsNodeOf entries [] 0
  root_node = record { inside = root_inside entries; is = root_is entries }

  -- and no other node has none.
  pub node_some : (node : ℕ) → IsNode entries node → (node ≡ 0 → ⊥) → node_strokes entries node ≢ []
  node_some node inside other none = other (outline_of-once (nodes entries) node 0 (nodes-rising entries) inside (root_inside entries) (none ∙ sym (root_is entries)))

  -- A child has its parent's strokes and one more,
  pub child_is : (node code child : ℕ) → child_of entries node code ≡ Some child → IsNodeOf entries (node_strokes entries node ++ code ∷ []) child
  child_is node code child found = let n = entry_number-Some (nodes entries) (node_strokes entries node ++ code ∷ []) child found in record { inside = n.0; is = n.1 }

  -- and each node of such strokes is a child.
  pub child_there : (node code child : ℕ) → IsNodeOf entries (node_strokes entries node ++ code ∷ []) child → child_of entries node code ≡ Some child
  child_there node code child is = number_there entries (node_strokes entries node ++ code ∷ []) child is.inside is.is

  -- a node begins an entry
  node_begins : (x : List ℕ) (node : ℕ) → IsNodeOf entries x node → is_prefix entries x ≡ true
  node_begins x node n = (nodes-Contains entries x).0 (node, n.inside, get_or_default (nodes entries) node x [] n.inside ∙ n.is)

  -- what is no node begins no entry
  apart : (x : List ℕ) → entry_number (nodes entries) x ≡ None → is_prefix entries x ≡ false
  apart x none = sym (node_test entries x) ∙ ap is_some none

  -- ---- along the chain of ends

  -- A child is the window of its strokes.
  pub next_found : (end code next : ℕ) → child_of entries end code ≡ Some next → IsNodeOf entries (window entries (node_strokes entries end ++ code ∷ [])) next
  next_found end code next found =
      let child = child_is end code next found in
      record { inside = child.inside; is = child.is ∙ sym (window-whole entries (node_strokes entries end ++ code ∷ []) (node_begins (node_strokes entries end ++ code ∷ []) next child)) }

  -- The next end of a node's chain, where the node has no child by the stroke.
  pub record IsNext (end code next : ℕ) : Type 0 where
    pub inside : IsNode entries next
    pub shorter : length (node_strokes entries next) < length (node_strokes entries end)
    pub same : window entries (node_strokes entries end ++ code ∷ []) ≡ window entries (node_strokes entries next ++ code ∷ [])

  pub next_end : (end code next : ℕ) → IsNode entries end → (end ≡ 0 → ⊥) → child_of entries end code ≡ None → IsNodeOf entries (shorter_end entries (node_strokes entries end)) next → IsNext end code next
  next_end end code next inside other none n =
      let x : List ℕ = node_strokes entries end in
      let some : x ≢ [] = node_some end inside other in
      record {
        inside = n.inside;
        shorter = omega (arith, ap length n.is, end_shorter entries x some);
        same = window_apart entries x code some (apart (x ++ code ∷ []) none) ∙ ap (λ u. window entries (u ++ code ∷ [])) (sym n.is);
      }

  -- the root is the window where no entry begins with the stroke
  pub next_none : (code : ℕ) → child_of entries 0 code ≡ None → IsNodeOf entries (window entries (node_strokes entries 0 ++ code ∷ [])) 0
  next_none code none = record { inside = root_inside entries; is = root_is entries ∙ sym (by (node_strokes entries 0) (root_is entries) none) }
    where
      by : (u : List ℕ) → u ≡ [] → entry_number (nodes entries) (u ++ code ∷ []) ≡ None → window entries (u ++ code ∷ []) ≡ []
      by [] is none = window_none entries code (apart (code ∷ []) none)
      by (c ∷ u) is none = cc

  -- What the look-up at the root answers.
  pub next_root : (code next : ℕ) (o : Option ℕ) → o ≡ child_of entries 0 code → next ≡ unwrap_or o 0 → IsNodeOf entries (window entries (node_strokes entries 0 ++ code ∷ [])) next
  next_root code next None found is = subst (λ n. IsNodeOf entries (window entries (node_strokes entries 0 ++ code ∷ [])) n) (sym is) (next_none code (sym found))
  next_root code next (Some n) found is = subst (λ n. IsNodeOf entries (window entries (node_strokes entries 0 ++ code ∷ [])) n) (sym is) (next_found 0 code n (sym found))

  -- ---- rows

  -- The row of the empty list.
  pub row_root : IsWindowRow entries [] 0 0
  row_root = record { end = root_node; last = root_node }

  -- The row of an entry.
  pub row_entry : (node : ℕ) → IsNode entries node → is_entry entries (node_strokes entries node) ≡ true → IsWindowRow entries (node_strokes entries node) 0 node
  row_entry node inside has = record {
    end = record { inside = root_inside entries; is = root_is entries ∙ sym (end_entry entries (node_strokes entries node) has) };
    last = record { inside = inside; is = sym (last_entry-entry entries (node_strokes entries node) has) };
  }

  -- the row of one stroke that is no entry
  row_one : (x u : List ℕ) (code : ℕ) → x ≡ u ++ code ∷ [] → u ≡ [] → is_entry entries x ≡ false → IsWindowRow entries x 0 0
  row_one x [] code is none h = record {
    end = record { inside = root_inside entries; is = root_is entries ∙ sym (ap (shorter_end entries) is ∙ end_one entries code) };
    last = record { inside = root_inside entries; is = root_is entries ∙ sym (ap (last_entry entries) is ∙ last_entry-one entries code (ap (is_entry entries) (sym is) ∙ h)) };
  }
  row_one x (c ∷ u) code is none h = cc

  -- the row of more strokes that are no entry
  row_more : (x u : List ℕ) (code shorter end piece : ℕ) → x ≡ u ++ code ∷ [] → u ≢ [] → is_entry entries x ≡ false → IsNodeOf entries (shorter_end entries u) shorter →
      IsNodeOf entries (window entries (node_strokes entries shorter ++ code ∷ [])) end → IsNodeOf entries (last_entry entries (node_strokes entries end)) piece → IsWindowRow entries x end piece
  row_more x u code shorter end piece is some h s e p =
      let plain : is_entry entries (u ++ code ∷ []) ≡ false = ap (is_entry entries) (sym is) ∙ h in
      let w : node_strokes entries end ≡ window entries (shorter_end entries u ++ code ∷ []) = e.is ∙ ap (λ v. window entries (v ++ code ∷ [])) s.is in record {
        end = record { inside = e.inside; is = w ∙ sym (end_more entries u code some plain) ∙ ap (shorter_end entries) (sym is) };
        last = record { inside = p.inside; is = p.is ∙ ap (last_entry entries) w ∙ sym (last_entry-more entries u code some plain) ∙ ap (last_entry entries) (sym is) };
      }

  -- A node is its parent and its last stroke.
  pub node_split : (node parent code : ℕ) → IsParent entries node parent → IsLast entries node code → node_strokes entries node ≡ node_strokes entries parent ++ code ∷ []
  node_split node parent code front last = last ∙ ap (λ u. u ++ code ∷ []) (sym front.front)

  -- the shorter end of the parent has at least two strokes less than the node
  far_below : (node parent code shorter : ℕ) → node_strokes entries node ≡ node_strokes entries parent ++ code ∷ [] → node_strokes entries parent ≢ [] → IsNodeOf entries (shorter_end entries (node_strokes entries parent)) shorter →
      length (node_strokes entries shorter) + 1 < length (node_strokes entries node)
  far_below node parent code shorter is some s = omega (arith, ap length is, length_push (node_strokes entries parent) code, ap length s.is, end_shorter entries (node_strokes entries parent) some)

  -- a window of a node's strokes and one more has at most one stroke more
  window_below : (node code end : ℕ) → IsNodeOf entries (window entries (node_strokes entries node ++ code ∷ [])) end → length (node_strokes entries end) ≤ length (node_strokes entries node) + 1
  window_below node code end w = omega (arith, ap length w.is, window_short entries (node_strokes entries node ++ code ∷ []), length_push (node_strokes entries node) code)

  -- ---- what is read of the columns

  -- The shorter end that is read of a settled node,
  pub read_end : (shorter pieces : List ℕ) (node read : ℕ) → AreLong entries shorter pieces → IsNode entries node → IsKept entries shorter pieces node → read ≡ get_or shorter node read →
      IsNodeOf entries (shorter_end entries (node_strokes entries node)) read
  read_end shorter pieces node read long inside row is = subst (λ v. IsNodeOf entries (shorter_end entries (node_strokes entries node)) v) (sym (get_or_read shorter node read (omega (arith, long.shorter_long)) is 0)) row.end

  -- and its last entry,
  pub read_piece : (shorter pieces : List ℕ) (node read : ℕ) → AreLong entries shorter pieces → IsNode entries node → IsKept entries shorter pieces node → read ≡ get_or pieces node read →
      IsNodeOf entries (last_entry entries (node_strokes entries node)) read
  read_piece shorter pieces node read long inside row is = subst (λ v. IsNodeOf entries (last_entry entries (node_strokes entries node)) v) (sym (get_or_read pieces node read (omega (arith, long.pieces_long)) is 0)) row.last

  -- and the next end of a chain.
  pub next_read : (ends pieces : List ℕ) (node end code next : ℕ) → AreLong entries ends pieces → AreKeptBelow entries ends pieces (length (node_strokes entries node) + 1) → IsNode entries end → (end ≡ 0 → ⊥) →
      length (node_strokes entries end) ≤ length (node_strokes entries node) → child_of entries end code ≡ None → next ≡ get_or ends end next → IsNext end code next
  next_read ends pieces node end code next long below inside other short none read =
      next_end end code next inside other none (read_end ends pieces end next long inside (below end inside (omega (arith, short))) read)

  -- ---- the last piece

  -- The last piece, where it is no entry,
  pub piece_none : (node piece : ℕ) → IsNodeOf entries (last_entry entries (node_strokes entries node)) piece → piece ≡ 0 → (x : List ℕ) → x ≢ [] → last_entry entries x ≡ last_entry entries (node_strokes entries node) →
      Some (record { len = 1; entry = None }) ≡ option_map (piece_of entries) (last_piece entries x)
  piece_none node piece p none x some same = piece_lone entries x some (same ∙ sym p.is ∙ ap (node_strokes entries) none ∙ root_is entries)

  -- and where it is one.
  pub piece_some : (node piece len : ℕ) (entry : Option ℕ) → IsNodeOf entries (last_entry entries (node_strokes entries node)) piece → (piece ≡ 0 → ⊥) → len ≡ length (node_strokes entries piece) → entry ≡ entry_number entries (node_strokes entries piece) →
      (x : List ℕ) → x ≢ [] → last_entry entries x ≡ last_entry entries (node_strokes entries node) → Some (record { len = len; entry = entry }) ≡ option_map (piece_of entries) (last_piece entries x)
  piece_some node piece len entry p other long number x some same =
      let last = piece_entry entries x (node_strokes entries piece) (node_some piece p.inside other) (same ∙ sym p.is) in
      ap₂ (λ l e. Some (record { len = l; entry = e })) long number ∙ ap (option_map (piece_of entries)) (sym last)

  -- ---- what the look-ups at a node answer

  -- ---- what the look-ups at a node answer

  -- Whether a node is an entry, by what the look-up of its entry answers.
  pub entry_told : (node : ℕ) (o : Option ℕ) (b : Bool) → o ≡ entry_number entries (node_strokes entries node) → b ≡ is_some o → is_entry entries (node_strokes entries node) ≡ b
  entry_told node o b is has = sym (has ∙ ap is_some is ∙ number_test entries (node_strokes entries node))

  -- Only the root has no parent.
  pub no_parent : (node : ℕ) (o : Option ℕ) → o ≡ None → MatchOption o (node ≡ 0) (IsParent entries node) → node ≡ 0
  no_parent node None is root = root
  no_parent node (Some parent) is front = cc

  -- The row of the root.
  pub row_at_root : (node : ℕ) → node ≡ 0 → IsWindowRow entries (node_strokes entries node) 0 0
  row_at_root node is = subst (λ x. IsWindowRow entries x 0 0) (sym (ap (node_strokes entries) is ∙ root_is entries)) row_root

  -- The row of one stroke, whose parent is the root.
  pub row_by_root : (node code parent : ℕ) (o : Option ℕ) → MatchOption o (node ≡ 0) (IsParent entries node) → parent ≡ unwrap_or o 0 → parent ≡ 0 → IsLast entries node code → is_entry entries (node_strokes entries node) ≡ false →
      IsWindowRow entries (node_strokes entries node) 0 0
  row_by_root node code parent None root is none last plain = row_at_root node root
  row_by_root node code parent (Some p) front is none last plain =
      row_one (node_strokes entries node) (node_strokes entries p) code (node_split node p code front last) (ap (node_strokes entries) (sym is ∙ none) ∙ root_is entries) plain

  -- What is known where a node's row is looked for along the chain of its parent, from the parent's shorter end on.
  pub record IsStart (node parent code shorter : ℕ) : Type 0 where
    pub split : node_strokes entries node ≡ node_strokes entries parent ++ code ∷ []
    pub some : node_strokes entries parent ≢ []
    pub end : IsNodeOf entries (shorter_end entries (node_strokes entries parent)) shorter
    pub far : length (node_strokes entries shorter) + 1 < length (node_strokes entries node)

  -- There the chain starts at a settled node.
  pub start_of : (ends pieces : List ℕ) (node code parent shorter : ℕ) (o : Option ℕ) → AreLong entries ends pieces → IsNode entries node → AreKeptBelow entries ends pieces (length (node_strokes entries node)) →
      MatchOption o (node ≡ 0) (IsParent entries node) → parent ≡ unwrap_or o 0 → (parent ≡ 0 → ⊥) → IsLast entries node code → shorter ≡ get_or ends parent shorter → IsStart node parent code shorter
  start_of ends pieces node code parent shorter None long inside below root is other last read = absurd (other is)
  start_of ends pieces node code parent shorter (Some p) long inside below front is other last read =
      let up : IsParent entries node parent = subst (IsParent entries node) (sym is) front in
      let there : IsNode entries parent = omega (arith, up.before, inside) in
      let split : node_strokes entries node ≡ node_strokes entries parent ++ code ∷ [] = node_split node parent code up last in
      let some : node_strokes entries parent ≢ [] = node_some parent there other in
      let less : length (node_strokes entries parent) < length (node_strokes entries node) = omega (arith, ap length split, length_push (node_strokes entries parent) code) in
      let end = read_end ends pieces parent shorter long there (below parent there less) read in
      record { split = split; some = some; end = end; far = far_below node parent code shorter split some end }

  -- The row that is found there.
  pub row_found : (ends pieces : List ℕ) (node code parent shorter end piece : ℕ) → IsStart node parent code shorter → AreLong entries ends pieces → AreKeptBelow entries ends pieces (length (node_strokes entries node)) →
      is_entry entries (node_strokes entries node) ≡ false → IsNodeOf entries (window entries (node_strokes entries shorter ++ code ∷ [])) end → piece ≡ get_or pieces end piece → IsWindowRow entries (node_strokes entries node) end piece
  row_found ends pieces node code parent shorter end piece start long below plain found read =
      let near = window_below shorter code end found in
      row_more (node_strokes entries node) (node_strokes entries parent) code shorter end piece start.split start.some plain start.end found
      (read_piece ends pieces end piece long found.inside (below end found.inside (omega (arith, near, start.far))) read)
