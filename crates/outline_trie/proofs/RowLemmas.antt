-- The rows in their pool, as they are made and written to.
use Rattle.std.proofs.Common.{◌≡◌, ◌≢◌, ℕ, ◌<◌, List, [], ◌∷◌, ◌++◌, length, get_or, set, map, refl, sym, ap, subst, ◌∙◌, arith, inl, inr, Some, None, unwrap_or, option_map, length-set, get_or-set_same, get_or-set_other}
use Rattle.std.specs.FinMap as map
use Rattle.std.proofs.lemmas.Bool.{cases_lt, cases_eq}
use Rattle.std.proofs.lemmas.List.{get_or_push, get_or_append_left, get_or-map, length_push, length-map, map_push, same_lists, get_or_default, get_or_read, length-replicate}
use Rattle.edge_pool.specs.Pools.{Extent, Pool, ListsBlock, pairs_of, zeros, taken, written}
use Rattle.edge_pool.proofs.MapLemmas.{same_number, other_number, get_inserted, get_beside_inserted}
use Rattle.edge_pool.proofs.ListedLemmas.{pairs_there, fresh_apart}
use Rattle.outline_trie.specs.inside.Tables.{none_number}
use Rattle.outline_trie.specs.inside.RowsOf.{no_block, row_at, rows_at, AreRows}

-- ---- reading a row

pub row_read : (pool : Pool) (blocks : List Extent) (indexes : List ℕ) (node : ℕ) → node < length indexes → get_or (rows_at pool blocks indexes) node [] ≡ row_at pool blocks (get_or indexes node 0)
row_read pool blocks indexes node inside = get_or-map (row_at pool blocks) indexes node 0 [] inside

row_none : (pool : Pool) (blocks : List Extent) (index : ℕ) → index ≡ none_number → row_at pool blocks index ≡ []
row_none pool blocks index is = rw (same_number index none_number is) refl

row_some : (pool : Pool) (blocks : List Extent) (index : ℕ) → index ≢ none_number → row_at pool blocks index ≡ pairs_of pool (get_or blocks index no_block)
row_some pool blocks index some = rw (other_number index none_number some) refl

-- ---- one row more

same_pairs : (old new : Pool) (block : Extent) → map.get new.live block.place ≡ map.get old.live block.place → pairs_of new block ≡ pairs_of old block
same_pairs old new block same = ap (λ o. unwrap_or o []) same

-- the rows after other blocks were taken
row_stays : (old new : Pool) (blocks : List Extent) (block : Extent) (index : ℕ) → (index ≢ none_number → index < length blocks) →
    ((i : ℕ) → i < length blocks → map.get new.live (get_or blocks i no_block).place ≡ map.get old.live (get_or blocks i no_block).place) → row_at new (blocks ++ block ∷ []) index ≡ row_at old blocks index
row_stays old new blocks block index known same = elim (cases_eq index none_number) [
  | inl none ↦ row_none new (blocks ++ block ∷ []) index none ∙ sym (row_none old blocks index none)
  | inr some ↦
      row_some new (blocks ++ block ∷ []) index some ∙ ap (pairs_of new) (get_or_append_left blocks (block ∷ []) no_block index (known some))
      ∙ same_pairs old new (get_or blocks index no_block) (same index (known some)) ∙ sym (row_some old blocks index some)
]

-- a node without children
pub none_rows : (pool : Pool) (blocks : List Extent) (indexes : List ℕ) → AreRows pool blocks indexes → length indexes < 4194304 → AreRows pool blocks (indexes ++ none_number ∷ [])
none_rows pool blocks indexes r few = record {
  few = omega (arith, length_push indexes none_number);
  fewer = omega (arith, r.fewer, length_push indexes none_number);
  known = λ node inside some. elim (cases_lt node (length indexes)) [
    | inl old ↦ omega (arith, get_or_append_left indexes (none_number ∷ []) 0 node old, r.known node old (λ e. some (get_or_append_left indexes (none_number ∷ []) 0 node old ∙ e)))
    | inr new ↦ absurd (some (get_or_push indexes none_number 0 node (omega (arith, length_push indexes none_number))))
  ];
  once = λ m n in_m in_n some same. elim (cases_lt m (length indexes)) [
    | inl old_m ↦ elim (cases_lt n (length indexes)) [
      | inl old_n ↦ r.once m n old_m old_n (λ e. some (get_or_append_left indexes (none_number ∷ []) 0 m old_m ∙ e))
          (sym (get_or_append_left indexes (none_number ∷ []) 0 m old_m) ∙ same ∙ get_or_append_left indexes (none_number ∷ []) 0 n old_n)
      | inr new_n ↦ absurd (some (same ∙ get_or_push indexes none_number 0 n (omega (arith, length_push indexes none_number))))
    ]
    | inr new_m ↦ absurd (some (get_or_push indexes none_number 0 m (omega (arith, length_push indexes none_number))))
  ];
  listed = r.listed;
  apart = r.apart;
}

pub none_more : (pool : Pool) (blocks : List Extent) (indexes : List ℕ) → rows_at pool blocks (indexes ++ none_number ∷ []) ≡ rows_at pool blocks indexes ++ zeros 0 ∷ []
none_more pool blocks indexes = map_push (row_at pool blocks) indexes none_number

-- a node with a row that was taken
module _ (old new : Pool) (blocks : List Extent) (indexes : List ℕ) (block : Extent) (len : ℕ) (r : AreRows old blocks indexes) (few : length indexes < 4194304)
    (is : new ≡ taken old len block.place) (long : block.len ≡ len) (fresh : map.get old.live block.place ≡ None)
    (others : (other : Extent) → ListsBlock old other → map.get new.live other.place ≡ map.get old.live other.place) where
  abbrev blocks' : List Extent
  blocks' = blocks ++ block ∷ []

  abbrev indexes' : List ℕ
  indexes' = indexes ++ length blocks ∷ []

  below_none : length blocks < none_number
  below_none = omega (arith, r.fewer)

  old_index : (node : ℕ) → node < length indexes → get_or indexes' node 0 ≡ get_or indexes node 0
  old_index node inside = get_or_append_left indexes (length blocks ∷ []) 0 node inside

  new_index : (node : ℕ) → node ≡ length indexes → get_or indexes' node 0 ≡ length blocks
  new_index node last = get_or_push indexes (length blocks) 0 node (sym last)

  old_block : (i : ℕ) → i < length blocks → get_or blocks' i no_block ≡ get_or blocks i no_block
  old_block i inside = get_or_append_left blocks (block ∷ []) no_block i inside

  new_block : (i : ℕ) → i ≡ length blocks → get_or blocks' i no_block ≡ block
  new_block i last = get_or_push blocks block no_block i (sym last)

  new_pairs : map.get new.live block.place ≡ Some (zeros len)
  new_pairs = ap (λ (p : Pool). map.get p.live block.place) is ∙ get_inserted old.live block.place (zeros len)

  pub taken_rows : AreRows new blocks' indexes'
  taken_rows = record {
    few = omega (arith, length_push indexes (length blocks));
    fewer = omega (arith, r.fewer, length_push indexes (length blocks), length_push blocks block);
    known = λ node inside some. elim (cases_lt node (length indexes)) [
      | inl old ↦ omega (arith, old_index node old, length_push blocks block, r.known node old (λ e. some (old_index node old ∙ e)))
      | inr new ↦ omega (arith, new_index node (omega (arith, length_push indexes (length blocks))), length_push blocks block)
    ];
    once = λ m n in_m in_n some same. elim (cases_lt m (length indexes)) [
      | inl old_m ↦ elim (cases_lt n (length indexes)) [
        | inl old_n ↦ r.once m n old_m old_n (λ e. some (old_index m old_m ∙ e)) (sym (old_index m old_m) ∙ same ∙ old_index n old_n)
        | inr new_n ↦ absurd (omega (arith, r.known m old_m (λ e. some (old_index m old_m ∙ e)), old_index m old_m, new_index n (omega (arith, length_push indexes (length blocks))), same))
      ]
      | inr new_m ↦ elim (cases_lt n (length indexes)) [
        | inl old_n ↦ absurd (omega (arith, r.known n old_n (λ e. some (same ∙ old_index n old_n ∙ e)), old_index n old_n, new_index m (omega (arith, length_push indexes (length blocks))), same))
        | inr new_n ↦ omega (arith, length_push indexes (length blocks))
      ]
    ];
    listed = λ i inside. elim (cases_lt i (length blocks)) [
      | inl old ↦ rw (old_block i old) (ap (option_map length) (others (get_or blocks i no_block) (r.listed i old)) ∙ r.listed i old)
      | inr new ↦ rw (new_block i (omega (arith, length_push blocks block))) (ap (option_map length) new_pairs ∙ ap Some (length-replicate len (0, 0) ∙ sym long))
    ];
    apart = λ i j below inside same. elim (cases_lt j (length blocks)) [
      | inl old ↦ r.apart i j below old (ap (λ (b : Extent). b.place) (sym (old_block i (omega arith))) ∙ same ∙ ap (λ (b : Extent). b.place) (old_block j old))
      | inr new ↦
          let first : i < length blocks = omega (arith, length_push blocks block) in
          fresh_apart old (get_or blocks i no_block) block.place (r.listed i first) fresh
          (ap (λ (b : Extent). b.place) (sym (old_block i first)) ∙ same ∙ ap (λ (b : Extent). b.place) (new_block j (omega (arith, length_push blocks block))))
    ];
  }

  pub taken_more : rows_at new blocks' indexes' ≡ rows_at old blocks indexes ++ zeros len ∷ []
  taken_more =
      map_push (row_at new blocks') indexes (length blocks)
      ∙ ap (λ rows. rows ++ row_at new blocks' (length blocks) ∷ []) front
      ∙ ap (λ row. rows_at old blocks indexes ++ row ∷ []) (row_some new blocks' (length blocks) (λ e. omega (arith, below_none)) ∙ ap (pairs_of new) (new_block (length blocks) refl) ∙ ap (λ o. unwrap_or o []) new_pairs)
    where
      same_row : (k : ℕ) → k < length indexes → row_at new blocks' (get_or indexes k 0) ≡ row_at old blocks (get_or indexes k 0)
      same_row k inside = row_stays old new blocks block (get_or indexes k 0) (r.known k inside) (λ i below. others (get_or blocks i no_block) (r.listed i below))

      front : map (row_at new blocks') indexes ≡ map (row_at old blocks) indexes
      front = same_lists (map (row_at new blocks') indexes) (map (row_at old blocks) indexes) (length-map indexes (row_at new blocks') ∙ sym (length-map indexes (row_at old blocks)))
          (λ k d inside.
          let within : k < length indexes = omega (arith, length-map indexes (row_at new blocks')) in
          get_or-map (row_at new blocks') indexes k 0 d within ∙ same_row k within ∙ sym (get_or-map (row_at old blocks) indexes k 0 d within))

-- ---- a row is written to, and read

-- a row that isn't empty has a block
pub row_index : (pool : Pool) (blocks : List Extent) (indexes : List ℕ) (node place : ℕ) → node < length indexes → place < length (get_or (rows_at pool blocks indexes) node []) → get_or indexes node 0 ≢ none_number
row_index pool blocks indexes node place inside within none =
    absurd (omega (arith, ap length (row_read pool blocks indexes node inside ∙ row_none pool blocks (get_or indexes node 0) none)))

module _ (pool : Pool) (blocks : List Extent) (indexes : List ℕ) (node : ℕ) (r : AreRows pool blocks indexes) (inside : node < length indexes) (some : get_or indexes node 0 ≢ none_number) where
  abbrev index : ℕ
  index = get_or indexes node 0

  abbrev block : Extent
  block = get_or blocks index no_block

  pub row_pairs : get_or (rows_at pool blocks indexes) node [] ≡ pairs_of pool block
  row_pairs = row_read pool blocks indexes node inside ∙ row_some pool blocks index some

  pub row_len : length (get_or (rows_at pool blocks indexes) node []) ≡ block.len
  row_len = ap length row_pairs ∙ (pairs_there pool block (r.listed index (r.known node inside some))).long

  module _ (place : ℕ) (pair : ℕ × ℕ) where
    abbrev new : Pool
    new = written pool block place pair

    block_apart : (i : ℕ) → i < length blocks → i ≢ index → (get_or blocks i no_block).place ≢ block.place
    block_apart i below other same = elim (cases_lt i index) [
      | inl lt ↦ r.apart i index lt (r.known node inside some) same
      | inr ge ↦ r.apart index i (omega arith) below (sym same)
    ]

    here : pairs_of new block ≡ set (pairs_of pool block) place pair
    here = ap (λ o. unwrap_or o []) (get_inserted pool.live block.place (set (pairs_of pool block) place pair))

    there : (i : ℕ) → i < length blocks → i ≢ index → map.get new.live (get_or blocks i no_block).place ≡ map.get pool.live (get_or blocks i no_block).place
    there i below other = get_beside_inserted pool.live block.place (set (pairs_of pool block) place pair) (get_or blocks i no_block).place (block_apart i below other)

    row_written : (k : ℕ) → k < length indexes → row_at new blocks (get_or indexes k 0) ≡ get_or (set (rows_at pool blocks indexes) node (set (get_or (rows_at pool blocks indexes) node []) place pair)) k []
    row_written k within = elim (cases_eq k node) [
      | inl same ↦
          ap (λ j. row_at new blocks (get_or indexes j 0)) same ∙ row_some new blocks index some ∙ here ∙ ap (λ xs. set xs place pair) (sym row_pairs)
          ∙ sym (ap (λ j. get_or (set (rows_at pool blocks indexes) node (set (get_or (rows_at pool blocks indexes) node []) place pair)) j []) same
          ∙ get_or-set_same (rows_at pool blocks indexes) node (set (get_or (rows_at pool blocks indexes) node []) place pair) [] (omega (arith, length-map indexes (row_at pool blocks))))
      | inr apart ↦ elsewhere k within apart ∙ sym (get_or-set_other (rows_at pool blocks indexes) node k (set (get_or (rows_at pool blocks indexes) node []) place pair) [] apart ∙ row_read pool blocks indexes k within)
    ]
      where
        elsewhere : (k : ℕ) → k < length indexes → k ≢ node → row_at new blocks (get_or indexes k 0) ≡ row_at pool blocks (get_or indexes k 0)
        elsewhere k within apart = elim (cases_eq (get_or indexes k 0) none_number) [
          | inl none ↦ row_none new blocks (get_or indexes k 0) none ∙ sym (row_none pool blocks (get_or indexes k 0) none)
          | inr has ↦
              row_some new blocks (get_or indexes k 0) has
              ∙ same_pairs pool new (get_or blocks (get_or indexes k 0) no_block) (there (get_or indexes k 0) (r.known k within has) (λ e. apart (r.once k node within inside has e)))
              ∙ sym (row_some pool blocks (get_or indexes k 0) has)
        ]

    pub written_rows : rows_at new blocks indexes ≡ set (rows_at pool blocks indexes) node (set (get_or (rows_at pool blocks indexes) node []) place pair)
    written_rows = same_lists (rows_at new blocks indexes) (set (rows_at pool blocks indexes) node (set (get_or (rows_at pool blocks indexes) node []) place pair))
        (length-map indexes (row_at new blocks) ∙ sym (length-set (rows_at pool blocks indexes) node (set (get_or (rows_at pool blocks indexes) node []) place pair) ∙ length-map indexes (row_at pool blocks)))
        (λ k d below.
        let within : k < length indexes = omega (arith, length-map indexes (row_at new blocks)) in
        get_or-map (row_at new blocks) indexes k 0 d within ∙ row_written k within
        ∙ get_or_default (set (rows_at pool blocks indexes) node (set (get_or (rows_at pool blocks indexes) node []) place pair)) k [] d
        (omega (arith, length-set (rows_at pool blocks indexes) node (set (get_or (rows_at pool blocks indexes) node []) place pair), length-map indexes (row_at pool blocks))))

    pub written_sound : AreRows new blocks indexes
    written_sound = record {
      few = r.few;
      fewer = r.fewer;
      known = r.known;
      once = r.once;
      listed = λ i below. elim (cases_eq i index) [
        | inl same ↦
            rw same (ap (option_map length) (get_inserted pool.live block.place (set (pairs_of pool block) place pair))
            ∙ ap Some (length-set (pairs_of pool block) place pair ∙ (pairs_there pool block (r.listed index (r.known node inside some))).long))
        | inr apart ↦ ap (option_map length) (there i below apart) ∙ r.listed i below
      ];
      apart = r.apart;
    }

-- ---- the same by what callers see

module _ (pool : Pool) (blocks : List Extent) (indexes : List ℕ) (node : ℕ) (now : List (List (ℕ × ℕ))) (is : rows_at pool blocks indexes ≡ now) where
  pub seen_inside : node < length now → node < length indexes
  seen_inside h = omega (arith, ap length is, length-map indexes (row_at pool blocks))

  pub seen_some : AreRows pool blocks indexes → (place : ℕ) → node < length now → place < length (get_or now node []) → get_or indexes node 0 ≢ none_number
  seen_some r place h within = row_index pool blocks indexes node place (seen_inside h) (subst (λ rows. place < length (get_or rows node [])) (sym is) within)

  pub seen_within : (r : AreRows pool blocks indexes) (place : ℕ) → node < length now → place < length (get_or now node []) → place < (get_or blocks (get_or indexes node 0) no_block).len
  seen_within r place h within =
      omega (arith, row_len pool blocks indexes node r (seen_inside h) (seen_some r place h within), subst (λ rows. place < length (get_or rows node [])) (sym is) within)

  pub seen_written : (r : AreRows pool blocks indexes) (place : ℕ) (pair : ℕ × ℕ) → node < length now → place < length (get_or now node []) →
      rows_at (written pool (get_or blocks (get_or indexes node 0) no_block) place pair) blocks indexes ≡ set now node (set (get_or now node []) place pair)
  seen_written r place pair h within =
      written_rows pool blocks indexes node r (seen_inside h) (seen_some r place h within) place pair ∙ ap (λ rows. set rows node (set (get_or rows node []) place pair)) is

  pub seen_none : node < length now → get_or indexes node 0 ≡ none_number → get_or now node [] ≡ []
  seen_none h none = ap (λ rows. get_or rows node []) (sym is) ∙ row_read pool blocks indexes node (seen_inside h) ∙ row_none pool blocks (get_or indexes node 0) none

  pub seen_row : node < length now → get_or indexes node 0 ≢ none_number → get_or now node [] ≡ pairs_of pool (get_or blocks (get_or indexes node 0) no_block)
  seen_row h some = ap (λ rows. get_or rows node []) (sym is) ∙ row_read pool blocks indexes node (seen_inside h) ∙ row_some pool blocks (get_or indexes node 0) some

  -- the index that was read
  pub index_below : AreRows pool blocks indexes → node < length now → get_or indexes node 0 ≢ none_number → (index : ℕ) → index ≡ get_or indexes node index → index < length blocks
  index_below r h some index read = omega (arith, get_or_read indexes node index (seen_inside h) read 0, r.known node (seen_inside h) some)

  -- and its block
  pub block_is : AreRows pool blocks indexes → node < length now → get_or indexes node 0 ≢ none_number → (index : ℕ) → index ≡ get_or indexes node index → (block : Extent) → block ≡ get_or blocks index block →
      block ≡ get_or blocks (get_or indexes node 0) no_block
  block_is r h some index read block found =
      get_or_read blocks index block (index_below r h some index read) found no_block ∙ ap (λ n. get_or blocks n no_block) (get_or_read indexes node index (seen_inside h) read 0)

  pub block_listed : AreRows pool blocks indexes → node < length now → get_or indexes node 0 ≢ none_number → ListsBlock pool (get_or blocks (get_or indexes node 0) no_block)
  block_listed r h some = r.listed (get_or indexes node 0) (r.known node (seen_inside h) some)

  pub some_index : node < length now → (index : ℕ) → index ≡ get_or indexes node index → index ≢ none_number → get_or indexes node 0 ≢ none_number
  some_index h index read some none = some (get_or_read indexes node index (seen_inside h) read 0 ∙ none)
