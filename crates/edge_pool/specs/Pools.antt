-- A pool as its callers see it, and what each call makes of it.
--     Extent                  a block as its callers see it: its place and its length
--     Pool                    the live blocks by rising place, each with its pairs; the uncut cells; the free blocks of each class
--     ListsBlock pool block   the block is one of the pool's live blocks
--     pairs_of pool block     its pairs
--     AreApart live           no two live blocks have a cell in common
--     spare_of pool len       the free blocks of the class of a length
--     IsFull pool len         the class of the length has no free block, and too few cells are uncut for one
--     uncut_pool, reserved, taken, written, given, grown      the pool after the call of that name
use Rattle.std.specs.Prelude.{ℕ, ◌≡◌, ◌<◌, ◌≤◌, ◌+◌, ◌-◌, ◌*◌, max, nat_eq, List, [], ◌++◌, length, replicate, if◌then◌else◌, Some, slice_index, slice_set, refl, unwrap_or, option_map}
use Rattle.std.specs.Coded.{Coded, code_by, coded×, coded_ℕ, coded_list}
use Rattle.std.specs.Ordering.{nat_cmp}
use Rattle.std.specs.FinMap as map
use Rattle.edge_pool.specs.Classes.{class_of, size_of, class_count}

pub record Extent : Type 0 where
  pub place : ℕ
  pub len : ℕ

pub record Pool : Type 0 where
  pub live : map.FinMap nat_cmp (List (ℕ × ℕ))
  pub uncut : ℕ
  pub spare : List ℕ

-- a pool is stored as the triple of its fields
abbrev pub pool_code : Coded Pool
pool_code =
    code_by (map.FinMap nat_cmp (List (ℕ × ℕ)) × (ℕ × List ℕ)) (coded× (map.code coded_ℕ (coded_list (coded× coded_ℕ coded_ℕ))) (coded× coded_ℕ (coded_list coded_ℕ)))
    (λ p. (p.live, (p.uncut, p.spare))) (λ t. record { live = t.0; uncut = t.1.0; spare = t.1.1 }) (λ _. refl)

abbrev pub ListsBlock : Pool → Extent → Type 0
ListsBlock pool block = option_map length (map.get pool.live block.place) ≡ Some block.len

abbrev pub pairs_of : Pool → Extent → List (ℕ × ℕ)
pairs_of pool block = unwrap_or (map.get pool.live block.place) []

abbrev pub AreApart : map.FinMap nat_cmp (List (ℕ × ℕ)) → Type 0
AreApart live = (p q : ℕ) (xs ys : List (ℕ × ℕ)) → map.get live p ≡ Some xs → map.get live q ≡ Some ys → p < q → p + length xs ≤ q

abbrev pub spare_of : Pool → ℕ → ℕ
spare_of pool len = slice_index pool.spare (class_of len)

abbrev pub with_spare : Pool → ℕ → ℕ → List ℕ
with_spare pool len count = slice_set pool.spare (class_of len) count

abbrev pub IsFull : Pool → ℕ → Type 0
IsFull pool len = (spare_of pool len ≡ 0) × (pool.uncut < size_of (class_of len))

abbrev pub zeros : ℕ → List (ℕ × ℕ)
zeros len = replicate len (0, 0)

-- the most cells of a pool
abbrev pub most_cells : ℕ
most_cells = 16777216

-- a new pool
abbrev pub uncut_pool : ℕ → Pool
uncut_pool cells = record { live = map.empty; uncut = cells; spare = replicate class_count 0 }

-- the cells that a reservation has to cut
abbrev pub needed : Pool → ℕ → ℕ → ℕ
needed pool len blocks = size_of (class_of len) * (blocks - spare_of pool len)

abbrev pub reserved : Pool → ℕ → ℕ → Pool
reserved pool len blocks = record pool { uncut = pool.uncut - needed pool len blocks; spare = with_spare pool len (max (spare_of pool len) blocks) }

abbrev pub taken : Pool → ℕ → ℕ → Pool
taken pool len place = record {
  live = map.insert pool.live place (zeros len);
  uncut = if nat_eq (spare_of pool len) 0 then pool.uncut - size_of (class_of len) else pool.uncut;
  spare = with_spare pool len (spare_of pool len - 1);
}

abbrev pub written : Pool → Extent → ℕ → ℕ × ℕ → Pool
written pool block place pair = record pool { live = map.insert pool.live block.place (slice_set (pairs_of pool block) place pair) }

abbrev pub given : Pool → Extent → Pool
given pool block = record pool { live = map.remove pool.live block.place; spare = with_spare pool block.len (spare_of pool block.len + 1) }

-- the block of this length with the same front, at its place
abbrev pub lengthened : Pool → Extent → ℕ → ℕ → map.FinMap nat_cmp (List (ℕ × ℕ))
lengthened pool block len place = map.insert (map.remove pool.live block.place) place (pairs_of pool block ++ zeros (len - block.len))

abbrev pub grown : Pool → Extent → ℕ → ℕ → Pool
grown pool block len place =
    if nat_eq (class_of len) (class_of block.len) then (record pool { live = lengthened pool block len place })
    else (record (given (taken pool len place) block) { live = lengthened pool block len place })
