-- The blocks that a pool lists, and that they stay listed.
use Rattle.std.proofs.Common.{◌≡◌, ◌≢◌, ℕ, ◌+◌, ◌-◌, ◌≤◌, List, [], ◌++◌, length, refl, sym, ap, ◌∙◌, arith, true≢false, Option, Some, None, is_some, unwrap_or, option_map, length-append}
use Rattle.std.specs.Ordering.{nat_cmp}
use Rattle.std.specs.FinMap as map
use Rattle.std.proofs.lemmas.List.{length-replicate}
use Rattle.edge_pool.specs.Pools.{Extent, Pool, ListsBlock, pairs_of, zeros, taken, written}
use Rattle.edge_pool.proofs.MapLemmas.{get_inserted, get_beside_inserted}

pub record HasPairs (pool : Pool) (block : Extent) : Type 0 where
  pub pairs : map.get pool.live block.place ≡ Some (pairs_of pool block)
  pub long : length (pairs_of pool block) ≡ block.len

has_pairs : (o : Option (List (ℕ × ℕ))) (len : ℕ) → option_map length o ≡ Some len → (o ≡ Some (unwrap_or o [])) × (length (unwrap_or o []) ≡ len)
has_pairs None len h = absurd (true≢false (sym (ap is_some h)))
has_pairs (Some xs) len h = (refl, ap (λ n. unwrap_or n 0) h)

pub pairs_there : (pool : Pool) (block : Extent) → ListsBlock pool block → HasPairs pool block
pairs_there pool block h = let both = has_pairs (map.get pool.live block.place) block.len h in record { pairs = both.0; long = both.1 }

pub listed_by : (pool : Pool) (block : Extent) (xs : List (ℕ × ℕ)) → map.get pool.live block.place ≡ Some xs → length xs ≡ block.len → ListsBlock pool block
listed_by pool block xs is long = ap (option_map length) is ∙ ap Some long

-- the block that was written to or taken last
pub listed_from : (now live : map.FinMap nat_cmp (List (ℕ × ℕ))) (block : Extent) (place : ℕ) (xs : List (ℕ × ℕ)) →
    now ≡ map.insert live place xs → block.place ≡ place → length xs ≡ block.len → option_map length (map.get now block.place) ≡ Some block.len
listed_from now live block place xs is at long =
    ap (option_map length) (ap (map.get now) at ∙ ap (λ m. map.get m place) is ∙ get_inserted live place xs) ∙ ap Some long

pub longer_len : (pool : Pool) (block : Extent) (len : ℕ) → ListsBlock pool block → block.len ≤ len → length (pairs_of pool block ++ zeros (len - block.len)) ≡ len
longer_len pool block len h le =
    length-append (pairs_of pool block) (zeros (len - block.len))
    ∙ sum (length (pairs_of pool block)) (length (zeros (len - block.len))) (pairs_there pool block h).long (length-replicate (len - block.len) (0, 0))
  where
    sum : (a b : ℕ) → a ≡ block.len → b ≡ len - block.len → a + b ≡ len
    sum a b e f = omega arith

-- a block stays listed where another place changes
pub still_listed : (pool : Pool) (block : Extent) (live : map.FinMap nat_cmp (List (ℕ × ℕ))) (place : ℕ) (xs : List (ℕ × ℕ)) → pool.live ≡ map.insert live place xs → block.place ≢ place →
    option_map length (map.get live block.place) ≡ Some block.len → ListsBlock pool block
still_listed pool block live place xs is apart h = ap (λ m. option_map length (map.get m block.place)) is ∙ ap (option_map length) (get_beside_inserted live place xs block.place apart) ∙ h

-- a block that is taken isn't one that is listed
pub fresh_apart : (pool : Pool) (block : Extent) (place : ℕ) → ListsBlock pool block → map.get pool.live place ≡ None → block.place ≢ place
fresh_apart pool block place h fresh same = absurd (true≢false (ap is_some (sym (pairs_there pool block h).pairs ∙ ap (map.get pool.live) same ∙ fresh)))

pub Lists-taken : (pool : Pool) (block : Extent) (len place : ℕ) → ListsBlock pool block → map.get pool.live place ≡ None → ListsBlock (taken pool len place) block
Lists-taken pool block len place h fresh = still_listed (taken pool len place) block pool.live place (zeros len) refl (fresh_apart pool block place h fresh) h

pub Lists-written : (pool : Pool) (block other : Extent) (place : ℕ) (pair : ℕ × ℕ) → ListsBlock pool block → block.place ≢ other.place → ListsBlock (written pool other place pair) block
Lists-written pool block other place pair h apart = still_listed (written pool other place pair) block pool.live other.place _ refl apart h
