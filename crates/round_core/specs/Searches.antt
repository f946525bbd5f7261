-- What a search gives.
use Rattle.std.specs.Prelude.{◌≡◌, ℕ, suc, ◌+◌, ◌==◌, ◌<◌, cond, List, [], ◌∷◌, length}
use Rattle.graph_rules.specs.Graphs.{row, IsBest, AreSettled, unreached}

-- how callers see what a search gives
pub record SettledView : Type 0 where
  pub words : List ℕ
  pub rounds : ℕ
  pub relaxed : ℕ

-- the sum of f over the numbers whose settled words say that they were reached
abbrev pub sum_reached : (ℕ → ℕ) → List ℕ → ℕ
sum_reached f [] = 0
sum_reached f (w ∷ ws) = cond (w == unreached) 0 (f 0) + sum_reached (λ s. f (suc s)) ws

-- one more than the greatest least distance
pub record IsRounds (origin : ℕ) (lists : List (List ℕ)) (rounds : ℕ) : Type 0 where
  pub most : (s n : ℕ) → s < length lists → IsBest origin lists s n → n < rounds
  pub met : (s : ℕ) × (n : ℕ) × (s < length lists) × IsBest origin lists s n × (n + 1 ≡ rounds)

-- the words are settled, and each target of each reached number was relaxed once
pub record IsSearched (origin : ℕ) (lists : List (List ℕ)) (v : SettledView) : Type 0 where
  pub words : AreSettled origin lists v.words
  pub rounds : IsRounds origin lists v.rounds
  pub relaxed : v.relaxed ≡ sum_reached (λ s. length (row lists s)) v.words
