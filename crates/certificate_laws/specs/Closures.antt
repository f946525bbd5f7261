-- What a certificate is checked against: the closure of entries and of words among them, by the numbers of its states.
--     closure_of entries flags       the closure of these entries, of which those are words whose flag is true
--     kept_numbers entries flags n   the kept targets of a state alone
use Rattle.std.specs.Prelude.{ℕ, ◌-◌, List, Bool, ◌&&◌, nat_lt, nat_le, length, is_some, Option, Some, None, option_and_then, if◌then◌else◌}
use Rattle.steno_rules.specs.Outlines.{entry_number, flagged_entries}
use Rattle.steno_rules.specs.Segments.{last_piece}
use Rattle.steno_rules.specs.States.{State, targets, kept_targets}
use Rattle.steno_rules.specs.StateNumbers.{number_count, state_of_number}
use Rattle.steno_rules.specs.ClosureGraphs.{numbers_by}

-- an entry, and an inner place of it
pub record Pair : Type 0 where
  pub entry : ℕ
  pub place : ℕ

-- the entries and which of them are words, the count of numbers, which of these have a state, and of a state the numbers of its
-- targets and the pair that it is a hit of
pub record Closure : Type 0 where
  pub outlines : List (List ℕ)
  pub words : List Bool
  pub count : ℕ
  pub has_state : ℕ → Bool
  pub targets : ℕ → List ℕ
  pub hit : ℕ → Option Pair

-- the pair of a boundary that was marked m strokes ago, in a last piece of n strokes that is this entry
abbrev pub pair_at : ℕ → ℕ → Option ℕ → Option Pair
pair_at m n None = None
pair_at m n (Some e) = if nat_le 1 m && nat_lt m n then (Some (record { entry = e; place = n - m })) else None

-- the same by the piece
abbrev pub piece_pair : List (List ℕ) → ℕ → Option (List ℕ) → Option Pair
piece_pair entries m None = None
piece_pair entries m (Some piece) = pair_at m (length piece) (entry_number entries piece)

-- the same by the window and the mark
abbrev pub marked_pair : List (List ℕ) → List ℕ → Option ℕ → Option Pair
marked_pair entries u None = None
marked_pair entries u (Some m) = piece_pair entries m (last_piece entries u)

-- the pair that a state is a hit of: no word is open, the last piece is an entry, and the marked boundary lies inside it
abbrev pub hit_pair : List (List ℕ) → State → Option Pair
hit_pair entries s = if nat_lt 0 (length s.v) then None else marked_pair entries s.u s.mark

-- the closure of these entries, of which those are words whose flag is true; all targets count, kept or not
abbrev pub closure_of : List (List ℕ) → List Bool → Closure
closure_of entries flags = record {
  outlines = entries;
  words = flags;
  count = number_count entries;
  has_state = λ n. is_some (state_of_number entries (flagged_entries entries flags) n);
  targets = λ n. numbers_by entries (targets entries (flagged_entries entries flags))
      (state_of_number entries (flagged_entries entries flags) n);
  hit = λ n. option_and_then (hit_pair entries) (state_of_number entries (flagged_entries entries flags) n);
}

-- the kept targets of a state alone, by their numbers
abbrev pub kept_numbers : List (List ℕ) → List Bool → ℕ → List ℕ
kept_numbers entries flags n =
    numbers_by entries (kept_targets entries (flagged_entries entries flags))
    (state_of_number entries (flagged_entries entries flags) n)
