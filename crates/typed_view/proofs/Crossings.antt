-- What becomes of one boundary, over the pieces one after another.
use Rattle.std.proofs.Common.{ℕ, zero, suc, ◌≡◌, ◌+◌, ◌-◌, ◌<◌, ◌≤◌, ◌∙◌, ◌⊎◌, inl, inr, List, [], ◌∷◌, ◌++◌, ap, sym, subst, refl, arith, drop, get_or, Option, Some, None, Bool, true, false, nat_le, length, length-append, if◌then◌else◌}
use Rattle.std.proofs.lemmas.Bool.{cases_lt}
use Rattle.std.proofs.lemmas.Bool.Decides.{nat_tests}
use Rattle.std.proofs.lemmas.List.Sums.{sum_by-cons}
use Rattle.std.proofs.lemmas.Option.{none-some}
use Rattle.stroke.specs.declared.pieces.Piece.{Piece}
use Rattle.typed_view.specs.Covers.{IsCover, IsCrossed, cover_at, cover_in, piece_strokes}
use Rattle.typed_view.specs.declared.boundaries.Cover.{Cover}
use Rattle.typed_view.specs.declared.boundaries.Cover.TheVariants.{Kept, Crossed}

-- the first piece ends at the boundary or before it
pub cover_past : (piece : Piece) (pieces : List Piece) (at : ℕ) → piece.len ≤ at → cover_at (piece ∷ pieces) at ≡ cover_at pieces (at - piece.len)
cover_past piece pieces at long =
    let test : nat_le piece.len at ≡ true = grind (arith, nat_tests) in
    ap (λ (b : Bool). if b then cover_at pieces (at - piece.len) else cover_in piece.entry at) test

-- the first piece ends behind the boundary
pub cover_inside : (piece : Piece) (pieces : List Piece) (at : ℕ) → at < piece.len → cover_at (piece ∷ pieces) at ≡ cover_in piece.entry at
cover_inside piece pieces at short =
    let test : nat_le piece.len at ≡ false = grind (arith, nat_tests) in
    ap (λ (b : Bool). if b then cover_at pieces (at - piece.len) else cover_in piece.entry at) test

-- which piece crosses a boundary: the first one, or a later one
record IsFirst (first : Piece) (at entry place : ℕ) : Type 0 where
  pub is_entry : first.entry ≡ Some entry
  pub begins : place ≡ at
  pub after_start : 0 < place
  pub before_end : at < first.len

record IsLater (first : Piece) (pieces : List Piece) (at entry place : ℕ) : Type 0 where
  pub past : first.len ≤ at
  pub crossed : IsCrossed pieces (at - first.len) entry place

no_pieces : (before : List Piece) (piece : Piece) (behind : List Piece) → [] ≡ before ++ (piece ∷ behind) → ⊥
no_pieces before piece behind split = omega (arith, ap length split, length-append before (piece ∷ behind))

first_or_later : (first : Piece) (pieces : List Piece) (at entry place : ℕ) (before : List Piece) (piece : Piece) (behind : List Piece)
    → first ∷ pieces ≡ before ++ (piece ∷ behind) → piece.entry ≡ Some entry → piece_strokes before + place ≡ at → 0 < place → place < piece.len
    → IsFirst first at entry place ⊎ IsLater first pieces at entry place
first_or_later first pieces at entry place [] piece behind split is_entry begins after_start before_end =
    let same : first ≡ piece = ap (λ (l : List Piece). get_or l 0 first) split in
    inl (record {
      is_entry = ap (λ (p : Piece). p.entry) same ∙ is_entry;
      begins = omega (arith, begins);
      after_start = after_start;
      before_end = omega (arith, begins, before_end, ap (λ (p : Piece). p.len) same);
    })
first_or_later first pieces at entry place (head ∷ before) piece behind split is_entry begins after_start before_end =
    let same : first ≡ head = ap (λ (l : List Piece). get_or l 0 first) split in
    let long = ap (λ (p : Piece). p.len) same in
    let sum = sum_by-cons (λ (p : Piece). p.len) head before in
    inr (record {
      past = omega (arith, begins, sum, long);
      crossed = record {
        before = before;
        piece = piece;
        behind = behind;
        split = ap (drop 1) split;
        is_entry = is_entry;
        begins = omega (arith, begins, sum, long);
        after_start = after_start;
        before_end = before_end;
      };
    })

crossed_by : (first : Piece) (pieces : List Piece) (at entry place : ℕ) → IsCrossed (first ∷ pieces) at entry place
    → IsFirst first at entry place ⊎ IsLater first pieces at entry place
crossed_by first pieces at entry place c = first_or_later first pieces at entry place c.before c.piece c.behind c.split c.is_entry c.begins c.after_start c.before_end

-- a later piece is the one that matters
past_kept : (first : Piece) (pieces : List Piece) (at entry place : ℕ) → first.len ≤ at → ((e j : ℕ) → IsCrossed pieces (at - first.len) e j → ⊥)
    → IsFirst first at entry place ⊎ IsLater first pieces at entry place → ⊥
past_kept first pieces at entry place long kept (inl here) = omega (arith, long, here.before_end)
past_kept first pieces at entry place long kept (inr later) = kept entry place later.crossed

past_cover : (first : Piece) (pieces : List Piece) (at : ℕ) (cover : Cover) → first.len ≤ at → IsCover pieces (at - first.len) cover → IsCover (first ∷ pieces) at cover
past_cover first pieces at Kept long kept = λ entry place c. past_kept first pieces at entry place long kept (crossed_by first pieces at entry place c)
past_cover first pieces at (Crossed entry place) long c = record {
  before = first ∷ c.before;
  piece = c.piece;
  behind = c.behind;
  split = ap (λ (l : List Piece). first ∷ l) c.split;
  is_entry = c.is_entry;
  begins = omega (arith, long, c.begins, sum_by-cons (λ (p : Piece). p.len) first c.before);
  after_start = c.after_start;
  before_end = c.before_end;
}

-- no piece crosses the boundary at the start of all
start_kept : (first : Piece) (pieces : List Piece) (entry place : ℕ) → IsFirst first 0 entry place ⊎ IsLater first pieces 0 entry place → ⊥
start_kept first pieces entry place (inl here) = omega (arith, here.begins, here.after_start)
start_kept first pieces entry place (inr later) = omega (arith, later.crossed.after_start, later.crossed.begins)

-- a piece that is no entry crosses none
lone_kept : (first : Piece) (pieces : List Piece) (at entry place : ℕ) → first.entry ≡ None → at < first.len → IsFirst first at entry place ⊎ IsLater first pieces at entry place → ⊥
lone_kept first pieces at entry place none short (inl here) = none-some entry (sym none ∙ here.is_entry)
lone_kept first pieces at entry place none short (inr later) = omega (arith, short, later.past)

inside_cover : (first : Piece) (pieces : List Piece) (at : ℕ) (entry : Option ℕ) → first.entry ≡ entry → at < first.len → IsCover (first ∷ pieces) at (cover_in entry at)
inside_cover first pieces zero entry is short = λ e j c. start_kept first pieces e j (crossed_by first pieces 0 e j c)
inside_cover first pieces (suc n) None is short = λ e j c. lone_kept first pieces (suc n) e j is short (crossed_by first pieces (suc n) e j c)
inside_cover first pieces (suc n) (Some entry) is short = record {
  before = [];
  piece = first;
  behind = pieces;
  split = refl;
  is_entry = is;
  begins = omega arith;
  after_start = omega arith;
  before_end = short;
}

next_cover : (first : Piece) (pieces : List Piece) (at : ℕ) → IsCover pieces (at - first.len) (cover_at pieces (at - first.len)) → (at < first.len) ⊎ (first.len ≤ at)
    → IsCover (first ∷ pieces) at (cover_at (first ∷ pieces) at)
next_cover first pieces at cover (inr long) =
    subst (IsCover (first ∷ pieces) at) (sym (cover_past first pieces at long)) (past_cover first pieces at (cover_at pieces (at - first.len)) long cover)
next_cover first pieces at cover (inl short) =
    subst (IsCover (first ∷ pieces) at) (sym (cover_inside first pieces at short)) (inside_cover first pieces at first.entry refl short)

pub cover_is : (pieces : List Piece) (at : ℕ) → IsCover pieces at (cover_at pieces at)
cover_is [] at = λ entry place c. no_pieces c.before c.piece c.behind c.split
cover_is (first ∷ pieces) at =
    let sides = cases_lt at first.len in
    next_cover first pieces at (cover_is pieces (at - first.len)) sides
