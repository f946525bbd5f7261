-- The sum of one number: its least moves and the strokes that finish it.
use Rattle.std.proofs.Common.{◌≡◌, ℕ, ◌+◌, ◌<◌, ◌≤◌, List, [], length, refl, sym, subst, ◌∙◌, arith, inl, Option, Some, None, true≢false}
use Rattle.std.specs.Prelude.{MatchOption, unwrap_or}
use Rattle.graph_rules.specs.Graphs.{IsBest}
use Rattle.graph_rules.proofs.Distances.{best_below}
use Rattle.graph_rules.proofs.SettledLemmas.{best_once}
use Rattle.steno_rules.specs.ClosureGraphs.{kept_lists}
use Rattle.steno_rules.specs.Outlines.{outline_of}
use Rattle.steno_rules.specs.Segments.{last_piece}
use Rattle.steno_rules.specs.States.{State}
use Rattle.steno_rules.specs.StateNumbers.{number_count, state_of_number}
use Rattle.outline_trie.proofs.LookLemmas.{root_is, root_inside}
use Rattle.closure_state.specs.declared.state.State as nodes
use Rattle.closure_state.specs.declared.state.Hit.{Hit}
use Rattle.closure_state.specs.NodeStates.{HasNodes, IsNodeHit, IsNodeState, IsNoHit, state_at}
use Rattle.conflict_example.proofs.Noted.{graph_count}
use Rattle.settled_laws.specs.OpenHits.{CanFinish, IsOpenHit}
use Rattle.settled_pairs.specs.declared.finishes.Finish.{Finish}
use Rattle.settled_pairs.specs.Finishes.{EndsBy, HasNoFinish, IsFinishBy, IsFinishOf, IsOpenState}
use Rattle.settled_pairs.specs.inside.Sums.{HasNoOpenHit, HasNoSum, HasOpenNumber, IsNodeOpenHit, IsSumOf}

-- ---- an open hit

-- the state without its open word
abbrev pub closed : nodes.State → nodes.State
closed s = record { window = s.window; word = 0; mark = s.mark }

pub closed_nodes : (entries : List (List ℕ)) (s : nodes.State) → HasNodes entries s → HasNodes entries (closed s)
closed_nodes entries s h = record { window = h.window; word = root_inside entries; mark = h.mark }

-- A state is an open hit where it is a hit without its open word.
pub open_by_closed : (entries : List (List ℕ)) (s : nodes.State) (found : Option Hit) → MatchOption found (IsNoHit entries (closed s)) (IsNodeHit entries (closed s)) →
    MatchOption found (HasNoOpenHit entries (state_at entries s)) (IsNodeOpenHit entries (state_at entries s))
open_by_closed entries s None h = λ e place it. h e place (record { between_words = root_is entries; piece = it.piece; mark = it.mark })
open_by_closed entries s (Some hit) h = record { entry = h.entry; hit = record { piece = h.hit.piece; mark = h.hit.mark } }

-- A state whose open hit is told is one.
pub open_state : (entries words : List (List ℕ)) (s : nodes.State) (hit : Hit) → IsNodeOpenHit entries (state_at entries s) hit → IsNodeState entries words s → IsOpenState entries words s
open_state entries words s hit h is = record { state = is; entry = hit.entry; place = hit.place; hit = h.hit }

-- ---- a number

-- a number has one state
one_state : (entries words : List (List ℕ)) (number : ℕ) (s t : State) → state_of_number entries words number ≡ Some s → state_of_number entries words number ≡ Some t → s ≡ t
one_state entries words number s t a b = let both : Some s ≡ Some t = sym a ∙ b in cc

-- What has no state is no open hit,
pub no_sum_state : (entries words : List (List ℕ)) (number : ℕ) → state_of_number entries words number ≡ None → HasNoSum entries words number
no_sum_state entries words number none e place k z h = let wrong : None ≡ Some h.state = sym none ∙ h.is in true≢false cc

-- and neither is what has no hit,
pub no_sum_hit : (entries words : List (List ℕ)) (number : ℕ) (s : State) → state_of_number entries words number ≡ Some s → HasNoOpenHit entries s → HasNoSum entries words number
no_sum_hit entries words number s is none e place k z h = none e place (subst (λ t. IsOpenHit entries t e place) (one_state entries words number h.state s h.is is) h.hit)

-- nor what nothing finishes.
pub no_sum_finish : (entries words : List (List ℕ)) (number : ℕ) (s : State) → state_of_number entries words number ≡ Some s → HasNoFinish entries words s → HasNoSum entries words number
no_sum_finish entries words number s is none e place k z h =
    let same = one_state entries words number h.state s h.is is in
    none (outline_of entries e) z (subst (λ t. last_piece entries t.u ≡ Some (outline_of entries e)) same h.hit.piece) (subst (λ t. CanFinish entries words t (outline_of entries e) z) same h.can)

-- the strokes of a finish
pub finish_strokes : (entries words : List (List ℕ)) (s : State) (e : List ℕ) (n : ℕ) (w : Option ℕ) → EndsBy entries words s e n w → (z : List ℕ) × CanFinish entries words s e z × (length z ≡ n)
finish_strokes entries words s e n None h = ([], inl (h.0, refl), sym h.1)
finish_strokes entries words s e n (Some w) h = (h.1.z, h.1.can, h.1.strokes)

-- The sum of an open hit with its finish.
pub sum_found : (entries words : List (List ℕ)) (number n : ℕ) (s : State) (hit : Hit) (f : Finish) → state_of_number entries words number ≡ Some s → IsNodeOpenHit entries s hit → IsFinishOf entries words s f →
    IsBest 0 (kept_lists entries words) number n → (strokes : ℕ) → strokes ≡ n + f.strokes → IsSumOf entries words number (record { entry = hit.entry; place = hit.place; strokes = strokes })
sum_found entries words number n s hit f is it finishes best strokes sum =
    let o : List ℕ = outline_of entries hit.entry in
    let by : IsFinishBy entries words s o f = finishes o it.hit.piece in
    let z = finish_strokes entries words s o f.strokes f.word by.ends in
    record {
      entry = it.entry;
      is = record {
        moves = n;
        z = z.0;
        is = record { state = s; is = is; hit = it.hit; best = best; can = z.1 };
        sum = omega (arith, z.2, sum);
        least = λ k y other.
            let same = one_state entries words number other.state s other.is is in
            let fits : f.strokes ≤ length y = by.least y (subst (λ t. CanFinish entries words t o y) same other.can) in
            let moves : n ≡ k = best_once 0 (kept_lists entries words) number n k best other.best in
            omega (arith, fits, moves, sum);
      };
    }

-- A sum is small.
pub sum_small : (entries words : List (List ℕ)) (number n strokes : ℕ) → number < number_count entries → number_count entries ≤ 33554432 → IsBest 0 (kept_lists entries words) number n → strokes ≤ 64 → n + strokes < 2147483648
sum_small entries words number n strokes below few best short =
    let steps = best_below 0 (kept_lists entries words) number n (omega (arith, below, graph_count entries words)) best in
    omega (arith, steps, graph_count entries words, few, short)

-- The finish of a number that has one.
pub finish_there : (entries words : List (List ℕ)) (number : ℕ) (s : State) (found : Option Finish) (other f : Finish) → state_of_number entries words number ≡ Some s → HasOpenNumber entries words number →
    MatchOption found (HasNoFinish entries words s) (IsFinishOf entries words s) → f ≡ unwrap_or found other → (t : State) → state_of_number entries words number ≡ Some t → IsFinishOf entries words t f
finish_there entries words number s None other f is has h f_is t same =
    let state = one_state entries words number has.is.state s has.is.is is in
    absurd (h (outline_of entries has.entry) has.z (subst (λ r. last_piece entries r.u ≡ Some (outline_of entries has.entry)) state has.is.hit.piece) (subst (λ r. CanFinish entries words r (outline_of entries has.entry) has.z) state has.is.can))
finish_there entries words number s (Some g) other f is has h f_is t same =
    subst (λ r. IsFinishOf entries words r f) (one_state entries words number s t is same) (subst (λ k. IsFinishOf entries words s k) (sym f_is) h)

-- A number without a state has none.
pub finish_nowhere : (entries words : List (List ℕ)) (number : ℕ) (f : Finish) → state_of_number entries words number ≡ None → (t : State) → state_of_number entries words number ≡ Some t → IsFinishOf entries words t f
finish_nowhere entries words number f none t same = let wrong : None ≡ Some t = sym none ∙ same in absurd (true≢false cc)
