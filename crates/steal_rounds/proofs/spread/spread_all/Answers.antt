use Rattle.std.proofs.Common.{◌≡◌, ℕ, ◌+◌, List, length, take, get_or, arith, sym, subst, ap, ◌∙◌, ⊎_elim, inl, inr}
use Rattle.std.proofs.lemmas.List.{take_more}
use Rattle.std.proofs.lemmas.Option.{slice_get-get_or}
use Rattle.std.proofs.Math.Seq.{take-length}
use Rattle.round_core.specs.Rounds.{Has}
use Rattle.steal_rounds.specs.inside.Moves.{Worked, FoundBy}
use Rattle.round_core.specs.inside.InRounds.{moves_of}
use Rattle.steal_rounds.proofs.Spreads.{Working, works_next, adds_on}
use Rattle.steal_rounds.proofs.spread.spread_all.Goals as goal

pub spread-requires-clause-state : goal.spread-requires-clause-state
spread-requires-clause-state g c =
    let at = slice_get-get_or c.args.states.now c.loop-state.state-index 0 (omega arith) in
    let r = c.requires.round.1 c.loop-state.state-index (get_or c.args.states.now c.loop-state.state-index 0) at in
    (r.0, r.1)

pub loop-state-preserved : goal.loop-state-preserved
loop-state-preserved g c =
    let i = c.loop-state.invariant in
    let s = c.in_ok-moves.ensures in
    let n = c.loop-state.state-index in
    let xs = c.args.states.now in
    let more = take_more xs n 0 (omega arith) in
    let at = slice_get-get_or xs n 0 (omega arith) in
    subst (λ (l : List ℕ). Working c.args.table.now c.args.distance xs l c.args.pass.now c.spread.new.pass c.args.notes.now.items c.spread.new.notes.items (c.loop-state.moves + c.in_ok-moves.field-0)) (sym more)
    (works_next c.args.table.now c.args.distance xs (take n xs) c.args.pass.now c.loop-state.pass c.spread.new.pass c.args.notes.now.items c.loop-state.notes.items c.spread.new.notes.items c.loop-state.moves (get_or xs n 0) c.in_ok-moves.field-0
    i (n, at) s.pass s.notes s.adds s.made s.count.0 s.count.1)

pub returns-in_err-moves-clause-adds : goal.returns-in_err-moves-clause-adds
returns-in_err-moves-clause-adds g c =
    let i = c.loop-state.invariant in
    let xs = c.args.states.now in
    let at = slice_get-get_or xs c.loop-state.state-index 0 (omega arith) in
    let s = get_or xs c.loop-state.state-index 0 in
    adds_on c.args.table.now c.args.distance xs c.args.pass.now.seen c.loop-state.pass.seen c.spread.new.pass.seen c.args.notes.now.items c.loop-state.notes.items c.spread.new.notes.items i.goes.2 c.in_err-moves.ensures.pass.2 i.adds
    (λ u has. ⊎_elim (λ (old : Has c.loop-state.notes.items u). inl old) (λ (f : FoundBy c.args.table.now c.args.distance c.loop-state.pass.seen c.spread.new.pass.seen s u). inr (s, (c.loop-state.state-index, at), f)) (c.in_err-moves.ensures.adds u has))

pub returns-clause-made : goal.returns-clause-made
returns-clause-made g c =
    let i = c.loop-state.invariant in
    let all : take c.loop-state.state-index c.args.states.now ≡ c.args.states.now = let e : c.loop-state.state-index ≡ length c.args.states.now = omega arith in ap (λ (n : ℕ). take n c.args.states.now) e ∙ take-length c.args.states.now in
    subst (λ (l : List ℕ). Worked c.args.table.now c.args.distance c.loop-state.pass.seen c.loop-state.notes.items l) all i.made

pub returns-clause-count : goal.returns-clause-count
returns-clause-count g c =
    let i = c.loop-state.invariant in
    let all : take c.loop-state.state-index c.args.states.now ≡ c.args.states.now = let e : c.loop-state.state-index ≡ length c.args.states.now = omega arith in ap (λ (n : ℕ). take n c.args.states.now) e ∙ take-length c.args.states.now in
    i.count ∙ ap (λ (l : List ℕ). moves_of c.args.table.now.lists l) all
