use Rattle.std.proofs.Common.{◌≡◌, ℕ, ◌+◌, List, length, take, get_or, arith, sym, subst, ap, ◌∙◌, ⊎_elim, inl, inr}
use Rattle.std.proofs.lemmas.List.{take_more}
use Rattle.std.proofs.lemmas.Option.{slice_get-get_or}
use Rattle.std.proofs.Math.Seq.{take-length}
use Rattle.round_core.specs.Rounds.{Has}
use Rattle.steal_rounds.specs.inside.Moves.{Worked, FoundBy}
use Rattle.round_core.specs.inside.InRounds.{moves_of}
use Rattle.steal_rounds.proofs.Spreads.{Working, works_next, adds_on}
use Rattle.steal_rounds.proofs.alone.spread_gated.Goals as goal

pub spread-requires-clause-state : goal.spread-requires-clause-state
spread-requires-clause-state g c =
    let at = slice_get-get_or c.args.frontier.now c.loop-place.place 0 (omega arith) in
    let r = c.requires.round.1 c.loop-place.place (get_or c.args.frontier.now c.loop-place.place 0) at in
    (r.0, r.1)

pub loop-place-preserved : goal.loop-place-preserved
loop-place-preserved g c =
    let i = c.loop-place.invariant in
    let s = c.in_ok-moves.ensures in
    let n = c.loop-place.place in
    let xs = c.args.frontier.now in
    let more = take_more xs n 0 (omega arith) in
    let at = slice_get-get_or xs n 0 (omega arith) in
    subst (λ (l : List ℕ). Working c.args.table.now c.args.distance xs l c.args.pass.now c.spread.new.pass c.args.notes.now.items c.spread.new.notes.items (c.loop-place.moves + c.in_ok-moves.field-0)) (sym more)
    (works_next c.args.table.now c.args.distance xs (take n xs) c.args.pass.now c.loop-place.pass c.spread.new.pass c.args.notes.now.items c.loop-place.notes.items c.spread.new.notes.items c.loop-place.moves (get_or xs n 0) c.in_ok-moves.field-0
    i (n, at) s.pass s.notes s.adds s.made s.count.0 s.count.1)

pub returns-in_err-moves-clause-adds : goal.returns-in_err-moves-clause-adds
returns-in_err-moves-clause-adds g c =
    let i = c.loop-place.invariant in
    let xs = c.args.frontier.now in
    let at = slice_get-get_or xs c.loop-place.place 0 (omega arith) in
    let s = get_or xs c.loop-place.place 0 in
    adds_on c.args.table.now c.args.distance xs c.args.pass.now.seen c.loop-place.pass.seen c.spread.new.pass.seen c.args.notes.now.items c.loop-place.notes.items c.spread.new.notes.items i.goes.2 c.in_err-moves.ensures.pass.2 i.adds
    (λ u has. ⊎_elim (λ (old : Has c.loop-place.notes.items u). inl old) (λ (f : FoundBy c.args.table.now c.args.distance c.loop-place.pass.seen c.spread.new.pass.seen s u). inr (s, (c.loop-place.place, at), f)) (c.in_err-moves.ensures.adds u has))

pub returns-clause-made : goal.returns-clause-made
returns-clause-made g c =
    let i = c.loop-place.invariant in
    let all : take c.loop-place.place c.args.frontier.now ≡ c.args.frontier.now = let e : c.loop-place.place ≡ length c.args.frontier.now = omega arith in ap (λ (n : ℕ). take n c.args.frontier.now) e ∙ take-length c.args.frontier.now in
    subst (λ (l : List ℕ). Worked c.args.table.now c.args.distance c.loop-place.pass.seen c.loop-place.notes.items l) all i.made

pub returns-clause-count : goal.returns-clause-count
returns-clause-count g c =
    let i = c.loop-place.invariant in
    let all : take c.loop-place.place c.args.frontier.now ≡ c.args.frontier.now = let e : c.loop-place.place ≡ length c.args.frontier.now = omega arith in ap (λ (n : ℕ). take n c.args.frontier.now) e ∙ take-length c.args.frontier.now in
    i.count ∙ ap (λ (l : List ℕ). moves_of c.args.table.now.lists l) all
