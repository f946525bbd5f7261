use Rattle.std.proofs.Common.{◌≡◌, length, [], sym, ap, subst, arith, refl, ◌∙◌, true, Some, None}
use Rattle.round_core.specs.declared.event.Event.TheVariants.{Relax}
use Rattle.round_core.specs.Hands.{machine_of, moves_held, NextMove, stepped, hand_view, AreBelow}
use Rattle.round_core.specs.Machines.{is_enabled, lowered}
use Rattle.round_core.proofs.Steps.{reached_after, reached_good, front_below, words_count, busy_room, busy_move, view_at, view_inside, owned_set, let_go_is, move_is, made}
use Rattle.std.specs.Prelude.{slice_get}
use Rattle.round_core.proofs.Enabled.{busy_is}
use Rattle.std.proofs.lemmas.Option.{slice_get_read}
use Rattle.round_core.proofs.machine.RoundState.relax.Goals as goal

pub next_move-found-requires-clause-front : goal.next_move-found-requires-clause-front
next_move-found-requires-clause-front g c =
    let s = c.self.inside in let o = g.G.StepGraph.origin s.graph.now in let ls = g.G.StepGraph.lists s.graph.now in let left = g.G.StepGraph.left s.graph.now in
    let m = machine_of left ls s.words.items s.front.items s.closed s.begun s.noted.items s.size s.untaken.items s.hands.items in
    let good = reached_good o ls m c.self.invariant.graph c.self.invariant.reached in
    subst (λ f. AreBelow (length ls) f) (sym c.as_slice.ensures.value) (front_below o ls m good)

pub word_after-word-requires : goal.word_after-word-requires
word_after-word-requires g c =
    let s = c.self.inside in let o = g.G.StepGraph.origin s.graph.now in let ls = g.G.StepGraph.lists s.graph.now in let left = g.G.StepGraph.left s.graph.now in
    let m = machine_of left ls s.words.items s.front.items s.closed s.begun s.noted.items s.size s.untaken.items s.hands.items in
    let good = reached_good o ls m c.self.invariant.graph c.self.invariant.reached in
    let on : is_enabled m (Relax c.args.worker) ≡ true = subst (λ v. is_enabled v.now (Relax c.args.worker) ≡ true) (sym c.self.view_is) c.requires in
    let busy = busy_is (slice_get m.hands c.args.worker) on in
    let few = (busy_room o ls m c.args.worker busy.0 c.self.invariant.graph good busy.1).0 in omega (arith, few)

pub lower-requires-clause-below : goal.lower-requires-clause-below
lower-requires-clause-below g c =
    let s = c.self.inside in let o = g.G.StepGraph.origin s.graph.now in let ls = g.G.StepGraph.lists s.graph.now in let left = g.G.StepGraph.left s.graph.now in
    let m = machine_of left ls s.words.items s.front.items s.closed s.begun s.noted.items s.size s.untaken.items s.hands.items in
    let good = reached_good o ls m c.self.invariant.graph c.self.invariant.reached in
    let on : is_enabled m (Relax c.args.worker) ≡ true = subst (λ v. is_enabled v.now (Relax c.args.worker) ≡ true) (sym c.self.view_is) c.requires in
    let busy = busy_is (slice_get m.hands c.args.worker) on in
    let held = c.index_mut.result.now in let now = c.next_move-found.new.held in
    let has = slice_get_read s.hands.items (length s.hands.items) c.args.worker held refl (view_inside left ls s.front.items s.hands.items c.args.worker (Some busy.0) busy.1) c.index_mut.ensures.value in
    let next = subst (λ f. NextMove (hand_view left ls f held) (hand_view left ls f now) c.in-Some.source c.in-Some.target) c.as_slice.ensures.value c.in-Some.ensures.next in
    let moving = view_at left ls s.front.items s.hands.items c.args.worker held has ∙ ap Some next.1 in
    let below = (busy_move o ls m c.args.worker c.in-Some.source c.in-Some.target next.0 c.self.invariant.graph good moving).1 in let count = words_count o ls m good in
    omega (arith, below, count)

pub lower-requires-clause-room : goal.lower-requires-clause-room
lower-requires-clause-room g c =
    let s = c.self.inside in let o = g.G.StepGraph.origin s.graph.now in let ls = g.G.StepGraph.lists s.graph.now in let left = g.G.StepGraph.left s.graph.now in
    let m = machine_of left ls s.words.items s.front.items s.closed s.begun s.noted.items s.size s.untaken.items s.hands.items in
    let good = reached_good o ls m c.self.invariant.graph c.self.invariant.reached in
    let on : is_enabled m (Relax c.args.worker) ≡ true = subst (λ v. is_enabled v.now (Relax c.args.worker) ≡ true) (sym c.self.view_is) c.requires in
    let busy = busy_is (slice_get m.hands c.args.worker) on in
    let few = (busy_room o ls m c.args.worker busy.0 c.self.invariant.graph good busy.1).1 in let room = c.self.invariant.noted in omega (arith, few, room)

pub invariant_of-self : goal.invariant_of-self
invariant_of-self g c =
    let s = c.self.inside in let o = g.G.StepGraph.origin s.graph.now in let ls = g.G.StepGraph.lists s.graph.now in let left = g.G.StepGraph.left s.graph.now in
    let m = machine_of left ls s.words.items s.front.items s.closed s.begun s.noted.items s.size s.untaken.items s.hands.items in
    let on : is_enabled m (Relax c.args.worker) ≡ true = subst (λ v. is_enabled v.now (Relax c.args.worker) ≡ true) (sym c.self.view_is) c.requires in
    let busy = busy_is (slice_get m.hands c.args.worker) on in
    let held = c.index_mut.result.now in let now = c.next_move-found.new.held in
    let has = slice_get_read s.hands.items (length s.hands.items) c.args.worker held refl (view_inside left ls s.front.items s.hands.items c.args.worker (Some busy.0) busy.1) c.index_mut.ensures.value in
    let next = subst (λ f. NextMove (hand_view left ls f held) (hand_view left ls f now) c.in-Some.source c.in-Some.target) c.as_slice.ensures.value c.in-Some.ensures.next in
    let is = move_is left ls s.words.items s.front.items s.closed s.begun s.noted.items s.size s.untaken.items s.hands.items c.args.worker c.in-Some.source c.in-Some.target held now c.lower.new.words.items c.lower.new.noted.items on has next
    (c.lower.ensures.words ∙ ap (lowered s.words.items c.in-Some.target) c.word_after-word.ensures) c.lower.ensures.noted in
    record {
      graph = c.self.invariant.graph;
      reached = reached_after o ls m _ (Relax c.args.worker) c.self.invariant.reached is;
      owned = owned_set (g.G.StepGraph.owns s.graph.now) s.hands.items c.args.worker now (view_inside left ls s.front.items s.hands.items c.args.worker (Some busy.0) busy.1) c.self.invariant.owned c.next_move-found.ensures.owned;
      front = c.self.invariant.front;
      noted = (let more = c.lower.ensures.room in let room = c.self.invariant.noted in omega (arith, more, room));
      untaken = c.self.invariant.untaken;
    }

pub invariant_of-self-in_default : goal.invariant_of-self-in_default
invariant_of-self-in_default g c =
    let s = c.self.inside in let o = g.G.StepGraph.origin s.graph.now in let ls = g.G.StepGraph.lists s.graph.now in let left = g.G.StepGraph.left s.graph.now in
    let m = machine_of left ls s.words.items s.front.items s.closed s.begun s.noted.items s.size s.untaken.items s.hands.items in
    let on : is_enabled m (Relax c.args.worker) ≡ true = subst (λ v. is_enabled v.now (Relax c.args.worker) ≡ true) (sym c.self.view_is) c.requires in
    let busy = busy_is (slice_get m.hands c.args.worker) on in
    let held = c.index_mut.result.now in let now = c.next_move-found.new.held in
    let has = slice_get_read s.hands.items (length s.hands.items) c.args.worker held refl (view_inside left ls s.front.items s.hands.items c.args.worker (Some busy.0) busy.1) c.index_mut.ensures.value in
    let none = subst (λ f. (moves_held (hand_view left ls f held) ≡ []) × (now ≡ None)) c.as_slice.ensures.value c.in_default.ensures.next in
    let is = let_go_is left ls s.words.items s.front.items s.closed s.begun s.noted.items s.size s.untaken.items s.hands.items c.args.worker held now on has none in
    record {
      graph = c.self.invariant.graph;
      reached = reached_after o ls m _ (Relax c.args.worker) c.self.invariant.reached is;
      owned = owned_set (g.G.StepGraph.owns s.graph.now) s.hands.items c.args.worker now (view_inside left ls s.front.items s.hands.items c.args.worker (Some busy.0) busy.1) c.self.invariant.owned c.next_move-found.ensures.owned;
      front = c.self.invariant.front;
      noted = c.self.invariant.noted;
      untaken = c.self.invariant.untaken;
    }

pub returns-in-Some : goal.returns-in-Some
returns-in-Some g c =
    let s = c.self.inside in let o = g.G.StepGraph.origin s.graph.now in let ls = g.G.StepGraph.lists s.graph.now in let left = g.G.StepGraph.left s.graph.now in
    let m = machine_of left ls s.words.items s.front.items s.closed s.begun s.noted.items s.size s.untaken.items s.hands.items in
    let on : is_enabled m (Relax c.args.worker) ≡ true = subst (λ v. is_enabled v.now (Relax c.args.worker) ≡ true) (sym c.self.view_is) c.requires in
    let busy = busy_is (slice_get m.hands c.args.worker) on in
    let held = c.index_mut.result.now in let now = c.next_move-found.new.held in
    let has = slice_get_read s.hands.items (length s.hands.items) c.args.worker held refl (view_inside left ls s.front.items s.hands.items c.args.worker (Some busy.0) busy.1) c.index_mut.ensures.value in
    let next = subst (λ f. NextMove (hand_view left ls f held) (hand_view left ls f now) c.in-Some.source c.in-Some.target) c.as_slice.ensures.value c.in-Some.ensures.next in
    let is = move_is left ls s.words.items s.front.items s.closed s.begun s.noted.items s.size s.untaken.items s.hands.items c.args.worker c.in-Some.source c.in-Some.target held now c.lower.new.words.items c.lower.new.noted.items on has next
    (c.lower.ensures.words ∙ ap (lowered s.words.items c.in-Some.target) c.word_after-word.ensures) c.lower.ensures.noted in
    made o ls m _ (Relax c.args.worker) is ∙ ap (λ v. stepped v (Relax c.args.worker)) c.self.view_is

pub returns-in_default : goal.returns-in_default
returns-in_default g c =
    let s = c.self.inside in let o = g.G.StepGraph.origin s.graph.now in let ls = g.G.StepGraph.lists s.graph.now in let left = g.G.StepGraph.left s.graph.now in
    let m = machine_of left ls s.words.items s.front.items s.closed s.begun s.noted.items s.size s.untaken.items s.hands.items in
    let on : is_enabled m (Relax c.args.worker) ≡ true = subst (λ v. is_enabled v.now (Relax c.args.worker) ≡ true) (sym c.self.view_is) c.requires in
    let busy = busy_is (slice_get m.hands c.args.worker) on in
    let held = c.index_mut.result.now in let now = c.next_move-found.new.held in
    let has = slice_get_read s.hands.items (length s.hands.items) c.args.worker held refl (view_inside left ls s.front.items s.hands.items c.args.worker (Some busy.0) busy.1) c.index_mut.ensures.value in
    let none = subst (λ f. (moves_held (hand_view left ls f held) ≡ []) × (now ≡ None)) c.as_slice.ensures.value c.in_default.ensures.next in
    let is = let_go_is left ls s.words.items s.front.items s.closed s.begun s.noted.items s.size s.untaken.items s.hands.items c.args.worker held now on has none in
    made o ls m _ (Relax c.args.worker) is ∙ ap (λ v. stepped v (Relax c.args.worker)) c.self.view_is
