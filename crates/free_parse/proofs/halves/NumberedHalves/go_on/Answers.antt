use Rattle.std.proofs.Common.{◌<◌, length, refl, sym, subst, false}
use Rattle.std.specs.Prelude.{IfSome, OnOk}
use Rattle.outline_trie.specs.Tries.{IsNode, node_strokes}
use Rattle.free_parse.specs.inside.Halves.{AreNumbersOf}
use Rattle.free_parse.proofs.HalvesLemmas.{on_both, on_first, on_one}
use Rattle.free_parse.proofs.halves.NumberedHalves.go_on.Goals as goal

pub returns-in_ok-end_word-in-None-shorter : goal.returns-in_ok-end_word-in-None-shorter
returns-in_ok-end_word-in-None-shorter c = λ h are.
    let es = c.args.graph.now.entries in
    let made = c.in_ok-end_word-in-None-shorter.ensures es h (node_strokes es c.args.to.longer) c.entry.ensures are in
    subst (λ k. AreNumbersOf es k (record { first = c.end_word.new.self.first; second = c.end_word.new.self.second; longer_is_first = false }))
    (sym (on_first es c.args.from c.args.to c.in-Some.other h c.in-None-shorter.is c.in-Some.is))
    (record { first_are = made.first_are; second_are = made.second_are; flag_is = refl })

pub returns-then-other-eq0 : goal.returns-then-other-eq0
returns-then-other-eq0 c = λ h are.
    let es = c.args.graph.now.entries in
    subst (λ k. OnOk c.end_one.result (AreNumbersOf es k c.end_one.new.self)) (sym (on_one es c.args.from c.args.to c.in-Some-shorter.shorter c.in-Some.other h c.in-Some-shorter.is c.in-Some.is c.if-other-eq0.true)) (c.end_one.ensures h are)

pub returns-else-other-eq0 : goal.returns-else-other-eq0
returns-else-other-eq0 c = λ h are.
    let es = c.args.graph.now.entries in
    let both = subst (λ o. IfSome o (λ q. IsNode es q × (length (node_strokes es q) < length (node_strokes es c.args.to.longer)))) c.in-Some.is c.requires.to.shorter in
    subst (λ k. AreNumbersOf es k c.args.self.now) (sym (on_both es c.args.from c.args.to c.in-Some-shorter.shorter c.in-Some.other h c.in-Some-shorter.is c.in-Some.is both.0 c.if-other-eq0.false)) are
