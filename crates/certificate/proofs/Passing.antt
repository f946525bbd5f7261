-- Taking bytes and passing over them, one after another.
use Rattle.std.proofs.Common.{◌≡◌, ℕ, ◌+◌, ◌-◌, ◌<◌, ◌≤◌, ◌^◌, List, [], ◌++◌, length, take, drop, refl, sym, ap, subst, arith, Bool, true, false, true≢false, ◌∙◌, append_assoc, append-nil, min, Option, Some, None, cond, option_map}
use Rattle.std.specs.Io.KnownBytes.{prepend_known}
use Rattle.std.specs.List.{slice_range}
use Rattle.std.proofs.lemmas.List.{take-append-drop, length-append, length-take, length-take-le, length-drop, drop-drop, drop-take}
use Rattle.std.proofs.Math.Seq.{take-add, take-append_seam}
use Rattle.outside.specs.Files.{FilesView, Both}
use Rattle.outside.specs.declared.fault.Way.TheVariants.{Reading}
use Rattle.certificate.specs.Readers.{OnlyTakes, CountsTaken}
use Rattle.certificate.specs.inside.Pieces.{PiecesView, PassesOver}

-- known bytes put before in two steps
pub prepend_append : (xs ys : List ℕ) (known : Option (List ℕ)) → prepend_known xs (prepend_known ys known) ≡ prepend_known (xs ++ ys) known
prepend_append xs ys None = refl
prepend_append xs ys (Some zs) = ap Some (sym (append_assoc xs ys zs))

-- counts go on
pub counts_then : (a b c : ℕ) (x y z : Option (List ℕ)) → CountsTaken a b x y → CountsTaken b c y z → CountsTaken a c x z
counts_then a b c x y z p q = (let one = p.0 in let two = q.0 in omega arith, by x y z p.1 q.1)
  where
    by : (before mid after : Option (List ℕ)) → Both (λ rest left. b + length left ≤ a + length rest) before mid → Both (λ rest left. c + length left ≤ b + length rest) mid after
        → Both (λ rest left. c + length left ≤ a + length rest) before after
    by None None None p' q' = tt
    by None None (Some l) p' q' = absurd q'
    by None (Some m) last p' q' = absurd p'
    by (Some f) None last p' q' = absurd p'
    by (Some f) (Some m) None p' q' = absurd q'
    by (Some f) (Some m) (Some l) p' q' = omega (arith, p', q')

-- nothing was taken between
pub counts_on : (a b other c : ℕ) (x y z : Option (List ℕ)) → other ≡ b → CountsTaken a b x y → CountsTaken other c y z → CountsTaken a c x z
counts_on a b other c x y z same p q = counts_then a b c x y z p (subst (λ n. CountsTaken n c y z) same q)

-- calls go on
pub takes_then : (failed : Bool) (a b c : FilesView) → OnlyTakes false a b → OnlyTakes failed b c → OnlyTakes failed a c
takes_then failed a b c p q = record {
  leaves = record { held = q.leaves.held ∙ p.leaves.held; writing = q.leaves.writing ∙ p.leaves.writing; opened = q.leaves.opened ∙ p.leaves.opened };
  latest = by failed q.latest;
  later = let one = p.later in let two = q.later in omega arith;
  rose = λ is. rw (p.steady refl) at (q.rose is);
  steady = λ is. q.steady is ∙ p.steady refl;
}
  where
    by : (f : Bool) → c.latest ≡ cond f (option_map (λ name. (name, Reading)) b.opened) b.latest → c.latest ≡ cond f (option_map (λ name. (name, Reading)) a.opened) a.latest
    by true is = is ∙ ap (λ o. option_map (λ name. (name, Reading)) o) p.leaves.opened
    by false is = is ∙ p.latest

-- passing over goes on
pub passes_then : (s t : List ℕ) (failed : Bool) (a b c : PiecesView) (f g h : FilesView) → PassesOver s false a b f g → PassesOver t failed b c g h → PassesOver (s ++ t) failed a c f h
passes_then s t failed a b c f g h p q = record {
  ahead =
      p.ahead ∙ sym (prepend_append s b.left g.rest) ∙ ap (prepend_known s) q.ahead
      ∙ prepend_append s (t ++ c.left) h.rest ∙ ap (λ xs. prepend_known xs h.rest) (sym (append_assoc s t c.left));
  least = λ m few counted.
      let total = length-append s t in
      let more = q.least (m + length s) (omega arith) (p.least m (omega arith) counted) in
      omega arith;
  most = counts_then a.taken b.taken c.taken f.rest g.rest h.rest p.most q.most;
  takes = takes_then failed f g h p.takes q.takes;
}

-- bytes are taken further
pub passes_on : (s : List ℕ) (failed : Bool) (a b c : PiecesView) (f g h : FilesView) → PassesOver s false a b f g → PassesOver [] failed b c g h → PassesOver s failed a c f h
passes_on s failed a b c f g h p q = subst (λ t. PassesOver t failed a c f h) (append-nil s) (passes_then s [] failed a b c f g h p q)

-- the first bytes that are held are passed over
pub passes_over : (s : List ℕ) (count : ℕ) (failed : Bool) (a b c : PiecesView) (f g : FilesView) → count ≤ length b.left → c ≡ record b { left = drop count b.left }
    → PassesOver s failed a b f g → PassesOver (s ++ take count b.left) failed a c f g
passes_over s count failed a b c f g within is p = subst (λ v. PassesOver (s ++ take count b.left) failed a v f g) (sym is) (record {
  ahead = p.ahead ∙ ap (λ xs. prepend_known xs g.rest) (ap (λ xs. s ++ xs) (sym (take-append-drop count b.left)) ∙ sym (append_assoc s (take count b.left) (drop count b.left)));
  least = λ m few counted.
      let total = length-append s (take count b.left) in
      let first = length-take-le count b.left within in
      let others = length-drop count b.left in
      let all = p.least m (omega arith) counted in
      omega arith;
  most = p.most;
  takes = p.takes;
})

-- bytes that were taken are held behind the others
pub passes_more : (old : PiecesView) (more left : List ℕ) (taken : ℕ) (f g : FilesView) → old.taken < 2 ^ 64 → left ≡ old.left ++ more → length left ≤ 65536
    → taken ≡ min (old.taken + length more) (2 ^ 64 - 1) → f.rest ≡ prepend_known more g.rest → OnlyTakes false f g
    → PassesOver [] false old (record { left = left; taken = taken }) f g
passes_more old more left taken f g range is few count moved takes = record {
  ahead = ap (prepend_known old.left) moved ∙ prepend_append old.left more g.rest ∙ ap (λ xs. prepend_known xs g.rest) (sym is);
  least = λ m small counted.
      let total = ap length is ∙ length-append old.left more in
      omega arith;
  most = (omega arith, counted f.rest g.rest moved);
  takes = takes;
}
  where
    counted : (before after : Option (List ℕ)) → before ≡ prepend_known more after → Both (λ rest left. taken + length left ≤ old.taken + length rest) before after
    counted None None e = tt
    counted None (Some rest) e = absurd (true≢false cc)
    counted (Some all) None e = absurd (true≢false cc)
    counted (Some all) (Some rest) e =
        let same : all ≡ more ++ rest = cc in
        let total = ap length same ∙ length-append more rest in
        omega arith

-- nothing was taken
pub passes_none : (failed : Bool) (old : PiecesView) (f g : FilesView) → g.rest ≡ f.rest → OnlyTakes failed f g → PassesOver [] failed old old f g
passes_none failed old f g rest takes = record {
  ahead = ap (prepend_known old.left) (sym rest);
  least = λ m small counted. omega arith;
  most = (omega arith, counted f.rest g.rest rest);
  takes = takes;
}
  where
    counted : (before after : Option (List ℕ)) → after ≡ before → Both (λ all left. old.taken + length left ≤ old.taken + length all) before after
    counted None None e = tt
    counted None (Some rest) e = absurd (true≢false cc)
    counted (Some all) None e = absurd (true≢false cc)
    counted (Some all) (Some rest) e = let same : rest ≡ all = cc in let lengths = ap length same in omega arith

-- no file was called
pub takes_same : (f : FilesView) → OnlyTakes false f f
takes_same f = record {
  leaves = record { held = refl; writing = refl; opened = refl };
  latest = refl;
  later = omega arith;
  rose = λ is. absurd (true≢false (sym is));
  steady = λ is. refl;
}

-- the front of the buffer, and the bytes behind it
pub held_more : (buffer left : List ℕ) (held count : ℕ) → take held buffer ≡ left → take (held + count) buffer ≡ left ++ slice_range buffer held (held + count)
held_more buffer left held count is =
    take-add held count buffer ∙ ap (λ xs. xs ++ take count (drop held buffer)) is
    ∙ (let same : count ≡ held + count - held = omega arith in ap (λ n. left ++ take n (drop held buffer)) same)

-- the held bytes without the first
pub held_behind : (buffer : List ℕ) (start end count : ℕ) → count ≤ length (slice_range buffer start end) → slice_range buffer (start + count) end ≡ drop count (slice_range buffer start end)
held_behind buffer start end count within =
    let short = length-take (end - start) (drop start buffer) in
    let sum : end - start ≡ count + (end - (start + count)) = omega arith in
    ap (take (end - (start + count))) (sym (drop-drop count start buffer))
    ∙ sym (drop-take count (end - (start + count)) (drop start buffer))
    ∙ ap (λ n. drop count (take n (drop start buffer))) (sym sum)

-- how many bytes are held
pub length-held : (buffer : List ℕ) (start end : ℕ) → start ≤ end → end ≤ length buffer → length (slice_range buffer start end) ≡ end - start
length-held buffer start end order within =
    length-take-le (end - start) (drop start buffer) (let rest = length-drop start buffer in omega arith)

-- a buffer that was written to is what was written
pub written : (len : ℕ) (buffer others : List ℕ) → length buffer ≡ len → take len (buffer ++ others) ≡ buffer
written len buffer others is = ap (λ n. take n (buffer ++ others)) (sym is) ∙ take-append_seam buffer others

-- what is held from the front on
pub from_front : (buffer written_to : List ℕ) (end : ℕ) → written_to ≡ buffer → slice_range written_to 0 end ≡ take end buffer
from_front buffer written_to end is = (let same : end - 0 ≡ end = omega arith in ap (λ n. take n written_to) same) ∙ ap (take end) is
