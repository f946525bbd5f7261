-- Parts of a text that are added to a page, one after another.
use Rattle.std.proofs.Common.{◌≡◌, ℕ, ◌+◌, List, [], ◌++◌, length, drop, take, Option, refl, sym, ap, subst, ◌∙◌, arith, append_assoc, append-nil, length-append, flat_map, get_or, Result, Ok, Err, ◌<◌}
use Rattle.std.specs.Prelude.{OnOk}
use Rattle.std.specs.Io.KnownBytes.{append_known}
use Rattle.std.proofs.Math.Seq.{take-append-add}
use Rattle.std.proofs.lemmas.List.{drop_more, take-append-le}
use Rattle.std.proofs.lemmas.List.Concat.{flat_map-cons}
use Rattle.std.proofs.lemmas.Result.{on_err_weaker, on_ok_weaker}
use Rattle.outside.specs.Faults.{Rose}
use Rattle.outside.specs.Sink.{AppendsPrefix, Puts}
use Rattle.outside.specs.declared.fault.OutsideFault.{OutsideFault}
use Rattle.outside.specs.declared.fault.OutsideFault.TheVariants.{Failed, Memory}
use Rattle.outside.proofs.Known.{append_known-append, append_known-empty}
use Rattle.pages.specs.Pages.{AddsToPage, IsAdded, Progress, progress}

-- ---- prefixes

-- a prefix of a list is one of a longer list
prefix_longer : (old new : Option (List ℕ)) (xs ys : List ℕ) → AppendsPrefix old new xs → AppendsPrefix old new (xs ++ ys)
prefix_longer old new xs ys (n, within, is) =
    (n, omega (arith, within, length-append xs ys), is ∙ ap (append_known old) (sym (take-append-le n xs ys within)))

-- a prefix behind what was put before
prefix_behind : (old mid new : Option (List ℕ)) (put xs : List ℕ) → mid ≡ append_known old put → AppendsPrefix mid new xs → AppendsPrefix old new (put ++ xs)
prefix_behind old mid new put xs before (n, within, is) = (
  length put + n,
  omega (arith, within, length-append put xs),
  is ∙ ap (λ k. append_known k (take n xs)) before ∙ append_known-append old put (take n xs) ∙ ap (append_known old) (sym (take-append-add put xs n)),
)

-- nothing was put
prefix_none : (known : Option (List ℕ)) (xs : List ℕ) → AppendsPrefix known known xs
prefix_none known xs = (0, omega arith, sym (append_known-empty known))

-- ---- two parts

goes_none : (at : Progress) → IsAdded at at []
goes_none at = record { put = []; text = sym (append_known-empty at.text); made = sym (append-nil at.page) }

-- the page and both parts, in another grouping
regroup : (before mid : Progress) (a b : List ℕ) (h : IsAdded before mid a) → h.put ++ (mid.page ++ b) ≡ before.page ++ (a ++ b)
regroup before mid a b h = sym (append_assoc h.put mid.page b) ∙ ap (λ l. l ++ b) h.made ∙ append_assoc before.page a b

goes_both : (before mid after : Progress) (a b : List ℕ) → IsAdded before mid a → IsAdded mid after b → IsAdded before after (a ++ b)
goes_both before mid after a b h g = record {
  put = h.put ++ g.put;
  text = g.text ∙ ap (λ k. append_known k g.put) h.text ∙ append_known-append before.text h.put g.put;
  made = append_assoc h.put g.put after.page ∙ ap (λ l. h.put ++ l) g.made ∙ regroup before mid a b h;
}

-- the second part ends early
goes_early : (before mid : Progress) (new : Option (List ℕ)) (a b : List ℕ) → IsAdded before mid a → AppendsPrefix mid.text new (mid.page ++ b)
    → AppendsPrefix before.text new (before.page ++ (a ++ b))
goes_early before mid new a b h cut =
    subst (λ (l : List ℕ). AppendsPrefix before.text new l) (regroup before mid a b h) (prefix_behind before.text mid.text new h.put (mid.page ++ b) h.text cut)

-- ---- a text whose parts are added

-- a first part of this whole text was added, and this is left
pub record IsAdding (before now : Progress) (whole left : List ℕ) : Type 0 where
  pub so_far : List ℕ
  pub split : so_far ++ left ≡ whole
  pub goes_on : IsAdded before now so_far
  pub steady : now.faults ≡ before.faults

-- at first all of it is left
pub adding_all : (at : Progress) (whole : List ℕ) → IsAdding at at whole whole
adding_all at whole = record { so_far = []; split = refl; goes_on = goes_none at; steady = refl }

-- a part was added
pub adding_more : {T : Type 0} (before mid after : Progress) (whole added left : List ℕ) (answer : T) → IsAdding before mid whole (added ++ left)
    → AddsToPage added (Ok answer) mid after → IsAdding before after whole left
adding_more before mid after whole added left answer h adds = record {
  so_far = h.so_far ++ added;
  split = append_assoc h.so_far added left ∙ h.split;
  goes_on = goes_both before mid after h.so_far added h.goes_on adds.goes_on;
  steady = adds.steady refl ∙ h.steady;
}

-- a part was written on the page
pub adding_pushed : (before mid : Progress) (page whole added left : List ℕ) → IsAdding before mid whole (added ++ left) → page ≡ mid.page ++ added
    → IsAdding before (progress mid.text mid.faults page) whole left
adding_pushed before mid page whole added left h is = record {
  so_far = h.so_far ++ added;
  split = append_assoc h.so_far added left ∙ h.split;
  goes_on = goes_both before mid (progress mid.text mid.faults page) h.so_far added h.goes_on
      (record { put = []; text = sym (append_known-empty mid.text); made = is });
  steady = h.steady;
}

-- what is left, in other words
pub adding_as : (before now : Progress) (whole left parts : List ℕ) → left ≡ parts → IsAdding before now whole left → IsAdding before now whole parts
adding_as before now whole left parts is h = subst (λ (l : List ℕ). IsAdding before now whole l) is h

-- a prefix of the text, where the next part ends early
cut_there : (before mid : Progress) (new : Option (List ℕ)) (whole added left : List ℕ) → IsAdding before mid whole (added ++ left)
    → AppendsPrefix mid.text new (mid.page ++ added) → AppendsPrefix before.text new (before.page ++ whole)
cut_there before mid new whole added left h cut =
    subst (λ (l : List ℕ). AppendsPrefix before.text new (before.page ++ l)) h.split
    (goes_early before mid new h.so_far (added ++ left) h.goes_on
    (subst (λ (l : List ℕ). AppendsPrefix mid.text new l) (append_assoc mid.page added left) (prefix_longer mid.text new (mid.page ++ added) left cut)))

-- ---- how it ends

-- all parts were added
pub adds_whole : {T : Type 0} (before now : Progress) (whole left : List ℕ) (answer : T) → left ≡ [] → IsAdding before now whole left → AddsToPage whole (Ok answer) before now
adds_whole before now whole left answer none h = record {
  goes_on = subst (λ (l : List ℕ). IsAdded before now l) (sym (append-nil h.so_far) ∙ ap (λ l. h.so_far ++ l) (sym none) ∙ h.split) h.goes_on;
  prefix = tt;
  later = omega (arith, h.steady);
  failed = λ is. absurd cc;
  steady = λ unfailed. h.steady;
}

-- the next part ends early,
cut_short : {T U : Type 0} (before mid after : Progress) (whole added left : List ℕ) (fault : OutsideFault) → IsAdding before mid whole (added ++ left)
    → AddsToPage added {T = T} (Err fault) mid after → AddsToPage whole {T = U} (Err fault) before after
cut_short before mid after whole added left Failed h adds = record {
  goes_on = tt;
  prefix = cut_there before mid after.text whole added left h adds.prefix;
  later = omega (arith, h.steady, adds.later);
  failed = λ is. subst (λ (n : ℕ). Rose n after.faults) h.steady (adds.failed refl);
  steady = λ unfailed. absurd cc;
}
cut_short before mid after whole added left Memory h adds = record {
  goes_on = tt;
  prefix = cut_there before mid after.text whole added left h adds.prefix;
  later = omega (arith, h.steady, adds.later);
  failed = λ is. absurd cc;
  steady = λ unfailed. adds.steady refl ∙ h.steady;
}

-- and its fault is handed on
pub adds_early : {T U : Type 0} (before mid after : Progress) (whole added left : List ℕ) (result : Result U OutsideFault) (fault made : OutsideFault)
    → IsAdding before mid whole (added ++ left) → AddsToPage added {T = T} (Err fault) mid after → result ≡ Err made → made ≡ fault → AddsToPage whole result before after
adds_early {T} {U} before mid after whole added left result fault made h adds is by =
    subst (λ (r : Result U OutsideFault). AddsToPage whole r before after) (sym (is ∙ ap Err by)) (cut_short before mid after whole added left fault h adds)

-- memory ran out between two parts
pub adds_memory : {T : Type 0} (before mid : Progress) (page whole left : List ℕ) (result : Result T OutsideFault) (made : OutsideFault)
    → IsAdding before mid whole left → result ≡ Err made → made ≡ Memory → AddsToPage whole result before (progress mid.text mid.faults page)
adds_memory {T} before mid page whole left result made h is by =
    subst (λ (r : Result T OutsideFault). AddsToPage whole r before (progress mid.text mid.faults page)) (sym (is ∙ ap Err by)) (record {
      goes_on = tt;
      prefix = cut_there before mid mid.text whole [] left h (prefix_none mid.text (mid.page ++ []));
      later = omega (arith, h.steady);
      failed = λ is. absurd cc;
      steady = λ unfailed. h.steady;
    })

-- the last part is added by a call whose answer is handed on
pub adds_last : {T : Type 0} (before mid after : Progress) (whole last : List ℕ) (result : Result T OutsideFault) → IsAdding before mid whole last
    → AddsToPage last result mid after → AddsToPage whole result before after
adds_last before mid after whole last (Ok answer) h adds =
    adds_whole before after whole [] answer refl (adding_more before mid after whole last [] answer (adding_as before mid whole last (last ++ []) (sym (append-nil last)) h) adds)
adds_last before mid after whole last (Err fault) h adds =
    cut_short before mid after whole last [] fault (adding_as before mid whole last (last ++ []) (sym (append-nil last)) h) adds

-- ---- one line

-- a line was written on the page, which is put where it is full
pub line_added : {T : Type 0} (at after : Progress) (page added : List ℕ) (result : Result T OutsideFault) → page ≡ at.page ++ added
    → AddsToPage [] result (progress at.text at.faults page) after → AddsToPage added result at after
line_added at after page added result is adds =
    adds_last at (progress at.text at.faults page) after added [] result (adding_pushed at at page added added [] (adding_as at at added added (added ++ []) (sym (append-nil added)) (adding_all at added)) is) adds

-- memory ran out before anything was put
pub memory_first : {T : Type 0} (at : Progress) (page whole : List ℕ) (result : Result T OutsideFault) (made : OutsideFault) → result ≡ Err made → made ≡ Memory
    → AddsToPage whole result at (progress at.text at.faults page)
memory_first at page whole result made is by = adds_memory at at page whole whole result made (adding_all at whole) is by

-- ---- the page is put

-- nothing is added, and no page waits
pub adds_put : {T : Type 0} (at : Progress) (new : Option (List ℕ)) (now : ℕ) (result : Result T OutsideFault) → Puts at.page result at.text new at.faults now
    → AddsToPage [] result at (progress new now [])
adds_put at new now result puts = record {
  goes_on = on_ok_weaker result (λ is. record { put = at.page; text = is; made = refl }) puts.all;
  prefix = on_err_weaker result (λ cut. prefix_longer at.text new at.page [] cut) puts.prefix;
  later = puts.later;
  failed = puts.failed;
  steady = puts.steady;
}

-- where no page waits, all of the first page and of what was added was put
puts_added : {T : Type 0} (before : Progress) (new : Option (List ℕ)) (now : ℕ) (whole : List ℕ) (result : Result T OutsideFault) → AddsToPage whole result before (progress new now [])
    → Puts (before.page ++ whole) result before.text new before.faults now
puts_added before new now whole result adds = record {
  all = on_ok_weaker result (λ h. h.text ∙ ap (append_known before.text) (sym (append-nil h.put) ∙ h.made)) adds.goes_on;
  prefix = adds.prefix;
  later = adds.later;
  failed = adds.failed;
  steady = adds.steady;
}

-- the last page is put, and its answer is handed on
pub puts_last : {T : Type 0} (before mid : Progress) (bytes front : List ℕ) (new : Option (List ℕ)) (now : ℕ) (whole : List ℕ) (result : Result T OutsideFault) → before.page ≡ front
    → bytes ≡ mid.page → IsAdding before mid whole [] → Puts bytes result mid.text new mid.faults now → Puts (front ++ whole) result before.text new before.faults now
puts_last before mid bytes front new now whole result first last h puts =
    subst (λ (l : List ℕ). Puts (l ++ whole) result before.text new before.faults now) first
    (puts_added before new now whole result (adds_last before mid (progress new now []) whole [] result h
    (adds_put mid new now result (subst (λ (l : List ℕ). Puts l result mid.text new mid.faults now) last puts))))

-- a text of which a part ends early
pub puts_early : {T : Type 0} (before after : Progress) (front whole : List ℕ) (result : Result T OutsideFault) (made : OutsideFault) → before.page ≡ front → result ≡ Err made
    → AddsToPage whole result before after → Puts (front ++ whole) result before.text after.text before.faults after.faults
puts_early before after front whole result made first is adds = subst (λ (l : List ℕ). Puts (l ++ whole) result before.text after.text before.faults after.faults) first (record {
  all = subst (λ r. OnOk r (after.text ≡ append_known before.text (before.page ++ whole))) (sym is) tt;
  prefix = adds.prefix;
  later = adds.later;
  failed = adds.failed;
  steady = adds.steady;
})

-- ---- parts that are made of a list

-- the next of the parts that are left
pub next_part : {X : Type 0} (f : X → List ℕ) (xs : List X) (i : ℕ) (d x : X) (before now : Progress) → i < length xs → x ≡ get_or xs i d
    → IsAdding before now (flat_map f xs) (flat_map f (drop i xs)) → IsAdding before now (flat_map f xs) (f x ++ flat_map f (drop (i + 1) xs))
next_part f xs i d x before now inside is h =
    let parts = ap (flat_map f) (drop_more xs i d inside) ∙ flat_map-cons f (get_or xs i d) (drop (i + 1) xs) in
    adding_as before now (flat_map f xs) (flat_map f (drop i xs)) (f x ++ flat_map f (drop (i + 1) xs)) (parts ∙ ap (λ y. f y ++ flat_map f (drop (i + 1) xs)) (sym is)) h
