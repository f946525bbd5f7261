use Rattle.std.proofs.Common.{◌≡◌, ◌<◌, ◌≤◌, ◌++◌, ◌∷◌, ◌∙◌, [], ap, arith, length, map, refl, string_bytes, subst, sym, IfErr}
use Rattle.std.proofs.lemmas.Grind.{common_steps}
use Rattle.std.proofs.lemmas.List.{length-map}
use Rattle.std.proofs.lemmas.Result.{err_from_is_err_and}
use Rattle.dict_stack.specs.Stacks.{most_dictionaries}
use Rattle.dict_files.specs.DictFiles.{file_of}
use Rattle.dict_files.specs.Loading.{IsLoadCause}
use Rattle.dict_files.proofs.Turns.{arg-turn, cause-here, loading-more, reads-all, reads-more}
use Rattle.dict_files.proofs.loading.read_dictionaries.Goals as goal

pub returns-in_err-dictionary-clause-err : goal.returns-in_err-dictionary-clause-err
returns-in_err-dictionary-clause-err g c =
    let args = map string_bytes c.args.args.now in
    let within : c.loop-place.place < length args = omega (arith, length-map c.args.args.now string_bytes, c.loop-place-test.true) in
    let few : length args ≤ most_dictionaries = omega (arith, length-map c.args.args.now string_bytes, c.requires) in
    let turn = arg-turn c.args.args.now c.loop-place.place c.index-args-place.result c.index-args-place.is c.loop-place-test.true in
    let named = c.file_name.ensures ∙ ap (λ w. (file_of w).name) (c.as_str.ensures.value ∙ turn) in
    let cause = cause-here args c.loop-place.place _ _ _ _ _ c.in_err-dictionary.field-0.0 within few named c.loop-place.invariant c.in_err-dictionary.ensures.err in
    let p = err_from_is_err_and c.from_residual-in_err-dictionary.result c.from_residual-in_err-dictionary.ensures.1 in
    let old = g.F.Files.view c.args.files.now in
    let new = g.F.Files.view c.read_file.new.files in
    subst (λ r. IfErr r (IsLoadCause args old new)) (sym p.1) (subst (IsLoadCause args old new) (sym p.2) cause)

pub returns-in_err-dictionary-clause-reads : goal.returns-in_err-dictionary-clause-reads
returns-in_err-dictionary-clause-reads g c =
    let args = map string_bytes c.args.args.now in
    let within : c.loop-place.place < length args = omega (arith, length-map c.args.args.now string_bytes, c.loop-place-test.true) in
    let few : length args ≤ most_dictionaries = omega (arith, length-map c.args.args.now string_bytes, c.requires) in
    let turn = arg-turn c.args.args.now c.loop-place.place c.index-args-place.result c.index-args-place.is c.loop-place-test.true in
    let named = c.file_name.ensures ∙ ap (λ w. (file_of w).name) (c.as_str.ensures.value ∙ turn) in
    reads-more args c.loop-place.place _ _ _ _ _ within few named c.loop-place.invariant c.read_file.ensures.leaves c.read_file.ensures.opened c.read_file.ensures.later

pub returns-in_err-push-clause-reads : goal.returns-in_err-push-clause-reads
returns-in_err-push-clause-reads g c =
    let args = map string_bytes c.args.args.now in
    let within : c.loop-place.place < length args = omega (arith, length-map c.args.args.now string_bytes, c.loop-place-test.true) in
    let few : length args ≤ most_dictionaries = omega (arith, length-map c.args.args.now string_bytes, c.requires) in
    let turn = arg-turn c.args.args.now c.loop-place.place c.index-args-place.result c.index-args-place.is c.loop-place-test.true in
    let named = c.file_name.ensures ∙ ap (λ w. (file_of w).name) (c.as_str.ensures.value ∙ turn) in
    reads-more args c.loop-place.place _ _ _ _ _ within few named c.loop-place.invariant c.read_file.ensures.leaves c.read_file.ensures.opened c.read_file.ensures.later

pub loop-place-preserved : goal.loop-place-preserved
loop-place-preserved g c =
    let args = map string_bytes c.args.args.now in
    let within : c.loop-place.place < length args = omega (arith, length-map c.args.args.now string_bytes, c.loop-place-test.true) in
    let turn = arg-turn c.args.args.now c.loop-place.place c.index-args-place.result c.index-args-place.is c.loop-place-test.true in
    let named = c.file_name.ensures ∙ ap (λ w. (file_of w).name) (c.as_str.ensures.value ∙ turn) in
    let pushed : c.push.new.self.items ≡ c.loop-place.dictionaries.items ++ c.in_ok-dictionary.dictionary ∷ [] = grind (arith, common_steps) in
    rw pushed (loading-more args c.loop-place.place _ _ _ _ c.loop-place.dictionaries.items c.in_ok-dictionary.dictionary within named c.loop-place.invariant c.read_file.ensures.leaves c.read_file.ensures.opened (c.in_ok-dictionary.ensures.steady refl) c.in_ok-dictionary.ensures.ok)
