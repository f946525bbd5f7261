use Rattle.std.proofs.Common.{◌≡◌, ◌-◌, ◌∙◌, ap, length, sym, subst}
use Rattle.dict_json.specs.Reading.{members_of}
use Rattle.dict_json.specs.Dictionaries.{DictionaryView, IsDictionary, last_of_each}
use Rattle.dict_json.specs.Outcomes.{dictionary, value_outcome}
use Rattle.dict_json.specs.inside.Walks.{KeysView}
use Rattle.dict_json.proofs.DictionaryLemmas.{made_IsDictionary, made_outcome}
use Rattle.dict_json.proofs.ReadingLemmas.{few_members, names_in_order}
use Rattle.dict_json.proofs.reading.read_dictionary.Goals as goal

pub new-requires : goal.new-requires
new-requires c =
    let k : KeysView = record { entries = c.entries.inside.entries.items; skipped = c.entries.inside.skipped.items; too_long = c.entries.inside.too_long } in
    let made : DictionaryView = record { entries = last_of_each k.entries; skipped = k.skipped; folded = length k.entries - length (last_of_each k.entries) } in
    let same : record { entries = c.keep_last_of_each.new.entries.items; skipped = k.skipped; folded = c.in_ok-folded.folded } ≡ made =
    λ i. record { entries = c.in_ok-folded.ensures.entries i; skipped = k.skipped; folded = c.in_ok-folded.ensures.left_out i } in
    let of = c.in_ok-entries.ensures.ok in
    subst IsDictionary (sym same) (made_IsDictionary (members_of of.members) k of.texts (c.entries.view_is ∙ of.collected) c.in_default.is
    (few_members c.args.bytes.now of.members c.requires of.read) (names_in_order c.args.bytes.now of.members of.read))

pub returns-clause-ok : goal.returns-clause-ok
returns-clause-ok c =
    let k : KeysView = record { entries = c.entries.inside.entries.items; skipped = c.entries.inside.skipped.items; too_long = c.entries.inside.too_long } in
    let made : DictionaryView = record { entries = last_of_each k.entries; skipped = k.skipped; folded = length k.entries - length (last_of_each k.entries) } in
    let same : record { entries = c.keep_last_of_each.new.entries.items; skipped = k.skipped; folded = c.in_ok-folded.folded } ≡ made =
    λ i. record { entries = c.in_ok-folded.ensures.entries i; skipped = k.skipped; folded = c.in_ok-folded.ensures.left_out i } in
    let of = c.in_ok-entries.ensures.ok in
    ap value_outcome of.read ∙ made_outcome (members_of of.members) k of.texts (c.entries.view_is ∙ of.collected) c.in_default.is ∙ ap dictionary (sym same ∙ sym c.new.ensures)
