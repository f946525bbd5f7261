use Rattle.std.proofs.lemmas.List.Splits.{join_with_byte-slice_split}
use Rattle.text_rules.proofs.Splits.{parts_between-join}
use Rattle.text_rules.proofs.split_texts.Goals as goal

pub returns : goal.returns
returns c = record { joined = parts_between-join; split = join_with_byte-slice_split }
