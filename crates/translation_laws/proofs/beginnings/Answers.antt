use Rattle.steno_rules.proofs.Entries.{is_entry-Decides}
use Rattle.translation_laws.proofs.TestReadings.{begins_with-reads, is_prefix-reads, is_open-reads}
use Rattle.translation_laws.proofs.beginnings.Goals as goal

pub returns : goal.returns
returns c = record { begins_with = begins_with-reads; is_entry = is_entry-Decides; is_prefix = is_prefix-reads; is_open = is_open-reads }
