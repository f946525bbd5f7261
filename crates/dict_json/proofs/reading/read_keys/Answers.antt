use Rattle.serde_json.specs.Data.{no_members}
use Rattle.dict_json.specs.inside.Texts.{put_texts}
use Rattle.dict_json.proofs.ReadingLemmas.{short_names}
use Rattle.dict_json.proofs.reading.read_keys.Goals as goal

pub keys_of_members-requires : goal.keys_of_members-requires
keys_of_members-requires c = short_names c.args.bytes.now (put_texts c.in-Ok.members.items no_members) c.requires c.in-Ok.ensures
