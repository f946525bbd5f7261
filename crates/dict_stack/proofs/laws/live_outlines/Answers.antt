use Rattle.dict_stack.proofs.LiveLemmas.{live-rising, live-held}
use Rattle.dict_stack.proofs.laws.live_outlines.Goals as goal

pub returns : goal.returns
returns c = record { rising = live-rising; members = live-held }
