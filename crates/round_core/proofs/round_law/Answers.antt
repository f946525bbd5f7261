use Rattle.round_core.specs.Machines.{run, opening}
use Rattle.round_core.proofs.Schedules.{run_good, opening_good, between_good, settled_good, stands_good}
use Rattle.round_core.proofs.round_law.Goals as goal

pub returns : goal.returns
returns c = record {
  between = λ o ls workers events g rests. between_good o ls (run ls (opening o ls workers) events) (run_good o ls (opening o ls workers) events g (opening_good o ls workers g)) rests;
  settled = λ o ls workers events g rests none. settled_good o ls (run ls (opening o ls workers) events) (run_good o ls (opening o ls workers) events g (opening_good o ls workers g)) rests none;
  stand = λ o ls workers events s g below. stands_good o ls (run ls (opening o ls workers) events) s g (run_good o ls (opening o ls workers) events g (opening_good o ls workers g)) below;
}
