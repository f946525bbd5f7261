use Rattle.std.proofs.Common.{◌∙◌}
use Rattle.audit_top.proofs.Puts.{puts-as}
use Rattle.audit_top.proofs.upgrade.write_upgraded.Goals as goal

pub returns : goal.returns
returns g c = puts-as _ _ _ _ _ _ _ (c.deref.ensures.value ∙ c.in_ok-text.ensures) c.write_all.ensures
