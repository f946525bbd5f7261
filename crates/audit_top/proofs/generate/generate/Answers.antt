use Rattle.std.proofs.Common.{◌∙◌, ap, refl}
use Rattle.std.proofs.lemmas.Result.{err_from_is_err_and}
use Rattle.audit_top.specs.Outcomes.{prints}
use Rattle.audit_top.specs.Translated.{IsGenerated}
use Rattle.audit_top.specs.declared.status.Status.TheVariants.{Clean}
use Rattle.audit_top.proofs.Stops.{put-stopped, put-whole, ran-out}
use Rattle.audit_top.proofs.generate.generate.Goals as goal

pub returns-in_err-bytes : goal.returns-in_err-bytes
returns-in_err-bytes g c =
    let p = err_from_is_err_and c.from_residual.result c.from_residual.ensures.1 in
    ran-out _ _ _ p.0 p.1 p.2

pub returns-in_err-write_all : goal.returns-in_err-write_all
returns-in_err-write_all g c =
    let may = ap (prints Clean) (c.deref.ensures.value ∙ c.in_ok-bytes.ensures.bytes) in
    let p = err_from_is_err_and c.from_residual-in_err-write_all.result c.from_residual-in_err-write_all.ensures.1 in
    put-stopped (IsGenerated c.args.start c.args.count) _ _ (prints Clean c.deref.result.now) _ _ p.0 may c.in_err-write_all.ensures p.1 p.2

pub returns : goal.returns
returns g c =
    let may = ap (prints Clean) (c.deref.ensures.value ∙ c.in_ok-bytes.ensures.bytes) in
    put-whole (IsGenerated c.args.start c.args.count) _ _ (prints Clean c.deref.result.now) _ may refl refl c.in_ok-write_all.ensures.all (c.in_ok-write_all.ensures.steady refl)
