use Rattle.std.proofs.Common.{rules}
use Rattle.pt_json.specs.View.{view}
use Rattle.pt_moml.proofs.Stages.{job_is}
use Rattle.pt_moml.proofs.document.job_at.Goals as goal

pub returns-in_err-has_fields : goal.returns-in_err-has_fields
returns-in_err-has_fields c = rw (job_is (view c.args.value.now)) (search rules)

pub returns-in_err-check_version : goal.returns-in_err-check_version
returns-in_err-check_version c = rw (job_is (view c.args.value.now)) (search rules)

pub returns-in_err-model : goal.returns-in_err-model
returns-in_err-model c = rw (job_is (view c.args.value.now)) (search rules)

pub returns-in-Err : goal.returns-in-Err
returns-in-Err c = rw (job_is (view c.args.value.now)) (search rules)

pub returns-in-Ok : goal.returns-in-Ok
returns-in-Ok c = rw (job_is (view c.args.value.now)) (search rules)
