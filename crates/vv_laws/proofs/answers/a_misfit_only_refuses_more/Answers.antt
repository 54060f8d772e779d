use Rattle.vv_laws.proofs.Answering.{accepted_without}
use Rattle.vv_laws.proofs.answers.a_misfit_only_refuses_more.Goals as goal

pub returns : goal.returns
returns c misfit d change accepted = accepted_without misfit d change accepted
