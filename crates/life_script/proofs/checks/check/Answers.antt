use Rattle.std.proofs.Common.{subst}
use Rattle.std.specs.Prelude.{IsOk}
use Rattle.life_script.proofs.CheckLemmas.{fits_where_ok}
use Rattle.life_script.proofs.checks.check.Goals as goal

pub returns-clause-fits : goal.returns-clause-fits
returns-clause-fits c = λ ok. fits_where_ok c.args.scenario.now (subst IsOk c.first_fault.ensures ok)
