use Rattle.audit_desk.proofs.OneLemmas.{Finds-one}
use Rattle.audit_desk.proofs.verdict.an_audit_finds_one_verdict.Goals as goal

pub returns : goal.returns
returns c = Finds-one c.a_legal_history_fits.ensures
