use Rattle.audit_laws.proofs.RunsBack.{whole_back, stopped_back}
use Rattle.audit_laws.proofs.reports.reports_read_back.Goals as goal

pub returns-clause-whole : goal.returns-clause-whole
returns-clause-whole c = whole_back

pub returns-clause-stopped : goal.returns-clause-stopped
returns-clause-stopped c = stopped_back
