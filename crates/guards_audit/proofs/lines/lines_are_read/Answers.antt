use Rattle.guards_audit.proofs.LinesBack.{line_back, line_is, one_line}
use Rattle.guards_audit.proofs.lines.lines_are_read.Goals as goal

pub returns-clause-back : goal.returns-clause-back
returns-clause-back c = line_back

pub returns-clause-spelled : goal.returns-clause-spelled
returns-clause-spelled c = line_is

pub returns-clause-single : goal.returns-clause-single
returns-clause-single c = one_line
