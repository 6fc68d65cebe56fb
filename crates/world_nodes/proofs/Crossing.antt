-- A mission may be shared among threads.
use denote.Param.Send.{IsSync, sendable}
use denote.Struct.Field.{u32-field}
use Rattle.std.proofs.Crossing.{crosses}
use Rattle.expr_core.proofs.expr.Expr.TheLaws.TheKnot as expression
use Rattle.task_table.specs.contracts.table.Table as table
use Rattle.fault_script.specs.contracts.script.Script as script
use Rattle.guards_base.specs.contracts.rules.Rules as rules
use Rattle.mission_type.specs.contracts.mission.Actuator as actuator
use Rattle.mission_type.specs.contracts.mission.Mission as mission

table_shares : IsSync table.the_row
table_shares = search (sendable, crosses, expression.crosses) depth 60 fits 20000

actuator_shares : IsSync actuator.the_row
actuator_shares = search (sendable, crosses) depth 60 fits 20000

script_shares : IsSync script.the_row
script_shares = search (sendable, crosses) depth 60 fits 20000

rules_shares : IsSync rules.the_row
rules_shares = search (sendable, crosses) depth 60 fits 20000

pub mission_shares : IsSync mission.the_row
mission_shares = search (sendable, crosses, table_shares, script_shares, rules_shares, actuator_shares) depth 60 fits
    20000

pub number_shares : IsSync u32-field.row
number_shares = search sendable
