use Rattle.std.proofs.Common.{arith}
use Rattle.told_cycles.proofs.OpenLemmas.{rules_parts}
use Rattle.told_cycles.proofs.rules.block_count.Goals as goal

pub returns-clause-some : goal.returns-clause-some
returns-clause-some c = omega
    (arith, c.blocks_of.ensures, (rules_parts c.args.mission.now c.prove_mission.ensures).some)

pub returns-clause-few : goal.returns-clause-few
returns-clause-few c = omega
    (arith, c.blocks_of.ensures, (rules_parts c.args.mission.now c.prove_mission.ensures).blocks)
