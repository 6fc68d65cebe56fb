use Rattle.std.proofs.Common.{arith, ap, ◌∙◌}
use Rattle.guards_base.proofs.EachChannel.{at_channel, seven_each, seven_places}
use Rattle.guards_base.proofs.each_channel.table_by.Goals as goal

pub returns-clause-table : goal.returns-clause-table
returns-clause-table g c f says =
    seven_places f _ _ _ _ _ _ _
    (says _ _ (omega (arith, c.of.ensures)) c.value.ensures ∙ ap f c.of.ensures)
    (says _ _ (omega (arith, c.of-2.ensures)) c.value-2.ensures ∙ ap f c.of-2.ensures)
    (says _ _ (omega (arith, c.of-3.ensures)) c.value-3.ensures ∙ ap f c.of-3.ensures)
    (says _ _ (omega (arith, c.of-4.ensures)) c.value-4.ensures ∙ ap f c.of-4.ensures)
    (says _ _ (omega (arith, c.of-5.ensures)) c.value-5.ensures ∙ ap f c.of-5.ensures)
    (says _ _ (omega (arith, c.of-6.ensures)) c.value-6.ensures ∙ ap f c.of-6.ensures)
    (says _ _ (omega (arith, c.of-7.ensures)) c.value-7.ensures ∙ ap f c.of-7.ensures)

pub returns-clause-each : goal.returns-clause-each
returns-clause-each g c =
    let P = goal.F-post g c.args.value in
    seven_each P _ _ _ _ _ _ _
    (at_channel P _ _ _ c.of.ensures c.value.ensures) (at_channel P _ _ _ c.of-2.ensures c.value-2.ensures)
    (at_channel P _ _ _ c.of-3.ensures c.value-3.ensures) (at_channel P _ _ _ c.of-4.ensures c.value-4.ensures)
    (at_channel P _ _ _ c.of-5.ensures c.value-5.ensures) (at_channel P _ _ _ c.of-6.ensures c.value-6.ensures)
    (at_channel P _ _ _ c.of-7.ensures c.value-7.ensures)
