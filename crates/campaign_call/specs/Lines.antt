-- The lines with which a campaign is refused, besides those of `guards`.
use Rattle.std.specs.Prelude.{codes}
use Rattle.guards_model.specs.Texts.{TextValue}

unfoldable pub campaign_usage : TextValue
campaign_usage =
    codes "usage: guards_campaign SEED RUNS CRASH DAMAGE LOSE FORGE | mission STATE CRASH DAMAGE LOSE FORGE\n"

unfoldable pub faults_line : TextValue
faults_line = codes "campaign: the mission has faults\n"
