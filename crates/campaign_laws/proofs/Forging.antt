-- Drawn scripts forge vote frames alone.
use Rattle.std.proofs.Common.{◌≡◌, ℕ, Bool, true, false, List, [], ◌∷◌, refl}
use Rattle.std.specs.Prelude.{filter_map}
use Rattle.std.specs.List.{list_all}
use Rattle.guards_model.specs.declared.Slot.{Slot}
use Rattle.guards_model.specs.declared.Slot.TheVariants.{Request, Round1, Round2, Round3, Tasks, Vote, Sweep, Final, Switch, Output}
use Rattle.guards_model.specs.BusRules.{RuleValue, ActValue, lose, forge}
use Rattle.guards_model.specs.Faults.{FaultValue, crash, restart, damage, bus}
use Rattle.guards_model.specs.Missions.{MissionValue, bus_rule, bus_rules}
use Rattle.guards_model.proofs.BoolTests.{both}
use Rattle.script_laws.specs.Scripts.{ForgesNoSweep}
use Rattle.campaign_draws.specs.declared.rates.Rates.{Rates}
use Rattle.campaign_draws.specs.Drawing.{drawn_faults, drawn_mission, sizes_of}
use Rattle.campaign_draws.proofs.Passing.{drawn_pass}

-- whether an act loses a piece, or the slot is not that of sweep frames
forges_none : Slot → ActValue → Bool
forges_none slot lose = true
forges_none Sweep (forge piece) = false
forges_none Request (forge piece) = true
forges_none Round1 (forge piece) = true
forges_none Round2 (forge piece) = true
forges_none Round3 (forge piece) = true
forges_none Tasks (forge piece) = true
forges_none Vote (forge piece) = true
forges_none Final (forge piece) = true
forges_none Switch (forge piece) = true
forges_none Output (forge piece) = true

spares_sweep : FaultValue → Bool
spares_sweep (bus rule) = forges_none rule.slot rule.act
spares_sweep (crash q c slot) = true
spares_sweep (restart q c) = true
spares_sweep (damage q c block word value) = true

rule_spares : (rule : RuleValue) → forges_none rule.slot rule.act ≡ true → rule.slot ≡ Sweep → rule.act ≡ lose
unfolding forges_none
rule_spares rule spares at = by rule.slot rule.act spares at
  where
    by : (slot : Slot) (act : ActValue) → forges_none slot act ≡ true → slot ≡ Sweep → act ≡ lose
    by slot lose spares at = refl
    by Sweep (forge piece) spares at = absurd cc
    by Request (forge piece) spares at = absurd cc
    by Round1 (forge piece) spares at = absurd cc
    by Round2 (forge piece) spares at = absurd cc
    by Round3 (forge piece) spares at = absurd cc
    by Tasks (forge piece) spares at = absurd cc
    by Vote (forge piece) spares at = absurd cc
    by Final (forge piece) spares at = absurd cc
    by Switch (forge piece) spares at = absurd cc
    by Output (forge piece) spares at = absurd cc

all_spare : (script : List FaultValue) → list_all spares_sweep script ≡ true → ForgesNoSweep (filter_map bus_rule script)
unfolding spares_sweep
all_spare [] all = tt
all_spare (crash q c slot ∷ script) all = all_spare script all
all_spare (restart q c ∷ script) all = all_spare script all
all_spare (damage q c block word value ∷ script) all = all_spare script all
all_spare (bus rule ∷ script) all =
    let parts = both (forges_none rule.slot rule.act) (list_all spares_sweep script) all in
    (rule_spares rule parts.0, all_spare script parts.1)

pub forges_no_sweep : (M : MissionValue) (rates : Rates) (x : ℕ) → ForgesNoSweep (bus_rules (drawn_mission M rates x))
unfolding drawn_mission spares_sweep forges_none
forges_no_sweep M rates x =
    all_spare (drawn_faults (sizes_of M) rates x)
    (drawn_pass spares_sweep (sizes_of M) rates (λ c q k _ _. refl) (λ c q _ _. refl) (λ c q x y z _ _. refl) (λ c q x slot _ _. refl) (λ c q x y _ _. refl) x)
