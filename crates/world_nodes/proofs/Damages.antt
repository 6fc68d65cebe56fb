-- The faults of a script that are damages, and what a damage leaves as it was.
use Rattle.std.proofs.Common.{◌≡◌, ℕ, ◌&&◌, ◌==◌, Bool, true, false, cond, not, ℤ, List, [], ◌∷◌, filter, refl, ◌∙◌}
use Rattle.guards_model.specs.Channels.{Channel}
use Rattle.guards_model.specs.Faults.{FaultValue, crash, restart, damage, bus}
use Rattle.fault_script.specs.Entries.{is_for_bus}
use Rattle.guards_nodes.specs.NodeStates.{RunningValue}
use Rattle.guards_nodes.specs.NodeSteps.{with_damage}
use Rattle.guards_world.specs.SlotSteps.{after_damages}

-- the rules for the bus damage nothing
pub without_rules : (script : List FaultValue) (q : Channel) (c : ℕ) (r : RunningValue) →
    after_damages (filter (λ entry. not (is_for_bus entry)) script) q c r ≡ after_damages script q c r
without_rules [] q c r = refl
without_rules (crash p d slot ∷ script) q c r = without_rules script q c r
without_rules (restart p d ∷ script) q c r = without_rules script q c r
without_rules (damage p d block word value ∷ script) q c r =
    without_rules script q c (cond (p == q && d == c) (with_damage block word value r) r)
without_rules (bus rule ∷ script) q c r = without_rules script q c r

one_keeps_control : (is : Bool) (block word : ℕ) (value : ℤ) (r : RunningValue) →
    (cond is (with_damage block word value r) r).held.control ≡ r.held.control
one_keeps_control true block word value r = refl
one_keeps_control false block word value r = refl

-- damages leave the control as it was
pub damages_keep_control : (script : List FaultValue) (q : Channel) (c : ℕ) (r : RunningValue) →
    (after_damages script q c r).held.control ≡ r.held.control
damages_keep_control [] q c r = refl
damages_keep_control (crash p d slot ∷ script) q c r = damages_keep_control script q c r
damages_keep_control (restart p d ∷ script) q c r = damages_keep_control script q c r
damages_keep_control (damage p d block word value ∷ script) q c r =
    damages_keep_control script q c (cond (p == q && d == c) (with_damage block word value r) r)
    ∙ one_keeps_control (p == q && d == c) block word value r
damages_keep_control (bus rule ∷ script) q c r = damages_keep_control script q c r
