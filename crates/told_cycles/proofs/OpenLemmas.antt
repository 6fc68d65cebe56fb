-- How a cycle begins.
use Rattle.std.proofs.Common.{◌≡◌, ℕ, ◌≤◌, Bool, cond, ◌&&◌, List, [], Option, None, Some, ap, subst, ◌∙◌, arith}
use Rattle.std.specs.Prelude.{nat_le}
use Rattle.std.proofs.lemmas.Bool.{leb-true}
use Rattle.guards_model.specs.Decisions.{has_started}
use Rattle.guards_model.specs.Missions.{MissionValue, IsMission, within, is_law}
use Rattle.guards_model.specs.Transfers.{TransferValue, TransferCycle}
use Rattle.guards_model.proofs.BoolTests.{both}
use Rattle.guards_audit.specs.Told.{Told, next_cycle_number}
use Rattle.told_cycles.specs.Sweeping.{SweepsFor}
use Rattle.told_cycles.specs.declared.sweeps.Sweeps.{Sweeps}
use Rattle.told_cycles.specs.Rules.{most_planned}

pub begins : (M : MissionValue) (told : Told) (transfer : Option TransferValue) (s new : Sweeps) (starts : Bool)
    (done : ℕ) → starts ≡ has_started done transfer → done ≡ next_cycle_number told →
    ((blocks next : ℕ) (cycles : List TransferCycle) → SweepsFor blocks next cycles s →
    SweepsFor blocks next (cond starts [] cycles) new) →
    (cycles : List TransferCycle) → SweepsFor M.rules.blocks (next_cycle_number told) cycles s →
    SweepsFor M.rules.blocks (next_cycle_number told)
    (cond (has_started (next_cycle_number told) transfer) [] cycles) new
begins M told transfer s new starts done e d f cycles h =
    subst (λ b. SweepsFor M.rules.blocks (next_cycle_number told) (cond b [] cycles) new)
    (e ∙ ap (λ n. has_started n transfer) d) (f M.rules.blocks (next_cycle_number told) cycles h)

-- the parts of a mission's rules
pub record RulesParts (M : MissionValue) : Type 0 where
  pub keep : M.rules.keep ≤ 65536
  pub sweep : M.rules.sweep ≤ 64
  pub some : 1 ≤ M.rules.blocks
  pub blocks : M.rules.blocks ≤ 256

pub rules_parts : (M : MissionValue) → IsMission M → RulesParts M
rules_parts M mission =
    let r = M.rules in
    let outer = both ((within 3 7 r.channels && within 1 256 r.blocks)
    && (within 0 65536 r.keep && within 65536 6553600 r.threshold))
    ((within 1 64 r.sweep && within 0 64 r.last)
    && ((within 1 2 r.version && is_law r.version r.law)
    && (within 0 6553600 r.decrement && within 1 2 r.returning))) mission.rules in
    let inner = both (within 3 7 r.channels && within 1 256 r.blocks)
    (within 0 65536 r.keep && within 65536 6553600 r.threshold) outer.0 in
    let sizes = both (within 3 7 r.channels) (within 1 256 r.blocks) inner.0 in
    let counts = both (within 0 65536 r.keep) (within 65536 6553600 r.threshold) inner.1 in
    let plans = both (within 1 64 r.sweep && within 0 64 r.last) _ outer.1 in
    let copies = both (within 1 64 r.sweep) (within 0 64 r.last) plans.0 in
    record {
      keep = leb-true r.keep 65536 (both (nat_le 0 r.keep) (nat_le r.keep 65536) counts.0).1;
      sweep = leb-true r.sweep 64 (both (nat_le 1 r.sweep) (nat_le r.sweep 64) copies.0).1;
      some = leb-true 1 r.blocks (both (nat_le 1 r.blocks) (nat_le r.blocks 256) sizes.1).0;
      blocks = leb-true r.blocks 256 (both (nat_le 1 r.blocks) (nat_le r.blocks 256) sizes.1).1;
    }

pub sweep_low : (M : MissionValue) (transfer : Option TransferValue) → IsMission M → most_planned M transfer ≤ 64
sweep_low M None mission = omega arith
sweep_low M (Some t) mission = (rules_parts M mission).sweep
