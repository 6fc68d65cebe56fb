-- A slot passed: entered, carried, and handed over.
use Rattle.std.proofs.Common.{◌≡◌, ℕ, suc, true, List, ◌++◌, Result, Ok, Err, subst}
use Rattle.std.specs.Result.{IsErrAnd}
use Rattle.guards_model.specs.declared.Slot.{Slot}
use Rattle.guards_model.specs.Slots.{slot_index, on_bus, stage_before}
use Rattle.guards_model.specs.BusRules.{RuleValue}
use Rattle.guards_model.specs.Network.{EntryValue, Log, BusValue}
use Rattle.guards_model.specs.Rounds.{Steps}
use Rattle.guards_world.specs.Worlds.{WorldValue}
use Rattle.guards_world.specs.InCycle.{InCycle}
use Rattle.fault_script.specs.declared.disturbance.Disturbance.{Disturbance}
use Rattle.slot_traffic.specs.Pieces.{ArrivedValue}
use Rattle.icn_world.specs.declared.world.Halt.{Halt}
use Rattle.icn_world.specs.declared.world.Halt.TheVariants.{NoMemory}
use Rattle.icn_world.specs.Kept.{IsWorldKept}
use Rattle.icn_world.specs.Stages.{Condition, MayCarry, HasArrived, PassesPart}
use Rattle.icn_world.proofs.Chaining.{then, after_step, then_step, halted_by, without_memory}
use Rattle.icn_world.proofs.Fronts.{is_front}

-- a slot that may be entered may be carried
pub may_be_carried : (P : Condition) (slot : Slot) (to : List ℕ) (w w1 : WorldValue) (d : Disturbance) →
    ((earlier current : Log) (steps : Steps) → P earlier current steps w d →
    MayCarry slot to earlier current steps w1 d) →
    (earlier : Log) × (current : Log) × (steps : Steps) × P earlier current steps w d →
    (earlier : Log) × (current : Log) × (steps : Steps) × MayCarry slot to earlier current steps w1 d
may_be_carried P slot to w w1 d enters held = (held.0, held.1, held.2, enters held.0 held.1 held.2 held.3)

module _ {may : List RuleValue → EntryValue → Type 0} (P : Condition) (slot : Slot) (to : List ℕ) (w w1 w2 : WorldValue)
    (d d2 : Disturbance) (b b2 : BusValue)
    (kept : IsWorldKept w w1)
    (enters : (earlier current : Log) (steps : Steps) → P earlier current steps w d →
    MayCarry slot to earlier current steps w1 d) where
  pub carry_halts : {A : Type 0} {Q : A → Condition} {h : Halt} (r : Result A Halt) → IsErrAnd r (λ x. x ≡ h) →
      PassesPart may (MayCarry slot to) (HasArrived slot) (Err h) w1 w2 d d2 b b2 → PassesPart may P Q r w w2 d d2 b b2
  carry_halts r is goes = halted_by r is (after_step P w kept enters goes)

  module _ {arrived : ArrivedValue}
      (goes : PassesPart may (MayCarry slot to) (HasArrived slot) (Ok arrived) w1 w2 d d2 b b2) where
    pub has_arrived : (earlier : Log) × (current : Log) × (steps : Steps) × P earlier current steps w d →
        (earlier : Log) × (current : Log) × (steps : Steps) × HasArrived slot arrived earlier current steps w2 d2
    has_arrived held = (
      held.0,
      held.1 ++ goes.entries,
      held.2,
      goes.ends held.0 held.1 held.2 (enters held.0 held.1 held.2 held.3),
    )

    module _ (w3 : WorldValue) (after : IsWorldKept w2 w3) {A : Type 0} (Q : A → Condition) where
      -- memory ran out when it was handed over
      pub handing_fails : {r : Result A Halt} (next : Slot) → suc (slot_index slot) ≡ slot_index next →
          on_bus next ≡ true → IsErrAnd r (λ h. h ≡ NoMemory) → PassesPart may P Q r w w3 d d2 b b2
      handing_fails {r = r} next is on none =
          then (after_step P w kept enters goes)
          (without_memory may (HasArrived slot arrived) Q r w2 w3 d2 b2 none after
          (λ earlier current steps has.
          is_front w2.mission earlier current steps slot next (slot_index slot) w2 on
          (subst (λ (carried : ℕ). InCycle w2.mission earlier current steps slot carried (stage_before slot) w2) is
          has.stands.inside)))

      pub handed : {x : A} → ((earlier current : Log) (steps : Steps) →
          HasArrived slot arrived earlier current steps w2 d2 → Q x earlier current steps w3 d2) →
          PassesPart may P Q (Ok x) w w3 d d2 b b2
      handed {x = x} reaches = then_step Q x w3 after reaches (after_step P w kept enters goes)
