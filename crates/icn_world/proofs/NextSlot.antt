-- A part of a cycle that ended well, and then the carry of the next slot.
use Rattle.std.proofs.Common.{◌≡◌, true, List, ◌++◌, Result, Ok, refl}
use Rattle.guards_model.specs.declared.Slot.{Slot}
use Rattle.guards_model.specs.declared.Slot.TheVariants.{Round3, Tasks}
use Rattle.guards_model.specs.Slots.{slot_index, up_to, stage_before}
use Rattle.guards_model.specs.BusRules.{RuleValue}
use Rattle.guards_model.specs.Network.{EntryValue, Log, BusValue}
use Rattle.guards_model.specs.Rounds.{Steps}
use Rattle.guards_world.specs.Worlds.{WorldValue}
use Rattle.fault_script.specs.declared.disturbance.Disturbance.{Disturbance}
use Rattle.slot_traffic.specs.Pieces.{ArrivedValue}
use Rattle.icn_world.specs.declared.world.Halt.{Halt}
use Rattle.icn_world.specs.declared.rounds.Reconfiguration.{Reconfiguration}
use Rattle.icn_world.specs.Stages.{Condition, PassesPart, IsWithinCycle, HasArrived}
use Rattle.icn_world.specs.Settled.{MayEnter, IsDecided, IsSettled}
use Rattle.icn_world.proofs.Chaining.{then, from, knowing, then_step}
use Rattle.icn_world.proofs.RoundStages.{settled_stays}

-- the part leaves the world in a slot, from which the next one may be entered
abbrev pub Leaves : Condition → Slot → Slot → WorldValue → Disturbance → Type 0
Leaves Q before slot w d = (earlier current : Log) (steps : Steps) → Q earlier current steps w d →
    IsWithinCycle before (stage_before slot) (stage_before slot) earlier current steps w d

pub then_slot : {A B : Type 0} {may : List RuleValue → EntryValue → Type 0} {P : Condition} {Q : A → Condition}
    {R : B → Condition}
    {x : A} {r : Result B Halt} {w w1 w2 : WorldValue} {d d1 d2 : Disturbance} {b b1 b2 : BusValue}
    (before slot : Slot) → up_to before slot ≡ true →
    Leaves (Q x) before slot w1 d1 → PassesPart may P Q (Ok x) w w1 d d1 b b1 →
    PassesPart may (MayEnter slot) R r w1 w2 d1 d2 b1 b2 → PassesPart may P R r w w2 d d2 b b2
then_slot {Q = Q} {x = x} before slot soon leaves one two =
    then one (from (Q x) (λ earlier current steps held.
    record { before = before; soon = soon; stands = leaves earlier current steps held }) two)

pub may_enter_then : {A : Type 0} {may : List RuleValue → EntryValue → Type 0} {P : Condition} {Q : A → Condition}
    {x : A} {w w1 : WorldValue} {d d1 : Disturbance} {b b1 : BusValue} (before slot : Slot) → up_to before slot ≡ true →
    Leaves (Q x) before slot w1 d1 → (earlier : Log) × (current : Log) × (steps : Steps) × P earlier current steps w d →
    PassesPart may P Q (Ok x) w w1 d d1 b b1 →
    (earlier : Log) × (current : Log) × (steps : Steps) × MayEnter slot earlier current steps w1 d1
may_enter_then before slot soon leaves held one = (
  held.0,
  held.1 ++ one.entries,
  held.2,
  record {
    before = before;
    soon = soon;
    stands = leaves held.0 (held.1 ++ one.entries) held.2 (one.ends held.0 held.1 held.2 held.3);
  },
)

-- the rounds are over, and the tasks slot is carried
pub then_settled : {may : List RuleValue → EntryValue → Type 0} {P : Condition} {w w1 w2 : WorldValue}
    {d d1 d2 : Disturbance} {b b1 b2 : BusValue}
    (settled : Reconfiguration) (arrived : ArrivedValue) → PassesPart may P IsDecided (Ok settled) w w1 d d1 b b1 →
    PassesPart may (MayEnter Tasks) (HasArrived Tasks) (Ok arrived) w1 w2 d1 d2 b1 b2 →
    PassesPart may P IsSettled (Ok settled) w w2 d d2 b b2
then_settled {w1 = w1} {w2 = w2} {d1 = d1} {d2 = d2} settled arrived one two =
    then one
    (then_step IsSettled settled w2 (record { mission = refl; done = refl; carried = refl })
    (λ earlier current steps held. held)
    (knowing (λ a. IsSettled settled)
    (λ a earlier current new steps decided came.
    settled_stays settled a w1 w2 d1 d2 two.mission two.done earlier current new steps decided came)
    (from (IsDecided settled)
    (λ earlier current steps decided. record { before = Round3; soon = refl; stands = decided.stands }) two)))
