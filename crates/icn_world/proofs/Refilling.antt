-- The sweep, the final and the switch slot, each passed, and the three of them together.
use Rattle.std.proofs.Common.{◌≡◌, List, [], ◌∷◌, ◌++◌, Option, Result, Ok, Err, refl, sym, ap, ◌∙◌, arith}
use Rattle.std.specs.Result.{IsErrAnd}
use Rattle.std.proofs.Math.Path.{fun_ext}
use Rattle.guards_model.specs.declared.Slot.TheVariants.{Vote, Sweep, Final, Switch}
use Rattle.guards_model.specs.BusRules.{RuleValue}
use Rattle.guards_model.specs.Channels.{Channel, ChannelSet, has, by_channel}
use Rattle.guards_model.specs.Missions.{MissionValue}
use Rattle.guards_model.specs.Network.{EntryValue, Log, switchboard, BusValue}
use Rattle.guards_model.specs.Rounds.{Steps}
use Rattle.guards_model.specs.Switchboard.{set_of}
use Rattle.guards_model.specs.Slots.{stage_after, stage_before}
use Rattle.guards_runs.specs.Cycles.{cycle_at}
use Rattle.guards_runs.specs.ControlFacts.{closed_of}
use Rattle.guards_world.specs.Worlds.{WorldValue, facts_in}
use Rattle.guards_world.specs.InCycle.{InCycle}
use Rattle.control_state.specs.declared.control.Closed.{Closed}
use Rattle.channel_node.specs.Closing.{closed_value}
use Rattle.fault_script.specs.declared.disturbance.Disturbance.{Disturbance}
use Rattle.slot_traffic.specs.Pieces.{ArrivedValue}
use Rattle.guards_world.specs.Arrivals.{AreArrivals}
use Rattle.node_laws.proofs.SlotNodes.{all_switched}
use Rattle.world_traffic.specs.Reading.{got_of}
use Rattle.icn_world.specs.declared.world.Halt.{Halt}
use Rattle.icn_world.specs.declared.restoring.SweepResult.{SweepResult}
use Rattle.icn_world.specs.Kept.{IsWorldKept}
use Rattle.icn_world.specs.Restored.{HaveTaken, MayRestore, HasClosed, MayTakeContent, IsTaken, IsSwitched, IsRestored}
use Rattle.icn_world.specs.Stages.{IsWithinCycle, MayCarry, HasArrived, PassesPart}
use Rattle.icn_world.proofs.AfterCycle.{whole_takes}
use Rattle.icn_world.proofs.Chaining.{then, then_step, halted_by, knowing, from}
use Rattle.icn_world.proofs.Entered.{Enters, may_carry, still_inside, of_kept}
use Rattle.icn_world.proofs.Lasting.{closed_later, taken_later}

-- ---- each slot

pub may_sweep : (targets : ChannelSet) (w w1 : WorldValue) (d : Disturbance) → IsWorldKept w w1 → Enters Sweep w w1 →
    (earlier current : Log) (steps : Steps) →
    MayRestore targets earlier current steps w d → MayCarry Sweep targets earlier current steps w1 d
may_sweep targets w w1 d kept enters earlier current steps held =
    may_carry Vote Sweep targets earlier current steps w w1 d kept enters refl refl held.stands (sym held.targets_are)

pub may_take : (joined : ChannelSet) (w w1 : WorldValue) (d : Disturbance) → IsWorldKept w w1 → Enters Final w w1 →
    (earlier current : Log) (steps : Steps) →
    MayTakeContent joined earlier current steps w d → MayCarry Final joined earlier current steps w1 d
may_take joined w w1 d kept enters earlier current steps held =
    may_carry Sweep Final joined earlier current steps w w1 d kept enters refl refl held.stands (sym held.joined_are)

pub may_switch : (w w1 : WorldValue) (d : Disturbance) → IsWorldKept w w1 → Enters Switch w w1 →
    (earlier current : Log) (steps : Steps) →
    IsWithinCycle Final (stage_after Final) (stage_after Final) earlier current steps w d →
    MayCarry Switch (switchboard ∷ []) earlier current steps w1 d
may_switch w w1 d kept enters earlier current steps held =
    may_carry Final Switch (switchboard ∷ []) earlier current steps w w1 d kept enters refl refl held refl

pub closes : (arrived : ArrivedValue) (closed : Closed) (w x : WorldValue) (d : Disturbance) → IsWorldKept w x →
    ((earlier current : Log) (steps : Steps) →
    InCycle w.mission earlier current steps Sweep (stage_after Sweep) (stage_before Sweep) w →
    AreArrivals w.mission (earlier ++ current) w.done Sweep (got_of arrived) →
    InCycle w.mission earlier current steps Sweep (stage_after Sweep) (stage_after Sweep) x) →
    ((earlier current : Log) (steps : Steps) →
    InCycle w.mission earlier current steps Sweep (stage_after Sweep) (stage_before Sweep) w →
    closed_value closed ≡ closed_of (cycle_at w.mission (earlier ++ current) w.done)) →
    (earlier current : Log) (steps : Steps) → HasArrived Sweep arrived earlier current steps w d →
    HasClosed closed earlier current steps x d
closes arrived closed w x d kept state answer earlier current steps has =
    record {
      stands = still_inside Sweep Sweep 7 6 7 7 earlier current steps w x d kept has.stands (λ late. omega arith)
          (state earlier current steps has.stands.inside has.arrivals);
      closed_is = of_kept (λ M n. closed_value closed ≡ closed_of (cycle_at M (earlier ++ current) n)) w x kept
          (answer earlier current steps has.stands.inside);
    }

pub takes : (arrived : ArrivedValue) (taken : ChannelSet) (w x : WorldValue) (d : Disturbance) → IsWorldKept w x →
    ((earlier current : Log) (steps : Steps) →
    InCycle w.mission earlier current steps Final (stage_after Final) (stage_before Final) w →
    AreArrivals w.mission (earlier ++ current) w.done Final (got_of arrived) →
    InCycle w.mission earlier current steps Final (stage_after Final) (stage_after Final) x) →
    ((earlier current : Log) (steps : Steps) →
    InCycle w.mission earlier current steps Final (stage_after Final) (stage_before Final) w →
    AreArrivals w.mission (earlier ++ current) w.done Final (got_of arrived) →
    HaveTaken taken w.mission (earlier ++ current) w.done steps) →
    (earlier current : Log) (steps : Steps) → HasArrived Final arrived earlier current steps w d →
    IsTaken taken earlier current steps x d
takes arrived taken w x d kept state answer earlier current steps has =
    record {
      stands = still_inside Final Final 8 7 8 8 earlier current steps w x d kept has.stands (λ late. omega arith)
          (state earlier current steps has.stands.inside has.arrivals);
      taken_are = of_kept (λ M n. HaveTaken taken M (earlier ++ current) n steps) w x kept
          (answer earlier current steps has.stands.inside has.arrivals);
    }

-- the switch slot hands nothing to the nodes
switched : (M : MissionValue) (earlier current : Log) (steps : Steps) (w : WorldValue) →
    InCycle M earlier current steps Switch (stage_after Switch) (stage_before Switch) w →
    InCycle M earlier current steps Switch (stage_after Switch) (stage_after Switch) w
switched M earlier current steps w inside =
    record {
      mission = inside.mission;
      ranges = inside.ranges;
      below = inside.below;
      unspent = inside.unspent;
      count = inside.count;
      before = inside.before;
      unstopped = inside.unstopped;
      made = inside.made;
      unhalted = inside.unhalted;
      nodes = inside.nodes ∙ all_switched M (earlier ++ current) w.done steps inside.ranges;
      ledger = inside.ledger;
      switches = inside.switches;
    }

pub nothing_kept : (w : WorldValue) → IsWorldKept w w
nothing_kept w = record { mission = refl; done = refl; carried = refl }

pub sends : (arrived : ArrivedValue) (sent : List (Option ChannelSet)) (w : WorldValue) (d : Disturbance) →
    sent ≡ by_channel (λ j. set_of (got_of arrived j switchboard)) →
    (earlier current : Log) (steps : Steps) → HasArrived Switch arrived earlier current steps w d →
    IsSwitched sent earlier current steps w d
sends arrived sent w d are earlier current steps has =
    record {
      stands = still_inside Switch Switch 9 8 9 9 earlier current steps w w d (nothing_kept w) has.stands
          (λ late. omega arith) (switched w.mission earlier current steps w has.stands.inside);
      sent_are = are ∙ ap (λ (f : Channel → Option ChannelSet). by_channel f)
          (fun_ext (λ j. ap set_of (has.arrivals j switchboard)));
    }

-- ---- one after the other

-- the final slot is over, these took a content, and this was answered when the cycle was closed
record IsFilled (closed : Closed) (taken : ChannelSet) (earlier current : Log) (steps : Steps) (w : WorldValue)
    (d : Disturbance) : Type 0 where
  pub stands : IsTaken taken earlier current steps w d
  pub closed_is : closed_value closed ≡ closed_of (facts_in w (earlier ++ current))

may_go_on : (closed : Closed) (w : WorldValue) (d : Disturbance) (earlier current : Log) (steps : Steps) →
    HasClosed closed earlier current steps w d → MayTakeContent closed.joined earlier current steps w d
may_go_on closed w d earlier current steps held =
    record { stands = held.stands; joined_are = ap (λ c. c.joined) held.closed_is }

abbrev pub restored_of : Closed → ChannelSet → List (Option ChannelSet) → SweepResult
restored_of closed taken sent =
    record { joined = closed.joined; remaining = closed.remaining; taken = taken; sent = sent }

module _ {may : List RuleValue → EntryValue → Type 0} (closed : Closed) (w w1 : WorldValue) (d d1 : Disturbance)
    (b b1 : BusValue) where
  filled : {r : Result ChannelSet Halt} → PassesPart may (MayTakeContent closed.joined) IsTaken r w w1 d d1 b b1 →
      PassesPart may (HasClosed closed) (IsFilled closed) r w w1 d d1 b b1
  filled one =
      knowing (IsFilled closed)
      (λ taken earlier current new steps held has.
      record {
        stands = has;
        closed_is = closed_later earlier current new steps Sweep Final 7 7 8 8 w w1 one.mission one.done
            held.stands.inside has.stands.inside (omega arith) (closed_value closed) held.closed_is;
      })
      (from (HasClosed closed) (may_go_on closed w d) one)

  module _ (taken : ChannelSet) where
    restored : {r : Result (List (Option ChannelSet)) Halt} →
        PassesPart may (IsWithinCycle Final (stage_after Final) (stage_after Final)) IsSwitched r w w1 d d1 b b1 →
        PassesPart may (IsFilled closed taken) (λ sent. IsRestored (restored_of closed taken sent)) r w w1 d d1 b b1
    restored one =
        knowing (λ sent. IsRestored (restored_of closed taken sent))
        (λ sent earlier current new steps held has.
        let before = held.stands.stands.inside in
        let later = closed_later earlier current new steps Final Switch 8 8 9 9 w w1 one.mission one.done before
        has.stands.inside (omega arith) (closed_value closed) held.closed_is in
        record {
          stands = has.stands;
          joined_are = ap (λ c. c.joined) later;
          remaining_are = ap (λ c. c.remaining) later;
          taken_are = λ q low joins.
              taken_later earlier current new steps Final Switch 8 8 9 9 w w1 one.mission one.done before
              has.stands.inside (omega arith) taken held.stands.taken_are q low joins
              ∙ whole_takes w1.mission earlier (current ++ new) steps w1 has.stands.inside q joins;
          sent_are = has.sent_are;
        })
        (from (IsFilled closed taken) (λ earlier current steps held. held.stands.stands) one)

-- ---- the three slots

module _ {may : List RuleValue → EntryValue → Type 0} (targets : ChannelSet) (closed : Closed) (w w1 w2 : WorldValue)
    (d d1 d2 : Disturbance) (b b1 b2 : BusValue)
    (first : PassesPart may (MayRestore targets) HasClosed (Ok closed) w w1 d d1 b b1) where
  pub taking_halts : {h : Halt} (r : Result SweepResult Halt) → IsErrAnd r (λ x. x ≡ h) →
      PassesPart may (MayTakeContent closed.joined) IsTaken (Err h) w1 w2 d1 d2 b1 b2 →
      PassesPart may (MayRestore targets) IsRestored r w w2 d d2 b b2
  taking_halts r is second = then first (halted_by r is (filled closed w1 w2 d1 d2 b1 b2 second))

  module _ (taken : ChannelSet)
      (second : PassesPart may (MayTakeContent closed.joined) IsTaken (Ok taken) w1 w2 d1 d2 b1 b2) where
    pub switching_halts : (w3 : WorldValue) (d3 : Disturbance) (b3 : BusValue) {h : Halt}
        (r : Result SweepResult Halt) → IsErrAnd r (λ x. x ≡ h) →
        PassesPart may (IsWithinCycle Final (stage_after Final) (stage_after Final)) IsSwitched (Err h) w2 w3 d2 d3 b2
        b3 → PassesPart may (MayRestore targets) IsRestored r w w3 d d3 b b3
    switching_halts w3 d3 b3 r is third =
        then first (then (filled closed w1 w2 d1 d2 b1 b2 second)
        (halted_by r is (restored closed w2 w3 d2 d3 b2 b3 taken third)))

    pub all_restored : (w3 : WorldValue) (d3 : Disturbance) (b3 : BusValue) (sent : List (Option ChannelSet)) →
        PassesPart may (IsWithinCycle Final (stage_after Final) (stage_after Final)) IsSwitched (Ok sent) w2 w3 d2 d3 b2
        b3 →
        PassesPart may (MayRestore targets) IsRestored (Ok (restored_of closed taken sent)) w w3 d d3 b b3
    all_restored w3 d3 b3 sent third =
        then_step IsRestored (restored_of closed taken sent) w3 (nothing_kept w3) (λ earlier current steps held. held)
        (then first (then (filled closed w1 w2 d1 d2 b1 b2 second) (restored closed w2 w3 d2 d3 b2 b3 taken third)))
