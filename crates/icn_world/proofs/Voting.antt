-- The vote slot, passed: entered, carried, and handed over.
use Rattle.std.proofs.Common.{◌≡◌, List, ◌++◌, Ok, Err, refl, sym, subst, arith}
use Rattle.guards_model.specs.declared.Slot.TheVariants.{Tasks, Vote, Sweep}
use Rattle.guards_model.specs.BusRules.{RuleValue}
use Rattle.guards_model.specs.Network.{EntryValue, Log, BusValue}
use Rattle.guards_model.specs.Rounds.{Steps}
use Rattle.guards_model.specs.Texts.{LineValue}
use Rattle.guards_model.specs.Slots.{stage_after, stage_before}
use Rattle.guards_base.specs.Seen.{Seen}
use Rattle.guards_runs.specs.Cycles.{cycle_at}
use Rattle.guards_world.specs.Worlds.{WorldValue}
use Rattle.guards_world.specs.InCycle.{InCycle}
use Rattle.fault_script.specs.declared.disturbance.Disturbance.{Disturbance}
use Rattle.slot_traffic.specs.Pieces.{ArrivedValue}
use Rattle.guards_world.specs.Arrivals.{AreArrivals, HaveWorked}
use Rattle.world_traffic.specs.Reading.{got_of}
use Rattle.world_laws.specs.Fronts.{IsRunFront}
use Rattle.node_laws.proofs.UpContexts.{all_worked}
use Rattle.icn_world.specs.declared.world.Halt.{Halt}
use Rattle.icn_world.specs.declared.world.Halt.TheVariants.{NoMemory}
use Rattle.icn_world.specs.Kept.{IsWorldKept}
use Rattle.icn_world.specs.Settled.{MayEnter}
use Rattle.icn_world.specs.Stages.{IsWithinCycle, HasArrived, PassesPart, Reaches}
use Rattle.icn_world.specs.Told.{AreLinesOf}
use Rattle.icn_world.specs.Voted.{HasVoted}
use Rattle.icn_world.proofs.Chaining.{then, halted, from, without_carry}
use Rattle.icn_world.proofs.Entered.{still_inside, of_kept}
use Rattle.icn_world.proofs.Fronts.{is_front}

pub may_vote : (earlier current : Log) (steps : Steps) (w : WorldValue) (d : Disturbance) →
    IsWithinCycle Tasks (stage_after Tasks) (stage_after Tasks) earlier current steps w d →
    MayEnter Vote earlier current steps w d
may_vote earlier current steps w d within = record { before = Tasks; soon = refl; stands = within }

module _ {may : List RuleValue → EntryValue → Type 0} (w w1 : WorldValue) (d d1 : Disturbance) (b b1 : BusValue) where
  pub slot_halts : {h : Halt} → PassesPart may (MayEnter Vote) (HasArrived Vote) (Err h) w w1 d d1 b b1 →
      PassesPart may (IsWithinCycle Tasks (stage_after Tasks) (stage_after Tasks)) HasVoted (Err h) w w1 d d1 b b1
  slot_halts goes = halted (from (IsWithinCycle Tasks (stage_after Tasks) (stage_after Tasks))
      (λ earlier current steps within. may_vote earlier current steps w d within) goes)

  module _ {arrived : ArrivedValue}
      (goes : PassesPart may (MayEnter Vote) (HasArrived Vote) (Ok arrived) w w1 d d1 b b1) where
    passed : PassesPart may (IsWithinCycle Tasks (stage_after Tasks) (stage_after Tasks)) (HasArrived Vote) (Ok arrived)
        w w1 d d1 b b1
    passed = from (IsWithinCycle Tasks (stage_after Tasks) (stage_after Tasks))
        (λ earlier current steps within. may_vote earlier current steps w d within) goes

    pub may_take : (earlier : Log) × (current : Log) × (steps : Steps)
        × IsWithinCycle Tasks (stage_after Tasks) (stage_after Tasks) earlier current steps w d →
        (earlier : Log) × (current : Log) × (steps : Steps)
        × InCycle w1.mission earlier current steps Vote (stage_after Vote) (stage_before Vote) w1
    may_take held = (
      held.0,
      held.1 ++ goes.entries,
      held.2,
      (goes.ends held.0 held.1 held.2 (may_vote held.0 held.1 held.2 w d held.3)).stands.inside,
    )

    module _ (w2 : WorldValue) (kept : IsWorldKept w1 w2) where
      pub take_fails : {h : Halt} → h ≡ NoMemory →
          PassesPart may (IsWithinCycle Tasks (stage_after Tasks) (stage_after Tasks)) HasVoted (Err h) w w2 d d1 b b1
      take_fails {h = h} none =
          then passed
          (without_carry may (HasArrived Vote arrived) HasVoted (Err h) w1 w2 d1 d1 b1 kept.mission kept.done
          kept.carried
          (λ earlier current steps has.
          subst (λ (x : Halt). Reaches HasVoted (Err x) earlier current steps w2 d1) (sym none)
          (of_kept (λ M n. IsRunFront M earlier current n) w1 w2 kept
          (is_front w1.mission earlier current steps Vote Sweep 5 w1 refl has.stands.inside))))

      pub votes_taken : {lines : Seen LineValue} →
          ((earlier current : Log) (steps : Steps) →
          InCycle w1.mission earlier current steps Vote (stage_after Vote) (stage_before Vote) w1 →
          AreArrivals w1.mission (earlier ++ current) w1.done Vote (got_of arrived) →
          HaveWorked w1.mission (earlier ++ current) w1.done →
          InCycle w1.mission earlier current steps Vote (stage_after Vote) (stage_after Vote) w2) →
          ((earlier current : Log) (steps : Steps) →
          InCycle w1.mission earlier current steps Vote (stage_after Vote) (stage_before Vote) w1 →
          AreArrivals w1.mission (earlier ++ current) w1.done Vote (got_of arrived) →
          HaveWorked w1.mission (earlier ++ current) w1.done →
          AreLinesOf w1.mission (cycle_at w1.mission (earlier ++ current) w1.done) Vote lines.items) →
          PassesPart may (IsWithinCycle Tasks (stage_after Tasks) (stage_after Tasks)) HasVoted (Ok lines) w w2 d d1 b
          b1
      votes_taken {lines = lines} taken told =
          then passed
          (without_carry may (HasArrived Vote arrived) HasVoted (Ok lines) w1 w2 d1 d1 b1 kept.mission kept.done
          kept.carried
          (λ earlier current steps has.
          let worked = all_worked w1.mission (earlier ++ current) w1.done in
          record {
            stands = still_inside Vote Vote 6 5 6 6 earlier current steps w1 w2 d1 kept has.stands (λ late. omega arith)
                (taken earlier current steps has.stands.inside has.arrivals worked);
            lines_are = of_kept (λ M n. AreLinesOf M (cycle_at M (earlier ++ current) n) Vote lines.items) w1 w2 kept
                (told earlier current steps has.stands.inside has.arrivals worked);
          }))
