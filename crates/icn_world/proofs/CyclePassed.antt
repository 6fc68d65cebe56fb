-- A cycle, passed part by part.
use Rattle.std.proofs.Common.{◌≡◌, ℕ, ◌<◌, ◌+◌, List, [], ◌++◌, length, Some, Result, Ok, Err, map, refl, sym, ap, subst, ◌∙◌, arith}
use Rattle.std.specs.List.{list_any, AllByRecursion}
use Rattle.std.proofs.lemmas.List.{append_assoc, append_cancel_left}
use Rattle.guards_model.specs.declared.Slot.TheVariants.{Tasks, Vote, Switch}
use Rattle.guards_model.specs.BusRules.{RuleValue}
use Rattle.guards_model.specs.Channels.{Channel, ChannelSet, has}
use Rattle.guards_model.specs.Decisions.{DecisionValue}
use Rattle.guards_model.specs.Ledgers.{LedgerValue, mode_of}
use Rattle.guards_model.specs.Modes.{is_up}
use Rattle.guards_model.specs.Missions.{MissionValue}
use Rattle.guards_model.specs.Network.{EntryValue, Log, BusValue}
use Rattle.guards_model.specs.Rounds.{Steps, steps_of}
use Rattle.guards_model.specs.Texts.{LineValue, TraceValue, RecordValue}
use Rattle.guards_model.specs.Records.{shown, transfer_of_pair}
use Rattle.guards_model.specs.Slots.{stage_after, stage_before}
use Rattle.guards_base.specs.Seen.{Seen}
use Rattle.guards_runs.specs.Cycles.{Cycle, cycles_before, cycle_at}
use Rattle.guards_runs.specs.Disturbed.{is_charge}
use Rattle.guards_runs.specs.Due.{targets_of}
use Rattle.guards_runs.specs.Report.{channels_running_in, cycle_record}
use Rattle.guards_runs.specs.SlotFacts.{AreFromPlace}
use Rattle.guards_laws.proofs.CycleParts.{active-is}
use Rattle.guards_world.specs.Worlds.{WorldValue, HaltValue, disturbed, no_memory, last_entries}
use Rattle.guards_world.specs.InCycle.{InCycle}
use Rattle.guards_world.specs.WorldCycle.{Carries, Ends, IsLinePadded, MayCycle}
use Rattle.guards_world.specs.Passing.{world_after}
use Rattle.world_laws.specs.Fronts.{IsRunFront, IsUpToStop, CarriesUpToStop}
use Rattle.world_laws.specs.Staying.{RoundsStay, VoteStays}
use Rattle.world_laws.proofs.Finishing.{finishes, stops, runs_out}
use Rattle.world_laws.proofs.Following.{follows}
use Rattle.world_laws.proofs.SlotKept.{rounds_later, vote_later}
use Rattle.fault_script.specs.declared.disturbance.Disturbance.{Disturbance}
use Rattle.icn_world.specs.declared.world.Halt.{Halt}
use Rattle.icn_world.specs.declared.rounds.Reconfiguration.{Reconfiguration}
use Rattle.icn_world.specs.declared.restoring.SweepResult.{SweepResult}
use Rattle.icn_world.specs.Halts.{halt_value}
use Rattle.icn_world.specs.Kept.{IsWorldKept}
use Rattle.icn_world.specs.Passes.{MayPass, Passes}
use Rattle.icn_world.specs.Restored.{MayRestore, IsRestored}
use Rattle.icn_world.specs.Settled.{IsSettled}
use Rattle.icn_world.specs.Stages.{Condition, EndsCycle, PassesPart, IsWithinCycle, IsAtStart}
use Rattle.icn_world.specs.Told.{AreLinesOf, of_channels_up}
use Rattle.icn_world.specs.Voted.{HasVoted}
use Rattle.icn_world.specs.Work.{HasDoneWork}
use Rattle.icn_world.proofs.Chaining.{carries_on, carries_nothing, counts_on}
use Rattle.icn_world.proofs.Entered.{of_kept}
use Rattle.icn_world.proofs.Fronts.{is_front}
use Rattle.icn_world.proofs.Recording.{all_left, lines_at_end, lines_stay, running_stays, record_shown}

-- ---- a cycle so far

-- these entries were carried since the cycle began
pub record SoFar (may : List RuleValue → EntryValue → Type 0) (old : WorldValue) (bus : BusValue) (now : Log)
    (w : WorldValue) (bus_now : BusValue) : Type 0 where
  pub carries : Carries may bus bus_now now
  pub mission : w.mission ≡ old.mission
  pub done : w.done ≡ old.done
  pub count : w.carried ≡ old.carried + length now

nothing_yet : (may : List RuleValue → EntryValue → Type 0) (old : WorldValue) (bus : BusValue) →
    SoFar may old bus [] old bus
nothing_yet may old bus = record { carries = carries_nothing may bus; mission = refl; done = refl; count = omega arith }

goes_on : {A : Type 0} {may : List RuleValue → EntryValue → Type 0} {P : Condition} {Q : A → Condition}
    {r : Result A Halt} {old w w2 : WorldValue} {d d2 : Disturbance}
    {bus b b2 : BusValue} {now : Log} → SoFar may old bus now w b → (g : PassesPart may P Q r w w2 d d2 b b2) →
    SoFar may old bus (now ++ g.entries) w2 b2
goes_on {may = may} {old = old} {w = w} {w2 = w2} {bus = bus} {b = b} {b2 = b2} {now = now} far g =
    record {
      carries = carries_on may bus b b2 now g.entries far.carries g.carries;
      mission = g.mission ∙ far.mission;
      done = g.done ∙ far.done;
      count = counts_on old.carried w.carried w2.carried now g.entries far.count g.count;
    }

stays : {may : List RuleValue → EntryValue → Type 0} {old w w2 : WorldValue} {bus b : BusValue} {now : Log} →
    SoFar may old bus now w b → IsWorldKept w w2 → SoFar may old bus now w2 b
stays far kept = record {
  carries = far.carries;
  mission = kept.mission ∙ far.mission;
  done = kept.done ∙ far.done;
  count = kept.carried ∙ far.count;
}

-- what is true of the mission and of the count of cycles of a world stays so where these do
at_world : (P : MissionValue → ℕ → Type 0) (one other : WorldValue) → other.mission ≡ one.mission →
    other.done ≡ one.done → P one.mission one.done → P other.mission other.done
at_world P one other m n h =
    subst (λ (k : ℕ). P other.mission k) (sym n) (subst (λ (M : MissionValue). P M one.done) (sym m) h)

-- ---- halts

ends_by : (h : HaltValue) (old w : WorldValue) (earlier current : Log) (steps : Steps) → w.mission ≡ old.mission →
    w.done ≡ old.done → EndsCycle h earlier current steps w →
    Ends old earlier current (Err h) (record w { spent = Some h })
ends_by (disturbed stop) old w earlier current steps m n h =
    stops old w (record w { spent = Some (disturbed stop) }) earlier current steps stop m n h.stops h.stop_is h.full
    refl refl refl
ends_by no_memory old w earlier current steps m n h =
    runs_out old w (record w { spent = Some no_memory }) earlier current m n h.front refl refl refl

up_to_stop_by : (h : HaltValue) (old w : WorldValue) (earlier current : Log) (steps : Steps) → w.mission ≡ old.mission →
    w.done ≡ old.done → EndsCycle h earlier current steps w →
    ◌≡◌ {A = Result RecordValue HaltValue} (Err h) (Err no_memory) → IsUpToStop old.mission earlier current old.done
up_to_stop_by (disturbed stop) old w earlier current steps m n h none = absurd cc
up_to_stop_by no_memory old w earlier current steps m n h none =
    at_world (λ M k. IsUpToStop M earlier current k) w old (sym m) (sym n) h.up_to_stop

halts_by : {may : List RuleValue → EntryValue → Type 0} {old w : WorldValue} {bus b : BusValue} {current : Log}
    (earlier : Log) (steps : Steps) (h : HaltValue) →
    SoFar may old bus current w b → EndsCycle h earlier current steps w → Passes may old earlier bus (Err h) w b
halts_by {old = old} {w = w} {current = current} earlier steps h far ends =
    record {
      now = current;
      carries = far.carries;
      count = far.count;
      ends = ends_by h old w earlier current steps far.mission far.done ends;
      up_to_stop = λ none. up_to_stop_by h old w earlier current steps far.mission far.done ends none;
    }

-- memory ran out in a call, whose entries are those that the log grew by
pub carries_up_to_stop : {may : List RuleValue → EntryValue → Type 0} (old new : WorldValue) (bus after : BusValue)
    (result : Result RecordValue HaltValue) →
    MayCycle old bus → ((L : Log) → MayPass old L → Passes may old L bus result new after) →
    CarriesUpToStop old bus result after
carries_up_to_stop old new bus after result may_cycle passes unspent none now grown =
    let L = last_entries old.carried bus.log in
    let pass = passes L (record { stands = may_cycle.stands unspent; below = may_cycle.below; unspent = unspent }) in
    let same : pass.now ≡ now = append_cancel_left bus.log pass.now now (sym pass.carries.log ∙ grown) in
    subst (λ (entries : Log). IsUpToStop old.mission L entries old.done) same (pass.up_to_stop none)

-- ---- part by part

is_at_start : (old : WorldValue) (d : Disturbance) → d.active ≡ old.switches → d.charged ≡ [] → (L : Log) →
    MayPass old L → IsAtStart L [] [] old d
is_at_start old d begun nobody L held =
    record {
      stands = held.stands;
      nothing = refl;
      below = held.below;
      unspent = held.unspent;
      active = begun;
      charged = nobody;
    }

module _ {may : List RuleValue → EntryValue → Type 0} (old : WorldValue) (d : Disturbance) (bus : BusValue)
    (begun : d.active ≡ old.switches) (nobody : d.charged ≡ []) where
  pub settle_halts : {h : Halt} {w : WorldValue} {d1 : Disturbance} {b : BusValue} →
      PassesPart may IsAtStart IsSettled (Err h) old w d d1 bus b →
      (earlier : Log) → MayPass old earlier → Passes may old earlier bus (Err (halt_value h)) w b
  settle_halts {h = h} g earlier held =
      halts_by earlier [] (halt_value h) (goes_on (nothing_yet may old bus) g)
      (g.ends earlier [] [] (is_at_start old d begun nobody earlier held))

  module _ {s : Reconfiguration} {w : WorldValue} {d1 : Disturbance} {b : BusValue}
      (g : PassesPart may IsAtStart IsSettled (Ok s) old w d d1 bus b) where
    n1 : Log
    n1 = [] ++ g.entries

    far1 : SoFar may old bus n1 w b
    unfolding n1
    far1 = goes_on (nothing_yet may old bus) g

    is_settled : (earlier : Log) → MayPass old earlier → IsSettled s earlier n1 [] w d1
    unfolding n1
    is_settled earlier held = g.ends earlier [] [] (is_at_start old d begun nobody earlier held)

    pub may_work : (earlier : Log) × MayPass old earlier →
        (earlier : Log) × (current : Log) × (steps : Steps)
        × InCycle w.mission earlier current steps Tasks (stage_after Tasks) (stage_before Tasks) w
    may_work held = (held.0, n1, [], (is_settled held.0 held.1).stands.inside)

    pub work_fails : (w1 : WorldValue) → IsWorldKept w w1 → (earlier : Log) → MayPass old earlier →
        Passes may old earlier bus (Err no_memory) w1 b
    work_fails w1 kept earlier held =
        halts_by earlier [] no_memory (stays far1 kept)
        (of_kept (λ M n. IsRunFront M earlier n1 n) w w1 kept
        (is_front w.mission earlier n1 [] Tasks Vote 4 w refl (is_settled earlier held).stands.inside))

    module _ (w1 : WorldValue) (made : Steps) (traces : List TraceValue) (kept : IsWorldKept w w1)
        (worked : (earlier current : Log) (steps : Steps) →
        InCycle w.mission earlier current steps Tasks (stage_after Tasks) (stage_before Tasks) w →
        HasDoneWork made traces earlier current w1) where
      done_work : (earlier : Log) → MayPass old earlier → HasDoneWork made traces earlier n1 w1
      done_work earlier held = worked earlier n1 [] (is_settled earlier held).stands.inside

      inside1 : (earlier : Log) → MayPass old earlier →
          IsWithinCycle Tasks (stage_after Tasks) (stage_after Tasks) earlier n1 made w1 d1
      inside1 earlier held =
          let within = (is_settled earlier held).stands in
          let work = done_work earlier held in
          record {
            inside = work.inside;
            full = λ late. work.full;
            active = of_kept (λ M n. d1.active ≡ (cycle_at M (earlier ++ n1) n).active) w w1 kept within.active;
            charged = of_kept (λ M n. (q : Channel) → q < 7 → has d1.charged q ≡ list_any (is_charge n Switch q) n1) w
                w1 kept within.charged;
          }

      pub may_vote : (earlier : Log) × MayPass old earlier →
          (earlier : Log) × (current : Log) × (steps : Steps)
          × IsWithinCycle Tasks (stage_after Tasks) (stage_after Tasks) earlier current steps w1 d1
      may_vote held = (held.0, n1, made, inside1 held.0 held.1)

      pub vote_halts : {h : Halt} {w2 : WorldValue} {d2 : Disturbance} {b2 : BusValue} →
          PassesPart may (IsWithinCycle Tasks (stage_after Tasks) (stage_after Tasks)) HasVoted (Err h) w1 w2 d1 d2 b
          b2 →
          (earlier : Log) → MayPass old earlier → Passes may old earlier bus (Err (halt_value h)) w2 b2
      vote_halts {h = h} v earlier held =
          halts_by earlier made (halt_value h) (goes_on (stays far1 kept) v)
          (v.ends earlier n1 made (inside1 earlier held))

      module _ {lines : Seen LineValue} {w2 : WorldValue} {d2 : Disturbance} {b2 : BusValue}
          (v : PassesPart may (IsWithinCycle Tasks (stage_after Tasks) (stage_after Tasks)) HasVoted (Ok lines) w1 w2 d1
          d2 b b2)
          (joining : ChannelSet) (are : joining ≡ targets_of (transfer_of_pair s.transfer)) where
        n2 : Log
        n2 = n1 ++ v.entries

        has_voted : (earlier : Log) → MayPass old earlier → HasVoted lines earlier n2 made w2 d2
        unfolding n2
        has_voted earlier held = v.ends earlier n1 made (inside1 earlier held)

        -- the entries from the tasks slot on leave the decision
        stay2 : (earlier : Log) → MayPass old earlier → RoundsStay w.mission (earlier ++ n1) v.entries w.done
        unfolding n2
        stay2 earlier held =
            let inside : InCycle w.mission earlier (n1 ++ v.entries) made Vote (stage_after Vote) (stage_after Vote)
            w2 =
            subst (λ (M : MissionValue).
            InCycle M earlier (n1 ++ v.entries) made Vote (stage_after Vote) (stage_after Vote) w2)
            (v.mission ∙ kept.mission) (has_voted earlier held).stands.inside in
            rounds_later w.mission (earlier ++ n1) v.entries w.done 5
            (follows w.mission earlier n1 v.entries [] made Tasks Vote 5 4 6 6 w w2 (v.done ∙ kept.done)
            (is_settled earlier held).stands.inside inside) (omega arith)

        may_restore_at : (earlier : Log) → MayPass old earlier → MayRestore joining earlier n2 made w2 d2
        unfolding n2
        may_restore_at earlier held =
            let decided : targets_of (cycle_at w.mission (earlier ++ (n1 ++ v.entries)) w.done).transfer ≡ joining =
            ap (λ (all : Log). targets_of (cycle_at w.mission all w.done).transfer)
            (sym (append_assoc earlier n1 v.entries))
            ∙ ap (λ (x : DecisionValue). targets_of x.transfer) (stay2 earlier held).decision
            ∙ sym (are ∙ ap targets_of (is_settled earlier held).transfer) in
            record {
              stands = (has_voted earlier held).stands;
              targets_are = at_world (λ M n. joining
                  ≡ targets_of (cycle_at M (earlier ++ (n1 ++ v.entries)) n).transfer) w w2 (v.mission ∙ kept.mission)
                  (v.done ∙ kept.done) (sym decided);
            }

        pub may_restore : (earlier : Log) × MayPass old earlier →
            (earlier : Log) × (current : Log) × (steps : Steps) × MayRestore joining earlier current steps w2 d2
        may_restore held = (held.0, n2, made, may_restore_at held.0 held.1)

        far2 : SoFar may old bus n2 w2 b2
        unfolding n2
        far2 = goes_on (stays far1 kept) v

        pub restore_halts : {h : Halt} {w3 : WorldValue} {d3 : Disturbance} {b3 : BusValue} →
            PassesPart may (MayRestore joining) IsRestored (Err h) w2 w3 d2 d3 b2 b3 →
            (earlier : Log) → MayPass old earlier → Passes may old earlier bus (Err (halt_value h)) w3 b3
        restore_halts {h = h} r earlier held =
            halts_by earlier made (halt_value h) (goes_on far2 r) (r.ends earlier n2 made (may_restore_at earlier held))

        module _ {restored : SweepResult} {w3 : WorldValue} {d3 : Disturbance} {b3 : BusValue}
            (r : PassesPart may (MayRestore joining) IsRestored (Ok restored) w2 w3 d2 d3 b2 b3) where
          n3 : Log
          n3 = n2 ++ r.entries

          is_restored : (earlier : Log) → MayPass old earlier → IsRestored restored earlier n3 made w3 d3
          unfolding n3
          is_restored earlier held = r.ends earlier n2 made (may_restore_at earlier held)

          pub may_end : (earlier : Log) × MayPass old earlier →
              (earlier : Log) × (current : Log) × (steps : Steps) × IsRestored restored earlier current steps w3 d3
          may_end held = (held.0, n3, made, is_restored held.0 held.1)

          -- the record tells of the facts
          told : (earlier : Log) → MayPass old earlier →
              shown w3.mission.rules.channels w3.mission.width (length w3.mission.outputs)
              (record {
                cycle = w3.done;
                active = w3.switches;
                transfer = transfer_of_pair s.transfer;
                lines = of_channels_up w3.ledger lines.items;
                traces = traces;
                removed = s.removed;
                joined = restored.joined;
                remaining = restored.remaining;
              })
              ≡ cycle_record w3.mission made w3.done (cycle_at w3.mission (earlier ++ n3) w3.done)
          unfolding n3 n2
          told earlier held =
              let M = w3.mission in
              let n = w3.done in
              let m3 : w3.mission ≡ w.mission = r.mission ∙ v.mission ∙ kept.mission in
              let c3 : w3.done ≡ w.done = r.done ∙ v.done ∙ kept.done in
              let last = is_restored earlier held in
              let e3 : Cycle = cycle_at M (earlier ++ n3) n in
              let later = v.entries ++ r.entries in
              let all : n1 ++ later ≡ n3 = sym (append_assoc n1 v.entries r.entries) in
              -- from the work on
              let inside1 : InCycle M earlier n1 [] Tasks (stage_after Tasks) (stage_before Tasks) w =
              subst (λ (X : MissionValue). InCycle X earlier n1 [] Tasks (stage_after Tasks) (stage_before Tasks) w)
              (sym m3) (is_settled earlier held).stands.inside in
              let since1 : AreFromPlace w.done 5 later =
              follows M earlier n1 later [] made Tasks Switch 5 4 9 9 w w3 c3 inside1
              (subst (λ (x : Log). InCycle M earlier x made Switch (stage_after Switch) (stage_after Switch) w3)
              (sym all) last.stands.inside) in
              let stay1 : RoundsStay M (earlier ++ n1) later n =
              subst (λ (k : ℕ). RoundsStay M (earlier ++ n1) later k) (sym c3)
              (rounds_later M (earlier ++ n1) later w.done 5 since1 (omega arith)) in
              let log1 : (earlier ++ n1) ++ later ≡ earlier ++ n3 =
              append_assoc earlier n1 later ∙ ap (λ (x : Log). earlier ++ x) all in
              let same1 : (cycle_at M (earlier ++ n3) n).decision ≡ (cycle_at M (earlier ++ n1) n).decision =
              ap (λ (x : Log). (cycle_at M x n).decision) (sym log1) ∙ stay1.decision in
              let open1 : (cycle_at M (earlier ++ n3) n).opening ≡ (cycle_at M (earlier ++ n1) n).opening =
              ap (λ (x : Log). (cycle_at M x n).opening) (sym log1) ∙ stay1.opening in
              -- from the vote on
              let inside2 : InCycle M earlier n2 made Vote (stage_after Vote) (stage_after Vote) w2 =
              subst (λ (X : MissionValue). InCycle X earlier n2 made Vote (stage_after Vote) (stage_after Vote) w2)
              (sym r.mission) (has_voted earlier held).stands.inside in
              let stay2 : VoteStays M (earlier ++ n2) r.entries n =
              subst (λ (k : ℕ). VoteStays M (earlier ++ n2) r.entries k) (sym r.done)
              (vote_later M (earlier ++ n2) r.entries w2.done 6
              (follows M earlier n2 r.entries made made Vote Switch 6 6 9 9 w2 w3 r.done inside2 last.stands.inside)
              (omega arith)) in
              let log2 : (earlier ++ n2) ++ r.entries ≡ earlier ++ n3 = append_assoc earlier n2 r.entries in
              let lines2 : AreLinesOf M (cycle_at M (earlier ++ n2) n) Vote lines.items =
              at_world (λ X k. AreLinesOf X (cycle_at X (earlier ++ n2) k) Vote lines.items) w2 w3 r.mission r.done
              (has_voted earlier held).lines_are in
              let lines3 : AreLinesOf M e3 Vote lines.items =
              subst (λ (x : Log). AreLinesOf M (cycle_at M x n) Vote lines.items) log2
              (lines_stay M (cycle_at M (earlier ++ n2) n) (cycle_at M ((earlier ++ n2) ++ r.entries) n) lines.items
              stay2.rounds.opening stay2.lines lines2) in
              let lines4 : AreLinesOf M e3 Switch (of_channels_up w3.ledger lines.items) =
              subst (λ (x : LedgerValue). AreLinesOf M e3 Switch (of_channels_up x lines.items))
              (sym last.stands.inside.ledger)
              (lines_at_end M (earlier ++ n3) n last.stands.inside.ranges lines.items lines3) in
              -- what was settled and worked
              let settled = is_settled earlier held in
              let transfer1 : transfer_of_pair s.transfer ≡ (cycle_at M (earlier ++ n1) n).transfer =
              at_world (λ X k. transfer_of_pair s.transfer ≡ (cycle_at X (earlier ++ n1) k).transfer) w w3 m3 c3
              settled.transfer in
              let removed1 : s.removed ≡ (cycle_at M (earlier ++ n1) n).removed =
              at_world (λ X k. s.removed ≡ (cycle_at X (earlier ++ n1) k).removed) w w3 m3 c3 settled.removed in
              let traces1 : traces ≡ map (λ p. record { channel = p; steps = steps_of made p })
              (channels_running_in Tasks (cycle_at M (earlier ++ n1) n)) =
              at_world (λ X k. traces ≡ map (λ p. record { channel = p; steps = steps_of made p })
              (channels_running_in Tasks (cycle_at X (earlier ++ n1) k))) w1 w3 (r.mission ∙ v.mission)
              (r.done ∙ v.done)
              (done_work earlier held).traces_are in
              record_shown M made n e3 w3.switches (transfer_of_pair s.transfer) (of_channels_up w3.ledger lines.items)
              traces s.removed restored.joined restored.remaining
              (last.stands.inside.switches ∙ sym (active-is M (earlier ++ n3) (cycles_before M (earlier ++ n3) n)))
              (transfer1 ∙ ap (λ (x : DecisionValue). x.transfer) (sym same1))
              lines4
              (traces1 ∙ ap (map (λ p. record { channel = p; steps = steps_of made p }))
              (sym (running_stays Tasks (cycle_at M (earlier ++ n1) n) e3 open1)))
              (removed1 ∙ ap (λ (x : DecisionValue). x.removed) (sym same1))
              last.joined_are last.remaining_are

          padded : (earlier : Log) → MayPass old earlier →
              AllByRecursion (IsLinePadded w3.mission) (of_channels_up w3.ledger lines.items)
          padded earlier held =
              all_left (IsLinePadded w3.mission) (λ line. is_up (mode_of w3.ledger line.channel)) lines.items
              (subst (λ (X : MissionValue). AllByRecursion (IsLinePadded X) lines.items) (sym r.mission)
              (has_voted earlier held).lines_are.1)

          pub passes : (new : WorldValue) (part : RecordValue) →
              part ≡ record {
                cycle = w3.done;
                active = w3.switches;
                transfer = transfer_of_pair s.transfer;
                lines = of_channels_up w3.ledger lines.items;
                traces = traces;
                removed = s.removed;
                joined = restored.joined;
                remaining = restored.remaining;
              } →
              ((earlier current : Log) (steps : Steps) → IsRestored restored earlier current steps w3 d3 →
              new ≡ world_after w3.mission earlier current steps w3.done w3.carried) →
              (earlier : Log) → MayPass old earlier → Passes may old earlier bus (Ok part) new b3
          unfolding n3
          passes new part is ended earlier held =
              let last = is_restored earlier held in
              let after = ended earlier n3 made last in
              let far : SoFar may old bus n3 w3 b3 = goes_on far2 r in
              record {
                now = n3;
                carries = far.carries;
                count = ap (λ (x : WorldValue). x.carried) after ∙ far.count;
                ends = finishes old w3 new earlier n3 made part far.mission far.done last.stands.inside
                    (last.stands.full (omega arith))
                    (ap (shown w3.mission.rules.channels w3.mission.width (length w3.mission.outputs)) is
                    ∙ told earlier held)
                    (subst (λ (x : RecordValue). AllByRecursion (IsLinePadded w3.mission) x.lines) (sym is)
                    (padded earlier held)) after;
                up_to_stop = λ none. absurd cc;
              }
