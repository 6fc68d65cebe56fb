-- One more cycle of a run with its exchange, whatever its answer, for a mission with an actuator and without one.
use Rattle.std.proofs.Common.{◌≡◌, ℕ, zero, suc, ◌<◌, ◌≤◌, Bool, List, [], ◌∷◌, ◌++◌, length, take, drop, Option, Some, None, Result, Ok, Err, refl, sym, ap, subst, ◌∙◌, arith, append_assoc, append-nil, ℤ, pos, true, ◌==◌, ◌&&◌}
use Rattle.std.specs.Prelude.{option_map, int_le}
use Rattle.std.specs.List.{list_all}
use Rattle.std.proofs.lemmas.Bool.{eqb-true}
use Rattle.guards_model.specs.Words.{is_word}
use Rattle.guards_model.proofs.BoolTests.{both}
use Rattle.guards_model.specs.declared.Slot.TheVariants.{Output}
use Rattle.guards_model.specs.BusRules.{RuleValue}
use Rattle.guards_model.specs.Channels.{ChannelSet}
use Rattle.guards_model.specs.Frames.{is_set}
use Rattle.guards_model.specs.Missions.{MissionValue, IsMission, is_actuator, bus_rules, ActuatorValue}
use Rattle.guards_model.specs.Network.{EntryValue, Log, AreFrom, without_outputs, BusValue}
use Rattle.guards_model.specs.Records.{shown}
use Rattle.guards_model.specs.Rounds.{Histories}
use Rattle.guards_model.specs.Texts.{Part, RecordValue, cycle_part, out_line}
use Rattle.guards_laws.proofs.CycleParts.{active-is}
use Rattle.guards_laws.proofs.LogGrows.{length-cycles_before}
use Rattle.guards_laws.proofs.WithinChannels.{active_is_set}
use Rattle.guards_runs.specs.Cycles.{Cycle, Past, cycles_before, cycle_at}
use Rattle.guards_runs.specs.Report.{cycle_record, cycle_parts}
use Rattle.guards_runs.specs.Disturbed.{settled_of}
use Rattle.guards_runs.specs.Outputs.{words_after, ideal_outputs}
use Rattle.guards_runs.specs.ActedReport.{acted_parts}
use Rattle.guards_model.specs.Settled.{SettledValue}
use Rattle.guards_world.specs.Worlds.{WorldValue, HaltValue, disturbed, no_memory, first_world, settled_after}
use Rattle.guards_world.specs.WorldCycle.{PassesCycle, MayCycle}
use Rattle.world_laws.specs.Fronts.{CarriesUpToStop}
use Rattle.run_laws.specs.Runs.{HasCarried, HasRunCycles, HasRunPart, IsBetween, PassesOn}
use Rattle.run_laws.proofs.RunPassed.{begins, may_cycle, passes_on, ran_cycles, ran_short}
use Rattle.run_laws.proofs.RunContinues.{stop_breaks_off}
use Rattle.run_laws.proofs.RunTold.{parts_more as whole_parts_more}
use Rattle.output_gate.specs.Gates.{GateValue}
use Rattle.output_gate.specs.Exchanging.{Exchanges, MayExchange, Moves, Stays, BreaksOff}
use Rattle.output_gate.specs.declared.exchange.OutStop.{OutStop}
use Rattle.output_gate.specs.declared.exchange.OutStop.TheVariants as out
use Rattle.run_laws.proofs.MayExchange.{may_exchange}
use Rattle.run_laws.specs.Acting.{ActedToStop, ActedPart, IsActing}
use Rattle.run_laws.specs.Driving.{CyclesRan, RunBroken, IsDriven, Drives, Exchanged, exchange_end, first_gate, with_part}
use Rattle.run_laws.proofs.Acting.{take_all, words_count}
use Rattle.run_laws.proofs.Acting as acting
use Rattle.run_laws.proofs.NineSlots as nine
use Rattle.run_laws.proofs.DrivenTold.{parts_stay, parts_more}

module _ (may : List RuleValue → EntryValue → Type 0) (M : MissionValue) (start : BusValue) where
  -- ---- before the first cycle

  pub driven_begins : (o : Option ActuatorValue) → IsMission M → start.script ≡ bus_rules M →
      ((a : ActuatorValue) → o ≡ Some a → length a.start ≡ length M.outputs) →
      IsDriven o may M start (first_world M) start (option_map first_gate o) [] []
  driven_begins None mission script sized = (begins may M start mission script, refl)
  driven_begins (Some a) mission script sized = (
    first_gate a,
    refl,
    record {
      sizes = sized a refl;
      between = begins may M start mission script;
      acted = refl;
      earlier = tt;
      unstopped = refl;
      gate_is = refl;
      ideal = at_start;
    },
  )
    where
      at_start : (c : ℕ) → c ≤ 0 → words_after M a [] c ≡ ideal_outputs M a.steps a.start [] c
      at_start zero low = refl
      at_start (suc c) low = absurd (omega (arith, low))

  -- a mission's actuator has a first word for each output
  sized_by : (outputs : ℕ) (o : Option ActuatorValue) → is_actuator outputs o ≡ true → (a : ActuatorValue) →
      o ≡ Some a → length a.start ≡ outputs
  sized_by outputs None is a these = absurd cc
  sized_by outputs (Some b) is a these =
      let same : b ≡ a = cc in
      let start = (both (length b.steps == outputs && list_all (λ step. is_word step && int_le (pos 0) step) b.steps)
      (length b.start == outputs && list_all is_word b.start) is).1 in
      subst (λ (x : ActuatorValue). length x.start ≡ outputs) same
      (eqb-true (length b.start) outputs (both (length b.start == outputs) (list_all is_word b.start) start).0)

  pub mission_begins : IsMission M → start.script ≡ bus_rules M →
      IsDriven M.actuator may M start (first_world M) start (option_map first_gate M.actuator) [] []
  mission_begins mission script =
      driven_begins M.actuator mission script (sized_by (length M.outputs) M.actuator mission.actuator)

  module _ (w : WorldValue) (bus : BusValue) (gate : Option GateValue) (F : Log) (histories : Histories) where
    -- ---- between two cycles

    -- the gate has a word for each output
    pub driven_fits : (o : Option ActuatorValue) → IsDriven o may M start w bus gate F histories → (g : GateValue) →
        gate ≡ Some g → length g.words ≡ length w.mission.outputs
    driven_fits None at g is = absurd cc
    driven_fits (Some a) at g is =
        let these : Some at.0 ≡ Some g = sym at.1 ∙ is in
        let same : at.0 ≡ g = cc in
        let acting : IsActing may M a start w bus at.0 F (without_outputs F) histories = at.2 in
        subst (λ (x : GateValue). length x.words ≡ length w.mission.outputs) same
        (ap (λ (x : GateValue). length x.words) acting.gate_is ∙ words_count M.rules.version a.steps a.start F w.done
        ∙ acting.sizes
        ∙ ap (λ (m : MissionValue). length m.outputs) (sym acting.between.mission))

    pub driven_mission : (o : Option ActuatorValue) → IsDriven o may M start w bus gate F histories → w.mission ≡ M
    driven_mission None at = at.0.mission
    driven_mission (Some a) at = at.2.between.mission

    pub driven_cycles : (o : Option ActuatorValue) → IsDriven o may M start w bus gate F histories →
        w.done ≤ w.mission.cycles
    driven_cycles None at = at.0.stands.cycles
    driven_cycles (Some a) at = at.2.between.stands.cycles

    pub driven_log : (o : Option ActuatorValue) → IsDriven o may M start w bus gate F histories →
        HasCarried may M start bus F
    driven_log None at = at.0.ran
    driven_log (Some a) at = at.2.between.ran

    pub driven_may_cycle : (o : Option ActuatorValue) → IsDriven o may M start w bus gate F histories →
        w.done < w.mission.cycles → MayCycle w bus
    driven_may_cycle None at below = may_cycle may start bus w F F histories M at.0 below
    driven_may_cycle (Some a) at below = may_cycle may start bus w F (without_outputs F) histories M at.2.between below

    pub driven_ran : (o : Option ActuatorValue) → IsDriven o may M start w bus gate F histories →
        CyclesRan o M w.done F histories
    driven_ran None at = ran_cycles may start bus w F F histories M at.0
    driven_ran (Some a) at =
        let ran = ran_cycles may start bus w F (without_outputs F) histories M at.2.between in
        record {
          within = ran.within;
          beside = ran.beside;
          acted = at.2.acted;
          unstopped = at.2.unstopped;
          sound = ran.sound;
          ideal = at.2.ideal;
        }

    pub driven_short : (o : Option ActuatorValue) → IsDriven o may M start w bus gate F histories →
        RunBroken o M w.done F histories
    driven_short None at = ran_short may start bus w F F histories M at.0
    driven_short (Some a) at =
        let ran = ran_cycles may start bus w F (without_outputs F) histories M at.2.between in
        record {
          within = ran.within;
          beside = ran.beside;
          before = F;
          now = [];
          outs = [];
          entries = sym (append-nil F);
          acted = at.2.acted;
          due_now = tt;
          due_outs = tt;
          behind = λ some. absurd (omega (arith, some));
          passed = λ some. absurd (omega (arith, some));
          left = λ some. absurd (omega (arith, some));
          up_to_stop = λ slot stops. omega arith;
          unstopped = at.2.unstopped;
          sound = ran.sound;
          ideal = at.2.ideal;
        }

    -- ---- a cycle that halted

    module _ (new : WorldValue) (after : BusValue) (below : w.done < w.mission.cycles) where
      module _ (at : IsBetween may M start w bus F F histories) where
        plain_halted : (h : HaltValue) → PassesCycle may w.spent w bus (Err h) new after →
            CarriesUpToStop w bus (Err h) after → Drives None may M start w F histories (Err h) new after gate
        plain_halted (disturbed stop) cycled no_further =
            let (now, ran, stopped, same) =
            passes_on may start bus w F F histories M (Err (disturbed stop)) new after at below cycled no_further in (
              F ++ now,
              ran,
              stopped,
              stop_breaks_off M w.done stop (F ++ now) histories stopped,
              λ trace. ap (cycle_parts trace M histories) same,
            )
        plain_halted no_memory cycled no_further =
            let (now, ran, broken, same) =
            passes_on may start bus w F F histories M (Err no_memory) new after at below cycled no_further in
            (F ++ now, ran, broken, λ trace. ap (cycle_parts trace M histories) same)

      module _ (a : ActuatorValue) (g : GateValue)
          (at : IsActing may M a start w bus g F (without_outputs F) histories) where
        abbrev K : Log
        K = without_outputs F

        -- the parts of the earlier cycles stay
        told_stay : (now : Log) → cycles_before M (K ++ now) w.done ≡ cycles_before M K w.done →
            HasRunPart M w.done (K ++ now) histories → (L : Log) → L ≡ K ++ now → (trace : Bool) →
            acted_parts trace M a (F ++ now) histories (cycles_before M L w.done)
            ≡ acted_parts trace M a F histories (cycles_before M K w.done)
        told_stay now same r L is trace =
            ap (λ (X : Log). acted_parts trace M a (F ++ now) histories (cycles_before M X w.done)) is
            ∙ ap (λ (past : Past). acted_parts trace M a (F ++ now) histories past) same
            ∙ parts_stay trace M a F now histories (cycles_before M K w.done)
            (rw (length-cycles_before M K w.done) (nine.later may M a start bus w g F K histories at now same r))

        acted_halted : (h : HaltValue) → PassesCycle may w.spent w bus (Err h) new after →
            CarriesUpToStop w bus (Err h) after → Drives (Some a) may M start w F histories (Err h) new after gate
        acted_halted (disturbed stop) cycled no_further =
            let (now, ran, stopped, same) =
            passes_on may start bus w F K histories M (Err (disturbed stop)) new after at.between below cycled
            no_further in
            let r : HasRunPart M w.done (K ++ now) histories =
            stop_breaks_off M w.done stop (K ++ now) histories stopped in
            let apart : K ++ now ≡ without_outputs (F ++ now) =
            sym (nine.apart may M a start bus w g F K histories at now same r) in (
              F ++ now,
              ran,
              subst (λ L. ActedToStop M a w.done stop (F ++ now) L histories) apart
                  (nine.stopped may M a start bus w g F K histories at now same stop stopped),
              subst (λ L. ActedPart M a w.done (F ++ now) L histories) apart
                  (nine.broken_off may M a start bus w g F K histories at now same r),
              told_stay now same r (without_outputs (F ++ now)) (sym apart),
            )
        acted_halted no_memory cycled no_further =
            let (now, ran, r, same) =
            passes_on may start bus w F K histories M (Err no_memory) new after at.between below cycled
            no_further in
            let apart : K ++ now ≡ without_outputs (F ++ now) =
            sym (nine.apart may M a start bus w g F K histories at now same r) in (
              F ++ now,
              ran,
              subst (λ L. ActedPart M a w.done (F ++ now) L histories) apart
                  (nine.broken_off may M a start bus w g F K histories at now same r),
              told_stay now same r (without_outputs (F ++ now)) (sym apart),
            )

      pub drives_halted : (o : Option ActuatorValue) → IsDriven o may M start w bus gate F histories → (h : HaltValue) →
          PassesCycle may w.spent w bus (Err h) new after → CarriesUpToStop w bus (Err h) after →
          Drives o may M start w F histories (Err h) new after gate
      drives_halted None at h cycled no_further = plain_halted at.0 h cycled no_further
      drives_halted (Some a) at h cycled no_further = acted_halted a at.0 at.2 h cycled no_further

    -- ---- a cycle that finished, and its exchange

    module _ (new : WorldValue) (mid : BusValue) (below : w.done < w.mission.cycles) (part : RecordValue)
        (cycled : PassesCycle may w.spent w bus (Ok part) new mid) where
      module _ (at : IsBetween may M start w bus F F histories) where
        p : PassesOn may M start w F F histories (Ok part) new mid
        p = passes_on may start bus w F F histories M (Ok part) new mid at below cycled (λ unspent none. absurd cc)

        plain_finished : Drives None may M start w F histories (Ok part) new mid None
        plain_finished = (
          F ++ p.0,
          p.1 ∷ histories,
          (p.2, refl),
          p.3,
          λ trace. ap (λ (parts : List Part). drop 1 parts)
              (whole_parts_more trace M histories p.1 F (F ++ p.0) w.done p.6)
              ∙ ap (λ (r : RecordValue). cycle_parts trace M histories (cycles_before M F w.done) ++ cycle_part trace r
              ∷ []) (sym p.7),
        )

      module _ (a : ActuatorValue) (g : GateValue)
          (at : IsActing may M a start w bus g F (without_outputs F) histories) where
        abbrev facts : Log
        facts = without_outputs F

        q : PassesOn may M start w F facts histories (Ok part) new mid
        q = passes_on may start bus w F facts histories M (Ok part) new mid at.between below cycled
            (λ unspent none. absurd cc)

        abbrev now : Log
        now = q.0

        abbrev past : Past
        past = cycles_before M (facts ++ now) w.done

        abbrev e : Cycle
        e = cycle_at M (facts ++ now) w.done

        size : length past ≡ w.done
        size = length-cycles_before M (facts ++ now) w.done

        next : IsBetween may M start new mid (F ++ now) (facts ++ now) (q.1 ∷ histories)
        next = q.2

        mission : IsMission M
        mission = subst IsMission next.mission next.stands.mission

        settled : new.settled ≡ Some (settled_of w.done e)
        settled =
            next.stands.settled ∙ ap (λ (m : MissionValue). settled_after (cycles_before m (facts ++ now) new.done))
            next.mission
            ∙ ap (λ n. settled_after (cycles_before M (facts ++ now) n)) q.3 ∙ ap (λ n. Some (settled_of n e)) size

        ran : HasRunCycles M (suc w.done) (facts ++ now) (q.1 ∷ histories)
        ran = subst (λ k. HasRunCycles M k (facts ++ now) (q.1 ∷ histories)) q.3
            (ran_cycles may start mid new (F ++ now) (facts ++ now) (q.1 ∷ histories) M next)

        count : length g.words ≡ length M.outputs
        count = ap (λ (x : GateValue). length x.words) at.gate_is ∙ words_count M.rules.version a.steps a.start F w.done
            ∙ at.sizes

        -- the cycle may be exchanged
        acted_may : (s : SettledValue) × (new.settled ≡ Some s) × MayExchange M.rules.version (length g.words) part s
        acted_may =
            let same : shown M.rules.channels M.width (length M.outputs) part ≡ cycle_record M q.1 (length past) e =
            q.7 ∙ ap (λ k. cycle_record M q.1 k e) (sym size) in
            let set : is_set e.active ≡ true =
            ap is_set (active-is M (facts ++ now) past) ∙ active_is_set M past mission in
            let may_be = may_exchange M q.1 past e part mission set ran.sound.cycles.0.agrees same in (
              settled_of w.done e,
              settled,
              subst (λ k. MayExchange M.rules.version (length g.words) part (settled_of k e)) size
                  (subst (λ k. MayExchange M.rules.version k part (settled_of (length past) e)) (sym count) may_be),
            )

        earlier_parts : (trace : Bool) (G outs : Log) → G ≡ (F ++ now) ++ outs → AreFrom w.done (now ++ outs) →
            acted_parts trace M a G histories past ≡ acted_parts trace M a F histories (cycles_before M facts w.done)
        earlier_parts trace G outs is fresh =
            ap (λ (X : Log). acted_parts trace M a X histories past) (is ∙ append_assoc F now outs)
            ∙ ap (λ (P : Past). acted_parts trace M a (F ++ (now ++ outs)) histories P) q.6
            ∙ parts_stay trace M a F (now ++ outs) histories (cycles_before M facts w.done)
            (rw (length-cycles_before M facts w.done) fresh)

        -- the parts of the earlier cycles stay where the exchange ended the run
        parts_kept : (trace : Bool) (G outs : Log) → G ≡ (F ++ now) ++ outs → without_outputs G ≡ facts ++ now →
            AreFrom w.done (now ++ outs) →
            acted_parts trace M a G histories (cycles_before M (without_outputs G) w.done)
            ≡ acted_parts trace M a F histories (cycles_before M facts w.done)
        parts_kept trace G outs is apart fresh =
            ap (λ (L : Log). acted_parts trace M a G histories (cycles_before M L w.done)) apart
            ∙ earlier_parts trace G outs is fresh

        -- the cycle and its words are told behind them
        parts_grew : (trace : Bool) (G outs : Log) (words : List ℤ) → G ≡ (F ++ now) ++ outs →
            without_outputs G ≡ facts ++ now → AreFrom w.done (now ++ outs) → words_after M a G (suc w.done) ≡ words →
            acted_parts trace M a G (q.1 ∷ histories) (cycles_before M (without_outputs G) (suc w.done))
            ≡ acted_parts trace M a F histories (cycles_before M facts w.done)
            ++ (cycle_part trace (shown M.rules.channels M.width (length M.outputs) part) ++ out_line words ∷ [])
            ∷ []
        parts_grew trace G outs words is apart fresh these =
            let earlier = acted_parts trace M a F histories (cycles_before M facts w.done) in
            let record_is : shown M.rules.channels M.width (length M.outputs) part ≡ cycle_record M q.1 w.done e =
            q.7 in
            ap (λ (L : Log). acted_parts trace M a G (q.1 ∷ histories) (cycles_before M L (suc w.done))) apart
            ∙ parts_more trace M a G (facts ++ now) q.1 histories w.done
            ∙ ap (λ (parts : List Part). parts
            ++ (cycle_part trace (cycle_record M q.1 w.done e) ++ out_line (words_after M a G (suc w.done)) ∷ [])
            ∷ []) (earlier_parts trace G outs is fresh)
            ∙ ap (λ (r : RecordValue). earlier ++ (cycle_part trace r ++ out_line (words_after M a G (suc w.done)) ∷ [])
            ∷ []) (sym record_is)
            ∙ ap (λ (ws : List ℤ). earlier
            ++ (cycle_part trace (shown M.rules.channels M.width (length M.outputs) part) ++ out_line ws ∷ []) ∷ [])
            these

        module _ (after : BusValue) (gate_after : GateValue) (script : after.script ≡ mid.script) where
          acted_moved : Moves may mid.script M.rules.version part (settled_of w.done e) mid.log after.log g gate_after →
              Drives (Some a) may M start w F histories (Ok part) new after (Some gate_after)
          acted_moved moves =
              let apart = acting.apart may M a start bus mid after w new g gate_after F facts histories part at now q.1
              next q.3 q.4 q.5 q.6 q.7 part.lines moves.now moves.sent script in
              let fresh = acting.fresh may M a start bus mid after w new g gate_after F facts histories part at now q.1
              next q.3 q.4 q.5 q.6 q.7 part.lines moves.now moves.sent script in
              let driven = acting.goes_on may M a start bus mid after w new g gate_after F facts histories part at now
              q.1 next q.3 q.4 q.5 q.6 q.7 part.lines moves.now moves.sent script refl moves refl in
              let G : Log = (F ++ now) ++ moves.now in
              let words : words_after M a G (suc w.done) ≡ gate_after.words =
              ap (words_after M a G) (sym q.3) ∙ sym (ap (λ (x : GateValue). x.words) driven.gate_is) in (
                G,
                q.1 ∷ histories,
                (
                  gate_after,
                  refl,
                  subst (λ L. IsActing may M a start new after gate_after G L (q.1 ∷ histories))
                      (sym apart) driven,
                ),
                q.3,
                λ trace. parts_grew trace G moves.now gate_after.words refl apart fresh words,
              )

          acted_stopped : (set : ChannelSet) →
              Stays may mid.script M.rules.version part (settled_of w.done e) mid.log after.log g gate_after set →
              Drives (Some a) may M start w F histories
              (Err (disturbed (record { cycle = part.cycle; slot = Output; set = set; active = part.active }))) new
              after (Some gate_after)
          acted_stopped set stays =
              let apart = acting.apart may M a start bus mid after w new g gate_after F facts histories part at now q.1
              next q.3 q.4 q.5 q.6 q.7 part.lines stays.now stays.sent script in
              let fresh = acting.fresh may M a start bus mid after w new g gate_after F facts histories part at now q.1
              next q.3 q.4 q.5 q.6 q.7 part.lines stays.now stays.sent script in
              let grew = acting.grew may M a start bus mid after w new g gate_after F facts histories part at now q.1
              next q.3 q.4 q.5 q.6 q.7 part.lines stays.now stays.sent script in
              let stopped = acting.stopped_here may M a start bus mid after w new g gate_after F facts histories part at
              now q.1 next q.3 q.4 q.5 q.6 q.7 part.lines stays.now stays.sent script refl set stays.set_is
              stays.many in
              let broken = acting.broken_here may M a start bus mid after w new g gate_after F facts histories part at
              now q.1 next q.3 q.4 q.5 q.6 q.7 part.lines stays.now stays.sent script (length part.lines)
              (sym (take_all part.lines)) in
              let G : Log = (F ++ now) ++ stays.now in (
                G,
                grew,
                subst (λ L. ActedToStop M a w.done
                    (record { cycle = part.cycle; slot = Output; set = set; active = part.active }) G L histories)
                    (sym apart) stopped,
                subst (λ L. ActedPart M a w.done G L histories) (sym apart) broken,
                λ trace. parts_kept trace G stays.now refl apart fresh,
              )

          acted_broken : BreaksOff may mid.script M.rules.version part (settled_of w.done e) mid.log after.log g
              gate_after →
              Drives (Some a) may M start w F histories (Err no_memory) new after (Some gate_after)
          acted_broken breaks =
              let few = breaks.few.few in
              let outs = breaks.few.now in
              let apart = acting.apart may M a start bus mid after w new g gate_after F facts histories part at now q.1
              next q.3 q.4 q.5 q.6 q.7 (take few part.lines) outs breaks.few.sent script in
              let fresh = acting.fresh may M a start bus mid after w new g gate_after F facts histories part at now q.1
              next q.3 q.4 q.5 q.6 q.7 (take few part.lines) outs breaks.few.sent script in
              let grew = acting.grew may M a start bus mid after w new g gate_after F facts histories part at now q.1
              next q.3 q.4 q.5 q.6 q.7 (take few part.lines) outs breaks.few.sent script in
              let broken = acting.broken_here may M a start bus mid after w new g gate_after F facts histories part at
              now q.1 next q.3 q.4 q.5 q.6 q.7 (take few part.lines) outs breaks.few.sent script few refl in
              let G : Log = (F ++ now) ++ outs in (
                G,
                grew,
                subst (λ L. ActedPart M a w.done G L histories) (sym apart) broken,
                λ trace. parts_kept trace G outs refl apart fresh,
              )

          acted_ends : (r : Result (Unit {0}) OutStop) →
              Exchanges may mid.script M.rules.version part (settled_of w.done e) mid.log after.log g gate_after r →
              Drives (Some a) may M start w F histories (with_part part (exchange_end part r)) new after
              (Some gate_after)
          acted_ends (Ok _) moves = acted_moved moves
          acted_ends (Err (out.Disturbed set)) stays = acted_stopped set stays
          acted_ends (Err out.NoMemory) breaks = acted_broken breaks

        acted_finished : (after : BusValue) (gate_after : Option GateValue) (r : Result (Unit {0}) HaltValue) →
            Exchanged may M.rules.version part new.settled mid after (Some g) gate_after r →
            Drives (Some a) may M start w F histories (with_part part r) new after gate_after
        acted_finished after gate_after r (s, is, g', gate_is, script, end, exchanged, ends) =
            let these : Some s ≡ Some (settled_of w.done e) = sym is ∙ settled in
            let same : s ≡ settled_of w.done e = cc in
            let done = acted_ends after g' script end
            (subst (λ x. Exchanges may mid.script M.rules.version part x mid.log after.log g g' end) same
            exchanged) in
            subst (λ x. Drives (Some a) may M start w F histories (with_part part r) new after x) (sym gate_is)
            (subst (λ x. Drives (Some a) may M start w F histories (with_part part x) new after (Some g')) (sym ends)
            done)

      -- the mission stays
      pub driven_finished_mission : (o : Option ActuatorValue) → IsDriven o may M start w bus gate F histories →
          new.mission ≡ M
      driven_finished_mission None at = (p at.0).2.mission
      driven_finished_mission (Some a) at = (q a at.0 at.2).2.mission

      -- the exchange of a cycle of a run may be made
      pub driven_may : (o : Option ActuatorValue) → IsDriven o may M start w bus gate F histories → (g : GateValue) →
          gate ≡ Some g →
          (s : SettledValue) × (new.settled ≡ Some s) × MayExchange M.rules.version (length g.words) part s
      driven_may None at g is = absurd cc
      driven_may (Some a) at g is =
          let these : Some at.0 ≡ Some g = sym at.1 ∙ is in
          let same : at.0 ≡ g = cc in
          acted_may a g (subst (λ x. IsActing may M a start w bus x F (without_outputs F) histories) same at.2)

      pub drives_finished : (o : Option ActuatorValue) → IsDriven o may M start w bus gate F histories →
          (after : BusValue) (gate_after : Option GateValue) (r : Result (Unit {0}) HaltValue) →
          Exchanged may M.rules.version part new.settled mid after gate gate_after r →
          Drives o may M start w F histories (with_part part r) new after gate_after
      drives_finished None at after gate_after r exchanged =
          let (no_gate, same, ends) =
          subst (λ x. Exchanged may M.rules.version part new.settled mid after x gate_after r) at.1 exchanged in
          subst (λ x. Drives None may M start w F histories (with_part part r) new after x) (sym no_gate)
          (subst (λ x. Drives None may M start w F histories (with_part part r) new x None) (sym same)
          (subst (λ x. Drives None may M start w F histories (with_part part x) new mid None) (sym ends)
          (plain_finished at.0)))
      drives_finished (Some a) at after gate_after r exchanged =
          acted_finished a at.0 at.2 after gate_after r
          (subst (λ x. Exchanged may M.rules.version part new.settled mid after x gate_after r) at.1 exchanged)
