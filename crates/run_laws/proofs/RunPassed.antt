-- What a cycle of the world does to the run.
use Rattle.std.proofs.Common.{◌≡◌, ◌≤◌, ◌<◌, ◌-◌, ℕ, suc, Bool, true, false, cond, List, [], ◌∷◌, ◌++◌, length, map, None, Result, Ok, Err, refl, sym, ap, subst, ◌∙◌, append_assoc, arith}
use Rattle.std.specs.Prelude.{take, drop, flat_map, if◌then◌else◌}
use Rattle.std.specs.List.{AllZip, AllByRecursion, list_all}
use Rattle.std.proofs.lemmas.List.{append-nil, length-append}
use Rattle.std.proofs.lemmas.List.Elements.{filter-append}
use Rattle.std.proofs.Math.Seq.{drop-append_seam}
use Rattle.guards_model.specs.declared.Slot.TheVariants.{Tasks}
use Rattle.guards_model.specs.declared.Slot.{Slot}
use Rattle.guards_model.specs.Slots.{slot_index, on_bus, every_slot}
use Rattle.guards_model.specs.Channels.{Channel, channels_where, without}
use Rattle.guards_model.proofs.BoolTests.{both, and_true}
use Rattle.guards_model.proofs.ListTests.{all-append}
use Rattle.guards_model.specs.Missions.{MissionValue, IsMission, bus_rules}
use Rattle.guards_model.specs.BusRules.{RuleValue}
use Rattle.guards_model.specs.Network.{EntryValue, Log, without_outputs, BusValue}
use Rattle.guards_model.specs.Rounds.{Steps, Histories, steps_of}
use Rattle.guards_model.specs.Texts.{RecordValue, StopValue}
use Rattle.guards_runs.specs.Cycles.{Cycle, Past, next_cycle, cycles_before, cycle_at}
use Rattle.guards_runs.specs.Disturbed.{stop_in, stop_of}
use Rattle.guards_runs.specs.Due.{Carry, IsDue, IsMadeBy, AreMadeBy, carries_frames, is_sender, receivers, slot_carries, cycle_carries, carries_through}
use Rattle.guards_runs.specs.Report.{cycle_record}
use Rattle.guards_laws.proofs.LogGrows.{cycles_before-append}
use Rattle.guards_laws.proofs.Agreement.{whole_run}
use Rattle.guards_laws.proofs.RunIsSound.{main_theorem}
use Rattle.guards_world.specs.Worlds.{WorldValue, HaltValue, disturbed, no_memory, StandsForWorld, last_entries, first_world}
use Rattle.guards_world.specs.WorldCycle.{Carries, AreFull, PassesCycle, Ends, Finishes, Stops, CycleRunsOutOfMemory, MayCycle}
use Rattle.world_laws.proofs.LogStands.{first_stands}
use Rattle.world_laws.specs.Fronts.{IsUpToStop, CarriesUpToStop}
use Rattle.run_laws.specs.Runs.{AreDueBy, HasCarried, HasRunCycles, HasRunPart, IsBetween, PassesOn}
use Rattle.run_laws.proofs.RunContinues.{all_append, each_due, due_by, from_few, from_through, due_stays, made_of_cycle, ran_part, ran_to_stop}

-- ---- entries of the nine slots

made_on_bus : (M : MissionValue) (steps : Steps) (past : Past) (e : Cycle) (carries : List Carry) (now : Log) →
    AllZip (λ carry entry. IsMadeBy M past e (steps_of steps carry.from) carry entry) carries now →
    list_all (λ (k : Carry). on_bus k.slot) carries ≡ true → without_outputs now ≡ now
made_on_bus M steps past e [] [] made on = refl
made_on_bus M steps past e [] (y ∷ now) made on = absurd made
made_on_bus M steps past e (k ∷ carries) [] made on = absurd made
made_on_bus M steps past e (k ∷ carries) (y ∷ now) made on =
    let parts = both (on_bus k.slot) (list_all (λ (k : Carry). on_bus k.slot) carries) on in
    ap (λ b. cond b (y ∷ without_outputs now) (without_outputs now)) (ap on_bus made.0.slot ∙ parts.0)
    ∙ ap (λ ys. y ∷ ys) (made_on_bus M steps past e carries now made.1 parts.1)

pub all_on_bus : (c : ℕ) (e : Cycle) → list_all (λ (k : Carry). on_bus k.slot) (cycle_carries c e) ≡ true
all_on_bus c e = through every_slot refl
  where
    on_map : (slot : Slot) (q : Channel) (tos : List ℕ) → on_bus slot ≡ true →
        list_all (λ (k : Carry). on_bus k.slot) (map (λ to. record { cycle = c; slot = slot; from = q; to = to }) tos)
        ≡ true
    on_map slot q [] on = refl
    on_map slot q (t ∷ tos) on =
        and_true (on_bus slot) (list_all (λ (k : Carry). on_bus k.slot)
        (map (λ to. record { cycle = c; slot = slot; from = q; to = to }) tos)) on (on_map slot q tos on)

    on_flat : {A : Type 0} (f : A → List Carry) → ((x : A) → list_all (λ (k : Carry). on_bus k.slot) (f x) ≡ true) →
        (xs : List A) → list_all (λ (k : Carry). on_bus k.slot) (flat_map f xs) ≡ true
    on_flat f each [] = refl
    on_flat f each (x ∷ xs) =
        all-append (λ (k : Carry). on_bus k.slot) (f x) (flat_map f xs) (each x) (on_flat f each xs)

    on_if : (b : Bool) (ks : List Carry) → list_all (λ (k : Carry). on_bus k.slot) ks ≡ true →
        list_all (λ (k : Carry). on_bus k.slot) (if b then ks else []) ≡ true
    on_if true ks h = h
    on_if false ks h = refl

    on_slot : (slot : Slot) → on_bus slot ≡ true →
        list_all (λ (k : Carry). on_bus k.slot) (slot_carries c e slot) ≡ true
    on_slot slot on =
        on_if (carries_frames e slot)
        (flat_map (λ q. map (λ to. record { cycle = c; slot = slot; from = q; to = to })
        (without (receivers e slot) (q ∷ []))) (channels_where (is_sender e slot)))
        (on_flat (λ q. map (λ to. record { cycle = c; slot = slot; from = q; to = to })
        (without (receivers e slot) (q ∷ []))) (λ q. on_map slot q (without (receivers e slot) (q ∷ [])) on)
        (channels_where (is_sender e slot)))

    through : (slots : List Slot) → list_all on_bus slots ≡ true →
        list_all (λ (k : Carry). on_bus k.slot) (flat_map (slot_carries c e) slots) ≡ true
    through [] on = refl
    through (s ∷ slots) on =
        let parts = both (on_bus s) (list_all on_bus slots) on in
        all-append (λ (k : Carry). on_bus k.slot) (slot_carries c e s) (flat_map (slot_carries c e) slots)
        (on_slot s parts.0) (through slots parts.1)

module _ (may : List RuleValue → EntryValue → Type 0) where
  -- output entries leave what stands for the world
  pub outputs_leave : (M : MissionValue) (start : BusValue) (w : WorldValue) (bus after : BusValue)
      (F earlier outs : Log) (histories : Histories) → IsBetween may M start w bus F earlier histories →
      Carries may bus after outs →
      without_outputs outs ≡ [] → IsBetween may M start w after (F ++ outs) earlier histories
  outputs_leave M start w bus after F earlier outs histories at carries none =
      record {
        mission = at.mission;
        unspent = at.unspent;
        ran = record {
          log = carries.log ∙ ap (λ log. log ++ outs) at.ran.log ∙ append_assoc start.log F outs;
          script = carries.script ∙ at.ran.script;
          each = all_append (may (bus_rules M)) F outs at.ran.each
              (subst (λ rules. AllByRecursion (may rules) outs) at.ran.script carries.each);
        };
        apart = filter-append (λ (e : EntryValue). on_bus e.slot) F outs
            ∙ ap (λ xs. xs ++ without_outputs outs) at.apart ∙ ap (λ xs. earlier ++ xs) none ∙ append-nil earlier;
        stands = at.stands;
        beside = at.beside;
        due = at.due;
      }

  -- a world that has just started, when the bus has the rules
  pub begins : (M : MissionValue) (bus : BusValue) → IsMission M → bus.script ≡ bus_rules M →
      IsBetween may M bus (first_world M) bus [] [] []
  begins M bus mission script =
      record {
        mission = refl;
        unspent = refl;
        ran = record { log = sym (append-nil bus.log); script = script; each = tt };
        apart = refl;
        stands = first_stands M mission;
        beside = refl;
        due = refl;
      }

  module _ (start bus : BusValue) (w : WorldValue) (F earlier : Log) (histories : Histories) where
    -- the entries of the run are the last ones of the log
    last_of_run : (M : MissionValue) → IsBetween may M start w bus F earlier histories →
        last_entries w.carried bus.log ≡ earlier
    last_of_run M at =
        let before : Log = without_outputs start.log in
        let apart : without_outputs bus.log ≡ before ++ earlier =
        ap without_outputs at.ran.log ∙ filter-append (λ (e : EntryValue). on_bus e.slot) start.log F
        ∙ ap (λ xs. before ++ xs) at.apart in
        let count : length (before ++ earlier) - w.carried ≡ length before =
        omega (arith, length-append before earlier, at.stands.count) in
        ap (λ (xs : Log). drop (length xs - w.carried) xs) apart ∙ ap (λ k. drop k (before ++ earlier)) count
        ∙ drop-append_seam before earlier

    pub may_cycle : (M : MissionValue) → IsBetween may M start w bus F earlier histories → w.done < w.mission.cycles →
        MayCycle w bus
    may_cycle M at below =
        record {
          below = below;
          stands = λ unspent. subst (StandsForWorld w) (sym (last_of_run M at)) at.stands;
        }

    -- the cycles so far ran
    pub ran_cycles : (M : MissionValue) → IsBetween may M start w bus F earlier histories →
        HasRunCycles M w.done earlier histories
    ran_cycles M at = by M at.mission at
      where
        by : (K : MissionValue) → w.mission ≡ K → IsBetween may K start w bus F earlier histories →
            HasRunCycles K w.done earlier histories
        by K same at =
            let stands = at.stands in
            let unstopped : stop_of (cycles_before K earlier w.done) ≡ None =
            subst (λ k. stop_of (cycles_before k earlier w.done) ≡ None) same stands.unstopped in
            let mission : IsMission K = subst IsMission same stands.mission in
            let within : w.done ≤ K.cycles = subst (λ (k : MissionValue). w.done ≤ k.cycles) same stands.cycles in
            record {
              within = within;
              beside = at.beside;
              due = at.due;
              unstopped = unstopped;
              sound = main_theorem K earlier w.done mission within
                  (whole_run K earlier w.done
                  (record {
                    due = due_by K histories (cycles_before K earlier w.done) earlier at.due;
                    unstopped = unstopped;
                  }));
            }

    pub ran_short : (M : MissionValue) → IsBetween may M start w bus F earlier histories →
        HasRunPart M w.done earlier histories
    ran_short M at =
        let ran = ran_cycles M at in
        record {
          within = ran.within;
          beside = ran.beside;
          before = earlier;
          now = [];
          entries = sym (append-nil earlier);
          due = ran.due;
          due_now = tt;
          left = λ some. absurd (omega (arith, some));
          up_to_stop = λ slot stops. omega arith;
          unstopped = ran.unstopped;
          sound = ran.sound;
        }

    -- the log grows
    ran_more : (M : MissionValue) (after : BusValue) (current : Log) → HasCarried may M start bus F →
        Carries may bus after current → HasCarried may M start after (F ++ current)
    ran_more M after current ran carries =
        record {
          log = carries.log ∙ ap (λ log. log ++ current) ran.log ∙ append_assoc start.log F current;
          script = carries.script ∙ ran.script;
          each = all_append (may (bus_rules M)) F current ran.each
              (subst (λ rules. AllByRecursion (may rules) current) ran.script carries.each);
        }

    module _ (new : WorldValue) (after : BusValue) (current : Log)
        (at : IsBetween may w.mission start w bus F earlier histories) (carries : Carries may bus after current) where
      goes_on : (part : RecordValue) (e : Cycle) (past : Past) → Finishes w earlier current part new e past →
          PassesOn may w.mission start w F earlier histories (Ok part) new after
      goes_on part e past f =
          let M = w.mission in
          let these : Cycle = cycle_at M (earlier ++ current) w.done in
          let before : Past = cycles_before M (earlier ++ current) w.done in
          let same : e ≡ these = f.facts ∙ ap (next_cycle M (earlier ++ current)) f.past_is in
          let made : AreMadeBy M f.steps before these current =
          subst (λ x. AreMadeBy M f.steps before x current) same
          (subst (λ p. AreMadeBy M f.steps p e current) f.past_is f.due) in
          let full : AreFull M before these f.steps =
          subst (λ x. AreFull M before x f.steps) same (subst (λ p. AreFull M p e f.steps) f.past_is f.full) in
          let from = made_of_cycle M earlier current w.done histories f.steps made in
          let due : AreDueBy M (f.steps ∷ histories) (cycles_before M (earlier ++ current) (suc w.done))
          (earlier ++ current) = (
            earlier,
            current,
            refl,
            due_stays M earlier current w.done histories from at.due,
            made,
            full,
          ) in
          let between : IsBetween may M start new after (F ++ current) (earlier ++ current) (f.steps ∷ histories) =
          record {
            mission = f.mission;
            unspent = f.spent;
            ran = ran_more M after current at.ran carries;
            apart = filter-append (λ (e : EntryValue). on_bus e.slot) F current
                ∙ ap (λ xs. xs ++ without_outputs current) at.apart
                ∙ ap (λ xs. earlier ++ xs)
                (made_on_bus M f.steps before these (cycle_carries (length before) these) current made
                (all_on_bus (length before) these));
            stands = f.stands;
            beside = ap suc at.beside ∙ sym f.done;
            due = subst (λ n. AreDueBy M (f.steps ∷ histories) (cycles_before M (earlier ++ current) n)
                (earlier ++ current)) (sym f.done) due;
          } in (
            current,
            f.steps,
            between,
            f.done,
            made,
            full,
            cycles_before-append M earlier current w.done from,
            f.record_is ∙ ap (cycle_record M f.steps w.done) same,
          )

      stops_run : (stop : StopValue) (e : Cycle) (past : Past) → w.done < w.mission.cycles →
          Stops w earlier current stop new e past →
          PassesOn may w.mission start w F earlier histories (Err (disturbed stop)) new after
      stops_run stop e past below s =
          let M = w.mission in
          let these : Cycle = cycle_at M (earlier ++ current) w.done in
          let before : Past = cycles_before M (earlier ++ current) w.done in
          let same : e ≡ these = s.facts ∙ ap (next_cycle M (earlier ++ current)) s.past_is in
          let Made : Past → Cycle →
          Type 0 = λ p x. AllZip (λ carry entry. IsMadeBy M p x (steps_of s.steps carry.from) carry entry)
          (carries_through w.done x stop.slot) current in
          let made : Made before these = subst (Made before) same (subst (λ p. Made p e) s.past_is s.due) in
          let full : slot_index Tasks < slot_index stop.slot →
          AreFull M before these s.steps =
          λ later. subst (λ x. AreFull M before x s.steps) same
          (subst (λ p. AreFull M p e s.steps) s.past_is (s.full later)) in
          let from = from_through M before these w.done stop.slot current
          (each_due M before these s.steps (carries_through w.done these stop.slot) current made) in (
            current,
            ran_more M after current at.ran carries,
            ran_to_stop M earlier current w.done histories stop s.steps at.beside at.stands.mission below at.due
                at.stands.unstopped made full (ap (stop_in w.done) (sym same) ∙ s.stop_is),
            cycles_before-append M earlier current w.done from,
          )

      runs_out : (e : Cycle) (past : Past) → w.done < w.mission.cycles → IsUpToStop w.mission earlier current w.done →
          CycleRunsOutOfMemory w earlier current new e past →
          PassesOn may w.mission start w F earlier histories (Err no_memory) new after
      runs_out e past below up_to_stop r =
          let M = w.mission in
          let these : Cycle = cycle_at M (earlier ++ current) w.done in
          let before : Past = cycles_before M (earlier ++ current) w.done in
          let same : e ≡ these = r.facts ∙ ap (next_cycle M (earlier ++ current)) r.past_is in
          let Due : Past → Cycle → Type 0 =
          λ p x. AllZip (IsDue M p x) (take (length current) (cycle_carries w.done x)) current in
          let due : Due before these = subst (Due before) same (subst (λ p. Due p e) r.past_is r.due) in
          let from = from_few M before these w.done (length current) current due in (
            current,
            ran_more M after current at.ran carries,
            ran_part M earlier current w.done histories at.beside at.stands.mission at.stands.cycles (λ some. below)
                at.due at.stands.unstopped due up_to_stop,
            cycles_before-append M earlier current w.done from,
          )

      ends : (result : Result RecordValue HaltValue) → w.done < w.mission.cycles →
          (result ≡ Err no_memory → IsUpToStop w.mission earlier current w.done) → Ends w earlier current result new →
          PassesOn may w.mission start w F earlier histories result new after
      ends (Ok part) below up_to_stop (e, past, f) = goes_on part e past f
      ends (Err (disturbed stop)) below up_to_stop (e, past, s) = stops_run stop e past below s
      ends (Err no_memory) below up_to_stop (e, past, r) = runs_out e past below (up_to_stop refl) r

    pub passes_on : (M : MissionValue) (result : Result RecordValue HaltValue) (new : WorldValue) (after : BusValue) →
        IsBetween may M start w bus F earlier histories → w.done < w.mission.cycles →
        PassesCycle may w.spent w bus result new after → CarriesUpToStop w bus result after →
        PassesOn may M start w F earlier histories result new after
    passes_on M result new after at below cycled no_further =
        let own : IsBetween may w.mission start w bus F earlier histories =
        subst (λ k. IsBetween may k start w bus F earlier histories) (sym at.mission) at in
        let (current, carries, count, end) = subst (λ s. PassesCycle may s w bus result new after) at.unspent cycled in
        let end_of_run : Ends w earlier current result new =
        subst (λ K. Ends w K current result new) (last_of_run M at) end in
        let up_to_stop : result ≡ Err no_memory → IsUpToStop w.mission earlier current w.done =
        λ none. subst (λ K. IsUpToStop w.mission K current w.done) (last_of_run M at)
        (no_further at.unspent none current carries.log) in
        subst (λ k. PassesOn may k start w F earlier histories result new after) at.mission
        (ends new after current own carries result below up_to_stop end_of_run)
