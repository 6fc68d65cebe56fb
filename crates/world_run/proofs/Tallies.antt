-- What one more cycle does to what is kept of a run, and what its summary is.
use Rattle.std.proofs.Common.{◌≡◌, ◌≤◌, ◌<◌, ◌+◌, ℕ, suc, ℤ, List, [], ◌∷◌, ◌++◌, length, map, Option, None, Result, Ok, Err, refl, sym, ap, subst, ◌∙◌}
use Rattle.std.specs.Prelude.{nat_le, slice_get, unwrap_or, option_map}
use Rattle.std.proofs.lemmas.Bool.{leb-true}
use Rattle.std.specs.Io.KnownBytes.{Appends}
use Rattle.guards_model.specs.declared.Slot.TheVariants.{Switch}
use Rattle.guards_model.specs.BusRules.{RuleValue}
use Rattle.guards_model.specs.Channels.{ChannelSet, place_or}
use Rattle.guards_model.specs.Missions.{MissionValue, IsMission, bus_rules}
use Rattle.guards_model.specs.Network.{EntryValue, BusValue}
use Rattle.guards_model.specs.Records.{shown_line}
use Rattle.guards_model.specs.Texts.{LineValue, RecordValue, StopValue, part_text}
use Rattle.guards_model.specs.CheckTexts.{summary_part}
use Rattle.guards_model.proofs.BoolTests.{both}
use Rattle.guards_runs.specs.Cycles.{Cycle, cycles_before, cycle_at}
use Rattle.guards_runs.specs.Report.{line_of, channels_running_in}
use Rattle.guards_world.specs.Worlds.{WorldValue, disturbed, no_memory, first_world}
use Rattle.guards_world.specs.WorldCycle.{PassesCycle}
use Rattle.guards_io.specs.Writes.{AppendsPart, Puts, WritesLine}
use Rattle.guards_io.specs.Views.{SinkView}
use Rattle.guards_io.specs.declared.writing.WriteStop.{WriteStop}
use Rattle.guards_io.specs.declared.writing.WriteStop.TheVariants as write
use Rattle.icn_world.specs.declared.world.Halt.{Halt}
use Rattle.icn_world.specs.declared.world.Halt.TheVariants as halt
use Rattle.icn_world.specs.Halts.{halt_value}
use Rattle.world_laws.specs.Fronts.{CarriesUpToStop}
use Rattle.run_laws.specs.Runs.{HasRunCycles, HasRunToStop, HasRunPart}
use Rattle.run_laws.specs.Summaries.{joins_in, removals_in, summary}
use Rattle.run_laws.proofs.RunContinues.{stop_breaks_off, stop_cycle}
use Rattle.run_laws.proofs.RunPassed.{begins, passes_on, ran_cycles, ran_short}
use Rattle.world_run.specs.declared.stop.RunStop.{RunStop}
use Rattle.world_run.specs.declared.stop.RunStop.TheVariants.{Halted, WriteFault}
use Rattle.world_run.specs.declared.tally.Tally.{Tally}
use Rattle.world_run.specs.Running.{TellsHalt, stop_text, stop_value, run_told_by}
use Rattle.world_run.specs.Tallying.{IsTallyOf, IsTallied, Summarizes, SummarizesToStop, TalliesTo, first_votes, shown_votes, summary_of}
use Rattle.world_run.proofs.RunSteps.{stop_is}

-- the votes of the first line
votes_of_first : List LineValue → List (Option ℤ)
votes_of_first [] = []
votes_of_first (l ∷ lines) = l.votes

first_shown : (M : MissionValue) (e : Cycle) (lines : List LineValue) (ps : ChannelSet) →
    map (shown_line M.rules.channels M.width (length M.outputs)) lines ≡ map (line_of M e) ps →
    shown_votes (length M.outputs) (first_votes lines)
    ≡ unwrap_or (option_map (λ p. place_or e.voted p []) (slice_get ps 0)) []
unfolding votes_of_first
first_shown M e [] [] same = refl
first_shown M e [] (p ∷ ps) same = absurd cc
first_shown M e (l ∷ lines) [] same = absurd cc
first_shown M e (l ∷ lines) (p ∷ ps) same = ap votes_of_first same

pub few_cycles : (M : MissionValue) → IsMission M → M.cycles ≤ 2000
few_cycles M mission = leb-true M.cycles 2000 (both (nat_le 1 M.cycles) (nat_le M.cycles 2000) mission.cycles).1

module _ (may : List RuleValue → EntryValue → Type 0) (M : MissionValue) (start : BusValue) where
  -- no cycle ran, and nothing was kept
  pub first_tallied : (w : WorldValue) (t : Tally) → w ≡ first_world M → IsMission M → start.script ≡ bus_rules M →
      t.joins ≡ 0 → t.removals ≡ 0 → t.last ≡ None → IsTallied may M start w start t
  first_tallied w t fresh mission script joins removals last =
      subst (λ (x : WorldValue). IsTallied may M start x start t) (sym fresh) (
        [],
        [],
        begins may M start mission script,
        record { joins = joins; removals = removals; last = ap (shown_votes (length M.outputs)) last },
      )

  module _ (number : ℕ) (w new : WorldValue) (bus after : BusValue) (out out' : SinkView) (t t' : Tally)
      (at : IsTallied may M start w bus t) (below : w.done < w.mission.cycles) where
    pub tally_done : (part : RecordValue) → PassesCycle may w.spent w bus (Ok part) new after →
        t'.joins ≡ t.joins + length part.joined → t'.removals ≡ t.removals + length part.removed →
        t'.last ≡ first_votes part.lines → TalliesTo may number M start out (suc w.done) new after out t' (Ok tt)
    tally_done part cycled joins removals last =
        let (earlier, histories, between, tallied) = at in
        let (current, steps, next, done, made, full, same, told) =
        passes_on may start bus w earlier earlier histories M (Ok part) new after between below cycled
        (λ unspent none. absurd cc) in
        let K = earlier ++ current in
        let e = cycle_at M K w.done in
        let joined : part.joined ≡ e.joined = ap (λ (r : RecordValue). r.joined) told in
        let removed : part.removed ≡ e.removed = ap (λ (r : RecordValue). r.removed) told in
        let lines = first_shown M e part.lines (channels_running_in Switch e)
        (ap (λ (r : RecordValue). r.lines) told) in
        let kept : IsTallyOf M (e ∷ cycles_before M K w.done) t' =
        record {
          joins = joins ∙ ap (λ n. n + length part.joined) (tallied.joins ∙ ap joins_in (sym same))
              ∙ ap (λ (s : ChannelSet). joins_in (cycles_before M K w.done) + length s) joined;
          removals = removals ∙ ap (λ n. n + length part.removed) (tallied.removals ∙ ap removals_in (sym same))
              ∙ ap (λ (s : ChannelSet). removals_in (cycles_before M K w.done) + length s) removed;
          last = ap (shown_votes (length M.outputs)) last ∙ lines;
        } in
        ((K, steps ∷ histories, next, subst (λ n. IsTallyOf M (cycles_before M K n) t') (sym done) kept), done, refl)

    stops : (s : StopValue) → PassesCycle may w.spent w bus (Err (disturbed s)) new after →
        WritesLine out out' (stop_text s) → SummarizesToStop may number M s start after out out'
    stops s cycled line =
        let (earlier, histories, between, tallied) = at in
        let (current, ran, stopped, same) =
        passes_on may start bus w earlier earlier histories M (Err (disturbed s)) new after between below cycled
        (λ unspent none. absurd cc) in
        let at_cycle : s.cycle ≡ w.done =
        stop_cycle w.done (cycle_at M (earlier ++ current) w.done) s stopped.stopped in (
          earlier ++ current,
          histories,
          ran,
          subst (λ n. HasRunToStop M n s (earlier ++ current) histories) (sym at_cycle) stopped,
          subst (WritesLine out out') (stop_is s) line,
        )

    stops_short : (s : StopValue) → PassesCycle may w.spent w bus (Err (disturbed s)) new after → out' ≡ out →
        Summarizes may number M start after out out' (Err (Halted halt.NoMemory))
    stops_short s cycled kept =
        let (earlier, histories, between, tallied) = at in
        let (current, ran, stopped, same) =
        passes_on may start bus w earlier earlier histories M (Err (disturbed s)) new after between below cycled
        (λ unspent none. absurd cc) in (
          earlier ++ current,
          histories,
          w.done,
          ran,
          stop_breaks_off M w.done s (earlier ++ current) histories stopped,
          kept,
        )

    runs_out : PassesCycle may w.spent w bus (Err no_memory) new after → CarriesUpToStop w bus (Err no_memory) after →
        out' ≡ out → Summarizes may number M start after out out' (Err (Halted halt.NoMemory))
    runs_out cycled no_further kept =
        let (earlier, histories, between, tallied) = at in
        let (current, ran, part, same) =
        passes_on may start bus w earlier earlier histories M (Err no_memory) new after between below cycled
        no_further in
        (earlier ++ current, histories, w.done, ran, part, kept)

    pub tally_halted : (h : Halt) (stop : RunStop) → PassesCycle may w.spent w bus (Err (halt_value h)) new after →
        CarriesUpToStop w bus (Err (halt_value h)) after → TellsHalt h out out' stop →
        Summarizes may number M start after out out' (Err stop)
    tally_halted (halt.Disturbed cycle slot set active) (Halted (halt.Disturbed cycle' slot' set' active')) cycled
        no_further line =
        subst (λ s. SummarizesToStop may number M s start after out out') (sym line.0)
        (stops (stop_value cycle slot set active) cycled line.1)
    tally_halted (halt.Disturbed cycle slot set active) WriteFault cycled no_further line = absurd line
    tally_halted (halt.Disturbed cycle slot set active) (Halted halt.NoMemory) cycled no_further line =
        stops_short (stop_value cycle slot set active) cycled line
    tally_halted halt.NoMemory (Halted (halt.Disturbed cycle' slot' set' active')) cycled no_further line = absurd cc
    tally_halted halt.NoMemory WriteFault cycled no_further line = absurd cc
    tally_halted halt.NoMemory (Halted halt.NoMemory) cycled no_further line = runs_out cycled no_further line.1

  -- the summary of all cycles
  module _ (number : ℕ) (w : WorldValue) (bus : BusValue) (out out' : SinkView) (t : Tally)
      (at : IsTallied may M start w bus t) (all : w.done ≡ M.cycles) where
    ran_all : HasRunCycles M M.cycles at.0 at.1
    ran_all = subst (λ n. HasRunCycles M n at.0 at.1) all (ran_cycles may start bus w at.0 at.0 at.1 M at.2)

    text_is : summary_of number (length M.outputs) w.carried t ≡ summary number M at.0
    unfolding summary_of summary
    text_is =
        let tallied : IsTallyOf M (cycles_before M at.0 M.cycles) t =
        subst (λ n. IsTallyOf M (cycles_before M at.0 n) t) all at.3 in
        let cycles = cycles_before M at.0 M.cycles in
        ap (λ n. part_text (summary_part number n t.removals w.carried (shown_votes (length M.outputs) t.last)))
        tallied.joins
        ∙ ap (λ n. part_text (summary_part number (joins_in cycles) n w.carried
        (shown_votes (length M.outputs) t.last))) tallied.removals
        ∙ ap (λ n. part_text (summary_part number (joins_in cycles) (removals_in cycles) n
        (shown_votes (length M.outputs) t.last))) (sym at.2.stands.count)
        ∙ ap (λ (votes : List (Option ℤ)).
        part_text (summary_part number (joins_in cycles) (removals_in cycles) (length at.0) votes)) tallied.last

    pub summary_done : (r : Result (Unit {0}) WriteStop) →
        Puts out out' (summary_of number (length M.outputs) w.carried t) r →
        Summarizes may number M start bus out out' (run_told_by r)
    summary_done (Ok _) wrote =
        (at.0, at.1, at.2.ran, ran_all, subst (Appends out.written out'.written) text_is wrote.0, wrote.1)
    summary_done (Err write.Failed) wrote =
        (at.0, at.1, at.2.ran, ran_all, subst (AppendsPart out.written out'.written) text_is wrote.0, wrote.1)
    summary_done (Err write.Memory) wrote = (
      at.0,
      at.1,
      M.cycles,
      at.2.ran,
      subst (λ n. HasRunPart M n at.0 at.1) all (ran_short may start bus w at.0 at.0 at.1 M at.2),
      wrote,
    )
