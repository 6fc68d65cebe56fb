-- What one more cycle does to what is counted of a run.
use Rattle.std.proofs.Common.{◌≡◌, ◌<◌, ◌==◌, ℕ, suc, List, [], ◌∷◌, ◌++◌, length, map, Ok, Err, None, Option, refl, sym, ap, subst, ◌∙◌}
use Rattle.std.specs.List.{list_any}
use Rattle.guards_model.specs.declared.Slot.TheVariants.{Switch}
use Rattle.guards_model.specs.BusRules.{RuleValue}
use Rattle.guards_model.specs.Channels.{ChannelSet, channels_where, has}
use Rattle.guards_model.specs.Missions.{MissionValue, IsMission, bus_rules}
use Rattle.guards_model.specs.Network.{EntryValue}
use Rattle.guards_model.specs.Records.{shown_line, shown}
use Rattle.guards_model.specs.Rounds.{Steps}
use Rattle.guards_model.specs.Texts.{LineValue, RecordValue, StopValue}
use Rattle.guards_model.specs.Transfers.{TransferValue}
use Rattle.guards_runs.specs.Cycles.{Cycle, Past, cycles_before, cycle_at}
use Rattle.guards_runs.specs.Report.{cycle_record, line_of, channels_running_in}
use Rattle.guards_world.specs.Worlds.{WorldValue, disturbed, no_memory, first_world}
use Rattle.guards_model.specs.Network.{BusValue}
use Rattle.guards_world.specs.WorldCycle.{PassesCycle}
use Rattle.icn_world.specs.declared.world.Halt.{Halt}
use Rattle.icn_world.specs.declared.world.Halt.TheVariants as halt
use Rattle.icn_world.specs.Halts.{halt_value}
use Rattle.world_laws.specs.Fronts.{CarriesUpToStop}
use Rattle.run_laws.specs.Runs.{HasRunToStop}
use Rattle.run_laws.proofs.RunContinues.{stop_cycle}
use Rattle.run_laws.proofs.RunPassed.{begins, passes_on}
use Rattle.guards_base.proofs.EachChannel.{sets_alike}
use Rattle.campaign_facts.specs.Facts.{FactsValue, facts_of, facts_of_cycle, facts_of_record}
use Rattle.campaign_facts.specs.Tallies.{TallyValue, next_tally, tally_of}
use Rattle.campaign_facts.proofs.Steps.{tally_goes_on}
use Rattle.world_run.specs.Running.{stop_value}
use Rattle.campaign_run.specs.Counting.{CountsTo, CountsToStop, IsCounted, counted}

-- ---- the facts of a cycle are those that its record tells

first_of : List LineValue → ℕ
first_of [] = 0
first_of (l ∷ lines) = l.channel

rest_of : List LineValue → List LineValue
rest_of [] = []
rest_of (l ∷ lines) = lines

lines_have : (M : MissionValue) (e : Cycle) (q : ℕ) (lines : List LineValue) (ps : ChannelSet) →
    map (shown_line M.rules.channels M.width (length M.outputs)) lines ≡ map (line_of M e) ps →
    list_any (λ (line : LineValue). line.channel == q) lines ≡ has ps q
unfolding first_of rest_of
lines_have M e q [] [] same = refl
lines_have M e q [] (p ∷ ps) same = absurd cc
lines_have M e q (l ∷ lines) [] same = absurd cc
lines_have M e q (l ∷ lines) (p ∷ ps) same = rw (ap first_of same, lines_have M e q lines ps (ap rest_of same)) refl

facts_are : (r : RecordValue) (e : Cycle) → r.removed ≡ e.removed → r.joined ≡ e.joined → r.transfer ≡ e.transfer →
    channels_where (λ q. list_any (λ (line : LineValue). line.channel == q) r.lines) ≡ channels_where (has (channels_running_in Switch e)) →
    facts_of_record r ≡ facts_of_cycle e
facts_are r e removed joined transfer running =
    ap (λ (x : ChannelSet). record { removed = x; joined = r.joined; transfer = r.transfer; running = channels_where (λ q. list_any (λ (line : LineValue). line.channel == q) r.lines) }) removed
    ∙ ap (λ (x : ChannelSet). record { removed = e.removed; joined = x; transfer = r.transfer; running = channels_where (λ q. list_any (λ (line : LineValue). line.channel == q) r.lines) }) joined
    ∙ ap (λ (x : Option TransferValue). record { removed = e.removed; joined = e.joined; transfer = x; running = channels_where (λ q. list_any (λ (line : LineValue). line.channel == q) r.lines) }) transfer
    ∙ ap (λ (x : ChannelSet). record { removed = e.removed; joined = e.joined; transfer = e.transfer; running = x }) running

pub record_facts : (M : MissionValue) (steps : Steps) (c : ℕ) (e : Cycle) (r : RecordValue) →
    shown M.rules.channels M.width (length M.outputs) r ≡ cycle_record M steps c e → facts_of_record r ≡ facts_of_cycle e
record_facts M steps c e r told =
    let lines = ap (λ (x : RecordValue). x.lines) told in
    let have : (q : ℕ) → list_any (λ (line : LineValue). line.channel == q) r.lines ≡ has (channels_running_in Switch e) q = λ q. lines_have M e q r.lines (channels_running_in Switch e) lines in
    facts_are r e (ap (λ (x : RecordValue). x.removed) told) (ap (λ (x : RecordValue). x.joined) told) (ap (λ (x : RecordValue). x.transfer) told)
    (sets_alike _ (has (channels_running_in Switch e)) (λ q low. have q))

-- ---- the world after a stop has the mission still

stop_keeps : (may : List RuleValue → EntryValue → Type 0) (w new : WorldValue) (bus after : BusValue) (s : StopValue) →
    PassesCycle may None w bus (Err (disturbed s)) new after → new.mission ≡ w.mission
stop_keeps may w new bus after s cycled =
    cycled.3.2.mission

module _ (may : List RuleValue → EntryValue → Type 0) (M : MissionValue) (start : BusValue) where
  -- no cycle ran, and nothing was counted
  pub first_counted : (w : WorldValue) (t : TallyValue) → w ≡ first_world M → IsMission M → start.script ≡ bus_rules M → t ≡ tally_of M.script [] → IsCounted may M start w start t
  unfolding counted
  first_counted w t fresh mission script empty =
      subst (λ (x : WorldValue). IsCounted may M start x start t) (sym fresh) ([], [], begins may M start mission script, empty)

  module _ (w new : WorldValue) (bus after : BusValue) (t t' : TallyValue) (at : IsCounted may M start w bus t) (below : w.done < w.mission.cycles) where
    pub count_done : (part : RecordValue) → PassesCycle may w.spent w bus (Ok part) new after → t' ≡ next_tally new.mission.script (facts_of_record part) t →
        CountsTo may M start (suc w.done) new after t' (Ok tt)
    unfolding counted
    count_done part cycled noted =
        let (L, histories, between, so_far) = at in
        let (now, steps, next, done, made, full, same, told) = passes_on may start bus w L L histories M (Ok part) new after between below cycled (λ unspent none. absurd cc) in
        let K = L ++ now in
        let e = cycle_at M K w.done in
        let script = ap (λ (m : MissionValue). m.script) next.mission in
        let before : t ≡ tally_of M.script (facts_of (cycles_before M K w.done)) = so_far ∙ ap (λ (p : Past). tally_of M.script (facts_of p)) (sym same) in
        let now_counted : t' ≡ tally_of M.script (facts_of (e ∷ cycles_before M K w.done)) =
        noted ∙ ap (λ s. next_tally s (facts_of_record part) t) script ∙ ap (λ (f : FactsValue). next_tally M.script f t) (record_facts M steps w.done e part told)
        ∙ ap (next_tally M.script (facts_of_cycle e)) before ∙ tally_goes_on M.script (facts_of_cycle e) (facts_of (cycles_before M K w.done)) in
        ((K, steps ∷ histories, next, subst (λ n. t' ≡ tally_of M.script (facts_of (cycles_before M K n))) (sym done) now_counted), done)

    stops : (s : StopValue) → PassesCycle may w.spent w bus (Err (disturbed s)) new after → CountsToStop may M s start new after t
    unfolding counted
    stops s cycled =
        let (L, histories, between, so_far) = at in
        let (now, ran, stopped, same) = passes_on may start bus w L L histories M (Err (disturbed s)) new after between below cycled (λ unspent none. absurd cc) in
        let at_cycle : s.cycle ≡ w.done = stop_cycle w.done (cycle_at M (L ++ now) w.done) s stopped.stopped in
        let before : t ≡ tally_of M.script (facts_of (cycles_before M (L ++ now) w.done)) = so_far ∙ ap (λ (p : Past). tally_of M.script (facts_of p)) (sym same) in
        let kept = stop_keeps may w new bus after s (subst (λ spent. PassesCycle may spent w bus (Err (disturbed s)) new after) between.unspent cycled) in (
          L ++ now,
          histories,
          ran,
          subst (λ n. HasRunToStop M n s (L ++ now) histories) (sym at_cycle) stopped,
          subst (λ n. t ≡ tally_of M.script (facts_of (cycles_before M (L ++ now) n))) (sym at_cycle) before,
          kept ∙ between.mission,
        )

    pub count_halted : (h : Halt) → PassesCycle may w.spent w bus (Err (halt_value h)) new after → CarriesUpToStop w bus (Err (halt_value h)) after →
        CountsTo may M start (suc w.done) new after t (Err h)
    count_halted (halt.Disturbed cycle slot set active) cycled no_further = stops (stop_value cycle slot set active) cycled
    count_halted halt.NoMemory cycled no_further =
        let (L, histories, between, so_far) = at in
        let (now, ran, part, same) = passes_on may start bus w L L histories M (Err no_memory) new after between below cycled no_further in
        (L ++ now, histories, w.done, ran, part)
