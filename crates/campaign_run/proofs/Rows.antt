-- The row of a run, by how its cycles were counted.
use Rattle.std.proofs.Common.{◌≡◌, ℕ, Option, None, Some, Result, Ok, Err, ap, subst, ◌∙◌, inl, inr}
use Rattle.guards_model.specs.Missions.{MissionValue}
use Rattle.guards_model.specs.ScriptedBus.{IsScripted}
use Rattle.guards_model.specs.Texts.{TextValue, StopValue}
use Rattle.guards_world.specs.Worlds.{WorldValue}
use Rattle.guards_model.specs.Network.{BusValue}
use Rattle.icn_world.specs.declared.world.Halt.{Halt}
use Rattle.icn_world.specs.declared.world.Halt.TheVariants as halt
use Rattle.run_laws.specs.Runs.{HasRunCycles}
use Rattle.run_laws.proofs.RunPassed.{ran_cycles}
use Rattle.campaign_facts.specs.Tallies.{TallyValue}
use Rattle.campaign_text.specs.Rows.{row_text}
use Rattle.campaign_text.specs.Summaries.{RunValue}
use Rattle.world_run.specs.Running.{stop_value}
use Rattle.campaign_run.specs.Counting.{CountsTo, TellsRun, counted}
use Rattle.campaign_run.specs.Ends.{EndsAs}

-- what is told of a run
abbrev pub told_run : TallyValue → Option StopValue → RunValue
told_run counts stop = record { counts = counts; stop = stop }

module _ (M : MissionValue) (run state : ℕ) (bound : Option ℕ) (start after : BusValue) (w : WorldValue) (t : TallyValue)
    (text : TextValue) where
  -- what is told of the run, where so many cycles were counted, and a stop was found or none
  told_so : (u : TallyValue) (stop ended : Option StopValue) → t ≡ u → stop ≡ ended →
      told_run t stop ≡ told_run u ended
  told_so u stop ended counts ends =
      ap (λ (v : TallyValue). told_run v stop) counts
      ∙ ap (λ (s : Option StopValue). told_run u s) ends

  same_row : (stop : Option StopValue) → w.mission ≡ M →
      text ≡ row_text run state w.mission.script t stop bound → text ≡ row_text run state M.script t stop bound
  same_row stop kept is = is ∙ ap (λ (m : MissionValue). row_text run state m.script t stop bound) kept

  pub row_told : (E : Type 0) (ran : Result (Unit {0}) Halt) (stop : Option StopValue) →
      CountsTo IsScripted M start M.cycles w after t ran → EndsAs {E = E} ran (Ok stop) →
      text ≡ row_text run state w.mission.script t stop bound →
      TellsRun M run state bound (told_run t stop) text
  row_told E (Ok _) stop counts ends is =
      let ((L, histories, between, so_far), done) = counts in
      let all : HasRunCycles M M.cycles L histories =
      subst (λ n. HasRunCycles M n L histories) done (ran_cycles IsScripted start after w L L histories M between) in
      let told : t ≡ counted M L M.cycles = so_far ∙ ap (counted M L) done in (
        (L, histories, between.ran.each, inl (all, told_so (counted M L M.cycles) stop None told ends)),
        same_row stop between.mission is,
      )
  row_told E (Err (halt.Disturbed cycle slot set active)) stop counts ends is =
      let (L, histories, ran, stopped, so_far, kept) = counts in
      let s = stop_value cycle slot set active in (
        (L, histories, ran.each, inr (s, stopped, told_so (counted M L cycle) stop (Some s) so_far ends)),
        same_row stop kept is,
      )
  row_told E (Err halt.NoMemory) stop counts ends is = absurd ends
