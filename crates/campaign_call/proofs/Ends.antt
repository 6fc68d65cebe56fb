-- A campaign is written to its end, unless memory runs out or a fault comes.
use Rattle.std.proofs.Common.{◌≡◌, ◌≤◌, ◌⊎◌, ◌==◌, inl, inr, ℕ, true, false, List, length, Option, Some, None, Result, Ok, Err, refl, sym, ap, subst, ◌∙◌}
use Rattle.guards_io.specs.Causes.{Rose}
use Rattle.guards_io.specs.Views.{SinkView, SourceView}
use Rattle.guards_io.specs.declared.writing.WriteStop.{WriteStop}
use Rattle.guards_io.specs.declared.writing.WriteStop.TheVariants as write
use Rattle.guards_model.specs.Missions.{MissionValue}
use Rattle.mission_text.specs.Mission.{mission_of}
use Rattle.mission_check.specs.declared.limit.TheConstants.{MAX_MISSION_BYTES}
use Rattle.mission_check.specs.declared.status.Status.{Status}
use Rattle.mission_check.specs.declared.status.Status.TheVariants.{Done, Usage, BadMission, TooLong, ReadFault, WriteFault, TooManyDisturbed, NoMemory, NotARun}
use Rattle.mission_check.proofs.MissionTold.{refused_for_memory, same_mission, told_to_end}
use Rattle.campaign_run.specs.Campaigns.{Campaigns}
use Rattle.campaign_draws.specs.declared.rates.Rates.{Rates}
use Rattle.campaign_call.specs.declared.request.Request.{Request}
use Rattle.campaign_call.specs.declared.request.Request.TheVariants.{Campaign, Mission}
use Rattle.campaign_call.specs.Documents.{run_document}
use Rattle.campaign_call.specs.declared.status.CampaignStatus.{CampaignStatus}
use Rattle.campaign_call.specs.declared.status.CampaignStatus.TheVariants.{HasFaults, Ended}
use Rattle.campaign_call.specs.Outcomes.{AnswersBytes, AnswersMission, CampaignCompletes, CampaignOutcome, Does, RefusesWith, RunsCampaign, status_of}

-- the status of a campaign tells how it went
pub runs_so : (M : MissionValue) (rates : Rates) (state runs : ℕ) (out out' : SinkView)
    (ran : Result (Unit {0}) WriteStop) → Campaigns M rates state runs out out' ran →
    RunsCampaign state runs rates M out out' (status_of ran)
runs_so M rates state runs out out' (Ok _) does = does
runs_so M rates state runs out out' (Err write.Failed) does = does
runs_so M rates state runs out out' (Err write.Memory) does = does

-- ---- the end

abbrev Ends : CampaignStatus → Type 0
Ends status = (status ≡ Ended Done) ⊎ (status ≡ Ended NoMemory)

stop_ends : (status : Status) → (status ≡ Done) ⊎ (status ≡ NoMemory) → Ends (Ended status)
stop_ends status (inl e) = inl (ap Ended e)
stop_ends status (inr e) = inr (ap Ended e)

refusal_ends : (src src' : SourceView) (out out' : SinkView) (status : CampaignStatus) (bytes : List ℕ)
    (M : MissionValue) → RefusesWith src src' out out' status → src.left ≡ Some bytes →
    length bytes ≤ MAX_MISSION_BYTES → mission_of bytes ≡ Ok M → (Rose src.faults src'.faults → ⊥) → Ends status
refusal_ends src src' out out' HasFaults bytes M refused told within is no_read = absurd refused
refusal_ends src src' out out' (Ended status) bytes M refused told within is no_read =
    stop_ends status (refused_for_memory src src' out out' status bytes M refused told within is no_read)

run_ends : (state runs : ℕ) (rates : Rates) (M : MissionValue) (out out' : SinkView) (status : Status) →
    RunsCampaign state runs rates M out out' status → (Rose out.faults out'.faults → ⊥) → Ends (Ended status)
run_ends state runs rates M out out' Done ran no_write = inl refl
run_ends state runs rates M out out' NoMemory ran no_write = inr refl
run_ends state runs rates M out out' WriteFault (text, begins, part, rose) no_write = absurd (no_write rose)
run_ends state runs rates M out out' Usage ran no_write = absurd ran
run_ends state runs rates M out out' (BadMission why) ran no_write = absurd ran
run_ends state runs rates M out out' TooLong ran no_write = absurd ran
run_ends state runs rates M out out' ReadFault ran no_write = absurd ran
run_ends state runs rates M out out' (TooManyDisturbed cycle slot set active) ran no_write = absurd ran
run_ends state runs rates M out out' (NotARun line) ran no_write = absurd ran

asked_ends : (r : Request) (bytes : List ℕ) (M : MissionValue) (out out' : SinkView) (status : Status) →
    Does r bytes M out out' status → (Rose out.faults out'.faults → ⊥) → Ends (Ended status)
asked_ends (Campaign state runs rates) bytes M out out' status does no_write =
    run_ends state runs rates M out out' status does no_write
asked_ends (Mission state rates) bytes M out out' status does no_write =
    stop_ends status (told_to_end (run_document bytes M rates state) out out' status does no_write)

mission_ends : (r : Request) (bytes : List ℕ) (M : MissionValue) (out out' : SinkView) (status : CampaignStatus) →
    AnswersMission r bytes M out out' status → (length M.script == 0) ≡ true → (Rose out.faults out'.faults → ⊥) →
    Ends status
mission_ends r bytes M out out' HasFaults (faults, line) none no_write = absurd (differ (sym none ∙ faults))
  where
    differ : true ≡ false → ⊥
    differ h = cc
mission_ends r bytes M out out' (Ended status) (empty, does) none no_write =
    asked_ends r bytes M out out' status does no_write

bytes_end : (r : Request) (src src' : SourceView) (out out' : SinkView) (status : CampaignStatus) (bytes : List ℕ)
    (M : MissionValue) → AnswersBytes r src src' out out' status → src.left ≡ Some bytes →
    length bytes ≤ MAX_MISSION_BYTES → mission_of bytes ≡ Ok M → (length M.script == 0) ≡ true →
    (Rose src.faults src'.faults → ⊥) → (Rose out.faults out'.faults → ⊥) → Ends status
bytes_end r src src' out out' status bytes M (inl refused) told within is none no_read no_write =
    refusal_ends src src' out out' status bytes M refused told within is no_read
bytes_end r src src' out out' status bytes M (inr (taken, K, all, read, answers)) told within is none no_read no_write =
    let same : K ≡ M = same_mission src src' taken bytes K M all read told is in
    mission_ends r taken K out out' status answers
    (subst (λ (m : MissionValue). (length m.script == 0) ≡ true) (sym same) none) no_write

pub campaign_completes : (asked : Option Request) (src src' : SourceView) (out out' : SinkView)
    (status : CampaignStatus) → CampaignOutcome asked src src' out out' status →
    CampaignCompletes asked src src' out out' status
campaign_completes None src src' out out' status does =
    λ r bytes M is_asked told within is none no_read no_write. absurd cc
campaign_completes (Some asked) src src' out out' status does =
    λ r bytes M is_asked told within is none no_read no_write.
    bytes_end asked src src' out out' status bytes M does told within is none no_read no_write
