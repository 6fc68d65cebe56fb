-- What the call of a campaign does, by its status. This project's own.
use Rattle.std.specs.Prelude.{◌≡◌, ◌⊎◌, ◌≤◌, ℕ, true, false, ◌==◌, List, length, Option, Some, None, Result, Ok, Err}
use Rattle.guards_io.specs.Causes.{Rose}
use Rattle.guards_io.specs.Views.{SinkView, SourceView}
use Rattle.guards_io.specs.Writes.{WritesLine}
use Rattle.guards_io.specs.declared.writing.WriteStop.{WriteStop}
use Rattle.guards_io.specs.declared.writing.WriteStop.TheVariants as write
use Rattle.guards_model.specs.Missions.{MissionValue}
use Rattle.mission_text.specs.Mission.{mission_of}
use Rattle.mission_check.specs.declared.limit.TheConstants.{MAX_MISSION_BYTES}
use Rattle.mission_check.specs.declared.status.Status.{Status}
use Rattle.mission_check.specs.declared.status.Status.TheVariants.{Done, Usage, WriteFault, NoMemory}
use Rattle.mission_check.specs.Reading.{RefusesBytes, TakesAll, Tells}
use Rattle.mission_check.specs.Statuses.{status_code}
use Rattle.campaign_run.specs.Campaigns.{Campaigns}
use Rattle.campaign_draws.specs.declared.rates.Rates.{Rates}
use Rattle.campaign_call.specs.declared.request.Request.{Request}
use Rattle.campaign_call.specs.declared.request.Request.TheVariants.{Campaign, Mission}
use Rattle.campaign_call.specs.Documents.{run_document}
use Rattle.campaign_call.specs.declared.status.CampaignStatus.{CampaignStatus}
use Rattle.campaign_call.specs.declared.status.CampaignStatus.TheVariants.{HasFaults, Ended}
use Rattle.campaign_call.specs.Lines.{campaign_usage, faults_line}

-- the exit status: 3 for a mission with faults, and else that of `guards`
abbrev pub campaign_code : CampaignStatus → ℕ
campaign_code HasFaults = 3
campaign_code (Ended status) = status_code status

-- the status of a campaign that was run
abbrev pub status_of : Result (Unit {0}) WriteStop → Status
status_of (Ok _) = Done
status_of (Err write.Failed) = WriteFault
status_of (Err write.Memory) = NoMemory

-- what running a campaign of a mission does, by the status
abbrev pub RunsCampaign : ℕ → ℕ → Rates → MissionValue → SinkView → SinkView → Status → Type 0
RunsCampaign state runs rates M out out' Done = Campaigns M rates state runs out out' (Ok tt)
RunsCampaign state runs rates M out out' WriteFault = Campaigns M rates state runs out out' (Err write.Failed)
RunsCampaign state runs rates M out out' NoMemory = Campaigns M rates state runs out out' (Err write.Memory)
RunsCampaign state runs rates M out out' _ = ⊥

-- what doing what is asked for does, with the mission that these bytes are
abbrev pub Does : Request → List ℕ → MissionValue → SinkView → SinkView → Status → Type 0
Does (Campaign state runs rates) bytes M out out' status = RunsCampaign state runs rates M out out' status
Does (Mission state rates) bytes M out out' status = Tells (run_document bytes M rates state) out out' status

-- What the call does with a mission: where it has faults of its own they are told, and else what is asked for is done.
abbrev pub AnswersMission : Request → List ℕ → MissionValue → SinkView → SinkView → CampaignStatus → Type 0
AnswersMission r bytes M out out' HasFaults = ((length M.script == 0) ≡ false) × WritesLine out out' faults_line
AnswersMission r bytes M out out' (Ended status) = ((length M.script == 0) ≡ true) × Does r bytes M out out' status

-- the bytes that the source gives are no mission, or were not read to their end, and that is told as `guards` does
abbrev pub RefusesWith : SourceView → SourceView → SinkView → SinkView → CampaignStatus → Type 0
RefusesWith src src' out out' HasFaults = ⊥
RefusesWith src src' out out' (Ended status) = RefusesBytes src src' out out' status

-- the bytes are refused, or the source was read to its end, the bytes are a mission, and it is answered
abbrev pub AnswersBytes : Request → SourceView → SourceView → SinkView → SinkView → CampaignStatus → Type 0
AnswersBytes r src src' out out' status =
    RefusesWith src src' out out' status
    ⊎ ((bytes : List ℕ) × (M : MissionValue) × TakesAll src src' bytes × (mission_of bytes ≡ Ok M)
    × AnswersMission r bytes M out out' status)

-- wrong words are told, and nothing else is done
abbrev pub RefusesWords : SourceView → SourceView → SinkView → SinkView → CampaignStatus → Type 0
RefusesWords src src' out out' (Ended Usage) = (src' ≡ src) × WritesLine out out' campaign_usage
RefusesWords src src' out out' _ = ⊥

-- What the call does, by what its words ask for.
abbrev pub CampaignOutcome : Option Request → SourceView → SourceView → SinkView → SinkView → CampaignStatus → Type 0
CampaignOutcome None src src' out out' status = RefusesWords src src' out out' status
CampaignOutcome (Some r) src src' out out' status = AnswersBytes r src src' out out' status

-- What is asked for of a mission without faults that the source tells is written to its end, unless memory runs out or
-- a fault comes.
abbrev pub CampaignCompletes : Option Request → SourceView → SourceView → SinkView → SinkView → CampaignStatus → Type 0
CampaignCompletes asked src src' out out' status =
    (r : Request) (bytes : List ℕ) (M : MissionValue) → asked ≡ Some r → src.left ≡ Some bytes →
    length bytes ≤ MAX_MISSION_BYTES → mission_of bytes ≡ Ok M → (length M.script == 0) ≡ true →
    (Rose src.faults src'.faults → ⊥) → (Rose out.faults out'.faults → ⊥) →
    (status ≡ Ended Done) ⊎ (status ≡ Ended NoMemory)
