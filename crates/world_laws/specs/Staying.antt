-- What entries of the tasks slot and of later ones leave as it was in a cycle.
use Rattle.std.specs.Prelude.{◌≡◌, ℕ, ◌++◌}
use Rattle.guards_model.specs.Channels.{Channel}
use Rattle.guards_model.specs.Missions.{MissionValue}
use Rattle.guards_model.specs.Network.{Log}
use Rattle.guards_runs.specs.Cycles.{cycles_before, cycle_at}
use Rattle.guards_runs.specs.Report.{line_of}

-- Entries from the tasks slot on: the earlier cycles, who is active and in which mode, what the rounds settle and
-- decide, and what the tasks make of it.
pub record RoundsStay (M : MissionValue) (L new : Log) (n : ℕ) : Type 0 where
  pub past : cycles_before M (L ++ new) n ≡ cycles_before M L n
  pub opening : (cycle_at M (L ++ new) n).opening ≡ (cycle_at M L n).opening
  pub agreement : (cycle_at M (L ++ new) n).agreement ≡ (cycle_at M L n).agreement
  pub decision : (cycle_at M (L ++ new) n).decision ≡ (cycle_at M L n).decision
  pub ideal_context : (cycle_at M (L ++ new) n).ideal_context ≡ (cycle_at M L n).ideal_context
  pub contexts_after : (cycle_at M (L ++ new) n).contexts_after ≡ (cycle_at M L n).contexts_after
  pub request_codes : (cycle_at M (L ++ new) n).request_codes ≡ (cycle_at M L n).request_codes
  pub remaining : (cycle_at M (L ++ new) n).remaining ≡ (cycle_at M L n).remaining
  pub joined : (cycle_at M (L ++ new) n).joined ≡ (cycle_at M L n).joined

-- Entries from the sweep slot on: the votes, and so the accusations and the lines too.
pub record VoteStays (M : MissionValue) (L new : Log) (n : ℕ) : Type 0 where
  pub rounds : RoundsStay M L new n
  pub voted : (cycle_at M (L ++ new) n).voted ≡ (cycle_at M L n).voted
  pub accusations : (cycle_at M (L ++ new) n).accusations ≡ (cycle_at M L n).accusations
  pub lines : (q : Channel) → line_of M (cycle_at M (L ++ new) n) q ≡ line_of M (cycle_at M L n) q
