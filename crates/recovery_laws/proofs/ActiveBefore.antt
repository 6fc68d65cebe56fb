-- Who is active in a cycle and did not just join was active before.
use Rattle.std.proofs.Common.{◌≡◌, ◌<◌, true, false, not, ◌||◌, ◌∷◌, inl, inr, sym, ◌∙◌}
use Rattle.std.proofs.lemmas.Bool.{or_cases}
use Rattle.guards_model.specs.Channels.{Channel, has, without}
use Rattle.guards_model.specs.Missions.{MissionValue}
use Rattle.guards_runs.specs.Cycles.{Past, Cycle, active_set}
use Rattle.guards_model.proofs.Tables.{has-filter, has-channels_where}
use Rattle.guards_model.proofs.BoolTests.{differ, both}

pub active_if_old : (M : MissionValue) (past : Past) (e : Cycle) (j : Channel) → j < 7 →
    has (active_set M (e ∷ past)) j ≡ true → has e.joined j ≡ false → has e.active j ≡ true
active_if_old M past e j low there old =
    elim (or_cases (has (without e.active e.removed) j) (has e.joined j)
    (sym (has-channels_where (λ q. has (without e.active e.removed) q || has e.joined q) j low) ∙ there)) [
      | inl stayed ↦ (both (not (has e.removed j)) (has e.active j)
          (sym (has-filter (λ q. not (has e.removed q)) e.active j) ∙ stayed)).1
      | inr joined ↦ differ (sym joined ∙ old)
    ]
