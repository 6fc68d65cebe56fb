-- The script of a run, drawn from a number by the draws of the demo. This project's own.
use Rattle.std.specs.Prelude.{ℕ, zero, suc, ◌+◌, ◌-◌, ◌%◌, ◌^◌, Bool, nat_lt, pos, List, [], ◌∷◌, ◌++◌, take, map, length, Option, Some, slice_get, unwrap_or, if◌then◌else◌}
use Rattle.guards_model.specs.declared.Slot.{Slot}
use Rattle.guards_model.specs.declared.Slot.TheVariants.{Request, Round1, Round2, Vote, Sweep, Final}
use Rattle.guards_model.specs.Slots.{every_slot}
use Rattle.guards_model.specs.Faults.{FaultValue, crash, restart, damage, bus}
use Rattle.guards_model.specs.BusRules.{lose, forge}
use Rattle.guards_model.specs.Frames.{spelling, vote_body}
use Rattle.guards_model.specs.Missions.{MissionValue}
use Rattle.demo_mission.specs.Demo.{next_number, drawn, draws, number_after}
use Rattle.campaign_draws.specs.declared.rates.Rates.{Rates}

-- what of a mission its drawn faults depend on
pub record SizesValue : Type 0 where
  pub channels : ℕ
  pub cycles : ℕ
  pub blocks : ℕ
  pub outputs : ℕ
  pub version : ℕ

abbrev pub sizes_of : MissionValue → SizesValue
sizes_of M =
    record {
      channels = M.rules.channels;
      cycles = M.cycles;
      blocks = M.rules.blocks;
      outputs = length M.outputs;
      version = M.rules.version;
    }

-- whether the next draw below a million is below the rate
unfoldable pub happens : ℕ → ℕ → Bool
happens rate x = nat_lt (drawn 1000000 (next_number x)) rate

-- the number after a fault that takes so many draws where it happens, or after the one draw that says that it does not
unfoldable pub after_fault : ℕ → ℕ → ℕ → ℕ
after_fault count rate x = if happens rate x then number_after count (next_number x) else next_number x

-- ---- the faults of a channel in a cycle

-- the slots in which a piece is lost
abbrev pub lossy_slots : List Slot
lossy_slots = Round1 ∷ Round2 ∷ Vote ∷ Sweep ∷ Final ∷ []

-- another channel, by the draw of a number below one less than there are channels
abbrev pub other_channel : ℕ → ℕ → ℕ → ℕ
other_channel channels q draw = (q + 1 + draw) % channels

-- the vote frame of a channel with these words
unfoldable pub forged_vote : ℕ → ℕ → ℕ → List ℕ → List ℕ
forged_vote version c q words =
    spelling (record { version = version; sender = q; cycle = c; body = vote_body (map (λ word. pos word) words) })

module _ (S : SizesValue) (rates : Rates) (c q : ℕ) where
  -- the restart of the channel in a cycle that there is
  abbrev pub restart_in : ℕ → List FaultValue
  restart_in cycle = if nat_lt cycle S.cycles then restart q cycle ∷ [] else []

  -- a crash in a slot, and the restart 1 to 8 cycles later
  unfoldable pub crashes : ℕ → List FaultValue
  crashes x =
      if happens rates.crash x then
      crash q c (unwrap_or (slice_get every_slot (drawn 9 (number_after 2 x))) Request)
      ∷ restart_in (c + 1 + drawn 8 (number_after 3 x))
      else []

  -- a damage of one word
  unfoldable pub damages : ℕ → List FaultValue
  damages x =
      if happens rates.damage x then
      damage q c (drawn S.blocks (number_after 2 x)) (drawn 8 (number_after 3 x))
      (pos (drawn (2 ^ 31) (number_after 4 x))) ∷ []
      else []

  -- a lost frame to another channel
  unfoldable pub losses : ℕ → List FaultValue
  losses x =
      if happens rates.lose x then
      bus (record {
        cycle = c;
        slot = unwrap_or (slice_get lossy_slots (drawn 5 (number_after 2 x))) Round1;
        from = q;
        to = Some (other_channel S.channels q (drawn (S.channels - 1) (number_after 3 x)));
        act = lose;
      }) ∷ []
      else []

  -- a forged vote frame to another channel, of which each word is drawn
  unfoldable pub forgeries : ℕ → List FaultValue
  forgeries x =
      if happens rates.forge x then
      bus (record {
        cycle = c;
        slot = Vote;
        from = q;
        to = Some (other_channel S.channels q
            (drawn (S.channels - 1) (next_number (number_after S.outputs (next_number x)))));
        act = forge (forged_vote S.version c q (draws S.outputs (2 ^ 31) (next_number x)));
      }) ∷ []
      else []

-- ---- one kind after the other, channel by channel and cycle by cycle

module _ (S : SizesValue) (rates : Rates) where
  -- the numbers after the draws of each kind
  abbrev pub after_crash : ℕ → ℕ
  after_crash x = after_fault 2 rates.crash x

  abbrev pub after_damage : ℕ → ℕ
  after_damage x = after_fault 3 rates.damage x

  abbrev pub after_loss : ℕ → ℕ
  after_loss x = after_fault 2 rates.lose x

  unfoldable pub after_forgery : ℕ → ℕ
  after_forgery x = if happens rates.forge x then next_number (number_after S.outputs (next_number x))
      else next_number x

  -- the faults of a channel in a cycle, and the number after its draws
  unfoldable pub channel_faults : ℕ → ℕ → ℕ → List FaultValue
  channel_faults c q x =
      crashes S rates c q x
      ++ (damages S rates c q (after_crash x)
      ++ (losses S rates c q (after_damage (after_crash x))
      ++ forgeries S rates c q (after_loss (after_damage (after_crash x)))))

  unfoldable pub after_channel : ℕ → ℕ
  after_channel x = after_forgery (after_loss (after_damage (after_crash x)))

  -- the faults of so many channels from q on in a cycle
  unfoldable pub channels_faults : ℕ → ℕ → ℕ → ℕ → List FaultValue
  channels_faults c zero q x = []
  channels_faults c (suc more) q x = channel_faults c q x ++ channels_faults c more (q + 1) (after_channel x)

  unfoldable pub after_channels : ℕ → ℕ → ℕ
  after_channels zero x = x
  after_channels (suc more) x = after_channels more (after_channel x)

  -- the faults of so many cycles from c on
  unfoldable pub cycles_faults : ℕ → ℕ → ℕ → List FaultValue
  cycles_faults zero c x = []
  cycles_faults (suc more) c x =
      channels_faults c S.channels 0 x ++ cycles_faults more (c + 1) (after_channels S.channels x)

  unfoldable pub after_cycles : ℕ → ℕ → ℕ
  after_cycles zero x = x
  after_cycles (suc more) x = after_cycles more (after_channels S.channels x)

  -- the script that is drawn from a number, at most 1,024 entries
  unfoldable pub drawn_faults : ℕ → List FaultValue
  drawn_faults x = take 1024 (cycles_faults S.cycles 0 x)

  -- the number after its draws, those of entries that were left out among them
  unfoldable pub after_run : ℕ → ℕ
  after_run x = after_cycles S.cycles x

-- ---- a campaign

-- the mission with this script in place of its own
abbrev pub with_script : MissionValue → List FaultValue → MissionValue
with_script M script = record M { script = script }

-- the mission of the run that a number draws
unfoldable pub drawn_mission : MissionValue → Rates → ℕ → MissionValue
drawn_mission M rates x = with_script M (drawn_faults (sizes_of M) rates x)

-- the numbers from which the runs of a campaign are drawn: the first from its own number, and each later one from the
-- number after the draws of the one before
unfoldable pub state_of : SizesValue → Rates → ℕ → ℕ → ℕ
state_of S rates x zero = x
state_of S rates x (suc run) = after_run S rates (state_of S rates x run)

-- the mission of a run of a campaign
unfoldable pub run_mission : MissionValue → Rates → ℕ → ℕ → MissionValue
run_mission M rates x run = drawn_mission M rates (state_of (sizes_of M) rates x run)
