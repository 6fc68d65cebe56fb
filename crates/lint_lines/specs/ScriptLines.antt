-- The lines on the script of faults.
use Rattle.std.specs.Prelude.{ℕ, zero, suc, ◌+◌, ◌*◌, Bool, true, false, not, ◌&&◌, ◌||◌, ◌==◌, nat_le, nat_lt, List, [], ◌∷◌, ◌++◌, flat_map, filter, filter_map, length, Option, Some, None, is_some, if◌then◌else◌}
use Rattle.std.specs.List.{list_any}
use Rattle.guards_model.specs.declared.Slot.{Slot}
use Rattle.guards_model.specs.declared.Slot.TheVariants.{Request, Round1, Round2, Round3, Tasks, Vote, Sweep, Final, Switch, Output}
use Rattle.guards_model.specs.BusRules.{RuleValue}
use Rattle.guards_model.specs.Channels.{Channel, ChannelSet, numbers_below, tolerated_faults}
use Rattle.guards_model.specs.Faults.{FaultValue, crash, restart, damage, bus}
use Rattle.guards_model.specs.Missions.{MissionValue, bus_rule, bus_rules, channels_of}
use Rattle.guards_model.specs.Modes.{is_restart}
use Rattle.guards_model.specs.Network.{switchboard, actuator}
use Rattle.lint_lines.specs.declared.line.LintLine.{LintLine}
use Rattle.lint_lines.specs.declared.line.LintLine.TheVariants.{CrowdedCycle, IdleRestart, IdleCrash, IdleDamage, IdleRule}

-- ---- cycles in which the script names many channels

-- whether an entry that is not for the bus does harm to the channel in this cycle
abbrev pub harms : Channel → ℕ → FaultValue → Bool
harms q c (crash p d slot) = p == q && d == c
harms q c (restart p d) = false
harms q c (damage p d block word value) = p == q && d == c
harms q c (bus rule) = false

-- whether a rule is for the channel's frames of this cycle
abbrev pub is_rule_for : Channel → ℕ → RuleValue → Bool
is_rule_for q c rule = rule.from == q && rule.cycle == c

-- the channels that the script names in a cycle, by a crash, a damage or a rule for the bus
abbrev pub is_named : List FaultValue → ℕ → Channel → Bool
is_named script c q = list_any (harms q c) script || list_any (is_rule_for q c) (filter_map bus_rule script)

abbrev pub named_in : ℕ → List FaultValue → ℕ → ChannelSet
named_in channels script c = filter (is_named script c) (numbers_below channels)

abbrev pub crowded_line : ℕ → List FaultValue → ℕ → List LintLine
crowded_line channels script c =
    if nat_le channels (3 * length (named_in channels script c))
    then CrowdedCycle c (length (named_in channels script c)) channels ∷ []
    else []

abbrev pub crowded_lines : MissionValue → List LintLine
crowded_lines M = flat_map (crowded_line M.rules.channels M.script) (numbers_below M.cycles)

-- ---- entries without effect

-- whether the script crashes the channel in this cycle by this entry
abbrev pub is_crash_in : Channel → ℕ → FaultValue → Bool
is_crash_in q c (crash p d slot) = p == q && d == c
is_crash_in q c (restart p d) = false
is_crash_in q c (damage p d block word value) = false
is_crash_in q c (bus rule) = false

-- Whether the channel is down at the end of the cycle before c: it crashed in it, or was down at its start and was
-- not restarted in it. Nothing else takes a channel down, and nothing else lets one that is down join.
abbrev pub is_down_before : List FaultValue → Channel → ℕ → Bool
is_down_before script q zero = false
is_down_before script q (suc c) =
    list_any (is_crash_in q c) script || (is_down_before script q c && not (list_any (is_restart q c) script))

-- A restart of a channel that is not down; a crash of one that is down, and is not restarted in its cycle; a damage
-- of one that is down, which is at best joining in its cycle.
abbrev pub idle_entry : List FaultValue → FaultValue → List LintLine
idle_entry script (restart q c) = if is_down_before script q c then [] else IdleRestart q c ∷ []
idle_entry script (crash q c slot) =
    if is_down_before script q c && not (list_any (is_restart q c) script) then IdleCrash q c ∷ [] else []
idle_entry script (damage q c block word value) = if is_down_before script q c then IdleDamage q c ∷ [] else []
idle_entry script (bus rule) = []

-- whether a receiver, or each one, is a channel
abbrev pub is_to_channels : ℕ → Option ℕ → Bool
is_to_channels channels None = true
is_to_channels channels (Some to) = nat_lt to channels

-- whether it is at this address
abbrev pub is_to_address : ℕ → Option ℕ → Bool
is_to_address address None = true
is_to_address address (Some to) = to == address

-- Whether frames to this receiver may be carried in the slot, where a cycle has at most so many rounds: to channels
-- in the slots of requests, rounds, votes, sweeps and final frames, to the switchboard in its slot, and to an
-- actuator that there is in its own.
abbrev pub may_carry : ℕ → ℕ → Bool → Slot → Option ℕ → Bool
may_carry channels rounds drives Request to = is_to_channels channels to
may_carry channels rounds drives Round1 to = nat_le 1 rounds && is_to_channels channels to
may_carry channels rounds drives Round2 to = nat_le 2 rounds && is_to_channels channels to
may_carry channels rounds drives Round3 to = nat_le 3 rounds && is_to_channels channels to
may_carry channels rounds drives Tasks to = false
may_carry channels rounds drives Vote to = is_to_channels channels to
may_carry channels rounds drives Sweep to = is_to_channels channels to
may_carry channels rounds drives Final to = is_to_channels channels to
may_carry channels rounds drives Switch to = is_to_address switchboard to
may_carry channels rounds drives Output to = drives && is_to_address actuator to

abbrev pub idle_rule : ℕ → ℕ → Bool → RuleValue → List LintLine
idle_rule channels rounds drives rule =
    if may_carry channels rounds drives rule.slot rule.to then [] else IdleRule rule.from rule.cycle rule.slot ∷ []

-- first the entries that are not for the bus, then the rules for it
abbrev pub idle_lines : MissionValue → List LintLine
idle_lines M =
    flat_map (idle_entry M.script) M.script
    ++ flat_map (idle_rule M.rules.channels (tolerated_faults (channels_of M) + 1) (is_some M.actuator)) (bus_rules M)

-- all lines on the script
unfoldable pub script_lines : MissionValue → List LintLine
script_lines M = crowded_lines M ++ idle_lines M
