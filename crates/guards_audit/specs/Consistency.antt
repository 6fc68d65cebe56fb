-- When a trace is consistent with a mission, and which of its lines is the first that is not good.
use Rattle.std.specs.Prelude.{◌≡◌, ◌==◌, ◌&&◌, ℕ, suc, Bool, false, IsTrue, List, [], ◌∷◌, ◌++◌, length, Option, None, Some}
use Rattle.guards_model.specs.Missions.{MissionValue, ActuatorValue}
use Rattle.guards_model.specs.Texts.{TextValue, RecordValue}
use Rattle.guards_audit.specs.Lines.{ReportLine, head_told, cycle_told, channel_told, steps_told, end_told, out_told, done_told, opened_record, closed_record, line_spelling, is_form, lines_in}
use Rattle.guards_audit.specs.Told.{Told, next_cycle_number, with_line, with_steps}
use Rattle.guards_audit.specs.Tests.{cycle_fits, channel_fits, steps_fit, end_fits, words_fit}

-- where in a trace a line stands
pub data Place : Type 0 where
  -- before the head line
  at_head : Place
  -- after the head line and so many whole cycles
  between : Told → Place
  -- in the cycle after these, of which so much was told
  amid : Told → RecordValue → Place
  -- after the end line of the latest of these cycles, where the words of an actuator have to follow
  awaits_out : Told → Place
  -- after the last line
  at_end : Place

-- whether a line suits its place: it stands where such a line may, and says what the lines before it leave open
abbrev pub suits_place : MissionValue → Place → ReportLine → Bool
suits_place M at_head (head_told channels cycles) = channels == M.rules.channels && cycles == M.cycles
suits_place M (between told) (cycle_told c active transfer) = cycle_fits M told c active transfer
suits_place M (between told) (done_told cycles) = next_cycle_number told == M.cycles && cycles == M.cycles
suits_place M (amid told r) (channel_told l) = channel_fits M told r l
suits_place M (amid told r) (steps_told t) = steps_fit M told r t
suits_place M (amid told r) (end_told removed joined remaining) = end_fits M told r removed joined remaining
suits_place M (awaits_out told) (out_told words) = words_fit M.actuator told words
suits_place M _ _ = false

-- whether a line fits: it is of its form, and suits its place
abbrev pub fits : MissionValue → Place → ReportLine → Bool
fits M place line = is_form line && suits_place M place line

-- the place after the end line of a cycle
abbrev pub after_cycle : Option ActuatorValue → Told → Place
after_cycle None told = between told
after_cycle (Some a) told = awaits_out told

-- the place after a line
abbrev pub following_place : MissionValue → Place → ReportLine → Place
following_place M (between told) (cycle_told c active transfer) = amid told (opened_record c active transfer)
following_place M (between told) (done_told cycles) = at_end
following_place M (amid told r) (channel_told l) = amid told (with_line r l)
following_place M (amid told r) (steps_told t) = amid told (with_steps r t)
following_place M (amid told r) (end_told removed joined remaining) =
    after_cycle M.actuator (closed_record r removed joined remaining ∷ told)
following_place M (awaits_out told) (out_told words) = between told
following_place M at_head _ = between []
following_place M place _ = place

-- A line is good at its place: it spells what fits there.
abbrev pub IsGood : MissionValue → Place → TextValue → Type 0
IsGood M place text = (line : ReportLine) × (text ≡ line_spelling line) × IsTrue (fits M place line)

-- Lines are good, one after the other, from a place to another.
abbrev pub AreGood : MissionValue → Place → List TextValue → Place → Type 0
AreGood M place [] last = place ≡ last
AreGood M place (text ∷ texts) last =
    (line : ReportLine) × (text ≡ line_spelling line) × IsTrue (fits M place line)
    × AreGood M (following_place M place line) texts last

-- A trace is consistent where all its lines are good and the last one is `done`.
abbrev pub IsConsistent : MissionValue → TextValue → Type 0
IsConsistent M trace = AreGood M at_head (lines_in trace) at_end

-- Some lines do not go on from a place: the first one is not good, or there is none before the trace is over.
abbrev pub TraceBreaksOff : MissionValue → Place → List TextValue → Type 0
TraceBreaksOff M place [] = place ≡ at_end → ⊥
TraceBreaksOff M place (text ∷ texts) = IsGood M place text → ⊥

-- The number of the first line that is not good, or one more than the number of lines where the trace ends too early.
pub record IsFirstBad (M : MissionValue) (trace : TextValue) (number : ℕ) : Type 0 where
  pub before : List TextValue
  pub rest : List TextValue
  pub place : Place
  pub lines : lines_in trace ≡ before ++ rest
  pub good : AreGood M at_head before place
  pub breaks : TraceBreaksOff M place rest
  pub counted : number ≡ suc (length before)
