-- What the lines of a report tell, one after the other, and which line may come at a place.
use Rattle.std.specs.Prelude.{ℕ, suc, ◌-◌, ◌==◌, Bool, true, false, not, ◌&&◌, ◌||◌, nat_le, nat_lt, ℤ, List, [], ◌∷◌, ◌++◌, length, replicate, Option, Some, None, Result, Ok, Err, if◌then◌else◌}
use Rattle.guards_model.specs.Channels.{Channel, ChannelSet, has, union}
use Rattle.guards_model.specs.Missions.{within}
use Rattle.guards_model.specs.Transfers.{TransferValue}
use Rattle.guards_model.specs.Texts.{TextValue, LineValue}
use Rattle.guards_audit.specs.Lines.{ReportLine, head_told, cycle_told, channel_told, steps_told, end_told, out_told, done_told, stop_told, if_there, lines_in}
use Rattle.guards_audit.specs.Reading.{line_read}
use Rattle.run_audit.specs.declared.line.Sizes.{Sizes}
use Rattle.picture_marks.specs.declared.facts.CycleFacts.{CycleFacts}
use Rattle.picture_marks.specs.declared.facts.End.{End}
use Rattle.picture_marks.specs.declared.facts.End.TheVariants as ending
use Rattle.report_story.specs.declared.reader.RunSizes.{RunSizes}
use Rattle.report_story.specs.declared.reader.Stage.{Stage}
use Rattle.report_story.specs.declared.reader.Stage.TheVariants as stage

-- What the lines so far told: where the next one stands, the mission's channels and cycles, how many inputs and
-- outputs the lines have once one was there, the whole cycles, what was told of the last cycle that has begun, and the
-- end.
pub record StoryPlace : Type 0 where
  pub stage : Stage
  pub channels : ℕ
  pub cycles : ℕ
  pub sizes : Option Sizes
  pub told : List CycleFacts
  pub last : CycleFacts
  pub ending : End

-- ---- what a line adds to a cycle's facts

abbrev pub pair_of : Option TransferValue → Option (ChannelSet × ℕ)
pair_of None = None
pair_of (Some t) = Some (t.targets, t.start)

-- a cycle of which nothing is told but its first line, and what the cycle before told of its transfer and its joins
abbrev pub begun_story : ℕ → ChannelSet → Option TransferValue → Option (ChannelSet × ℕ) → ChannelSet → CycleFacts
begun_story c active transfer before arrived =
    record {
      cycle = c;
      active = active;
      transfer = pair_of transfer;
      before = before;
      arrived = arrived;
      ran = [];
      judged = [];
      counts = replicate 7 0;
      votes = replicate 8 None;
      removed = [];
      joined = [];
      remaining = None;
    }

-- a list with a default in each place that it lacks
abbrev pub filled : {A : Type 0} → ℕ → A → List A → List A
filled n default xs = xs ++ replicate (n - length xs) default

-- a channel's line tells that it ran; the first one tells the judgement, the counts and the votes
abbrev pub with_story_line : CycleFacts → LineValue → CycleFacts
with_story_line f l =
    if length f.ran == 0
    then record f {
      ran = union f.ran (l.channel ∷ []);
      judged = l.judged;
      counts = filled 7 0 l.counts;
      votes = filled 8 None l.votes;
    }
    else record f { ran = union f.ran (l.channel ∷ []) }

abbrev pub ended_story : CycleFacts → ChannelSet → ChannelSet → Option ℕ → CycleFacts
ended_story f removed joined remaining = record f { removed = removed; joined = joined; remaining = remaining }

-- ---- which line may come

abbrev pub is_story_head : Stage → Bool
is_story_head stage.Head = true
is_story_head _ = false

abbrev pub is_between : Stage → Bool
is_between stage.Between = true
is_between stage.Ended = true
is_between _ = false

abbrev pub is_story_ended : Stage → Bool
is_story_ended stage.Ended = true
is_story_ended _ = false

abbrev pub is_story_amid : Stage → Bool
is_story_amid stage.Amid = true
is_story_amid _ = false

-- the lines of channels all have as many inputs and outputs as the first one, which has some that a mission may have
abbrev pub sizes_fit : Option Sizes → ℕ → ℕ → Bool
sizes_fit None width outputs = within 1 4 width && within 1 8 outputs
sizes_fit (Some s) width outputs = width == s.width && outputs == s.outputs

abbrev pub story_words_fit : Option Sizes → List ℤ → Bool
story_words_fit None words = false
story_words_fit (Some s) words = length words == s.outputs

-- an active channel that has no line yet
abbrev pub line_comes_next : CycleFacts → Channel → Bool
line_comes_next f q = has f.active q && not (has f.ran q)

abbrev pub line_fits : StoryPlace → LineValue → Bool
line_fits p l =
    (sizes_fit p.sizes (length l.inputs) (length l.votes) && length l.counts == p.channels)
    && line_comes_next p.last l.channel

-- the numbers are those of a mission, the cycles are told in their order, and the end comes where it says
abbrev pub suits_story : StoryPlace → ReportLine → Bool
suits_story p (head_told n m) = is_story_head p.stage && (within 3 7 n && within 1 2000 m)
suits_story p (cycle_told c active t) = is_between p.stage && (c == length p.told && nat_lt c p.cycles)
suits_story p (channel_told l) = is_story_amid p.stage && line_fits p l
suits_story p (steps_told t) = is_story_amid p.stage
suits_story p (end_told removed joined remaining) = is_story_amid p.stage && if_there (λ n. nat_le n 256) remaining
suits_story p (out_told words) = is_story_ended p.stage && story_words_fit p.sizes words
suits_story p (done_told m) = is_between p.stage && (m == p.cycles && length p.told == p.cycles)
suits_story p (stop_told s) = is_between p.stage && (s.cycle == length p.told && nat_lt s.cycle p.cycles)

-- where the mission is known, the report has its channels and cycles, and as many inputs and outputs
abbrev pub fits_mission : Option RunSizes → ReportLine → Bool
fits_mission None line = true
fits_mission (Some known) (head_told n m) = n == known.sizes.channels && m == known.cycles
fits_mission (Some known) (channel_told l) =
    length l.inputs == known.sizes.width && length l.votes == known.sizes.outputs
fits_mission (Some known) line = true

-- ---- what is told after it

abbrev pub story_sizes : StoryPlace → LineValue → Sizes
story_sizes p l = record { channels = p.channels; width = length l.inputs; outputs = length l.votes }

abbrev pub story_after : StoryPlace → ReportLine → StoryPlace
story_after p (head_told n m) = record p { stage = stage.Between; channels = n; cycles = m; sizes = None }
story_after p (cycle_told c active t) =
    record p { stage = stage.Amid; last = begun_story c active t p.last.transfer p.last.joined }
story_after p (channel_told l) = record p { sizes = Some (story_sizes p l); last = with_story_line p.last l }
story_after p (steps_told t) = p
story_after p (end_told removed joined remaining) =
    record p {
      stage = stage.Ended;
      last = ended_story p.last removed joined remaining;
      told = p.told ++ ended_story p.last removed joined remaining ∷ [];
    }
story_after p (out_told words) = record p { stage = stage.Between }
story_after p (done_told m) = record p { stage = stage.Over; ending = ending.Done }
story_after p (stop_told s) = record p { stage = stage.Over; ending = ending.Stop s.cycle s.slot s.set s.active }

-- ---- all lines

-- before the first line, which tells how many channels there are
abbrev pub at_first : StoryPlace
at_first =
    record {
      stage = stage.Head;
      channels = 3;
      cycles = 0;
      sizes = None;
      told = [];
      last = begun_story 0 [] None None [];
      ending = ending.Cut;
    }

-- the place after a line, if it is one that may come here
abbrev pub if_suits : Option RunSizes → StoryPlace → Option ReportLine → Option StoryPlace
if_suits known p None = None
if_suits known p (Some line) =
    if fits_mission known line && suits_story p line then Some (story_after p line) else None

-- What the lines tell after so many others, or the number of the first line that may not come where it stands. A report
-- has a first line.
abbrev pub story_told : Option RunSizes → ℕ → Option StoryPlace → List TextValue → Result StoryPlace ℕ
story_told known n None texts = Err n
story_told known n (Some p) [] = if is_story_head p.stage then Err (suc n) else Ok p
story_told known n (Some p) (text ∷ texts) = story_told known (suc n) (if_suits known p (line_read text)) texts

-- what a report tells, of a mission that is known or of any
unfoldable pub story_of : Option RunSizes → TextValue → Result StoryPlace ℕ
story_of known text = story_told known 0 (Some at_first) (lines_in text)
