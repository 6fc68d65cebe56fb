-- A channel whose vote is wrong, and what comes of it in the next cycle.
use Rattle.std.specs.Prelude.{◌≡◌, ◌==◌, Bool, false, ◌&&◌, ◌||◌, nat_lt, IsTrue, ℤ, List, ◌∷◌, map, count_by, Option, Some, None, is_none, option_map, if◌then◌else◌}
use Rattle.std.specs.List.{list_any}
use Rattle.guards_model.specs.declared.Slot.TheVariants.{Vote, Switch}
use Rattle.guards_model.specs.Channels.{Channel, has, place_or, tolerated_faults}
use Rattle.guards_model.specs.Missions.{MissionValue, output_words}
use Rattle.guards_model.specs.Frames.{SourceValue}
use Rattle.guards_model.specs.Network.{ballot_of}
use Rattle.guards_model.specs.Voting.{is_wrong}
use Rattle.guards_model.specs.Modes.{is_up}
use Rattle.guards_runs.specs.Cycles.{Past, Cycle, this_cycle, mode_in, received_body}
use Rattle.guards_runs.specs.Due.{context_or_none}
use Rattle.guards_runs.specs.Disturbed.{is_charge, disturbed_channels}

-- every other active channel received no ballot of the channel, or one that differs from the output words of the ideal
-- context
abbrev pub VotesWrong : MissionValue → Past → Cycle → Channel → Type 0
VotesWrong M past e q =
    (j : Channel) → IsTrue (has e.active j) → (q == j) ≡ false →
    IsTrue (is_wrong (map (λ w. Some w) (output_words M e.ideal_context))
    (ballot_of (received_body M e.entries (this_cycle past) Vote q j)))

-- The vote of a channel that is up in its slot, of whose pieces up to then none was lost or forged, and whose output
-- words differ from those of the ideal context, as where damage has reached them.
pub record SendsWrong (M : MissionValue) (past : Past) (e : Cycle) (q : Channel) : Type 0 where
  pub up : IsTrue (is_up (mode_in e q Vote))
  pub intact : list_any (is_charge (this_cycle past) Vote q) e.entries ≡ false
  pub wrong : IsTrue (is_wrong (map (λ w. Some w) (output_words M e.ideal_context))
      (Some (output_words M (context_or_none (place_or e.contexts_after q None)))))

-- ---- the exact condition

-- the ballot that j has of q: its own output words, or what it received
abbrev pub ballot_had : MissionValue → Past → Cycle → Channel → Channel → Option (List ℤ)
ballot_had M past e q j =
    if q == j then option_map (output_words M) (place_or e.contexts_after j None)
    else ballot_of (received_body M e.entries (this_cycle past) Vote q j)

-- Whether j finds the vote of q wrong, and tells so in the next cycle, if it is active in it: both are active, and it
-- has a ballot of q that differs from the output words of the ideal context, or none. Who has just joined was not
-- active.
abbrev pub finds_wrong : MissionValue → Past → Cycle → Channel → Channel → Bool
finds_wrong M past e q j =
    has e.active j
    && (is_wrong (map (λ w. Some w) (output_words M e.ideal_context)) (ballot_had M past e q j) && has e.active q)

-- whether a word is there and accuses a channel
abbrev pub word_accuses : Channel → Option SourceValue → Bool
word_accuses q None = false
word_accuses q (Some word) = has word.accuse q

-- whether j counts in the next cycle against q: by what it found, or, where it is disturbed then, by what is agreed
-- that it says
abbrev pub counts_against : MissionValue → Past → Cycle → Cycle → Channel → Channel → Bool
counts_against M past e next q j =
    if has (disturbed_channels (this_cycle (e ∷ past)) next Switch) j then word_accuses q (place_or next.agreed j None)
    else finds_wrong M past e q j

-- The judgement after a vote: an active channel is judged just where its agreed word is missing, or where more active
-- channels count against it than disturbed ones are tolerated.
abbrev pub IsJudgedByVote : MissionValue → Past → Cycle → Cycle → Channel → Type 0
IsJudgedByVote M past e next q =
    has next.judged q
    ≡ (has next.active q
    && (is_none (place_or next.agreed q None)
    || nat_lt (tolerated_faults next.active) (count_by (counts_against M past e next q) next.active)))
