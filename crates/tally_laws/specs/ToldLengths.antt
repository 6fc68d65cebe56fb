-- The longest transfer of a run, by the rules and the table alone. This project's own.
use Rattle.std.specs.Prelude.{ℕ, max, List, [], ◌∷◌, Option, unwrap_or}
use Rattle.guards_model.specs.Channels.{ChannelSet}
use Rattle.guards_model.specs.Missions.{MissionValue}
use Rattle.guards_model.specs.Transfers.{start_of}
use Rattle.recovery_laws.specs.Lengths.{row_of, transfer_length}
use Rattle.campaign_facts.specs.Facts.{FactsValue, PastFacts}

-- the length of a transfer by which some channels joined, and 0 where none did
abbrev pub joined_length : ChannelSet → Option ℕ → ℕ
joined_length [] length = 0
joined_length (q ∷ joined) length = unwrap_or length 0

-- the length that the row of its start tells of the transfer that ends with a cycle
abbrev pub told_length : MissionValue → FactsValue → ℕ
told_length M f = joined_length f.joined (transfer_length M (row_of M (start_of f.transfer)))

abbrev pub longest_told : MissionValue → PastFacts → ℕ
longest_told M [] = 0
longest_told M (f ∷ past) = max (longest_told M past) (told_length M f)
