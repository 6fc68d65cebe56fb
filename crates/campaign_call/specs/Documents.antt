-- The document of the mission of a run. This project's own.
use Rattle.std.specs.Prelude.{ℕ, List, ◌++◌}
use Rattle.guards_model.specs.Missions.{MissionValue}
use Rattle.guards_model.specs.Texts.{TextValue, line_end}
use Rattle.campaign_draws.specs.declared.rates.Rates.{Rates}
use Rattle.campaign_draws.specs.Drawing.{drawn_faults, sizes_of}
use Rattle.script_text.specs.ScriptTexts.{script_text}

-- behind the bytes of the mission: on a new line the entries that the number draws
unfoldable pub drawn_text : MissionValue → Rates → ℕ → TextValue
drawn_text M rates x = line_end ++ script_text (drawn_faults (sizes_of M) rates x)

abbrev pub run_document : List ℕ → MissionValue → Rates → ℕ → TextValue
run_document bytes M rates x = bytes ++ drawn_text M rates x
