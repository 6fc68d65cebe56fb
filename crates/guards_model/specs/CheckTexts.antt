-- The lines of the text of `check` and of the summary of a demo, from the numbers and texts that they tell.
use Rattle.std.specs.Prelude.{ℕ, ℤ, List, [], ◌∷◌, ◌++◌, map, Option, Some, None, codes}
use Rattle.std.specs.List.{join_with_byte}
use Rattle.std.specs.Fmt.{decimal}
use Rattle.guards_model.specs.Texts.{TextValue, Part, line_end, vote_text}

-- ---- the text of `check`

abbrev pub sizes_line : ℕ → ℕ → ℕ → TextValue
sizes_line channels cycles blocks =
    codes "check channels " ++ decimal channels ++ codes " cycles " ++ decimal cycles ++ codes " blocks "
    ++ decimal blocks ++ line_end

abbrev pub rounds_line : ℕ → TextValue
rounds_line rounds = codes "rounds " ++ decimal rounds ++ line_end

abbrev pub writes_line : ℕ → TextValue
writes_line writes = codes "writes " ++ decimal writes ++ line_end

-- a bound of a join, or `-` where there is none
abbrev pub bound_text : Option ℕ → TextValue
bound_text None = codes "-"
bound_text (Some n) = decimal n

abbrev pub join_line : Option ℕ → TextValue
join_line bound = codes "join " ++ bound_text bound ++ line_end

-- the first four lines: the sizes, the rounds of a cycle, the most blocks that a row writes, and the bound of a join
abbrev pub check_head_part : ℕ → ℕ → ℕ → ℕ → ℕ → Option ℕ → Part
check_head_part channels cycles blocks rounds writes bound =
    sizes_line channels cycles blocks ∷ rounds_line rounds ∷ writes_line writes ∷ join_line bound ∷ []

-- the line of an expression: its row, its task, the block and the word that it is stored in, and its text
abbrev pub expression_line : ℕ → TextValue → ℕ → ℕ → TextValue → TextValue
expression_line row task block word text =
    codes "row " ++ decimal row ++ codes " task " ++ task ++ codes " b" ++ decimal block ++ codes "." ++ decimal word
    ++ codes " = " ++ text ++ line_end

-- ---- the summary of a demo

abbrev pub demo_line : ℕ → TextValue
demo_line n = codes "demo " ++ decimal n ++ line_end

abbrev pub demo_sizes_line : TextValue
demo_sizes_line = codes "channels 7 blocks 128 cycles 400" ++ line_end

abbrev pub changes_line : ℕ → ℕ → TextValue
changes_line joins removals = codes "joins " ++ decimal joins ++ codes " removals " ++ decimal removals ++ line_end

abbrev pub frames_line : ℕ → TextValue
frames_line frames = codes "frames " ++ decimal frames ++ line_end

abbrev pub last_votes_line : List (Option ℤ) → TextValue
last_votes_line votes = codes "last " ++ join_with_byte 44 (map vote_text votes) ++ line_end

-- the five lines: the demo's number, its sizes, the channels joined and removed, the frames carried, and the last votes
abbrev pub summary_part : ℕ → ℕ → ℕ → ℕ → List (Option ℤ) → Part
summary_part n joins removals frames votes =
    demo_line n ∷ demo_sizes_line ∷ changes_line joins removals ∷ frames_line frames ∷ last_votes_line votes ∷ []
