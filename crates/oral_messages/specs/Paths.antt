-- What a path of the code stands for.
use Rattle.std.specs.Prelude.{[], ◌∷◌, slice_index, ◌==◌, if◌then◌else◌}
use Rattle.guards_model.specs.OralMessages.{PathValue}
use Rattle.oral_messages.specs.declared.words.Path.{Path}

-- a path of one to three labels, the last one first
abbrev pub path_of : Path → PathValue
path_of p =
    if p.count == 1 then slice_index p.at 0 ∷ []
    else (if p.count == 2 then slice_index p.at 1 ∷ slice_index p.at 0 ∷ []
    else (slice_index p.at 2 ∷ slice_index p.at 1 ∷ slice_index p.at 0 ∷ []))
