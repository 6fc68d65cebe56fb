-- The trace of two cycles without faults, with and without an actuator, and texts made of it.
use Rattle.std.specs.Prelude.{ℕ, ◌-◌, ◌+◌, pos, List, [], ◌∷◌, ◌++◌, flat_map, take, drop, codes, Option, Some}
use Rattle.guards_model.specs.Missions.{MissionValue}
use Rattle.guards_audit.specs.Verdicts.{first_bad}
use Rattle.model_rows.specs.TwoCycles as two_cycles

abbrev pub lines : List (List ℕ)
lines =
    codes "guards channels 4 cycles 2\n"
    ∷ codes "cycle 0 active 0,1,2,3 transfer -\n"
    ∷ codes "ch 0 in 5 vote 5 judged - alpha 0,0,0,0\n"
    ∷ codes "ch 1 in 5 vote 5 judged - alpha 0,0,0,0\n"
    ∷ codes "ch 2 in 5 vote 5 judged - alpha 0,0,0,0\n"
    ∷ codes "ch 3 in 5 vote 5 judged - alpha 0,0,0,0\n"
    ∷ codes "trace 0 T\n"
    ∷ codes "trace 1 T\n"
    ∷ codes "trace 2 T\n"
    ∷ codes "trace 3 T\n"
    ∷ codes "end removed - joined - remaining -\n"
    ∷ codes "cycle 1 active 0,1,2,3 transfer -\n"
    ∷ codes "ch 0 in 5 vote 10 judged - alpha 0,0,0,0\n"
    ∷ codes "ch 1 in 5 vote 10 judged - alpha 0,0,0,0\n"
    ∷ codes "ch 2 in 5 vote 10 judged - alpha 0,0,0,0\n"
    ∷ codes "ch 3 in 5 vote 10 judged - alpha 0,0,0,0\n"
    ∷ codes "trace 0 T\n"
    ∷ codes "trace 1 T\n"
    ∷ codes "trace 2 T\n"
    ∷ codes "trace 3 T\n"
    ∷ codes "end removed - joined - remaining -\n"
    ∷ codes "done 2\n"
    ∷ []

abbrev pub text : List (List ℕ) → List ℕ
text some = flat_map (λ line. line) some

-- the first line that is not good
abbrev pub bad_line : List ℕ → Option ℕ
bad_line trace = first_bad two_cycles.mission trace

-- the text with these lines in place of so many from line n on; lines are counted from 1
abbrev pub changed : ℕ → ℕ → List (List ℕ) → List ℕ
changed n many others = text (take (n - 1) lines ++ (others ++ drop (n - 1 + many) lines))

-- the text with another line n
abbrev pub with_line : ℕ → List ℕ → List ℕ
with_line n line = changed n 1 (line ∷ [])

-- ---- with an actuator that moves by 3 from 0

abbrev pub driven : MissionValue
driven = record two_cycles.mission { actuator = Some (record { steps = pos 3 ∷ []; start = pos 0 ∷ [] }) }

-- the text with these lines after the two end lines
abbrev pub with_words : List ℕ → List ℕ → List ℕ
with_words first second = text (take 11 lines ++ (first ∷ take 10 (drop 11 lines)) ++ (second ∷ drop 21 lines))
