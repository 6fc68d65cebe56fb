use Rattle.std.proofs.Common.{◌≡◌, ◌<◌, ◌≤◌, ◌==◌, ◌%◌, ℤ, true, List, [], length, map, get_or, ap, sym, subst, ◌∙◌, refl, arith}
use Rattle.std.specs.Prelude.{slice_get, unwrap_or}
use Rattle.std.specs.List.{list_all}
use Rattle.guards_base.specs.Padding.{padded}
use Rattle.guards_base.specs.Seen.{Seen}
use Rattle.guards_model.specs.Missions.{MissionValue, row_in_turn, sensor}
use Rattle.mission_type.specs.Parts.{in_use, rows_of}
use Rattle.mission_type.proofs.MissionSizes.{sized}
use Rattle.mission_type.proofs.SensorRows.{row_length, words_there, rows_within}
use Rattle.mission_type.proofs.mission.Mission.sensor.Goals as goal

pub bounds-as_slice-index : goal.bounds-as_slice-index
bounds-as_slice-index c =
    let raw = c.as_slice-rows.result.now in
    let same = c.as_slice-rows.ensures in
    let width = c.self.inside.width in
    let good = sized _ c.self.invariant.mission in
    let some : 1 ≤ length raw =
    rows_within raw width (subst (λ (rows : List (Seen (List ℤ))). 1 ≤ length (in_use width rows)) (sym same)
    good.turns) in
    let lt : c.args.cycle % length raw < length raw = omega arith in
    let each = subst (λ (rows : List (Seen (List ℤ))).
    list_all (λ (r : List (List ℤ)). length r == c.self.inside.rules.channels) (in_use width rows) ≡ true)
    (sym same) good.each in
    let long = row_length raw width (c.args.cycle % length raw) c.index-rows-cycle.result lt c.index-rows-cycle.is
    c.self.inside.rules.channels each in
    let low : c.args.chan < c.self.inside.rules.channels =
    subst (λ (M : MissionValue). c.args.chan < M.rules.channels) (sym c.self.view_is) c.requires in
    let number = c.index.ensures.number in
    let held : length c.as_slice.result.now ≡ length c.index-rows-cycle.result.items = ap length c.as_slice.ensures in
    omega arith

pub returns : goal.returns
returns c =
    let raw = c.as_slice-rows.result.now in
    let same = c.as_slice-rows.ensures in
    let width = c.self.inside.width in
    let row = c.index-rows-cycle.result in
    let good = sized _ c.self.invariant.mission in
    let some : 1 ≤ length raw =
    rows_within raw width (subst (λ (rows : List (Seen (List ℤ))). 1 ≤ length (in_use width rows)) (sym same)
    good.turns) in
    let lt : c.args.cycle % length raw < length raw = omega arith in
    let each = subst (λ (rows : List (Seen (List ℤ))).
    list_all (λ (r : List (List ℤ)). length r == c.self.inside.rules.channels) (in_use width rows) ≡ true)
    (sym same) good.each in
    let zeros = subst (λ (rows : List (Seen (List ℤ))). rows_of rows ≡ map (map (padded 4)) (in_use width rows))
    (sym same) c.self.invariant.zeros in
    let long = row_length raw width (c.args.cycle % length raw) row lt c.index-rows-cycle.is
    c.self.inside.rules.channels each in
    let low : c.args.chan < c.self.inside.rules.channels =
    subst (λ (M : MissionValue). c.args.chan < M.rules.channels) (sym c.self.view_is) c.requires in
    subst (λ (M : MissionValue). get_or c.as_slice.result.now c.index.result []
    ≡ padded 4 (sensor M c.args.chan c.args.cycle)) c.self.view_is
    (ap (λ (l : List (List ℤ)). get_or l c.index.result []) c.as_slice.ensures
    ∙ ap (λ k. get_or row.items k []) c.index.ensures.number
    ∙ words_there raw width (c.args.cycle % length raw) row lt c.index-rows-cycle.is zeros c.args.chan c.args.cycle
    (omega arith) refl
    ∙ ap (λ (rows : List (Seen (List ℤ))).
    padded 4 (unwrap_or (slice_get (row_in_turn (in_use width rows) c.args.cycle) c.args.chan) [])) same)
