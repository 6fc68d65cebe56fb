-- A mission that was read is a mission.
use Rattle.std.proofs.Common.{◌≡◌, ℕ, ◌≤◌, true, List, [], length, Option, Some, None, Ok, codes, refl, subst}
use Rattle.std.specs.Prelude.{nat_le}
use Rattle.std.specs.Str.{is_utf8}
use Rattle.std.proofs.lemmas.Bool.{leb-true}
use Rattle.toml.specs.Data.{Members}
use Rattle.toml.specs.Parse.{parse_document}
use Rattle.guards_model.specs.Missions.{MissionValue, IsMission}
use Rattle.guards_model.proofs.BoolTests.{both}
use Rattle.fault_entries.specs.FaultTexts.{script_field}
use Rattle.document_checks.specs.Checks.{fails, required, only, table_in, document}
use Rattle.mission_text.specs.declared.core_fields.CoreFields.{CoreFields}
use Rattle.mission_text.specs.Core.{core_at, rules_of}
use Rattle.mission_text.specs.Blocks.{initial_field}
use Rattle.mission_text.specs.Rows.{table_field}
use Rattle.mission_text.specs.Outputs.{outputs_field}
use Rattle.mission_text.specs.Sensors.{sensors_field}
use Rattle.mission_text.specs.Actuators.{actuator_field}
use Rattle.mission_text.specs.Mission.{document_keys, mission_after, mission_at, mission_of}
use Rattle.mission_laws.specs.Integers.{members_hold_words}
use Rattle.mission_laws.proofs.ReadWords.{document_holds}
use Rattle.mission_laws.proofs.CheckedWords.{Passes, passes_ok, passes_err, passes_if}
use Rattle.mission_laws.proofs.CoreRanges.{CoreIn, core_in, core_parts}
use Rattle.mission_laws.proofs.KeyRanges.{Gives, gives_then, outputs_in, table_in as whole_table_in, initial_in, sensors_in, script_in}
use Rattle.mission_laws.proofs.ActuatorRanges.{actuator_in}

gives_ok : (M : MissionValue) → IsMission M → Gives IsMission (Ok M)
gives_ok M h N is = let e : M ≡ N = cc in subst IsMission e h

mission_is : (core : CoreFields) → CoreIn core → (fields : Members) → members_hold_words fields ≡ true
    → Gives IsMission (mission_after core fields)
unfolding mission_after
mission_is core known fields all =
    let blocks = core.sizes.blocks in let width = core.sizes.width in let channels = core.sizes.channels in
    let sizes = both (nat_le 1 blocks) (nat_le blocks 256) known.blocks in
    let some : 1 ≤ blocks = leb-true 1 blocks sizes.0 in
    let few : blocks ≤ 256 = leb-true blocks 256 sizes.1 in
    gives_then IsMission (initial_field blocks fields) _ (λ initial a.
    gives_then IsMission (table_field blocks width fields) _ (λ table b.
    gives_then IsMission (outputs_field blocks width fields) _ (λ outputs c.
    gives_then IsMission (sensors_field channels width fields) _ (λ sensors d.
    gives_then IsMission (script_field channels core.sizes.cycles blocks fields) _ (λ script e.
    gives_then IsMission (actuator_field (length outputs) fields) _ (λ actuator g.
    let M : MissionValue = record {
      rules = rules_of core;
      cycles = core.sizes.cycles;
      width = width;
      return_after = core.limits.return_after;
      initial = initial;
      table = table;
      outputs = outputs;
      sensors = sensors;
      script = script;
      actuator = actuator;
    } in
    gives_ok M (record {
      rules = known.rules;
      cycles = known.cycles;
      width = known.width;
      return_after = known.return_after;
      initial = initial_in blocks some fields all initial a;
      table = whole_table_in blocks width few fields all table b;
      outputs = outputs_in blocks width few fields all outputs c;
      sensors = sensors_in channels width fields all sensors d;
      script = script_in channels core.sizes.cycles blocks fields all script e M refl refl refl;
      actuator = actuator_in (length outputs) fields all actuator g;
    })))))))

document_is : (fields : Members) → members_hold_words fields ≡ true → Gives IsMission (mission_at fields)
unfolding mission_at
document_is fields all =
    gives_then IsMission (only document_keys [] fields) _ (λ _ _.
    gives_then IsMission (required [] (codes "core") fields) _ (λ given _.
    gives_then IsMission (core_at (codes "core") given) _ (λ core read.
    mission_is core (core_parts core (core_in (codes "core") given core read)) fields all)))

table_of_document : (given : Option Members)
    → ((fields : Members) → given ≡ Some fields → members_hold_words fields ≡ true)
    → Passes members_hold_words (table_in given)
table_of_document None h = passes_err members_hold_words _
table_of_document (Some fields) h = passes_ok members_hold_words fields (h fields refl)

document_words : (bytes : List ℕ) → Passes members_hold_words (document bytes)
document_words bytes =
    passes_if members_hold_words (is_utf8 bytes) (table_in (parse_document bytes)) (fails _ (codes "-"))
    (λ _. table_of_document (parse_document bytes) (document_holds bytes)) (passes_err members_hold_words _)

pub read_missions : (bytes : List ℕ) (M : MissionValue) → mission_of bytes ≡ Ok M → IsMission M
unfolding mission_of
read_missions bytes =
    gives_then IsMission (document bytes) _ (λ fields given. document_is fields (document_words bytes fields given))
