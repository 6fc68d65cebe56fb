-- A channel that is up has a context, whatever the log holds: an induction over the cycles.
use Rattle.std.proofs.Common.{◌≡◌, ℕ, zero, suc, ◌<◌, Bool, true, false, cond, ◌∷◌, length, Option, Some, None, refl, sym, ap, ◌∙◌}
use Rattle.std.specs.Prelude.{option_map}
use Rattle.std.specs.List.{list_any}
use Rattle.guards_model.specs.declared.Slot.{Slot}
use Rattle.guards_model.specs.declared.Slot.TheVariants.{Vote, Switch}
use Rattle.guards_model.specs.Channels.{Channel, has, place_or}
use Rattle.guards_model.specs.Contexts.{ContextValue}
use Rattle.guards_model.specs.Damages.{damaged_by}
use Rattle.guards_model.specs.Missions.{MissionValue}
use Rattle.guards_model.specs.Modes.{ModeValue, up, down, waiting, joining, is_up, is_crash_by, is_restart, mode_at_end}
use Rattle.guards_model.specs.Network.{Log}
use Rattle.guards_runs.specs.Cycles.{Past, mode_in, mode_after, context_after, is_whole, active_set, next_cycle, cycles_before}
use Rattle.guards_laws.proofs.HeldIdeal.{slot_up, started_up, start, start-is, slot_mode, before-is, held-is, work, up_on_bus}
use Rattle.guards_world.specs.Arrivals.{HaveWorked}

abbrev IsThere : Option ContextValue → Type 0
IsThere o = (ctx : ContextValue) × (o ≡ Some ctx)

mapped : (f : ContextValue → ContextValue) (o : Option ContextValue) → IsThere o → IsThere (option_map f o)
mapped f o there = (f there.0, ap (option_map f) there.1)

-- a channel that is up in some slot was up before the cycle, and had a context; it has one after the writes
worked_from : (M : MissionValue) (L : Log) (past : Past) (q : Channel) → q < 7 →
    (mode_after M past q ≡ up → IsThere (context_after M past q)) → (slot : Slot) →
    mode_in (next_cycle M L past) q slot ≡ up → IsThere (place_or (next_cycle M L past).contexts_after q None)
worked_from M L past q low had slot mode =
    let started : start M L past q low ≡ up =
    slot_up (list_any (is_crash_by q (length past) slot) M.script) (start M L past q low)
    (sym (slot_mode M L past q low slot (up_on_bus M L past q slot (ap is_up mode))) ∙ mode) in
    let was : mode_after M past q ≡ up =
    started_up (list_any (is_restart q (length past)) M.script) (mode_after M past q)
    (sym (start-is M L past q low) ∙ started) in
    let context = mapped (damaged_by M.script q (length past)) (context_after M past q) (had was) in
    let before : place_or (next_cycle M L past).contexts_before q None ≡ Some context.0 =
    before-is M L past q low ∙ ap
    (λ m. cond (is_up m) (option_map (damaged_by M.script q (length past)) (context_after M past q)) None) started
    ∙ context.1 in
    (work M L past q low context.0, held-is M L past q low ∙ ap (option_map (work M L past q low)) before)

-- who is up at a cycle's end took a final content, or was up in its last slot
ended : (k : ℕ) (on whole : Bool) (m : ModeValue) (x : Option ContextValue) (ideal : ContextValue) →
    mode_at_end k on whole m ≡ up → (m ≡ up → IsThere x) → IsThere (cond whole (Some ideal) x)
ended k on true m x ideal h had = (ideal, refl)
ended k on false up x ideal h had = had refl
ended k on false down x ideal h had = absurd cc
ended k on false (waiting n) x ideal h had = absurd cc
ended k on false joining x ideal h had = absurd cc

has_context : (M : MissionValue) (L : Log) (n : ℕ) (q : Channel) → q < 7 → mode_after M (cycles_before M L n) q ≡ up →
    IsThere (context_after M (cycles_before M L n) q)
has_context M L zero q low h = (M.initial, refl)
has_context M L (suc n) q low h =
    let past = cycles_before M L n in
    let e = next_cycle M L past in
    ended M.return_after (has (active_set M (e ∷ past)) q) (is_whole q (e ∷ past)) (mode_in e q Switch)
    (place_or e.contexts_after q None) e.ideal_context h
    (worked_from M L past q low (has_context M L n q low) Switch)

pub all_worked : (M : MissionValue) (L : Log) (n : ℕ) → HaveWorked M L n
all_worked M L n q low mode = worked_from M L (cycles_before M L n) q low (has_context M L n q low) Vote mode
