-- What one more cycle does to a run, whatever its answer, and what its first and last line do.
use Rattle.std.proofs.Common.{◌≡◌, ◌≤◌, inl, inr, ◌-◌, ℕ, suc, Bool, List, [], ◌∷◌, ◌++◌, length, Option, None, Some, Result, Ok, Err, refl, sym, ap, subst, ◌∙◌, append_assoc, arith}
use Rattle.std.specs.Prelude.{min}
use Rattle.std.specs.Io.KnownBytes.{Appends}
use Rattle.std.proofs.KnownBytes.{Appends-nil, Appends-trans}
use Rattle.std.proofs.lemmas.Grind.{flat_map-append}
use Rattle.std.proofs.lemmas.List.{append-nil}
use Rattle.guards_model.specs.BusRules.{RuleValue}
use Rattle.guards_model.specs.Missions.{MissionValue, ActuatorValue}
use Rattle.guards_model.specs.Network.{EntryValue, Log, BusValue}
use Rattle.guards_model.specs.Records.{shown}
use Rattle.guards_model.specs.Rounds.{Histories}
use Rattle.guards_model.specs.Texts.{TextValue, Part, RecordValue, StopValue, part_text, text_of_parts, cycle_part, head_line, last_line, done_line, out_line, stop_line}
use Rattle.guards_world.specs.Worlds.{WorldValue, disturbed, no_memory, first_world}
use Rattle.guards_runs.specs.IdealReport.{head, last}
use Rattle.guards_io.specs.Writes.{AppendsPart, AppendsFront, Puts, WritesLine}
use Rattle.guards_io.specs.Views.{SinkView}
use Rattle.guards_io.specs.declared.writing.WriteStop.{WriteStop}
use Rattle.guards_io.specs.declared.writing.WriteStop.TheVariants as write
use Rattle.icn_world.specs.declared.world.Halt.{Halt}
use Rattle.icn_world.specs.declared.world.Halt.TheVariants as halt
use Rattle.icn_world.specs.Halts.{halt_value}
use Rattle.run_laws.specs.Runs.{HasCarried, with_unfinished}
use Rattle.run_laws.proofs.RunTold.{text_more}
use Rattle.output_gate.specs.Gates.{GateValue}
use Rattle.run_laws.specs.Driving.{CyclesRan, RunStopped, RunBroken, IsDriven, Drives, parts_of_whole, parts_driven, parts_told, told_text, with_words}
use Rattle.run_laws.proofs.Driving.{driven_mission, driven_cycles, driven_log, driven_ran, driven_short}
use Rattle.run_laws.proofs.Ends.{stopped_cycle, within_whole, size_of_told, text_whole, text_stopped}
use Rattle.world_run.specs.declared.stop.RunStop.{RunStop}
use Rattle.world_run.specs.declared.stop.RunStop.TheVariants.{Halted, WriteFault}
use Rattle.world_run.specs.Running.{WroteParts, EndsWith, Runs, RunsToStop, RunsToWriteFault, RunsOutOfMemory, IsAt, GoesTo, TellsHalt, bare_text, cycle_text, stop_text, stop_value, run_told_by, words_line}

-- ---- what is written

-- the line of the words stands behind the part
words_behind : (gate : Option GateValue) (part : Part) →
    part_text part ++ words_line gate ≡ part_text (with_words gate part)
words_behind None part = append-nil (part_text part)
words_behind (Some gate) part = line_behind part
  where
    line_behind : (part : Part) → part_text part ++ out_line gate.words ≡ part_text (part ++ out_line gate.words ∷ [])
    line_behind part = sym (flat_map-append (λ (line : TextValue). line) part (out_line gate.words ∷ [])
        ∙ ap (λ line. part_text part ++ line) (append-nil (out_line gate.words)))

pub part_is : (trace : Bool) (M K : MissionValue) (gate : Option GateValue) (part : RecordValue) → K ≡ M →
    cycle_text trace K gate part
    ≡ part_text (with_words gate (cycle_part trace (shown M.rules.channels M.width (length M.outputs) part)))
unfolding cycle_text bare_text
part_is trace M K gate part same =
    ap (λ (k : MissionValue). part_text (cycle_part trace (shown k.rules.channels k.width (length k.outputs) part))
    ++ words_line gate) same
    ∙ words_behind gate (cycle_part trace (shown M.rules.channels M.width (length M.outputs) part))

pub stop_is : (stop : StopValue) → stop_text stop ≡ stop_line stop
unfolding stop_text
stop_is stop = refl

pub head_is : (M : MissionValue) → head M ≡ head_line M.rules.channels M.cycles
unfolding head
head_is M = refl

pub last_is : (M : MissionValue) → last M ≡ done_line M.cycles
unfolding last
last_is M = refl

-- the whole text is a front of it
all_of_it : (old new : Option (List ℕ)) (text : TextValue) → Appends old new text → AppendsFront old new text
all_of_it old new text wrote = (text, [], sym (append-nil text), wrote)

-- after a text, a line that ends a call
then_line : (a b c : SinkView) (before line : TextValue) → Appends a.written b.written before → b.faults ≡ a.faults →
    WritesLine b c line → EndsWith a c before line
then_line a b c before line first kept (inl all) =
    inl (Appends-trans a.written b.written c.written before line first all.0, all.1 ∙ kept)
then_line a b c before line first kept (inr part) =
    let (front, tail, cut, some, wrote) = part.0 in
    inr (
      front,
      tail,
      cut,
      some,
      Appends-trans a.written b.written c.written before front first wrote,
      rw (← kept) part.1,
    )

-- after some parts, one that is not written to its end
then_part : (a b c : SinkView) (parts : List Part) (part : Part) (rest : List Part) (text : TextValue) →
    text ≡ part_text part → Appends a.written b.written (text_of_parts parts) → AppendsPart b.written c.written text →
    WroteParts a.written c.written (parts ++ part ∷ rest) (length parts)
then_part a b c parts part rest text same first second =
    let (front, tail, cut, some, wrote) = second in
    record {
      written = parts;
      next = part;
      rest = rest;
      order = refl;
      count = refl;
      front = front;
      tail = tail;
      cut = sym same ∙ cut;
      proper = some;
      grew = Appends-trans a.written b.written c.written (text_of_parts parts) front first wrote;
    }

-- ---- between two cycles

module _ (may : List RuleValue → EntryValue → Type 0) (trace : Bool) (M : MissionValue) (o : Option ActuatorValue)
    (start : BusValue) (begun : SinkView) (w : WorldValue) (bus : BusValue) (gate : Option GateValue)
    (out : SinkView) where
  pub at_mission : IsAt may trace M o start begun w bus gate out → w.mission ≡ M
  at_mission at = driven_mission may M start w bus gate at.0 at.1 o at.2

  pub at_cycles : IsAt may trace M o start begun w bus gate out → w.done ≤ w.mission.cycles
  at_cycles at = driven_cycles may M start w bus gate at.0 at.1 o at.2

-- ---- a cycle

module _ (may : List RuleValue → EntryValue → Type 0) (trace : Bool) (M : MissionValue) (o : Option ActuatorValue)
    (start : BusValue) (begun : SinkView) where
  module _ (w new : WorldValue) (bus after : BusValue) (gate gate_after : Option GateValue) (out out' : SinkView)
      (at : IsAt may trace M o start begun w bus gate out) where
    abbrev L : Log
    L = at.0

    abbrev histories : Histories
    histories = at.1

    abbrev told : TextValue
    told = text_of_parts (parts_driven o trace M L histories w.done)

    module _ (part : RecordValue) (d : Drives o may M start w L histories (Ok part) new after gate_after) where
      abbrev K : Log
      K = d.0

      abbrev more : Histories
      more = d.1

      next : IsDriven o may M start new after gate_after K more
      next = d.2

      done : new.done ≡ suc w.done
      done = d.3

      abbrev here : Part
      here = with_words gate_after (cycle_part trace (shown M.rules.channels M.width (length M.outputs) part))

      part_here : cycle_text trace new.mission gate_after part ≡ part_text here
      part_here = part_is trace M new.mission gate_after part
          (driven_mission may M start new after gate_after K more o next)

      parts_are : parts_driven o trace M K more new.done ≡ parts_driven o trace M L histories w.done ++ here ∷ []
      parts_are =
          ap (λ n. parts_driven o trace M K more n) done
          ∙ ap (λ (parts : List Part). (head_line M.rules.channels M.cycles ∷ []) ∷ parts) (d.4 trace)

      text_is : text_of_parts (parts_driven o trace M K more new.done)
          ≡ told ++ cycle_text trace new.mission gate_after part
      text_is = ap text_of_parts parts_are ∙ text_more (parts_driven o trace M L histories w.done) here
          ∙ ap (λ text. told ++ text) (sym part_here)

      goes_on : Puts out out' (cycle_text trace new.mission gate_after part) (Ok tt) →
          IsAt may trace M o start begun new after gate_after out' × (new.done ≡ suc w.done)
      goes_on wrote =
          let all = Appends-trans begun.written out.written out'.written told
          (cycle_text trace new.mission gate_after part) at.3 wrote.0 in
          ((K, more, next, subst (Appends begun.written out'.written) (sym text_is) all, wrote.1 ∙ at.4), done)

      unwritten : Puts out out' (cycle_text trace new.mission gate_after part) (Err write.Failed) →
          RunsToWriteFault may trace M o start after begun out'
      unwritten wrote =
          let ran = driven_ran may M start new after gate_after K more o next in
          let within : suc w.done ≤ M.cycles = omega (arith, within_whole M K more o new.done ran, done) in
          let carried : min (suc w.done) M.cycles ≡ new.done = grind (arith, within, done) in
          let parts = parts_driven o trace M L histories w.done in
          let size : length parts ≡ suc w.done = ap suc (size_of_told M L histories trace o w.done) in
          let order : parts_of_whole o trace M K more new.done ≡ parts ++ here ∷ (last_line M.cycles None ∷ []) ∷ [] =
          ap (λ (xs : List Part). xs ++ (last_line M.cycles None ∷ []) ∷ []) parts_are
          ∙ append_assoc parts (here ∷ []) ((last_line M.cycles None ∷ []) ∷ []) in
          let put = then_part begun out out' parts here ((last_line M.cycles None ∷ []) ∷ [])
          (cycle_text trace new.mission gate_after part) part_here at.3 wrote.0 in (
            K,
            more,
            suc w.done,
            driven_log may M start new after gate_after K more o next,
            subst (λ n. CyclesRan o M n K more) (sym carried) ran,
            subst (λ n. WroteParts begun.written out'.written (parts_of_whole o trace M K more n) (suc w.done))
                (sym carried)
                (subst (λ ps. WroteParts begun.written out'.written ps (suc w.done)) (sym order)
                (subst (λ n. WroteParts begun.written out'.written (parts ++ here ∷ (last_line M.cycles None ∷ []) ∷ [])
                n) size put)),
            rw (← at.4) wrote.1,
          )

      short : Puts out out' (cycle_text trace new.mission gate_after part) (Err write.Memory) →
          RunsOutOfMemory may trace M o start after begun out'
      short wrote = (
        K,
        more,
        new.done,
        driven_log may M start new after gate_after K more o next,
        driven_short may M start new after gate_after K more o next,
        (
          told,
          cycle_text trace new.mission gate_after part,
          text_is,
          subst (λ (x : SinkView). Appends begun.written x.written told) (sym wrote) at.3,
        ),
        ap (λ (x : SinkView). x.faults) wrote ∙ at.4,
      )

      pub step_done : (r : Result (Unit {0}) WriteStop) →
          Puts out out' (cycle_text trace new.mission gate_after part) r →
          GoesTo may trace M o start begun (suc w.done) new after gate_after out' (run_told_by r)
      step_done (Ok _) wrote = goes_on wrote
      step_done (Err write.Failed) wrote = unwritten wrote
      step_done (Err write.Memory) wrote = short wrote

    stops : (s : StopValue) → Drives o may M start w L histories (Err (disturbed s)) new after gate_after →
        WritesLine out out' (stop_text s) → RunsToStop may trace M o s start after begun out'
    stops s (K, ran, stopped, broken, same) line =
        let at_cycle : s.cycle ≡ w.done = stopped_cycle M K histories o w.done s stopped in
        let text : told_text o trace M K (with_unfinished (M.cycles - w.done) histories) ≡ told ++ stop_line s =
        text_stopped M K histories trace o w.done s stopped
        ∙ ap (λ (parts : List Part). text_of_parts ((head_line M.rules.channels M.cycles ∷ []) ∷ parts) ++ stop_line s)
        (same trace) in (
          K,
          histories,
          told,
          ran,
          subst (λ n. RunStopped o M n s K histories) (sym at_cycle) stopped,
          subst (λ n. told_text o trace M K (with_unfinished (M.cycles - n) histories) ≡ told ++ stop_line s)
              (sym at_cycle) text,
          then_line begun out out' told (stop_line s) at.3 at.4 (subst (WritesLine out out') (stop_is s) line),
        )

    -- memory ran out within the cycle, or for the line of its stop
    front_is_written : (K : Log) → parts_told o trace M K histories w.done ≡ parts_told o trace M L histories w.done →
        out' ≡ out →
        AppendsFront begun.written out'.written (text_of_parts (parts_driven o trace M K histories w.done))
    front_is_written K same kept =
        let wrote : Appends begun.written out'.written told =
        subst (λ (x : SinkView). Appends begun.written x.written told) (sym kept) at.3 in
        subst (λ (parts : List Part).
        AppendsFront begun.written out'.written
        (text_of_parts ((head_line M.rules.channels M.cycles ∷ []) ∷ parts))) (sym same)
        (all_of_it begun.written out'.written told wrote)

    stops_short : (s : StopValue) → Drives o may M start w L histories (Err (disturbed s)) new after gate_after →
        out' ≡ out → RunsOutOfMemory may trace M o start after begun out'
    stops_short s (K, ran, stopped, broken, same) kept = (
      K,
      histories,
      w.done,
      ran,
      broken,
      front_is_written K (same trace) kept,
      ap (λ (x : SinkView). x.faults) kept ∙ at.4,
    )

    runs_out : Drives o may M start w L histories (Err no_memory) new after gate_after → out' ≡ out →
        RunsOutOfMemory may trace M o start after begun out'
    runs_out (K, ran, broken, same) kept = (
      K,
      histories,
      w.done,
      ran,
      broken,
      front_is_written K (same trace) kept,
      ap (λ (x : SinkView). x.faults) kept ∙ at.4,
    )

    pub step_halted : (h : Halt) (stop : RunStop) →
        Drives o may M start w L histories (Err (halt_value h)) new after gate_after → TellsHalt h out out' stop →
        Runs may trace M o start after begun out' (Err stop)
    step_halted (halt.Disturbed cycle slot set active) (Halted (halt.Disturbed cycle' slot' set' active')) d line =
        subst (λ s. RunsToStop may trace M o s start after begun out') (sym line.0)
        (stops (stop_value cycle slot set active) d line.1)
    step_halted (halt.Disturbed cycle slot set active) WriteFault d line = absurd line
    step_halted (halt.Disturbed cycle slot set active) (Halted halt.NoMemory) d line =
        stops_short (stop_value cycle slot set active) d line
    step_halted halt.NoMemory (Halted (halt.Disturbed cycle' slot' set' active')) d line = absurd cc
    step_halted halt.NoMemory WriteFault d line = absurd cc
    step_halted halt.NoMemory (Halted halt.NoMemory) d line = runs_out d line.1

  -- ---- the first and the last line

  none_told : parts_told o trace M [] [] 0 ≡ []
  none_told = by o
    where
      by : (o : Option ActuatorValue) → parts_told o trace M [] [] 0 ≡ []
      by None = refl
      by (Some a) = refl

  first_parts : parts_driven o trace M [] [] 0 ≡ (head_line M.rules.channels M.cycles ∷ []) ∷ []
  first_parts = ap (λ (parts : List Part). (head_line M.rules.channels M.cycles ∷ []) ∷ parts) none_told

  first_text : text_of_parts (parts_driven o trace M [] [] 0) ≡ head M
  first_text =
      let line = head_line M.rules.channels M.cycles in
      ap text_of_parts first_parts ∙ append-nil (line ++ []) ∙ append-nil line ∙ sym (head_is M)

  module _ (out : SinkView) (gate : Option GateValue)
      (first : IsDriven o may M start (first_world M) start gate [] []) where
    pub head_done : (r : Result (Unit {0}) WriteStop) → Puts begun out (head M) r →
        GoesTo may trace M o start begun 0 (first_world M) start gate out (run_told_by r)
    head_done (Ok _) wrote =
        (([], [], first, subst (Appends begun.written out.written) (sym first_text) wrote.0, wrote.1), refl)
    head_done (Err write.Failed) wrote =
        let none : min 0 M.cycles ≡ 0 = grind arith in
        let line = head_line M.rules.channels M.cycles in
        let put = then_part begun begun out [] (line ∷ []) ((last_line M.cycles None ∷ []) ∷ []) (head M)
        (head_is M ∙ sym (append-nil line)) (Appends-nil begun.written) wrote.0 in
        let whole : parts_of_whole o trace M [] [] 0 ≡ (line ∷ []) ∷ (last_line M.cycles None ∷ []) ∷ [] =
        ap (λ (parts : List Part). parts ++ (last_line M.cycles None ∷ []) ∷ []) first_parts in (
          [],
          [],
          0,
          driven_log may M start (first_world M) start gate [] [] o first,
          subst (λ n. CyclesRan o M n [] []) (sym none)
              (driven_ran may M start (first_world M) start gate [] [] o first),
          subst (λ n. WroteParts begun.written out.written (parts_of_whole o trace M [] [] n) 0) (sym none)
              (subst (λ ps. WroteParts begun.written out.written ps 0) (sym whole) put),
          wrote.1,
        )
    head_done (Err write.Memory) wrote = (
      [],
      [],
      0,
      driven_log may M start (first_world M) start gate [] [] o first,
      driven_short may M start (first_world M) start gate [] [] o first,
      (
        [],
        text_of_parts (parts_driven o trace M [] [] 0),
        refl,
        subst (λ (x : SinkView). Appends begun.written x.written []) (sym wrote) (Appends-nil begun.written),
      ),
      ap (λ (x : SinkView). x.faults) wrote,
    )

  module _ (w : WorldValue) (bus : BusValue) (gate : Option GateValue) (out out' : SinkView)
      (at : IsAt may trace M o start begun w bus gate out) (all : w.done ≡ M.cycles) where
    ran_all : CyclesRan o M M.cycles at.0 at.1
    ran_all = subst (λ n. CyclesRan o M n at.0 at.1) all (driven_ran may M start w bus gate at.0 at.1 o at.2)

    log_all : HasCarried may M start bus at.0
    log_all = driven_log may M start w bus gate at.0 at.1 o at.2

    written_all : Appends begun.written out.written (text_of_parts (parts_driven o trace M at.0 at.1 M.cycles))
    written_all = subst (λ n. Appends begun.written out.written (text_of_parts (parts_driven o trace M at.0 at.1 n)))
        all at.3

    pub end_done : (r : Result (Unit {0}) WriteStop) → Puts out out' (last M) r →
        Runs may trace M o start bus begun out' (run_told_by r)
    end_done (Ok _) wrote =
        let parts = text_of_parts (parts_driven o trace M at.0 at.1 M.cycles) in
        let text : parts ++ last M ≡ told_text o trace M at.0 at.1 =
        ap (λ line. parts ++ line) (last_is M) ∙ sym (text_whole M at.0 at.1 trace o ran_all) in (
          at.0,
          at.1,
          log_all,
          ran_all,
          subst (Appends begun.written out'.written) text
              (Appends-trans begun.written out.written out'.written parts (last M) written_all wrote.0),
          wrote.1 ∙ at.4,
        )
    end_done (Err write.Failed) wrote =
        let carried : min (suc M.cycles) M.cycles ≡ M.cycles = grind arith in
        let parts = parts_driven o trace M at.0 at.1 M.cycles in
        let size : length parts ≡ suc M.cycles = ap suc (size_of_told M at.0 at.1 trace o M.cycles) in
        let put = then_part begun out out' parts (last_line M.cycles None ∷ []) [] (last M)
        (last_is M ∙ sym (append-nil (done_line M.cycles))) written_all wrote.0 in (
          at.0,
          at.1,
          suc M.cycles,
          log_all,
          subst (λ n. CyclesRan o M n at.0 at.1) (sym carried) ran_all,
          subst (λ n. WroteParts begun.written out'.written (parts_of_whole o trace M at.0 at.1 n) (suc M.cycles))
              (sym carried)
              (subst (λ n. WroteParts begun.written out'.written (parts ++ (last_line M.cycles None ∷ []) ∷ []) n) size
              put),
          rw (← at.4) wrote.1,
        )
    end_done (Err write.Memory) wrote =
        let broken = subst (λ n. RunBroken o M n at.0 at.1) all
        (driven_short may M start w bus gate at.0 at.1 o at.2) in (
          at.0,
          at.1,
          M.cycles,
          log_all,
          broken,
          all_of_it begun.written out'.written (text_of_parts (parts_driven o trace M at.0 at.1 M.cycles))
              (subst (λ (x : SinkView).
              Appends begun.written x.written (text_of_parts (parts_driven o trace M at.0 at.1 M.cycles))) (sym wrote)
              written_all),
          ap (λ (x : SinkView). x.faults) wrote ∙ at.4,
        )
