-- The text of a run with an actuator is that of its cycles, and the last line.
use Rattle.std.proofs.Common.{◌≡◌, ◌<◌, ◌+◌, ◌-◌, ℕ, zero, suc, Bool, false, List, [], ◌∷◌, ◌++◌, length, Option, Some, None, ℤ, refl, sym, ap, subst, ◌∙◌, arith, length-append}
use Rattle.std.specs.Prelude.{is_some, if◌then◌else◌}
use Rattle.guards_model.specs.Missions.{MissionValue, ActuatorValue}
use Rattle.guards_model.specs.Network.{Log, AreFrom, without_outputs}
use Rattle.guards_model.specs.Rounds.{Steps, Histories}
use Rattle.guards_model.specs.Texts.{TextValue, Part, StopValue, cycle_part, head_line, last_line, done_line, stop_line, out_line}
use Rattle.guards_runs.specs.Cycles.{Past, cycles_before, cycle_at}
use Rattle.guards_runs.specs.Disturbed.{stop_in, first_of_two}
use Rattle.guards_runs.specs.Report.{cycle_record, latest_steps, earlier_steps}
use Rattle.guards_laws.proofs.LogGrows.{length-cycles_before}
use Rattle.run_laws.specs.Runs.{with_unfinished}
use Rattle.guards_runs.specs.Outputs.{acted_stop, output_stop, words_after}
use Rattle.guards_runs.specs.ActedReport.{acted_cycles, acted_run_parts, acted_parts, acted_told, acted_histories}
use Rattle.run_laws.proofs.Local.{words_stay}
use Rattle.run_laws.proofs.Acting.{at_least}

-- ---- parts

-- entries of later cycles leave the parts
pub parts_stay : (trace : Bool) (M : MissionValue) (a : ActuatorValue) (F X : Log) (histories : Histories) (P : Past) →
    AreFrom (length P) X → acted_parts trace M a (F ++ X) histories P ≡ acted_parts trace M a F histories P
parts_stay trace M a F X histories [] from = refl
parts_stay trace M a F X histories (e ∷ P) from =
    let part : Part = cycle_part trace (cycle_record M (latest_steps histories) (length P) e) in
    ap (λ (parts : List Part). parts ++ (part ++ out_line (words_after M a (F ++ X) (suc (length P))) ∷ []) ∷ [])
    (parts_stay trace M a F X (earlier_steps histories) P (at_least (suc (length P)) (length P) X (omega arith) from))
    ∙ ap (λ (words : List ℤ). acted_parts trace M a F (earlier_steps histories) P ++ (part ++ out_line words ∷ []) ∷ [])
    (words_stay M.rules.version a.steps a.start F X (suc (length P)) from)

-- the parts with one cycle more
pub parts_more : (trace : Bool) (M : MissionValue) (a : ActuatorValue) (G L : Log) (steps : Steps)
    (histories : Histories) (n : ℕ) →
    acted_parts trace M a G (steps ∷ histories) (cycles_before M L (suc n))
    ≡ acted_parts trace M a G histories (cycles_before M L n)
    ++ (cycle_part trace (cycle_record M steps n (cycle_at M L n)) ++ out_line (words_after M a G (suc n)) ∷ [])
    ∷ []
parts_more trace M a G L steps histories n =
    ap (λ (c : ℕ). acted_parts trace M a G histories (cycles_before M L n)
    ++ (cycle_part trace (cycle_record M steps c (cycle_at M L n)) ++ out_line (words_after M a G (suc c)) ∷ [])
    ∷ [])
    (length-cycles_before M L n)

pub size_of_acted : (trace : Bool) (M : MissionValue) (a : ActuatorValue) (G : Log) (histories : Histories) (P : Past) →
    length (acted_parts trace M a G histories P) ≡ length P
size_of_acted trace M a G histories [] = refl
size_of_acted trace M a G histories (e ∷ P) =
    let front = acted_parts trace M a G (earlier_steps histories) P in
    let here : Part = cycle_part trace (cycle_record M (latest_steps histories) (length P) e)
    ++ out_line (words_after M a G (suc (length P))) ∷ [] in
    let size : length (front ++ here ∷ []) ≡ suc (length front) = omega (arith, length-append front (here ∷ [])) in
    size ∙ ap suc (size_of_acted trace M a G (earlier_steps histories) P)

-- without the trace lines the histories are not told
pub untraced_acted : (M : MissionValue) (a : ActuatorValue) (F : Log) (hs ks : Histories) (past : Past) →
    acted_parts false M a F hs past ≡ acted_parts false M a F ks past
untraced_acted M a F hs ks [] = refl
untraced_acted M a F hs ks (e ∷ past) =
    ap (λ (parts : List Part). parts
    ++ (cycle_part false (cycle_record M (latest_steps ks) (length past) e)
    ++ out_line (words_after M a F (suc (length past))) ∷ []) ∷ [])
    (untraced_acted M a F (earlier_steps hs) (earlier_steps ks) past)

-- ---- what is told

told_whole : (F : Log) (past : Past) → acted_stop F past ≡ None → acted_told F past ≡ past
told_whole F [] h = refl
told_whole F (e ∷ past) h = ap (λ o. if is_some o then acted_told F past else e ∷ past) h

histories_whole : (F : Log) (past : Past) (hs : Histories) → acted_stop F past ≡ None → acted_histories F past hs ≡ hs
histories_whole F [] hs h = refl
histories_whole F (e ∷ past) hs h = ap (λ o. if is_some o then acted_histories F past (earlier_steps hs) else hs) h

module _ (M : MissionValue) (F L : Log) (n : ℕ) (stop : StopValue)
    (unstopped : acted_stop F (cycles_before M L n) ≡ None)
    (stops : first_of_two (stop_in n (cycle_at M L n)) (output_stop n (cycle_at M L n) F) ≡ Some stop) where
  -- the first stop stays the first
  pub stays : (k m : ℕ) → m ≡ n + suc k → acted_stop F (cycles_before M L m) ≡ Some stop
  stays zero m h =
      let e : m ≡ suc n = omega (arith, h) in
      let x = cycle_at M L n in
      rw e
      (ap (λ s. first_of_two s (first_of_two (stop_in (length (cycles_before M L n)) x)
      (output_stop (length (cycles_before M L n)) x F))) unstopped
      ∙ ap (λ c. first_of_two (stop_in c x) (output_stop c x F)) (length-cycles_before M L n) ∙ stops)
  stays (suc k) m h =
      let e : m ≡ suc (n + suc k) = omega (arith, h) in
      let past = cycles_before M L (n + suc k) in
      let x = cycle_at M L (n + suc k) in
      rw e (ap (λ s. first_of_two s (first_of_two (stop_in (length past) x) (output_stop (length past) x F)))
      (stays k (n + suc k) refl))

  -- the cycles before the stop are told, with their histories
  told : (k m : ℕ) → m ≡ n + suc k → acted_told F (cycles_before M L m) ≡ cycles_before M L n
  told zero m h =
      let e : m ≡ suc n = omega (arith, h) in
      let stopped : acted_stop F (cycles_before M L (suc n)) ≡ Some stop = stays zero (suc n) (omega arith) in
      rw e (ap (λ o. if is_some o then acted_told F (cycles_before M L n) else cycles_before M L (suc n)) stopped
      ∙ told_whole F (cycles_before M L n) unstopped)
  told (suc k) m h =
      let e : m ≡ suc (n + suc k) = omega (arith, h) in
      let stopped : acted_stop F (cycles_before M L (suc (n + suc k))) ≡ Some stop =
      stays (suc k) (suc (n + suc k)) (omega arith) in
      rw e (ap (λ o. if is_some o then acted_told F (cycles_before M L (n + suc k))
      else cycles_before M L (suc (n + suc k))) stopped ∙ told k (n + suc k) refl)

  beside : (hs : Histories) (k m : ℕ) → m ≡ n + suc k →
      acted_histories F (cycles_before M L m) (with_unfinished (suc k) hs) ≡ hs
  beside hs zero m h =
      let e : m ≡ suc n = omega (arith, h) in
      let stopped : acted_stop F (cycles_before M L (suc n)) ≡ Some stop = stays zero (suc n) (omega arith) in
      rw e (ap (λ o. if is_some o then acted_histories F (cycles_before M L n) hs else with_unfinished 1 hs) stopped
      ∙ histories_whole F (cycles_before M L n) hs unstopped)
  beside hs (suc k) m h =
      let e : m ≡ suc (n + suc k) = omega (arith, h) in
      let stopped : acted_stop F (cycles_before M L (suc (n + suc k))) ≡ Some stop =
      stays (suc k) (suc (n + suc k)) (omega arith) in
      rw e (ap (λ o. if is_some o then acted_histories F (cycles_before M L (n + suc k)) (with_unfinished (suc k) hs)
      else with_unfinished (suc (suc k)) hs) stopped ∙ beside hs k (n + suc k) refl)

-- ---- whole texts

-- the head line, some parts, and a line
abbrev pub around : MissionValue → List Part → TextValue → List Part
around M parts line = (head_line M.rules.channels M.cycles ∷ []) ∷ (parts ++ (line ∷ []) ∷ [])

-- the parts of a run by what is told of it
parts_are : (trace : Bool) (M : MissionValue) (a : ActuatorValue) (F : Log) (histories hs : Histories) (past : Past)
    (stop : Option StopValue) →
    acted_told F (cycles_before M (without_outputs F) M.cycles) ≡ past →
    acted_histories F (cycles_before M (without_outputs F) M.cycles) histories ≡ hs →
    acted_stop F (cycles_before M (without_outputs F) M.cycles) ≡ stop →
    acted_run_parts trace M a F histories (acted_cycles M F)
    ≡ around M (acted_parts trace M a F hs past) (last_line M.cycles stop)
parts_are trace M a F histories hs past stop cycles_are hs_are stop_is =
    let all = cycles_before M (without_outputs F) M.cycles in
    ap (λ (x : Histories). around M (acted_parts trace M a F x (acted_told F all))
    (last_line M.cycles (acted_stop F all))) hs_are
    ∙ ap (λ (x : Past). around M (acted_parts trace M a F hs x) (last_line M.cycles (acted_stop F all))) cycles_are
    ∙ ap (λ (x : Option StopValue). around M (acted_parts trace M a F hs past) (last_line M.cycles x)) stop_is

pub whole_parts : (trace : Bool) (M : MissionValue) (a : ActuatorValue) (F : Log) (histories : Histories) →
    acted_stop F (cycles_before M (without_outputs F) M.cycles) ≡ None →
    acted_run_parts trace M a F histories (acted_cycles M F)
    ≡ around M (acted_parts trace M a F histories (cycles_before M (without_outputs F) M.cycles))
    (done_line M.cycles)
whole_parts trace M a F histories unstopped =
    let all = cycles_before M (without_outputs F) M.cycles in
    parts_are trace M a F histories histories all None (told_whole F all unstopped)
    (histories_whole F all histories unstopped) unstopped

pub stopped_parts : (trace : Bool) (M : MissionValue) (a : ActuatorValue) (F : Log) (histories : Histories) (n : ℕ)
    (stop : StopValue) → n < M.cycles →
    acted_stop F (cycles_before M (without_outputs F) n) ≡ None →
    first_of_two (stop_in n (cycle_at M (without_outputs F) n)) (output_stop n (cycle_at M (without_outputs F) n) F)
    ≡ Some stop →
    acted_run_parts trace M a F (with_unfinished (M.cycles - n) histories) (acted_cycles M F)
    ≡ around M (acted_parts trace M a F histories (cycles_before M (without_outputs F) n)) (stop_line stop)
stopped_parts trace M a F histories n stop below unstopped stops =
    let L = without_outputs F in
    let k : ℕ = M.cycles - n - 1 in
    let count : M.cycles - n ≡ suc k = omega (arith, below) in
    let cycles : M.cycles ≡ n + suc k = omega (arith, below) in
    parts_are trace M a F (with_unfinished (M.cycles - n) histories) histories (cycles_before M L n) (Some stop)
    (told M F L n stop unstopped stops k M.cycles cycles)
    (subst (λ j. acted_histories F (cycles_before M L M.cycles) (with_unfinished j histories) ≡ histories) (sym count)
    (beside M F L n stop unstopped stops histories k M.cycles cycles))
    (stays M F L n stop unstopped stops k M.cycles cycles)

pub untraced_parts : (M : MissionValue) (a : ActuatorValue) (F : Log) (hs ks : Histories) →
    acted_run_parts false M a F hs (acted_cycles M F) ≡ acted_run_parts false M a F ks (acted_cycles M F)
untraced_parts M a F hs ks =
    let all = acted_cycles M F in
    ap (λ (parts : List Part). around M parts (last_line M.cycles (acted_stop F all)))
    (untraced_acted M a F (acted_histories F all hs) (acted_histories F all ks) (acted_told F all))
