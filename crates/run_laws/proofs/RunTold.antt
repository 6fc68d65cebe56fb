-- The text of a run is that of its cycles, and the last line.
use Rattle.std.proofs.Common.{◌≡◌, ◌<◌, ◌+◌, ◌-◌, ℕ, zero, suc, Bool, true, false, List, [], ◌∷◌, ◌++◌, Option, Some, None, refl, sym, ap, subst, ◌∙◌, append_assoc, arith, length, map, drop, length-append}
use Rattle.std.specs.Prelude.{flat_map, is_some, if◌then◌else◌}
use Rattle.std.proofs.lemmas.List.{append-nil, drop-append-le, drop-map, length-map}
use Rattle.std.proofs.lemmas.Grind.{flat_map-append}
use Rattle.guards_model.specs.Missions.{MissionValue}
use Rattle.guards_model.specs.Network.{Log}
use Rattle.guards_model.specs.Rounds.{Steps, Histories}
use Rattle.guards_model.specs.Texts.{TextValue, Part, StopValue, text_of_parts, part_text, cycle_part, head_line, last_line, done_line, stop_line}
use Rattle.guards_runs.specs.Cycles.{Past, cycles_before, cycle_at, this_cycle}
use Rattle.guards_runs.specs.Disturbed.{stop_in, stop_of}
use Rattle.guards_runs.specs.Report.{cycle_record, cycle_parts, parts_of, told_cycles, told_histories, earlier_steps, latest_steps, report, report_parts, traced, traced_parts}
use Rattle.guards_laws.proofs.FirstStop.{stop_stays, told_whole}
use Rattle.guards_laws.proofs.LogGrows.{length-cycles_before}
use Rattle.circular_buffer.specs.Buffer.{keep_last}
use Rattle.run_laws.specs.Runs.{last_texts, parts_so_far, run_text, run_text_parts, short_text, shortened, with_head, with_unfinished}

-- ---- parts

-- without the trace lines the histories are not told
untraced : (M : MissionValue) (hs ks : Histories) (past : Past) →
    cycle_parts false M hs past ≡ cycle_parts false M ks past
untraced M hs ks [] = refl
untraced M hs ks (e ∷ past) =
    ap (λ (parts : List Part). parts ++ cycle_part false (cycle_record M (latest_steps ks) (this_cycle past) e) ∷ [])
    (untraced M (earlier_steps hs) (earlier_steps ks) past)

-- the parts with one cycle more
pub parts_more : (trace : Bool) (M : MissionValue) (histories : Histories) (steps : Steps) (L more : Log) (n : ℕ) →
    cycles_before M more n ≡ cycles_before M L n →
    parts_so_far trace M (steps ∷ histories) (cycles_before M more (suc n))
    ≡ parts_so_far trace M histories (cycles_before M L n)
    ++ cycle_part trace (cycle_record M steps n (cycle_at M more n)) ∷ []
parts_more trace M histories steps L more n same =
    ap (λ (c : ℕ). parts_so_far trace M histories (cycles_before M more n)
    ++ cycle_part trace (cycle_record M steps c (cycle_at M more n)) ∷ []) (length-cycles_before M more n)
    ∙ ap (λ (past : Past). parts_so_far trace M histories past
    ++ cycle_part trace (cycle_record M steps n (cycle_at M more n)) ∷ []) same

-- a part more is a text more
pub text_more : (parts : List Part) (part : Part) →
    text_of_parts (parts ++ part ∷ []) ≡ text_of_parts parts ++ part_text part
text_more parts part = flat_map-append part_text parts (part ∷ [])
    ∙ ap (λ text. text_of_parts parts ++ text) (append-nil (part_text part))

pub text_and_line : (parts : List Part) (line : TextValue) →
    text_of_parts (parts ++ (line ∷ []) ∷ []) ≡ text_of_parts parts ++ line
text_and_line parts line = text_more parts (line ∷ []) ∙ ap (λ text. text_of_parts parts ++ text) (append-nil line)

-- ---- what is told

histories_whole : (past : Past) (hs : Histories) → stop_of past ≡ None → told_histories past hs ≡ hs
histories_whole [] hs h = refl
histories_whole (e ∷ past) hs h = ap (λ o. if is_some o then told_histories past (earlier_steps hs) else hs) h

module _ (M : MissionValue) (L : Log) (n : ℕ) (stop : StopValue) (unstopped : stop_of (cycles_before M L n) ≡ None)
    (stops : stop_in n (cycle_at M L n) ≡ Some stop) where
  -- the cycles before the stop are told, with their histories
  told : (k m : ℕ) → m ≡ n + suc k → told_cycles (cycles_before M L m) ≡ cycles_before M L n
  told zero m h =
      let e : m ≡ suc n = omega (arith, h) in
      let stopped : stop_of (cycles_before M L (suc n)) ≡ Some stop =
      stop_stays M L n stop unstopped stops zero (suc n) (omega arith) in
      rw e (ap (λ o. if is_some o then told_cycles (cycles_before M L n) else cycles_before M L (suc n)) stopped
      ∙ told_whole (cycles_before M L n) unstopped)
  told (suc k) m h =
      let e : m ≡ suc (n + suc k) = omega (arith, h) in
      let stopped : stop_of (cycles_before M L (suc (n + suc k))) ≡ Some stop =
      stop_stays M L n stop unstopped stops (suc k) (suc (n + suc k)) (omega arith) in
      rw e (ap (λ o. if is_some o then told_cycles (cycles_before M L (n + suc k))
      else cycles_before M L (suc (n + suc k))) stopped ∙ told k (n + suc k) refl)

  beside : (hs : Histories) (k m : ℕ) → m ≡ n + suc k →
      told_histories (cycles_before M L m) (with_unfinished (suc k) hs) ≡ hs
  beside hs zero m h =
      let e : m ≡ suc n = omega (arith, h) in
      let stopped : stop_of (cycles_before M L (suc n)) ≡ Some stop =
      stop_stays M L n stop unstopped stops zero (suc n) (omega arith) in
      rw e (ap (λ o. if is_some o then told_histories (cycles_before M L n) hs else with_unfinished 1 hs) stopped
      ∙ histories_whole (cycles_before M L n) hs unstopped)
  beside hs (suc k) m h =
      let e : m ≡ suc (n + suc k) = omega (arith, h) in
      let stopped : stop_of (cycles_before M L (suc (n + suc k))) ≡ Some stop =
      stop_stays M L n stop unstopped stops (suc k) (suc (n + suc k)) (omega arith) in
      rw e (ap (λ o. if is_some o then told_histories (cycles_before M L (n + suc k)) (with_unfinished (suc k) hs)
      else with_unfinished (suc (suc k)) hs) stopped ∙ beside hs k (n + suc k) refl)

-- ---- whole texts

-- the parts of a run by what is told of it
parts_are : (trace : Bool) (M : MissionValue) (L : Log) (histories : Histories) → (hs : Histories) →
    (past : Past) (stop : Option StopValue) →
    told_cycles (cycles_before M L M.cycles) ≡ past → told_histories (cycles_before M L M.cycles) histories ≡ hs →
    stop_of (cycles_before M L M.cycles) ≡ stop →
    run_text_parts trace M L histories ≡ parts_of trace M hs past stop
unfolding report_parts traced_parts
parts_are true M L histories hs past stop cycles_are hs_are stop_is =
    let all = cycles_before M L M.cycles in
    ap (λ (x : Histories). parts_of true M x (told_cycles all) (stop_of all)) hs_are
    ∙ ap (λ (x : Past). parts_of true M hs x (stop_of all)) cycles_are
    ∙ ap (λ (x : Option StopValue). parts_of true M hs past x) stop_is
parts_are false M L histories hs past stop cycles_are hs_are stop_is =
    let all = cycles_before M L M.cycles in
    let line : Part = last_line M.cycles stop ∷ [] in
    let first : Part = head_line M.rules.channels M.cycles ∷ [] in
    ap (λ (x : Past). parts_of false M (told_histories all []) x (stop_of all)) cycles_are
    ∙ ap (λ (x : Option StopValue). parts_of false M (told_histories all []) past x) stop_is
    ∙ ap (λ (parts : List Part). first ∷ (parts ++ line ∷ [])) (untraced M (told_histories all []) hs past)

text_is : (trace : Bool) (M : MissionValue) (L : Log) (histories : Histories) →
    run_text trace M L histories ≡ text_of_parts (run_text_parts trace M L histories)
unfolding report traced
text_is true M L histories = refl
text_is false M L histories = refl

-- a run that stopped nowhere
whole_parts : (trace : Bool) (M : MissionValue) (L : Log) (histories : Histories) →
    stop_of (cycles_before M L M.cycles) ≡ None →
    run_text_parts trace M L histories ≡ parts_of trace M histories (cycles_before M L M.cycles) None
whole_parts trace M L histories unstopped =
    let all = cycles_before M L M.cycles in
    parts_are trace M L histories histories all None (told_whole all unstopped)
    (histories_whole all histories unstopped) unstopped

pub whole_text : (trace : Bool) (M : MissionValue) (L : Log) (histories : Histories) →
    stop_of (cycles_before M L M.cycles) ≡ None →
    run_text trace M L histories
    ≡ text_of_parts (parts_so_far trace M histories (cycles_before M L M.cycles)) ++ done_line M.cycles
whole_text trace M L histories unstopped =
    text_is trace M L histories ∙ ap text_of_parts (whole_parts trace M L histories unstopped)
    ∙ text_and_line (parts_so_far trace M histories (cycles_before M L M.cycles)) (done_line M.cycles)

-- a run that stopped
stopped_parts : (trace : Bool) (M : MissionValue) (L : Log) (histories : Histories) (n : ℕ) (stop : StopValue) →
    n < M.cycles →
    stop_of (cycles_before M L n) ≡ None → stop_in n (cycle_at M L n) ≡ Some stop →
    run_text_parts trace M L (with_unfinished (M.cycles - n) histories)
    ≡ parts_of trace M histories (cycles_before M L n) (Some stop)
stopped_parts trace M L histories n stop below unstopped stops =
    let k : ℕ = M.cycles - n - 1 in
    let count : M.cycles - n ≡ suc k = omega (arith, below) in
    let cycles : M.cycles ≡ n + suc k = omega (arith, below) in
    parts_are trace M L (with_unfinished (M.cycles - n) histories) histories (cycles_before M L n) (Some stop)
    (told M L n stop unstopped stops k M.cycles cycles)
    (subst (λ j. told_histories (cycles_before M L M.cycles) (with_unfinished j histories) ≡ histories) (sym count)
    (beside M L n stop unstopped stops histories k M.cycles cycles))
    (stop_stays M L n stop unstopped stops k M.cycles cycles)

pub stopped_text : (trace : Bool) (M : MissionValue) (L : Log) (histories : Histories) (n : ℕ) (stop : StopValue) →
    n < M.cycles →
    stop_of (cycles_before M L n) ≡ None → stop_in n (cycle_at M L n) ≡ Some stop →
    run_text trace M L (with_unfinished (M.cycles - n) histories)
    ≡ text_of_parts (parts_so_far trace M histories (cycles_before M L n)) ++ stop_line stop
stopped_text trace M L histories n stop below unstopped stops =
    text_is trace M L (with_unfinished (M.cycles - n) histories)
    ∙ ap text_of_parts (stopped_parts trace M L histories n stop below unstopped stops)
    ∙ text_and_line (parts_so_far trace M histories (cycles_before M L n)) (stop_line stop)

-- ---- short texts

-- the last parts, and a line behind them
keep_and_line : {X : Type 0} (k : ℕ) (xs : List X) (x : X) → keep_last (suc k) (xs ++ x ∷ []) ≡ keep_last k xs ++ x ∷ []
keep_and_line k xs x =
    let count : length (xs ++ x ∷ []) - suc k ≡ length xs - k = omega (arith, length-append xs (x ∷ [])) in
    ap (λ n. drop n (xs ++ x ∷ [])) count ∙ drop-append-le (length xs - k) xs (x ∷ []) (omega arith)

joined_map : (parts : List Part) → text_of_parts parts ≡ flat_map (λ text. text) (map part_text parts)
joined_map [] = refl
joined_map (part ∷ parts) = ap (λ text. part_text part ++ text) (joined_map parts)

last_are : (k : ℕ) (parts : List Part) →
    text_of_parts (keep_last k parts) ≡ flat_map (λ text. text) (keep_last k (map part_text parts))
last_are k parts =
    joined_map (keep_last k parts)
    ∙ ap (λ (texts : List TextValue). flat_map (λ text. text) texts)
    (sym (drop-map part_text (length parts - k) parts)
    ∙ ap (λ n. drop (n - k) (map part_text parts)) (sym (length-map parts part_text)))

-- the head line, some parts, and a line behind them, shortened
pub short_of : (k : ℕ) (M : MissionValue) (parts : List Part) (line : TextValue) →
    text_of_parts (shortened k ((head_line M.rules.channels M.cycles ∷ []) ∷ (parts ++ (line ∷ []) ∷ [])))
    ≡ with_head M (keep_last k (map part_text parts)) ++ line
short_of k M parts line =
    let first = head_line M.rules.channels M.cycles in
    ap (λ (rest : List Part). (first ++ []) ++ text_of_parts rest) (keep_and_line k parts (line ∷ []))
    ∙ ap (λ text. (first ++ []) ++ text) (text_and_line (keep_last k parts) line)
    ∙ ap (λ text. text ++ (text_of_parts (keep_last k parts) ++ line)) (append-nil first)
    ∙ ap (λ text. first ++ (text ++ line)) (last_are k parts)
    ∙ sym (append_assoc first (flat_map (λ text. text) (keep_last k (map part_text parts))) line)

short_is : (k : ℕ) (trace : Bool) (M : MissionValue) (histories : Histories) (past : Past) (stop : Option StopValue) →
    text_of_parts (shortened k (parts_of trace M histories past stop))
    ≡ with_head M (last_texts k trace M histories past) ++ last_line M.cycles stop
short_is k trace M histories past stop = short_of k M (cycle_parts trace M histories past) (last_line M.cycles stop)

pub short_whole : (k : ℕ) (trace : Bool) (M : MissionValue) (L : Log) (histories : Histories) →
    stop_of (cycles_before M L M.cycles) ≡ None →
    short_text k trace M L histories
    ≡ with_head M (last_texts k trace M histories (cycles_before M L M.cycles)) ++ done_line M.cycles
short_whole k trace M L histories unstopped =
    ap (λ (parts : List Part). text_of_parts (shortened k parts)) (whole_parts trace M L histories unstopped)
    ∙ short_is k trace M histories (cycles_before M L M.cycles) None

pub short_stopped : (k : ℕ) (trace : Bool) (M : MissionValue) (L : Log) (histories : Histories) (n : ℕ)
    (stop : StopValue) → n < M.cycles →
    stop_of (cycles_before M L n) ≡ None → stop_in n (cycle_at M L n) ≡ Some stop →
    short_text k trace M L (with_unfinished (M.cycles - n) histories)
    ≡ with_head M (last_texts k trace M histories (cycles_before M L n)) ++ stop_line stop
short_stopped k trace M L histories n stop below unstopped stops =
    ap (λ (parts : List Part). text_of_parts (shortened k parts))
    (stopped_parts trace M L histories n stop below unstopped stops)
    ∙ short_is k trace M histories (cycles_before M L n) (Some stop)
