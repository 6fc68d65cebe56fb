-- The lines of a cycle whose record fits are good, one after the other.
use Rattle.std.proofs.Common.{◌≡◌, ◌==◌, Bool, true, ◌&&◌, ◌||◌, List, [], ◌∷◌, ◌++◌, length, map, None, refl, sym, ap, subst, ◌∙◌, append_assoc, append-nil}
use Rattle.std.specs.Prelude.{nat_lt, count_by, IsTrue}
use Rattle.std.specs.List.{list_all, list_any}
use Rattle.std.specs.Str.{bytes_eq}
use Rattle.std.proofs.lemmas.List.{map-append}
use Rattle.guards_model.specs.declared.Actor.{Actor}
use Rattle.guards_model.specs.Channels.{Channel, has}
use Rattle.guards_model.specs.Missions.{MissionValue, cycle_writes}
use Rattle.guards_model.specs.Frames.{ascends, is_channel}
use Rattle.guards_model.specs.Rounds.{is_task, is_sweep}
use Rattle.guards_model.specs.Decisions.{joined_of}
use Rattle.guards_model.specs.Texts.{TextValue, LineValue, TraceValue, RecordValue, channel_line, trace_line, end_line, cycle_part}
use Rattle.guards_audit.specs.Lines.{cycle_told, channel_told, steps_told, end_told, closed_record, is_form}
use Rattle.guards_audit.specs.Told.{Told, next_cycle_number, plan_told, number_remaining, rest_told}
use Rattle.guards_audit.specs.Tests.{cycle_fits, comes_next, says_same, first_fits, same_number, all_traced, removed_fits, are_same_words, same_votes}
use Rattle.guards_audit.specs.Consistency.{Place, between, amid, fits, following_place, after_cycle, AreGood}
use Rattle.guards_model.proofs.BoolTests.{both, and_true}
use Rattle.audit_laws.proofs.SameLists.{bytes_same, bytes_alike, words_same, votes_same, option_same, above_front}

-- lines that are good, and then more
pub good_append : (M : MissionValue) (place middle last : Place) (lines more : List TextValue) →
    AreGood M place lines middle → AreGood M middle more last → AreGood M place (lines ++ more) last
good_append M place middle last [] more h k = subst (λ (p : Place). AreGood M p more last) (sym h) k
good_append M place middle last (line ∷ lines) more h k =
    (h.0, h.1, h.2, good_append M (following_place M place h.0) middle last lines more h.3 k)

-- a line of a channel that says the same
abbrev pub line_for : LineValue → Channel → LineValue
line_for base p = record base { channel = p }

abbrev pub steps_for : (Channel → List Actor) → Channel → TraceValue
steps_for steps p = record { channel = p; steps = steps p }

-- a cycle that is told so far
abbrev pub so_far : RecordValue → List LineValue → List TraceValue → RecordValue
so_far r lines traces = record r { lines = lines; traces = traces; removed = []; joined = []; remaining = None }

-- What is needed of a record of a cycle: who has a line and who has steps, what each line says, and that each part
-- fits.
pub record IsFit (M : MissionValue) (told : Told) (r : RecordValue) : Type 0 where
  pub base : LineValue
  pub first : Channel
  pub others : List Channel
  pub workers : List Channel
  pub steps : Channel → List Actor
  pub lines : r.lines ≡ map (line_for base) (first ∷ others)
  pub traces : r.traces ≡ map (steps_for steps) workers
  pub opens : cycle_fits M told r.cycle r.active r.transfer ≡ true
  pub ascending : ascends (first ∷ others) ≡ true
  pub active : list_all (has r.active) (first ∷ others) ≡ true
  pub says : first_fits M told r base ≡ true
  pub working : ascends workers ≡ true
  pub workers_active : list_all (has r.active) workers ≡ true
  pub full : list_all (λ p. count_by is_task (steps p) == length (cycle_writes M (next_cycle_number told))
      && count_by is_sweep (steps p) == length (plan_told M told r.transfer)) workers ≡ true
  pub traced : list_all (has workers) (first ∷ others) ≡ true
  pub removed : removed_fits M r r.removed ≡ true
  pub remaining : r.remaining ≡ number_remaining M told r.transfer
  pub joined : r.joined ≡ joined_of M.rules.last r.transfer (rest_told M told r.transfer)
  pub cycle_form : is_form (cycle_told r.cycle r.active r.transfer) ≡ true
  pub line_form : list_all (λ p. is_form (channel_told (line_for base p))) (first ∷ others) ≡ true
  pub steps_form : list_all is_channel workers ≡ true
  pub end_form : is_form (end_told r.removed r.joined r.remaining) ≡ true

map-channel : (base : LineValue) (xs : List Channel) → map (λ (l : LineValue). l.channel) (map (line_for base) xs) ≡ xs
map-channel base [] = refl
map-channel base (x ∷ xs) = ap (λ ys. x ∷ ys) (map-channel base xs)

map-worker : (steps : Channel → List Actor) (xs : List Channel) →
    map (λ (t : TraceValue). t.channel) (map (steps_for steps) xs) ≡ xs
map-worker steps [] = refl
map-worker steps (x ∷ xs) = ap (λ ys. x ∷ ys) (map-worker steps xs)

module _ (M : MissionValue) (told : Told) (r : RecordValue) (base : LineValue) where
  same_as_first : (p q : Channel) → says_same (line_for base p) (line_for base q) ≡ true
  same_as_first p q =
      and_true (are_same_words base.inputs base.inputs && same_votes base.votes base.votes) _
      (and_true (are_same_words base.inputs base.inputs) (same_votes base.votes base.votes) (words_same base.inputs)
      (votes_same base.votes))
      (and_true _ _ (bytes_same base.judged) (bytes_same base.counts))

  -- later lines
  abbrev formed : Channel → Bool
  formed p = is_form (channel_told (line_for base p))

  later_lines : (p : Channel) (xs ys : List Channel) → ascends ((p ∷ xs) ++ ys) ≡ true →
      list_all (has r.active) ys ≡ true → list_all formed ys ≡ true →
      AreGood M (amid told (so_far r (map (line_for base) (p ∷ xs)) [])) (map channel_line (map (line_for base) ys))
      (amid told (so_far r (map (line_for base) ((p ∷ xs) ++ ys)) []))
  later_lines p xs [] h k forms =
      ap (λ zs. amid told (so_far r (map (line_for base) zs) [])) (sym (append-nil (p ∷ xs)))
  later_lines p xs (y ∷ ys) h k forms =
      let form = both (formed y) (list_all formed ys) forms in
      let parts = both (has r.active y) (list_all (has r.active) ys) k in
      let more : ascends ((p ∷ (xs ++ y ∷ [])) ++ ys) ≡ true =
      subst (λ zs. ascends (p ∷ zs) ≡ true) (sym (append_assoc xs (y ∷ []) ys)) h in
      let below : list_all (λ q. nat_lt q y) (map (λ (l : LineValue). l.channel) (map (line_for base) (p ∷ xs)))
      ≡ true =
      subst (λ zs. list_all (λ q. nat_lt q y) zs ≡ true) (sym (map-channel base (p ∷ xs)))
      (above_front (p ∷ xs) y ys h) in
      let now : IsTrue (fits M (amid told (so_far r (map (line_for base) (p ∷ xs)) []))
      (channel_told (line_for base y))) =
      and_true (formed y) _ form.0
      (and_true (comes_next r.active (map (λ (l : LineValue). l.channel) (map (line_for base) (p ∷ xs))) y) _
      (and_true (has r.active y) _ parts.0 below) (same_as_first y p)) in
      let rest = later_lines p (xs ++ y ∷ []) ys more parts.1 form.1 in
      let start : map (line_for base) (xs ++ y ∷ []) ≡ map (line_for base) xs ++ line_for base y ∷ [] =
      map-append (line_for base) xs (y ∷ []) in
      let moved = subst (λ ls. AreGood M (amid told (so_far r (line_for base p ∷ ls) []))
      (map channel_line (map (line_for base) ys))
      (amid told (so_far r (map (line_for base) ((p ∷ (xs ++ y ∷ [])) ++ ys)) []))) start rest in (
        channel_told (line_for base y),
        refl,
        now,
        subst (λ zs. AreGood M (amid told
            (so_far r (line_for base p ∷ (map (line_for base) xs ++ line_for base y ∷ [])) []))
            (map channel_line (map (line_for base) ys)) (amid told (so_far r (map (line_for base) (p ∷ zs)) [])))
            (append_assoc xs (y ∷ []) ys) moved,
      )

  -- the first line, and the later ones
  all_lines : (p : Channel) (ys : List Channel) → ascends (p ∷ ys) ≡ true → list_all (has r.active) (p ∷ ys) ≡ true →
      list_all formed (p ∷ ys) ≡ true → first_fits M told r base ≡ true →
      AreGood M (amid told (so_far r [] [])) (map channel_line (map (line_for base) (p ∷ ys)))
      (amid told (so_far r (map (line_for base) (p ∷ ys)) []))
  all_lines p ys h k forms first =
      let form = both (formed p) (list_all formed ys) forms in
      let parts = both (has r.active p) (list_all (has r.active) ys) k in
      let now : IsTrue (fits M (amid told (so_far r [] [])) (channel_told (line_for base p))) =
      and_true (formed p) _ form.0
      (and_true (comes_next r.active [] p) (first_fits M told r base) (and_true (has r.active p) true parts.0 refl)
      first) in
      (channel_told (line_for base p), refl, now, later_lines p [] ys h parts.1 form.1)

module _ (M : MissionValue) (told : Told) (r : RecordValue) (first : LineValue) (lines : List LineValue)
    (steps : Channel → List Actor) where
  abbrev fits_steps : Channel → Bool
  fits_steps p = count_by is_task (steps p) == length (cycle_writes M (next_cycle_number told))
      && count_by is_sweep (steps p) == length (plan_told M told r.transfer)

  -- the lines of steps
  all_steps : (xs ys : List Channel) → ascends (xs ++ ys) ≡ true → list_all (has r.active) ys ≡ true →
      list_all fits_steps ys ≡ true → list_all is_channel ys ≡ true →
      AreGood M (amid told (so_far r (first ∷ lines) (map (steps_for steps) xs)))
      (map trace_line (map (steps_for steps) ys))
      (amid told (so_far r (first ∷ lines) (map (steps_for steps) (xs ++ ys))))
  all_steps xs [] h k full forms =
      ap (λ zs. amid told (so_far r (first ∷ lines) (map (steps_for steps) zs))) (sym (append-nil xs))
  all_steps xs (y ∷ ys) h k full forms =
      let form = both (is_channel y) (list_all is_channel ys) forms in
      let parts = both (has r.active y) (list_all (has r.active) ys) k in
      let fulls = both (fits_steps y) (list_all fits_steps ys) full in
      let more : ascends ((xs ++ y ∷ []) ++ ys) ≡ true =
      subst (λ zs. ascends zs ≡ true) (sym (append_assoc xs (y ∷ []) ys)) h in
      let below : list_all (λ q. nat_lt q y) (map (λ (t : TraceValue). t.channel) (map (steps_for steps) xs)) ≡ true =
      subst (λ zs. list_all (λ q. nat_lt q y) zs ≡ true) (sym (map-worker steps xs)) (above_front xs y ys h) in
      let now : IsTrue (fits M (amid told (so_far r (first ∷ lines) (map (steps_for steps) xs)))
      (steps_told (steps_for steps y))) =
      and_true (is_channel y) _ form.0
      (and_true (comes_next r.active (map (λ (t : TraceValue). t.channel) (map (steps_for steps) xs)) y) (fits_steps y)
      (and_true (has r.active y)
      (list_all (λ q. nat_lt q y) (map (λ (t : TraceValue). t.channel) (map (steps_for steps) xs))) parts.0 below)
      fulls.0) in
      let rest = all_steps (xs ++ y ∷ []) ys more parts.1 fulls.1 form.1 in
      let start : map (steps_for steps) (xs ++ y ∷ []) ≡ map (steps_for steps) xs ++ steps_for steps y ∷ [] =
      map-append (steps_for steps) xs (y ∷ []) in
      let moved = subst (λ ts. AreGood M (amid told (so_far r (first ∷ lines) ts))
      (map trace_line (map (steps_for steps) ys))
      (amid told (so_far r (first ∷ lines) (map (steps_for steps) ((xs ++ y ∷ []) ++ ys))))) start rest in (
        steps_told (steps_for steps y),
        refl,
        now,
        subst (λ zs. AreGood M (amid told
            (so_far r (first ∷ lines) (map (steps_for steps) xs ++ steps_for steps y ∷ [])))
            (map trace_line (map (steps_for steps) ys))
            (amid told (so_far r (first ∷ lines) (map (steps_for steps) zs)))) (append_assoc xs (y ∷ []) ys) moved,
      )

any-worker : (steps : Channel → List Actor) (p : Channel) (ws : List Channel) →
    list_any (λ (t : TraceValue). t.channel == p) (map (steps_for steps) ws) ≡ has ws p
any-worker steps p [] = refl
any-worker steps p (w ∷ ws) = ap (λ b. (w == p) || b) (any-worker steps p ws)

all-traced : (base : LineValue) (steps : Channel → List Actor) (ws ps : List Channel) → list_all (has ws) ps ≡ true →
    list_all (λ (l : LineValue). list_any (λ (t : TraceValue). t.channel == l.channel) (map (steps_for steps) ws))
    (map (line_for base) ps) ≡ true
all-traced base steps ws [] h = refl
all-traced base steps ws (p ∷ ps) h =
    let parts = both (has ws p) (list_all (has ws) ps) h in
    and_true (list_any (λ (t : TraceValue). t.channel == p) (map (steps_for steps) ws)) _
    (any-worker steps p ws ∙ parts.0) (all-traced base steps ws ps parts.1)

-- A cycle whose record fits is told by good lines.
pub cycle_good : (M : MissionValue) (told : Told) (r : RecordValue) → IsFit M told r →
    AreGood M (between told) (cycle_part true r) (after_cycle M.actuator (r ∷ told))
cycle_good M told r f =
    let ls : List LineValue = map (line_for f.base) (f.first ∷ f.others) in
    let ts : List TraceValue = map (steps_for f.steps) f.workers in
    let lines = all_lines M told r f.base f.first f.others f.ascending f.active f.line_form f.says in
    let steps = all_steps M told r (line_for f.base f.first) (map (line_for f.base) f.others) f.steps [] f.workers
    f.working f.workers_active f.full f.steps_form in
    let removed : removed_fits M (so_far r ls ts) r.removed ≡ true =
    subst (λ zs. removed_fits M (so_far r zs ts) r.removed ≡ true) f.lines f.removed in
    let remaining : same_number r.remaining (number_remaining M told r.transfer) ≡ true =
    subst (λ n. same_number r.remaining n ≡ true) f.remaining (option_same r.remaining) in
    let joined : bytes_eq r.joined (joined_of M.rules.last r.transfer (rest_told M told r.transfer)) ≡ true =
    bytes_alike r.joined (joined_of M.rules.last r.transfer (rest_told M told r.transfer)) f.joined in
    let ends : IsTrue (fits M (amid told (so_far r ls ts)) (end_told r.removed r.joined r.remaining)) =
    and_true (is_form (end_told r.removed r.joined r.remaining)) _ f.end_form
    (and_true (all_traced (so_far r ls ts) && removed_fits M (so_far r ls ts) r.removed) _
    (and_true (all_traced (so_far r ls ts)) (removed_fits M (so_far r ls ts) r.removed)
    (all-traced f.base f.steps f.workers (f.first ∷ f.others) f.traced) removed)
    (and_true (same_number r.remaining (number_remaining M told r.transfer)) _ remaining joined)) in
    let last : closed_record (so_far r ls ts) r.removed r.joined r.remaining ≡ r =
    λ i. record r { lines = sym f.lines i; traces = sym f.traces i } in
    let ended : AreGood M (amid told (so_far r ls ts)) (end_line r ∷ []) (after_cycle M.actuator (r ∷ told)) = (
      end_told r.removed r.joined r.remaining,
      refl,
      ends,
      ap (λ (x : RecordValue). after_cycle M.actuator (x ∷ told)) last,
    ) in
    let body : AreGood M (amid told (so_far r [] [])) ((map channel_line ls ++ map trace_line ts) ++ end_line r ∷ [])
    (after_cycle M.actuator (r ∷ told)) =
    good_append M (amid told (so_far r [] [])) (amid told (so_far r ls ts)) (after_cycle M.actuator (r ∷ told))
    (map channel_line ls ++ map trace_line ts) (end_line r ∷ [])
    (good_append M (amid told (so_far r [] [])) (amid told (so_far r ls [])) (amid told (so_far r ls ts))
    (map channel_line ls) (map trace_line ts) lines steps) ended in (
      cycle_told r.cycle r.active r.transfer,
      refl,
      and_true (is_form (cycle_told r.cycle r.active r.transfer)) _ f.cycle_form f.opens,
      subst (λ zs. AreGood M (amid told (so_far r [] []))
          ((map channel_line zs ++ map trace_line r.traces) ++ end_line r ∷ []) (after_cycle M.actuator (r ∷ told)))
          (sym f.lines)
          (subst (λ zs. AreGood M (amid told (so_far r [] []))
          ((map channel_line ls ++ map trace_line zs) ++ end_line r ∷ []) (after_cycle M.actuator (r ∷ told)))
          (sym f.traces) body),
    )
