-- A trace whose lines are good so far has few lines.
use Rattle.std.proofs.Common.{◌≡◌, ℕ, suc, ◌+◌, ◌*◌, ◌<◌, ◌≤◌, ◌==◌, true, false, not, ◌&&◌, List, [], ◌∷◌, ◌++◌, length, map, Option, None, Some, refl, ap, ◌∙◌, arith}
use Rattle.std.specs.Prelude.{nat_lt, max, bytes_eq}
use Rattle.std.specs.List.{list_all}
use Rattle.std.proofs.lemmas.Bool.{leb-true, eqb-true}
use Rattle.guards_model.specs.Channels.{has}
use Rattle.guards_model.specs.Frames.{is_channel}
use Rattle.guards_model.specs.Missions.{MissionValue, ActuatorValue}
use Rattle.guards_model.specs.Texts.{LineValue, TraceValue, RecordValue}
use Rattle.guards_model.specs.Transfers.{TransferValue}
use Rattle.guards_model.proofs.BoolTests.{both}
use Rattle.guards_audit.specs.Lines.{ReportLine, head_told, cycle_told, channel_told, steps_told, end_told, out_told, done_told, stop_told, is_empty, is_form}
use Rattle.guards_audit.specs.Told.{Told, next_cycle_number, active_told}
use Rattle.guards_audit.specs.Tests.{cycle_fits, comes_next, says_fit, transfer_fits}
use Rattle.guards_audit.specs.Consistency.{Place, at_head, between, amid, awaits_out, at_end, suits_place, following_place, after_cycle}

-- one more than the greatest channel
abbrev top : List ℕ → ℕ
top [] = 0
top (q ∷ qs) = max (suc q) (top qs)

top_under : (p : ℕ) (qs : List ℕ) → list_all (λ q. nat_lt q p) qs ≡ true → top qs ≤ p
top_under p [] h = omega arith
top_under p (q ∷ qs) h =
    let parts = both (nat_lt q p) (list_all (λ x. nat_lt x p) qs) h in
    omega (arith, leb-true (suc q) p parts.0, top_under p qs parts.1)

top_more : (qs : List ℕ) (p : ℕ) → top (qs ++ p ∷ []) ≡ max (top qs) (suc p)
top_more [] p = omega arith
top_more (q ∷ qs) p = omega (arith, top_more qs p)

abbrev lines_top : RecordValue → ℕ
lines_top r = top (map (λ (l : LineValue). l.channel) r.lines)

abbrev traces_top : RecordValue → ℕ
traces_top r = top (map (λ (t : TraceValue). t.channel) r.traces)

-- at most so many lines stand before a place
abbrev pub rank : MissionValue → Place → ℕ
rank M at_head = 0
rank M (between told) = 1 + 17 * length told
rank M (amid told r) = (2 + 17 * length told) + (lines_top r + traces_top r)
rank M (awaits_out told) = 17 * length told
rank M at_end = 2 + 17 * M.cycles

-- a place that lines so far lead to
abbrev pub Placed : MissionValue → Place → Type 0
Placed M at_head = Unit {0}
Placed M (between told) = length told ≤ M.cycles
Placed M (amid told r) = (length told < M.cycles) × (lines_top r ≤ 7) × (traces_top r ≤ 7)
Placed M (awaits_out told) = length told ≤ M.cycles
Placed M at_end = Unit {0}

pub placed_first : (M : MissionValue) → Placed M at_head
placed_first M = tt

pub rank_first : (M : MissionValue) → rank M at_head ≡ 0
rank_first M = refl

pub rank_low : (M : MissionValue) (p : Place) → Placed M p → rank M p ≤ 2 + 17 * M.cycles
rank_low M at_head h = omega arith
rank_low M (between told) h = omega (arith, h)
rank_low M (amid told r) h = omega (arith, h.0, h.1, h.2)
rank_low M (awaits_out told) h = omega (arith, h)
rank_low M at_end h = omega arith

-- a line leads on by at least one
pub record LeadsOn (M : MissionValue) (p next : Place) : Type 0 where
  pub placed : Placed M next
  pub more : rank M p + 1 ≤ rank M next

differ : {A : Type 0} → false ≡ true → A
differ h = absurd (wrong h)
  where
    wrong : false ≡ true → ⊥
    wrong k = cc

begins_low : (M : MissionValue) (told : Told) (c : ℕ) (active : List ℕ) (t : Option TransferValue) →
    cycle_fits M told c active t ≡ true → length told < M.cycles
begins_low M told c active t h =
    let a = both (nat_lt c M.cycles && c == next_cycle_number told)
    (bytes_eq active (active_told M told) && transfer_fits M told active t) h in
    let b = both (nat_lt c M.cycles) (c == next_cycle_number told) a.0 in
    omega (arith, leb-true (suc c) M.cycles b.0, eqb-true c (next_cycle_number told) b.1)

ends_by : (M : MissionValue) (told : Told) (r r' : RecordValue) (o : Option ActuatorValue) → Placed M (amid told r) →
    LeadsOn M (amid told r) (after_cycle o (r' ∷ told))
ends_by M told r r' None h = record { placed = omega (arith, h.0); more = omega (arith, h.1, h.2) }
ends_by M told r r' (Some a) h = record { placed = omega (arith, h.0); more = omega (arith, h.1, h.2) }

map_more : {A : Type 0} (f : A → ℕ) (xs : List A) (x : A) → map f (xs ++ x ∷ []) ≡ map f xs ++ f x ∷ []
map_more f [] x = refl
map_more f (y ∷ xs) x = ap (λ ys. f y ∷ ys) (map_more f xs x)

pub leads_on : (M : MissionValue) (p : Place) (line : ReportLine) → is_form line ≡ true → suits_place M p line ≡ true →
    Placed M p → LeadsOn M p (following_place M p line)
leads_on M at_head (head_told n m) form h k = record { placed = omega arith; more = omega arith }
leads_on M (between told) (cycle_told c active t) form h k =
    record { placed = (begins_low M told c active t h, omega arith, omega arith); more = omega arith }
leads_on M (between told) (done_told n) form h k =
    record {
      placed = tt;
      more =
          omega (
            arith,
            eqb-true (length told) M.cycles
                (both (next_cycle_number told == M.cycles) (n == M.cycles) h).0,
          );
    }
leads_on M (amid told r) (channel_told l) form h k =
    let f = λ (x : LineValue). x.channel in
    let next = (both (is_empty r.traces) (comes_next r.active (map f r.lines) l.channel)
    (both (is_empty r.traces && comes_next r.active (map f r.lines) l.channel) (says_fit M told r l) h).0).1 in
    let under = top_under l.channel (map f r.lines)
    (both (has r.active l.channel) (list_all (λ q. nat_lt q l.channel) (map f r.lines)) next).1 in
    let low = leb-true (suc l.channel) 7 (both (is_channel l.channel) _ form).0 in
    let grown = ap top (map_more f r.lines l) ∙ top_more (map f r.lines) l.channel in
    record { placed = (k.0, omega (arith, grown, under, low, k.1), k.2); more = omega (arith, grown, under) }
leads_on M (amid told r) (steps_told t) form h k =
    let f = λ (x : TraceValue). x.channel in
    let next = (both (not (is_empty r.lines)) (comes_next r.active (map f r.traces) t.channel)
    (both (not (is_empty r.lines) && comes_next r.active (map f r.traces) t.channel) _ h).0).1 in
    let under = top_under t.channel (map f r.traces)
    (both (has r.active t.channel) (list_all (λ q. nat_lt q t.channel) (map f r.traces)) next).1 in
    let low = leb-true (suc t.channel) 7 form in
    let grown = ap top (map_more f r.traces t) ∙ top_more (map f r.traces) t.channel in
    record { placed = (k.0, k.1, omega (arith, grown, under, low, k.2)); more = omega (arith, grown, under) }
leads_on M (amid told r) (end_told removed joined left) form h k = ends_by M told r _ M.actuator k
leads_on M (awaits_out told) (out_told words) form h k = record { placed = k; more = omega arith }
leads_on M at_head (cycle_told c active t) form h k = differ h
leads_on M at_head (channel_told l) form h k = differ h
leads_on M at_head (steps_told t) form h k = differ h
leads_on M at_head (end_told removed joined left) form h k = differ h
leads_on M at_head (out_told words) form h k = differ h
leads_on M at_head (done_told n) form h k = differ h
leads_on M at_head (stop_told s) form h k = differ h
leads_on M (between told) (head_told n m) form h k = differ h
leads_on M (between told) (channel_told l) form h k = differ h
leads_on M (between told) (steps_told t) form h k = differ h
leads_on M (between told) (end_told removed joined left) form h k = differ h
leads_on M (between told) (out_told words) form h k = differ h
leads_on M (between told) (stop_told s) form h k = differ h
leads_on M (amid told r) (head_told n m) form h k = differ h
leads_on M (amid told r) (cycle_told c active t) form h k = differ h
leads_on M (amid told r) (out_told words) form h k = differ h
leads_on M (amid told r) (done_told n) form h k = differ h
leads_on M (amid told r) (stop_told s) form h k = differ h
leads_on M (awaits_out told) (head_told n m) form h k = differ h
leads_on M (awaits_out told) (cycle_told c active t) form h k = differ h
leads_on M (awaits_out told) (channel_told l) form h k = differ h
leads_on M (awaits_out told) (steps_told t) form h k = differ h
leads_on M (awaits_out told) (end_told removed joined left) form h k = differ h
leads_on M (awaits_out told) (done_told n) form h k = differ h
leads_on M (awaits_out told) (stop_told s) form h k = differ h
leads_on M at_end (head_told n m) form h k = differ h
leads_on M at_end (cycle_told c active t) form h k = differ h
leads_on M at_end (channel_told l) form h k = differ h
leads_on M at_end (steps_told t) form h k = differ h
leads_on M at_end (end_told removed joined left) form h k = differ h
leads_on M at_end (out_told words) form h k = differ h
leads_on M at_end (done_told n) form h k = differ h
leads_on M at_end (stop_told s) form h k = differ h
