-- A run's first stop stays its stop, and a run that did not stop is told whole.
use Rattle.std.proofs.Common.{◌≡◌, ◌+◌, ℕ, zero, suc, [], ◌∷◌, length, Some, None, refl, ap, ◌∙◌, arith}
use Rattle.std.specs.Prelude.{is_some, if◌then◌else◌}
use Rattle.guards_model.specs.Missions.{MissionValue}
use Rattle.guards_model.specs.Network.{Log}
use Rattle.guards_model.specs.Texts.{StopValue}
use Rattle.guards_runs.specs.Cycles.{Past, cycles_before, cycle_at}
use Rattle.guards_runs.specs.Disturbed.{stop_in, stop_of, first_of_two}
use Rattle.guards_runs.specs.Report.{told_cycles}
use Rattle.guards_laws.proofs.LogGrows.{length-cycles_before}

-- the first stop stays the first
pub stop_stays : (M : MissionValue) (L : Log) (n : ℕ) (stop : StopValue) → stop_of (cycles_before M L n) ≡ None →
    stop_in n (cycle_at M L n) ≡ Some stop → (k m : ℕ) → m ≡ n + suc k →
    stop_of (cycles_before M L m) ≡ Some stop
stop_stays M L n stop unstopped stops zero m h =
    let e : m ≡ suc n = omega (arith, h) in
    rw e
    (ap (λ o. first_of_two o (stop_in (length (cycles_before M L n)) (cycle_at M L n))) unstopped
    ∙ ap (λ c. stop_in c (cycle_at M L n)) (length-cycles_before M L n) ∙ stops)
stop_stays M L n stop unstopped stops (suc k) m h =
    let e : m ≡ suc (n + suc k) = omega (arith, h) in
    rw e
    (ap (λ o. first_of_two o (stop_in (length (cycles_before M L (n + suc k))) (cycle_at M L (n + suc k))))
    (stop_stays M L n stop unstopped stops k (n + suc k) refl))

pub told_whole : (past : Past) → stop_of past ≡ None → told_cycles past ≡ past
told_whole [] h = refl
told_whole (e ∷ past) h = ap (λ o. if is_some o then told_cycles past else e ∷ past) h
