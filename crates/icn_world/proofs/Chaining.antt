-- How the parts of a cycle follow one another: what they carry comes one after the other, and what one reaches the next
-- begins with.
use Rattle.std.proofs.Common.{◌≡◌, ℕ, ◌+◌, List, [], ◌++◌, length, Result, Ok, Err, refl, sym, ap, subst, ◌∙◌, arith}
use Rattle.std.proofs.lemmas.List.{append-nil, append_assoc, length-append}
use Rattle.guards_model.specs.BusRules.{RuleValue}
use Rattle.guards_model.specs.Network.{EntryValue, Log, BusValue}
use Rattle.guards_model.specs.Rounds.{Steps}
use Rattle.guards_model.specs.Missions.{MissionValue}
use Rattle.guards_model.proofs.Membership.{All-append}
use Rattle.std.specs.List.{AllByRecursion}
use Rattle.std.specs.Result.{IsErrAnd}
use Rattle.guards_world.specs.Worlds.{WorldValue}
use Rattle.guards_world.specs.WorldCycle.{Carries}
use Rattle.world_laws.specs.Fronts.{IsRunFront}
use Rattle.fault_script.specs.declared.disturbance.Disturbance.{Disturbance}
use Rattle.icn_world.specs.declared.world.Halt.{Halt}
use Rattle.icn_world.specs.declared.world.Halt.TheVariants.{NoMemory}
use Rattle.icn_world.specs.Kept.{IsWorldKept}
use Rattle.icn_world.specs.Stages.{Condition, Reaches, PassesPart}

pub carries_on : (may : List RuleValue → EntryValue → Type 0) (b b1 b2 : BusValue) (first second : Log) →
    Carries may b b1 first → Carries may b1 b2 second → Carries may b b2 (first ++ second)
carries_on may b b1 b2 first second one two =
    record {
      log = two.log ∙ ap (λ (l : Log). l ++ second) one.log ∙ append_assoc b.log first second;
      script = two.script ∙ one.script;
      each = All-append (may b.script) first second one.each
          (subst (λ (s : List RuleValue). AllByRecursion (may s) second) one.script two.each);
    }

pub carries_nothing : (may : List RuleValue → EntryValue → Type 0) (b : BusValue) → Carries may b b []
carries_nothing may b = record { log = sym (append-nil b.log); script = refl; each = tt }

pub counts_on : (n one two : ℕ) (first second : Log) → one ≡ n + length first → two ≡ one + length second →
    two ≡ n + length (first ++ second)
counts_on n one two first second a b = omega (arith, a, b, length-append first second)

-- a part that ended well, and then another
pub then : {A B : Type 0} {may : List RuleValue → EntryValue → Type 0} {P : Condition} {Q : A → Condition}
    {R : B → Condition}
    {x : A} {r : Result B Halt} {w w1 w2 : WorldValue} {d d1 d2 : Disturbance} {b b1 b2 : BusValue} →
    PassesPart may P Q (Ok x) w w1 d d1 b b1 → PassesPart may (Q x) R r w1 w2 d1 d2 b1 b2 →
    PassesPart may P R r w w2 d d2 b b2
then {may = may} {R = R} {r = r} {w = w} {w1 = w1} {w2 = w2} {d2 = d2} {b = b} {b1 = b1} {b2 = b2} one two =
    record {
      entries = one.entries ++ two.entries;
      carries = carries_on may b b1 b2 one.entries two.entries one.carries two.carries;
      mission = two.mission ∙ one.mission;
      done = two.done ∙ one.done;
      count = counts_on w.carried w1.carried w2.carried one.entries two.entries one.count two.count;
      ends = λ earlier current steps held.
          subst (λ (all : Log). Reaches R r earlier all steps w2 d2) (append_assoc current one.entries two.entries)
          (two.ends earlier (current ++ one.entries) steps (one.ends earlier current steps held));
    }

-- a part that halted: so the whole halts
pub halted : {A B : Type 0} {may : List RuleValue → EntryValue → Type 0} {P : Condition} {Q : A → Condition}
    {R : B → Condition}
    {h : Halt} {w w1 : WorldValue} {d d1 : Disturbance} {b b1 : BusValue} →
    PassesPart may P Q (Err h) w w1 d d1 b b1 → PassesPart may P R (Err h) w w1 d d1 b b1
halted one =
    record {
      entries = one.entries;
      carries = one.carries;
      mission = one.mission;
      done = one.done;
      count = one.count;
      ends = λ earlier current steps held. one.ends earlier current steps held;
    }

-- the error that a `?` takes on
pub err_is : {A : Type 0} (r : Result A Halt) (h : Halt) → IsErrAnd r (λ x. x ≡ h) → r ≡ Err h
err_is (Ok x) h is = absurd is
err_is (Err x) h is = ap Err is

-- the same, where a `?` takes on the halt
pub halted_by : {A B : Type 0} {may : List RuleValue → EntryValue → Type 0} {P : Condition} {Q : A → Condition}
    {R : B → Condition}
    {h : Halt} {w w1 : WorldValue} {d d1 : Disturbance} {b b1 : BusValue} (r : Result B Halt) →
    IsErrAnd r (λ x. x ≡ h) →
    PassesPart may P Q (Err h) w w1 d d1 b b1 → PassesPart may P R r w w1 d d1 b b1
halted_by {may = may} {P = P} {R = R} {h = h} {w = w} {w1 = w1} {d = d} {d1 = d1} {b = b} {b1 = b1} r is one =
    subst (λ (x : Result _ Halt). PassesPart may P R x w w1 d d1 b b1) (sym (err_is r h is)) (halted one)

-- a part that carries nothing
pub without_carry : {A : Type 0} (may : List RuleValue → EntryValue → Type 0) (P : Condition) (Q : A → Condition)
    (r : Result A Halt) (w w1 : WorldValue) (d d1 : Disturbance) (b : BusValue) →
    w1.mission ≡ w.mission → w1.done ≡ w.done → w1.carried ≡ w.carried →
    ((earlier current : Log) (steps : Steps) → P earlier current steps w d → Reaches Q r earlier current steps w1 d1) →
    PassesPart may P Q r w w1 d d1 b b
without_carry may P Q r w w1 d d1 b mission done count ends =
    record {
      entries = [];
      carries = carries_nothing may b;
      mission = mission;
      done = done;
      count = omega (arith, count);
      ends = λ earlier current steps held.
          subst (λ (all : Log). Reaches Q r earlier all steps w1 d1) (sym (append-nil current))
          (ends earlier current steps held);
    }

-- a part that finds no memory, when what was carried before is a front of the run's due entries
pub without_memory : {A : Type 0} (may : List RuleValue → EntryValue → Type 0) (P : Condition) (Q : A → Condition)
    (r : Result A Halt) (w w1 : WorldValue) (d : Disturbance) (b : BusValue) → IsErrAnd r (λ x. x ≡ NoMemory) →
    IsWorldKept w w1 →
    ((earlier current : Log) (steps : Steps) → P earlier current steps w d →
    IsRunFront w.mission earlier current w.done) → PassesPart may P Q r w w1 d d b b
without_memory may P Q r w w1 d b none kept front =
    subst (λ (x : Result _ Halt). PassesPart may P Q x w w1 d d b b) (sym (err_is r NoMemory none))
    (without_carry may P Q (Err NoMemory) w w1 d d b kept.mission kept.done kept.carried
    (λ earlier current steps held. subst (λ (n : ℕ). IsRunFront w1.mission earlier current n) (sym kept.done)
    (subst (λ (M : MissionValue). IsRunFront M earlier current w.done) (sym kept.mission)
    (front earlier current steps held))))

-- a step that carries nothing, and then a part
pub after_step : {A : Type 0} {may : List RuleValue → EntryValue → Type 0} {P : Condition} {Q : A → Condition}
    {r : Result A Halt} {w1 w2 : WorldValue} {d d2 : Disturbance} {b b2 : BusValue} (O : Condition) (w : WorldValue) →
    IsWorldKept w w1 →
    ((earlier current : Log) (steps : Steps) → O earlier current steps w d → P earlier current steps w1 d) →
    PassesPart may P Q r w1 w2 d d2 b b2 → PassesPart may O Q r w w2 d d2 b b2
after_step {may = may} {P = P} {w1 = w1} {d = d} {b = b} O w kept step one =
    then {x = tt} (without_carry may O (λ (u : Unit {0}). P) (Ok tt) w w1 d d b kept.mission kept.done kept.carried
    step) one

-- a part that ended well, and then a step that carries nothing
pub then_step : {A B : Type 0} {may : List RuleValue → EntryValue → Type 0} {P : Condition} {Q : A → Condition}
    {x : A} {w w1 : WorldValue} {d d1 : Disturbance} {b b1 : BusValue} (R : B → Condition) (y : B) (w2 : WorldValue) →
    IsWorldKept w1 w2 →
    ((earlier current : Log) (steps : Steps) → Q x earlier current steps w1 d1 → R y earlier current steps w2 d1) →
    PassesPart may P Q (Ok x) w w1 d d1 b b1 → PassesPart may P R (Ok y) w w2 d d1 b b1
then_step {may = may} {Q = Q} {x = x} {w1 = w1} {d1 = d1} {b1 = b1} R y w2 kept step one =
    then one (without_carry may (Q x) R (Ok y) w1 w2 d1 d1 b1 kept.mission kept.done kept.carried step)

reaches_more : {A : Type 0} (Q R : A → Condition) (r : Result A Halt) (earlier current : Log) (steps : Steps)
    (w : WorldValue) (d : Disturbance) →
    ((x : A) → Q x earlier current steps w d → R x earlier current steps w d) → Reaches Q r earlier current steps w d →
    Reaches R r earlier current steps w d
reaches_more Q R (Ok x) earlier current steps w d more held = more x held
reaches_more Q R (Err h) earlier current steps w d more held = held

-- a part of which more is known by what held before it
pub knowing : {A : Type 0} {may : List RuleValue → EntryValue → Type 0} {P : Condition} {Q : A → Condition}
    {r : Result A Halt} {w w1 : WorldValue} {d d1 : Disturbance} {b b1 : BusValue} (R : A → Condition) →
    ((x : A) (earlier current new : Log) (steps : Steps) → P earlier current steps w d →
    Q x earlier (current ++ new) steps w1 d1 → R x earlier (current ++ new) steps w1 d1) →
    PassesPart may P Q r w w1 d d1 b b1 → PassesPart may P R r w w1 d d1 b b1
knowing {Q = Q} {r = r} {w1 = w1} {d1 = d1} R more one =
    record {
      entries = one.entries;
      carries = one.carries;
      mission = one.mission;
      done = one.done;
      count = one.count;
      ends = λ earlier current steps held.
          reaches_more Q R r earlier (current ++ one.entries) steps w1 d1
          (λ x found. more x earlier current one.entries steps held found) (one.ends earlier current steps held);
    }

-- a part whose condition follows from another one
pub from : {A : Type 0} {may : List RuleValue → EntryValue → Type 0} {P : Condition} {Q : A → Condition}
    {r : Result A Halt} {w w1 : WorldValue} {d d1 : Disturbance} {b b1 : BusValue} (O : Condition) →
    ((earlier current : Log) (steps : Steps) → O earlier current steps w d → P earlier current steps w d) →
    PassesPart may P Q r w w1 d d1 b b1 → PassesPart may O Q r w w1 d d1 b b1
from O weaker one =
    record {
      entries = one.entries;
      carries = one.carries;
      mission = one.mission;
      done = one.done;
      count = one.count;
      ends = λ earlier current steps held. one.ends earlier current steps (weaker earlier current steps held);
    }
