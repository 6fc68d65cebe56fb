-- The round that a node tells of, and a list from whose end one element is taken and put back.
use Rattle.std.proofs.Common.{◌≡◌, ℕ, ◌<◌, All, map, arith, List, [], ◌∷◌, ◌++◌, Option, Some, None, option_map, Result, Ok, Err, OnOk, refl, ap, ◌∙◌}
use Rattle.std.specs.Prelude.{⊤, option_and_then}
use Rattle.std.specs.List.{AllZip}
use Rattle.std.specs.Result.{result_and}
use Rattle.std.proofs.lemmas.List.Elements.{AllZip-push, All-nil, All-cons}
use Rattle.guards_model.specs.declared.Actor.{Actor}
use Rattle.guards_model.specs.declared.Actor.TheVariants.{Task, Sweep}
use Rattle.guards_model.specs.Records.{step_number}
use Rattle.guards_model.specs.Channels.{Channel}
use Rattle.guards_model.specs.Texts.{TraceValue}
use Rattle.guards_nodes.specs.NodeStates.{RunningValue, WorkedValue}

abbrev pub with_steps : Channel → List Actor → TraceValue
with_steps q steps = record { channel = q; steps = steps }

told : (q : Channel) (worked : Option WorkedValue) →
    option_map (with_steps q) (option_map (λ (w : WorkedValue). w.steps) worked)
    ≡ option_map (λ (w : WorkedValue). with_steps q w.steps) worked
told q None = refl
told q (Some w) = refl

pub trace_by : (q : Channel) (part : Option RunningValue) (steps : Option (List Actor)) →
    steps ≡ option_and_then (λ (r : RunningValue). option_map (λ (w : WorkedValue). w.steps) r.progress.worked) part →
    option_map (with_steps q) steps
    ≡ option_map (λ (w : WorkedValue). with_steps q w.steps)
    (option_and_then (λ (r : RunningValue). r.progress.worked) part)
trace_by q None steps is = ap (option_map (with_steps q)) is
trace_by q (Some r) steps is = ap (option_map (with_steps q)) is ∙ told q r.progress.worked

-- numbers of steps are 0 or 1
each_of_two : (h : List Actor) → All (λ s. s < 2) (map step_number h)
each_of_two [] = All-nil (λ s. s < 2)
each_of_two (Task ∷ h) = All-cons (λ s. s < 2) 0 (map step_number h) (omega arith) (each_of_two h)
each_of_two (Sweep ∷ h) = All-cons (λ s. s < 2) 1 (map step_number h) (omega arith) (each_of_two h)

pub of_two : (numbers : List ℕ) (h : List Actor) → numbers ≡ map step_number h → All (λ s. s < 2) numbers
of_two numbers h is = rw is (each_of_two h)

-- ---- the last element

stepped : {A E : Type 0} (P : A → A × Result ⊤ E → Type 0) (front left : List A) (last now : A) (a b : Result ⊤ E) →
    OnOk a (AllZip (λ x y. P x (y, Ok tt)) front left) → P last (now, b) →
    OnOk (result_and a b) (AllZip (λ x y. P x (y, Ok tt)) (front ++ last ∷ []) (left ++ now ∷ []))
stepped P front left last now (Ok u) (Ok v) h r = AllZip-push (λ x y. P x (y, Ok tt)) front left last now h r
stepped P front left last now (Ok u) (Err e) h r = tt
stepped P front left last now (Err e) b h r = tt

-- where the others made their steps, and the last one its own, each made its step
pub all_stepped : {A E : Type 0} (P : A → A × Result ⊤ E → Type 0) (all front left new : List A) (last now : A)
    (a b c : Result ⊤ E) →
    all ≡ front ++ last ∷ [] → new ≡ left ++ now ∷ [] → c ≡ result_and a b →
    OnOk a (AllZip (λ x y. P x (y, Ok tt)) front left) → P last (now, b) →
    OnOk c (AllZip (λ x y. P x (y, Ok tt)) all new)
all_stepped P all front left new last now a b c was is both h r =
    rw (was, is, both) (stepped P front left last now a b h r)
