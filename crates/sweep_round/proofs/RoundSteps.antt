-- A write and a copy more in a round.
use Rattle.std.proofs.Common.{◌≡◌, cond, ◌+◌, ◌<◌, ◌≤◌, ℕ, zero, suc, ℤ, List, [], ◌∷◌, ◌++◌, length, map, refl, sym, ap, subst, ◌∙◌, arith, Option, Some, None}
use Rattle.std.specs.Prelude.{count_by, slice_get, unwrap_or, IsSomeAnd, All}
use Rattle.std.proofs.lemmas.List.{map-append, length-set}
use Rattle.std.proofs.lemmas.List.Sums.{sum_by-cons}
use Rattle.guards_model.specs.declared.Actor.{Actor}
use Rattle.guards_model.specs.declared.Actor.TheVariants.{Task, Sweep}
use Rattle.guards_model.specs.Contexts.{BlockValue, ContextValue, zero_block, block_at}
use Rattle.guards_model.specs.Frames.{CopyValue}
use Rattle.guards_model.specs.Records.{actor_of_step, step_number}
use Rattle.guards_model.specs.Tasks.{WriteValue, written, written_if, replaced, whole}
use Rattle.guards_model.specs.Rounds.{Origin, is_task, is_sweep, context_at, copies_at, writes_before_from, context_of_replay, copies_of_replay, IsFull}
use Rattle.ctx_lock.specs.History.{times}
use Rattle.ctx_lock.proofs.Histories.{times_push}
use Rattle.sweep_round.specs.Replay.{actors_of, IsReplay, AreMade}

-- the count of an actor's steps
pub times_task : (h : List Actor) → times Task h ≡ count_by is_task h
times_task [] = refl
times_task (Task ∷ h) = omega (arith, times_task h, sum_by-cons (λ x. cond (is_task x) 1 0) Task h)
times_task (Sweep ∷ h) = omega (arith, times_task h, sum_by-cons (λ x. cond (is_task x) 1 0) Sweep h)

pub times_sweep : (h : List Actor) → times Sweep h ≡ count_by is_sweep h
times_sweep [] = refl
times_sweep (Task ∷ h) = omega (arith, times_sweep h, sum_by-cons (λ x. cond (is_sweep x) 1 0) Task h)
times_sweep (Sweep ∷ h) = omega (arith, times_sweep h, sum_by-cons (λ x. cond (is_sweep x) 1 0) Sweep h)

-- one step more, written as a number
pub actors_more : (steps : List ℕ) (step : ℕ) →
    actors_of (steps ++ step ∷ []) ≡ actors_of steps ++ actors_of (step ∷ [])
actors_more steps step = map-append _ steps (step ∷ [])

-- steps that are written by their numbers, with one more
pub numbers_more : (steps : List ℕ) (step : ℕ) → step ≡ step_number (actor_of_step step) →
    steps ≡ map step_number (actors_of steps)
    → steps ++ step ∷ [] ≡ map step_number (actors_of (steps ++ step ∷ []))
numbers_more steps step one before =
    ap (λ l. l ++ step ∷ []) before
    ∙ ap (λ k. map step_number (actors_of steps) ++ k ∷ []) one
    ∙ sym (map-append step_number (actors_of steps) (actors_of (step ∷ [])))
    ∙ ap (map step_number) (sym (actors_more steps step))

-- how many writes the steps have, after one more
tasks_more : (h : List Actor) → count_by is_task (h ++ Task ∷ []) ≡ suc (count_by is_task h)
tasks_more h = omega (arith, times_task h, times_task (h ++ Task ∷ []), times_push Task Task h)

tasks_same : (h : List Actor) → count_by is_task (h ++ Sweep ∷ []) ≡ count_by is_task h
tasks_same h = omega (arith, times_task h, times_task (h ++ Sweep ∷ []), times_push Task Sweep h)

-- ---- a write

places_same : (n : ℕ) (h : List Actor) → writes_before_from n (h ++ Task ∷ []) ≡ writes_before_from n h
places_same n [] = refl
places_same n (Task ∷ h) = places_same (n + 1) h
places_same n (Sweep ∷ h) = ap (λ (l : List ℕ). n ∷ l) (places_same n h)

module _ (o : Origin) where
  pub context_after : (h : List Actor) (context new : ContextValue) (n : ℕ) (w : WriteValue) →
      context ≡ context_of_replay o h → n ≡ times Task h
      → slice_get o.row n ≡ Some w → new ≡ written w context o.inputs o.cycle →
      new ≡ context_of_replay o (h ++ Task ∷ [])
  context_after h context new n w before count here after =
      after ∙ ap (λ (c : ContextValue). written w c o.inputs o.cycle) before
      ∙ ap (λ (s : Option WriteValue). written_if s (context_of_replay o h) o.inputs o.cycle)
      (sym here ∙ ap (slice_get o.row) (count ∙ times_task h))
      ∙ ap (context_at o) (sym (tasks_more h))

  pub copies_after_write : (h : List Actor) (copies : List CopyValue) → copies ≡ copies_of_replay o h →
      copies ≡ copies_of_replay o (h ++ Task ∷ [])
  copies_after_write h copies before = before ∙ ap (copies_at o o.plan) (sym (places_same 0 h))

-- ---- a copy

places_more : (n : ℕ) (h : List Actor) →
    writes_before_from n (h ++ Sweep ∷ []) ≡ writes_before_from n h ++ (n + times Task h) ∷ []
places_more n [] = ap (λ k. k ∷ []) same
  where
    same : n ≡ n + 0
    same = omega arith
places_more n (Task ∷ h) =
    places_more (n + 1) h ∙ ap (λ k. writes_before_from (n + 1) h ++ k ∷ []) (next (times Task h))
  where
    next : (k : ℕ) → (n + 1) + k ≡ n + (1 + k)
    next k = omega arith
places_more n (Sweep ∷ h) =
    ap (λ (l : List ℕ). n ∷ l) (places_more n h)
    ∙ ap (λ k. n ∷ (writes_before_from n h ++ k ∷ [])) (same (times Task h))
  where
    same : (k : ℕ) → n + k ≡ n + (0 + k)
    same k = omega arith

length-places : (n : ℕ) (h : List Actor) → length (writes_before_from n h) ≡ times Sweep h
length-places n [] = refl
length-places n (Task ∷ h) = omega (arith, length-places (n + 1) h)
length-places n (Sweep ∷ h) = omega (arith, length-places n h)

module _ (o : Origin) where
  -- no step, no copy
  pub no_copies : (plan : List ℕ) → copies_at o plan [] ≡ []
  no_copies [] = refl
  no_copies (b ∷ plan) = refl

  abbrev copy_at : ℕ → ℕ → CopyValue
  copy_at b p = record { block = b; words = block_at (context_at o p) b }

  copies_more : (plan places : List ℕ) (p b : ℕ) → slice_get plan (length places) ≡ Some b
      → copies_at o plan (places ++ p ∷ []) ≡ copies_at o plan places ++ copy_at b p ∷ []
  copies_more [] places p b here = absurd cc
  copies_more (x ∷ plan) [] p b here =
      ap (λ (l : List CopyValue). copy_at x p ∷ l) (no_copies plan) ∙ ap (λ k. copy_at k p ∷ []) (inside here)
    where
      inside : Some x ≡ Some b → x ≡ b
      inside h = cc
  copies_more (x ∷ plan) (q ∷ places) p b here =
      ap (λ (l : List CopyValue). copy_at x q ∷ l) (copies_more plan places p b here)

  pub copies_after : (h : List Actor) (copies : List CopyValue) (k b : ℕ) (context : ContextValue) (words : List ℤ) →
      copies ≡ copies_of_replay o h → k ≡ times Sweep h
      → slice_get o.plan k ≡ Some b → context ≡ context_of_replay o h → slice_get context b ≡ Some words
      → copies ++ record { block = b; words = words } ∷ [] ≡ copies_of_replay o (h ++ Sweep ∷ [])
  copies_after h copies k b context words before count here now found =
      let places = writes_before_from 0 h in
      let same : words ≡ block_at (context_at o (0 + times Task h)) b =
      ap (λ w. unwrap_or w zero_block) (sym found)
      ∙ ap (λ (c : ContextValue). block_at c b) (now ∙ ap (context_at o) (writes h)) in
      let there : slice_get o.plan (length places) ≡ Some b =
      ap (slice_get o.plan) (length-places 0 h ∙ sym count) ∙ here in
      ap (λ (w : List ℤ). copies ++ record { block = b; words = w } ∷ []) same
      ∙ ap (λ (l : List CopyValue). l ++ copy_at b (0 + times Task h) ∷ []) before
      ∙ sym (copies_more o.plan places (0 + times Task h) b there)
      ∙ ap (copies_at o o.plan) (sym (places_more 0 h))
    where
      writes : (h : List Actor) → count_by is_task h ≡ 0 + times Task h
      writes h = omega (arith, times_task h)

  pub context_same : (h : List Actor) (context : ContextValue) → context ≡ context_of_replay o h →
      context ≡ context_of_replay o (h ++ Sweep ∷ [])
  context_same h context before = before ∙ ap (context_at o) (sym (tasks_same h))

-- ---- a round's facts

module _ (o : Origin) where
  -- before the first step
  pub nothing_done : (context : ContextValue) (copies : List CopyValue) → context ≡ o.context → copies ≡ [] →
      IsReplay o [] context copies
  nothing_done context copies same none = record { context_is = same; copies_are = none ∙ sym (no_copies o o.plan) }

  -- what a write leaves
  pub record Wrote (steps : List ℕ) (context new : ContextValue) (copies : List CopyValue) (writes made : ℕ) : Type
      0 where
    pub replay : IsReplay o (actors_of (steps ++ 0 ∷ [])) new copies
    pub made_are : AreMade o (actors_of (steps ++ 0 ∷ [])) (writes + 1) made
    pub length_is : length new ≡ length context

  pub wrote : (steps : List ℕ) (context new : ContextValue) (copies : List CopyValue) (writes made block : ℕ) →
      IsReplay o (actors_of steps) context copies → AreMade o (actors_of steps) writes made
      → writes < length o.row →
      IsSomeAnd (slice_get o.row writes) (λ w. (new ≡ written w context o.inputs o.cycle) × (block ≡ w.block)) →
      Wrote steps context new copies writes made
  wrote steps context new copies writes made block before count low found = at_write (slice_get o.row writes) refl found
    where
      h : List Actor
      h = actors_of steps

      more : actors_of (steps ++ 0 ∷ []) ≡ h ++ Task ∷ []
      more = actors_more steps 0

      at_write : (at : Option WriteValue) → slice_get o.row writes ≡ at →
          IsSomeAnd at (λ w. (new ≡ written w context o.inputs o.cycle) × (block ≡ w.block)) →
          Wrote steps context new copies writes made
      at_write None e f = absurd f
      at_write (Some w) e f =
          record {
            replay =
                subst (λ (l : List Actor). IsReplay o l new copies) (sym more)
                (record {
                  context_is = context_after o h context new writes w before.context_is count.writes_are e f.0;
                  copies_are = copies_after_write o h copies before.copies_are;
                });
            made_are =
                subst (λ (l : List Actor). AreMade o l (writes + 1) made) (sym more)
                (record {
                  writes_are = omega (arith, count.writes_are, times_push Task Task h);
                  copies_are = omega (arith, count.copies_are, times_push Sweep Task h);
                  few_writes = omega (arith, low);
                  few_copies = count.few_copies;
                });
            length_is = ap length f.0
                ∙ length-set context w.block (replaced w.set (block_at context w.block) context o.inputs o.cycle);
          }

  -- what a copy leaves
  pub record Copied (steps : List ℕ) (context : ContextValue) (copies : List CopyValue) (copy : CopyValue)
      (writes made : ℕ) : Type 0 where
    pub replay : IsReplay o (actors_of (steps ++ 1 ∷ [])) context (copies ++ copy ∷ [])
    pub made_are : AreMade o (actors_of (steps ++ 1 ∷ [])) writes (made + 1)

  pub copied : (steps : List ℕ) (context : ContextValue) (copies : List CopyValue) (writes made block : ℕ)
      (words : BlockValue) → IsReplay o (actors_of steps) context copies → AreMade o (actors_of steps) writes made
      → made < length o.plan → slice_get o.plan made ≡ Some block → slice_get context block ≡ Some words
      → Copied steps context copies (record { block = block; words = words }) writes made
  copied steps context copies writes made block words before count low planned found =
      record {
        replay =
            subst (λ (l : List Actor). IsReplay o l context (copies ++ record { block = block; words = words } ∷ []))
            (sym more)
            (record {
              context_is = context_same o h context before.context_is;
              copies_are = copies_after o h copies made block context words before.copies_are count.copies_are planned
                  before.context_is found;
            });
        made_are =
            subst (λ (l : List Actor). AreMade o l writes (made + 1)) (sym more)
            (record {
              writes_are = omega (arith, count.writes_are, times_push Task Sweep h);
              copies_are = omega (arith, count.copies_are, times_push Sweep Sweep h);
              few_writes = count.few_writes;
              few_copies = omega (arith, low);
            });
      }
    where
      h : List Actor
      h = actors_of steps

      more : actors_of (steps ++ 1 ∷ []) ≡ h ++ Sweep ∷ []
      more = actors_more steps 1

  -- after all writes
  pub whole_done : (h : List Actor) (context : ContextValue) (copies : List CopyValue) → IsReplay o h context copies →
      times Task h ≡ length o.row → context ≡ whole o.row o.context o.cycle o.inputs
  whole_done h context copies replay full = replay.context_is ∙ ap (context_at o) (sym (times_task h) ∙ full)

  pub is_full : (h : List Actor) → times Task h ≡ length o.row → times Sweep h ≡ length o.plan → IsFull o h
  is_full h tasks sweeps = record { tasks = sym (times_task h) ∙ tasks; sweeps = sym (times_sweep h) ∙ sweeps }
