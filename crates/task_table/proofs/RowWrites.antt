-- The writes of the tasks that a row names.
use Rattle.std.proofs.Common.{◌≡◌, ℕ, zero, suc, ◌+◌, ◌-◌, ◌%◌, ◌<◌, ◌≤◌, Bool, true, false, ◌&&◌, List, [], ◌∷◌, ◌++◌, length, take, drop, get_or, Option, Some, None, refl, sym, ap, ◌∙◌, arith}
use Rattle.std.specs.Prelude.{map, slice_get, unwrap_or, nat_lt, nat_le}
use Rattle.std.specs.List.{list_all}
use Rattle.std.proofs.lemmas.List.{take_more, map-append, length-map, append-nil}
use Rattle.std.proofs.lemmas.Grind.{flat_map-append}
use Rattle.std.proofs.lemmas.Option.{unwrap_or-slice_get, slice_get_read}
use Rattle.std.proofs.lemmas.Bool.{leb-true, le-leb}
use Rattle.std.proofs.Math.Seq.{drop-cons}
use Rattle.guards_model.specs.Tasks.{WriteValue, TaskValue, writes_of}
use Rattle.guards_model.specs.Missions.{row_in_turn}
use Rattle.guards_model.proofs.ListTests.{place_passes}
use Rattle.task_table.proofs.Faults.{dropped}
use Rattle.task_table.specs.Tables.{no_task, nth_task, named_tasks, names_tasks}

-- the writes of the tasks that a part of a row names
abbrev pub named_writes : List TaskValue → List ℕ → List WriteValue
named_writes tasks row = writes_of (named_tasks tasks row)

-- the blocks that some writes name
abbrev pub blocks_in : List WriteValue → List ℕ
blocks_in writes = map (λ write. write.block) writes

-- one more task of the row
pub named_more : (tasks : List TaskValue) (row : List ℕ) (at d : ℕ) → at < length row →
    named_writes tasks (take (at + 1) row)
    ≡ named_writes tasks (take at row) ++ (nth_task tasks (get_or row at d)).writes
named_more tasks row at d low =
    ap (named_writes tasks) (take_more row at d low)
    ∙ ap writes_of (map-append (nth_task tasks) (take at row) (get_or row at d ∷ []))
    ∙ flat_map-append (λ t. t.writes) (named_tasks tasks (take at row)) (nth_task tasks (get_or row at d) ∷ [])
    ∙ ap (λ ws. named_writes tasks (take at row) ++ ws) (append-nil (nth_task tasks (get_or row at d)).writes)

-- the rest of the row begins with the task at its place
pub named_rest : (tasks : List TaskValue) (row : List ℕ) (at d : ℕ) → at < length row →
    named_writes tasks (drop at row)
    ≡ (nth_task tasks (get_or row at d)).writes ++ named_writes tasks (drop (at + 1) row)
named_rest tasks row at d low =
    ap (named_writes tasks) (drop-cons row at d low)
    ∙ ap (λ n. (nth_task tasks (get_or row at d)).writes ++ named_writes tasks (drop n row)) next
  where
    next : suc at ≡ at + 1
    next = omega arith

slice_in_first : {A : Type 0} (xs ys : List A) (k : ℕ) → k < length xs → slice_get (xs ++ ys) k ≡ slice_get xs k
slice_in_first [] ys k h = absurd (omega arith)
slice_in_first (x ∷ xs) ys zero h = refl
slice_in_first (x ∷ xs) ys (suc k) h = slice_in_first xs ys k (omega (arith, h))

slice_in_rest : {A : Type 0} (xs ys : List A) (k : ℕ) → length xs ≤ k →
    slice_get (xs ++ ys) k ≡ slice_get ys (k - length xs)
slice_in_rest [] ys k h = ap (slice_get ys) same
  where
    same : k ≡ k - 0
    same = omega arith
slice_in_rest (x ∷ xs) ys zero h = absurd (omega arith)
slice_in_rest (x ∷ xs) ys (suc k) h = slice_in_rest xs ys k (omega (arith, h)) ∙ ap (slice_get ys) (less k (length xs))
  where
    less : (k n : ℕ) → k - n ≡ suc k - suc n
    less k n = omega arith

-- the write is one of this task
pub write_here : (tasks : List TaskValue) (row : List ℕ) (at d k : ℕ) → at < length row →
    k < length (nth_task tasks (get_or row at d)).writes →
    slice_get (named_writes tasks (drop at row)) k ≡ slice_get (nth_task tasks (get_or row at d)).writes k
write_here tasks row at d k low h =
    ap (λ ws. slice_get ws k) (named_rest tasks row at d low)
    ∙ slice_in_first (nth_task tasks (get_or row at d)).writes (named_writes tasks (drop (at + 1) row)) k h

-- the write is one of a later task
pub write_later : (tasks : List TaskValue) (row : List ℕ) (at d k : ℕ) → at < length row →
    length (nth_task tasks (get_or row at d)).writes ≤ k →
    slice_get (named_writes tasks (drop at row)) k
    ≡ slice_get (named_writes tasks (drop (at + 1) row)) (k - length (nth_task tasks (get_or row at d)).writes)
write_later tasks row at d k low h =
    ap (λ ws. slice_get ws k) (named_rest tasks row at d low)
    ∙ slice_in_rest (nth_task tasks (get_or row at d)).writes (named_writes tasks (drop (at + 1) row)) k h

-- no write is left behind the last task
pub none_past : (tasks : List TaskValue) (row : List ℕ) (at k : ℕ) → length row ≤ at →
    slice_get (named_writes tasks (drop at row)) k ≡ None
none_past tasks row at k past = ap (λ r. slice_get (named_writes tasks r) k) (dropped row at past)

-- the tasks that a row names are there
pub named_there : (count : ℕ) (row : List ℕ) (at d : ℕ) → names_tasks count row ≡ true → at < length row →
    get_or row at d < count
named_there count [] at d h low = absurd (omega arith)
named_there count (p ∷ row) zero d h low = leb-true (suc p) count (first (nat_lt p count) (names_tasks count row) h)
  where
    first : (a b : Bool) → (a && b) ≡ true → a ≡ true
    first true b h = refl
    first false b h = absurd cc
named_there count (p ∷ row) (suc at) d h low =
    named_there count row at d (second (nat_lt p count) (names_tasks count row) h) (omega (arith, low))
  where
    second : (a b : Bool) → (a && b) ≡ true → b ≡ true
    second true b h = h
    second false b h = absurd cc

-- the task that is read at a place of a row
pub task_read : (tasks : List TaskValue) (row : List ℕ) (at : ℕ) (task : TaskValue) →
    names_tasks (length tasks) row ≡ true → at < length row →
    task ≡ get_or tasks (get_or row at 0) task → nth_task tasks (get_or row at 0) ≡ task
task_read tasks row at task named low is =
    ap (λ o. unwrap_or o no_task)
    (slice_get_read tasks (length tasks) (get_or row at 0) task refl (named_there (length tasks) row at 0 named low)
    is)

-- a task by its place
pub task_is : (tasks : List TaskValue) (place : ℕ) → nth_task tasks place ≡ get_or tasks place no_task
task_is tasks place = unwrap_or-slice_get tasks place no_task

-- a task at a place has no more writes than each task has
pub few_writes : (tasks : List TaskValue) (place most : ℕ) →
    list_all (λ t. nat_le (length t.writes) most) tasks ≡ true → length (nth_task tasks place).writes ≤ most
few_writes tasks place most h =
    leb-true (length (nth_task tasks place).writes) most
    (place_passes (λ t. nat_le (length t.writes) most) tasks place no_task (le-leb 0 most (omega arith)) h)

-- the row in turn of the tasks, by the row in turn of their places
pub turn_named : (tasks : List TaskValue) (rows : List (List ℕ)) (c : ℕ) →
    row_in_turn (map (named_tasks tasks) rows) c ≡ named_tasks tasks (row_in_turn rows c)
turn_named tasks rows c =
    ap (λ n. unwrap_or (slice_get (map (named_tasks tasks) rows) (c % n)) []) (length-map rows (named_tasks tasks))
    ∙ at_place rows (c % length rows)
  where
    at_place : (rows : List (List ℕ)) (n : ℕ) →
        unwrap_or (slice_get (map (named_tasks tasks) rows) n) [] ≡ named_tasks tasks (unwrap_or (slice_get rows n) [])
    at_place [] n = refl
    at_place (row ∷ rows) zero = refl
    at_place (row ∷ rows) (suc n) = at_place rows n
