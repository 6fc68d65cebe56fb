-- One more draw, and the last one.
use Rattle.std.proofs.Common.{◌≡◌, ℕ, zero, suc, ◌+◌, ◌-◌, ◌*◌, ◌<◌, ◌≤◌, List, [], ◌∷◌, ◌++◌, map, refl, sym, ap, ◌∙◌, append_assoc, length, drop, get_or, drop-cons, arith}
use Rattle.std.proofs.Math.ListN.{drop_of_length-le}
use Rattle.std.proofs.lemmas.List.{map-append}
use Rattle.std.specs.Prelude.{ℤ, pos}
use Rattle.guards_base.specs.Padding.{padded}
use Rattle.guards_base.specs.Seen.{Seen}
use Rattle.mission_type.specs.Parts.{rows_of}
use Rattle.guards_model.specs.Tasks.{TaskValue}
use Rattle.guards_model.specs.Faults.{FaultValue}
use Rattle.fault_script.specs.declared.script.Fault.{Fault}
use Rattle.fault_script.specs.Entries.{fault_value}
use Rattle.demo_mission.specs.Demo.{next_number, drawn, draws, number_after, sensor_words, in_pairs, sensor_rows, demo_task, demo_tasks, demo_script}

left : (count i : ℕ) → i < count → count - i ≡ suc (count - (i + 1))
left count i lt = omega (arith, lt)

none_left : (count i : ℕ) → count ≤ i → count - i ≡ zero
none_left count i le = omega (arith, le)

append_none : {A : Type 0} (xs : List A) → xs ++ [] ≡ xs
append_none [] = refl
append_none (x ∷ xs) = ap (λ ys. x ∷ ys) (append_none xs)

-- ---- single draws

pub draw_more : {A : Type 0} (f : ℕ → A) (k count i x : ℕ) (done total : List A) (y : A) → i < count →
    y ≡ f (drawn k (next_number x)) → done ++ map f (draws (count - i) k x) ≡ total →
    (done ++ y ∷ []) ++ map f (draws (count - (i + 1)) k (next_number x)) ≡ total
unfolding draws
draw_more f k count i x done total y lt is so_far =
    let more = rw (left count i lt) at so_far in
    rw is (append_assoc done (f (drawn k (next_number x)) ∷ []) (map f (draws (count - (i + 1)) k (next_number x)))
    ∙ more)

pub draws_end : {A : Type 0} (f : ℕ → A) (k count i x : ℕ) (done total : List A) → count ≤ i →
    done ++ map f (draws (count - i) k x) ≡ total → done ≡ total
unfolding draws
draws_end f k count i x done total le so_far = sym (append_none done) ∙ rw (none_left count i le) at so_far

pub number_more : (count i x total : ℕ) → i < count → number_after (count - i) x ≡ total →
    number_after (count - (i + 1)) (next_number x) ≡ total
unfolding number_after
number_more count i x total lt so_far = rw (left count i lt) at so_far

pub number_ends : (count i x total : ℕ) → count ≤ i → number_after (count - i) x ≡ total → x ≡ total
unfolding number_after
number_ends count i x total le so_far = rw (none_left count i le) at so_far

-- ---- several draws at once

pub after_sum : (a b x : ℕ) → number_after (a + b) x ≡ number_after b (number_after a x)
unfolding number_after
after_sum zero b x = let e : zero + b ≡ b = omega arith in rw e refl
after_sum (suc a) b x = let e : suc a + b ≡ suc (a + b) = omega arith in rw e (after_sum a b (next_number x))

pub numbers_more : (each count i x total : ℕ) → i < count → number_after (each * (count - i)) x ≡ total →
    number_after (each * (count - (i + 1))) (number_after each x) ≡ total
numbers_more each count i x total lt so_far =
    let e : each * (count - i) ≡ each + each * (count - (i + 1)) = rw (left count i lt) (omega arith) in
    sym (after_sum each (each * (count - (i + 1))) x) ∙ rw e at so_far

pub numbers_end : (each count i x total : ℕ) → count ≤ i → number_after (each * (count - i)) x ≡ total → x ≡ total
unfolding number_after
numbers_end each count i x total le so_far =
    let e : each * (count - i) ≡ zero = rw (none_left count i le) (omega arith) in
    rw e at so_far

-- ---- sensor rows

-- the words of one more channel
pub pair_more : (i : ℕ) (firsts seconds : List ℕ) (done total : List (List ℤ)) → i < length firsts →
    i < length seconds →
    done ++ map (padded 4) (in_pairs (drop i firsts) (drop i seconds)) ≡ total →
    (done ++ (pos (get_or firsts i 0) ∷ pos (get_or seconds i 0) ∷ pos 0 ∷ pos 0 ∷ []) ∷ [])
    ++ map (padded 4) (in_pairs (drop (i + 1) firsts) (drop (i + 1) seconds)) ≡ total
pair_more i firsts seconds done total one two so_far =
    let more = rw (drop-cons firsts i 0 one, drop-cons seconds i 0 two) at so_far in
    let next : i + 1 ≡ suc i = omega arith in
    rw next (append_assoc done ((pos (get_or firsts i 0) ∷ pos (get_or seconds i 0) ∷ pos 0 ∷ pos 0 ∷ []) ∷ [])
    (map (padded 4) (in_pairs (drop (suc i) firsts) (drop (suc i) seconds))) ∙ more)

pub pairs_end : (i : ℕ) (firsts seconds : List ℕ) (done total : List (List ℤ)) → length firsts ≤ i →
    done ++ map (padded 4) (in_pairs (drop i firsts) (drop i seconds)) ≡ total → done ≡ total
pairs_end i firsts seconds done total le so_far = sym (append_none done) ∙ rw (drop_of_length-le firsts le) at so_far

pub seven_words : (x : ℕ) → length (sensor_words x) ≡ 7
unfolding sensor_words draws
seven_words x = refl

pub row_more : (count i x : ℕ) (done : List (Seen (List ℤ))) (total : List (List (List ℤ))) (row : Seen (List ℤ)) →
    i < count
    → row.items ≡ map (padded 4) (in_pairs (sensor_words x) (sensor_words (number_after 8 x)))
    → rows_of done ++ map (map (padded 4)) (sensor_rows (count - i) x) ≡ total
    → rows_of (done ++ row ∷ []) ++ map (map (padded 4)) (sensor_rows (count - (i + 1)) (number_after 16 x)) ≡ total
unfolding sensor_rows
row_more count i x done total row lt is so_far =
    let more = rw (left count i lt) at so_far in
    let rest = map (map (padded 4)) (sensor_rows (count - (i + 1)) (number_after 16 x)) in
    rw (map-append (λ r. r.items) done (row ∷ []), is)
    (append_assoc (rows_of done) (map (padded 4) (in_pairs (sensor_words x) (sensor_words (number_after 8 x))) ∷ [])
    rest ∙ more)

pub rows_end : (count i x : ℕ) (done : List (Seen (List ℤ))) (total : List (List (List ℤ))) → count ≤ i →
    rows_of done ++ map (map (padded 4)) (sensor_rows (count - i) x) ≡ total → rows_of done ≡ total
unfolding sensor_rows
rows_end count i x done total le so_far = sym (append_none (rows_of done)) ∙ rw (none_left count i le) at so_far

-- ---- tasks

pub task_more : (count i x : ℕ) (done total : List TaskValue) (task : TaskValue) → i < count → task ≡ demo_task i x →
    done ++ demo_tasks (count - i) i x ≡ total →
    (done ++ task ∷ []) ++ demo_tasks (count - (i + 1)) (i + 1) (number_after 4 x) ≡ total
unfolding demo_tasks
task_more count i x done total task lt is so_far =
    let more = rw (left count i lt) at so_far in
    rw is (append_assoc done (demo_task i x ∷ []) (demo_tasks (count - (i + 1)) (i + 1) (number_after 4 x)) ∙ more)

pub tasks_end : (count i x : ℕ) (done total : List TaskValue) → count ≤ i → done ++ demo_tasks (count - i) i x ≡ total →
    done ≡ total
unfolding demo_tasks
tasks_end count i x done total le so_far = sym (append_none done) ∙ rw (none_left count i le) at so_far

-- ---- faults

pub three_pushed : (entries : List Fault) (x y z : Fault) →
    map fault_value (((entries ++ x ∷ []) ++ y ∷ []) ++ z ∷ [])
    ≡ map fault_value entries ++ fault_value x ∷ fault_value y ∷ fault_value z ∷ []
three_pushed [] x y z = refl
three_pushed (entry ∷ entries) x y z = ap (λ rest. fault_value entry ∷ rest) (three_pushed entries x y z)

pub fault_more : (count i x : ℕ) (done next total : List FaultValue) → i < count → next ≡ done ++ demo_script 1 i x →
    done ++ demo_script (count - i) i x ≡ total →
    next ++ demo_script (count - (i + 1)) (i + 1) (number_after 3 x) ≡ total
unfolding demo_script
fault_more count i x done next total lt is so_far =
    let more = rw (left count i lt) at so_far in
    rw is (append_assoc done (demo_script 1 i x) (demo_script (count - (i + 1)) (i + 1) (number_after 3 x)) ∙ more)

pub faults_end : (count i x : ℕ) (done total : List FaultValue) → count ≤ i →
    done ++ demo_script (count - i) i x ≡ total → done ≡ total
unfolding demo_script
faults_end count i x done total le so_far = sym (append_none done) ∙ rw (none_left count i le) at so_far
