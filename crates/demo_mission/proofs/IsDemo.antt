-- Each demo mission is a mission.
use Rattle.std.proofs.Common.{◌≡◌, ℕ, zero, suc, ◌+◌, ◌*◌, ◌%◌, ◌<◌, ◌≤◌, Bool, true, List, [], ◌∷◌, ◌&&◌, ◌^◌, refl, arith}
use Rattle.std.specs.Prelude.{pos, nat_lt, nat_le, map, filter_map, length, Some, ◌==◌, slice_get, unwrap_or}
use Rattle.std.specs.List.{AllByRecursion, list_all}
use Rattle.std.proofs.lemmas.Bool.{lt-ltb, ltb-true}
use Rattle.std.proofs.Math.Nat.{mod-lt}
use Rattle.guards_model.specs.Words.{is_word}
use Rattle.guards_model.specs.Slots.{every_slot, on_bus}
use Rattle.guards_model.specs.Contexts.{zeroed}
use Rattle.guards_model.specs.declared.Slot.{Slot}
use Rattle.guards_model.specs.declared.Slot.TheVariants.{Request, Vote}
use Rattle.guards_model.specs.BusRules.{RuleValue, lose}
use Rattle.guards_model.specs.Faults.{crash, restart, bus}
use Rattle.guards_model.specs.Missions.{IsMission, bus_rule, bus_rules, is_write, is_task_in_range, is_receiver, is_fault, is_context, within}
use Rattle.guards_model.proofs.BoolTests.{both, and_true}
use Rattle.guards_model.proofs.ListTests.{place_passes}
use Rattle.demo_mission.specs.Demo.{next_number, drawn, draws, number_after, sensor_words, in_pairs, sensor_rows, demo_write, demo_task, demo_tasks, demo_script, first_block, demo_mission}

-- ---- draws

pub drawn_below : (k x : ℕ) → 0 < k → nat_lt (drawn k x) k ≡ true
unfolding drawn
drawn_below k x some = lt-ltb _ k (mod-lt _ some)

pub draws_below : (count k x : ℕ) → 0 < k → list_all (λ d. nat_lt d k) (draws count k x) ≡ true
unfolding draws
draws_below zero k x some = refl
draws_below (suc count) k x some =
    and_true (nat_lt (drawn k (next_number x)) k) (list_all (λ d. nat_lt d k) (draws count k (next_number x)))
    (drawn_below k (next_number x) some) (draws_below count k (next_number x) some)

all_mapped : {A B : Type 0} (given : A → Bool) (test : B → Bool) (f : A → B) (xs : List A) →
    ((x : A) → given x ≡ true → test (f x) ≡ true) → list_all given xs ≡ true → list_all test (map f xs) ≡ true
all_mapped given test f [] h all = refl
all_mapped given test f (x ∷ xs) h all =
    let parts = both (given x) (list_all given xs) all in
    and_true (test (f x)) (list_all test (map f xs)) (h x parts.0) (all_mapped given test f xs h parts.1)

-- ---- tasks

writes : (block : ℕ) → nat_lt block 128 ≡ true → is_write 128 2 (demo_write block) ≡ true
unfolding is_word
writes block below = rw below refl

task_is : (n x : ℕ) → is_task_in_range 128 2 (demo_task n x) ≡ true
unfolding demo_task draws
task_is n x = all_mapped (λ d. nat_lt d 128) (is_write 128 2) demo_write (draws 4 128 x) writes
    (draws_below 4 128 x (omega arith))

rows_are : (count n x : ℕ) →
    list_all (λ row. nat_le (length row) 16 && list_all (is_task_in_range 128 2) row)
    (map (λ task. task ∷ []) (demo_tasks count n x)) ≡ true
unfolding demo_tasks
rows_are zero n x = refl
rows_are (suc count) n x =
    and_true (is_task_in_range 128 2 (demo_task n x) && true)
    (list_all (λ row. nat_le (length row) 16 && list_all (is_task_in_range 128 2) row)
    (map (λ task. task ∷ []) (demo_tasks count (n + 1) (number_after 4 x))))
    (and_true (is_task_in_range 128 2 (demo_task n x)) true (task_is n x) refl)
    (rows_are count (n + 1) (number_after 4 x))

-- ---- sensors

sum_below : (base more : ℕ) → nat_lt base 1000 ≡ true → nat_lt more 5 ≡ true → nat_lt (base + more) 1005 ≡ true
sum_below base more b m = let b' = ltb-true base 1000 b in let m' = ltb-true more 5 m in
    lt-ltb (base + more) 1005 (omega (arith, b', m'))

words_below : (x : ℕ) → list_all (λ w. nat_lt w 1005) (sensor_words x) ≡ true
unfolding sensor_words
words_below x =
    all_mapped (λ d. nat_lt d 5) (λ w. nat_lt w 1005) (λ more. drawn 1000 (next_number x) + more)
    (draws 7 5 (next_number x))
    (λ more m. sum_below (drawn 1000 (next_number x)) more (drawn_below 1000 (next_number x) (omega arith)) m)
    (draws_below 7 5 (next_number x) (omega arith))

word_is : (w : ℕ) → nat_lt w 1005 ≡ true → is_word (pos w) ≡ true
unfolding is_word
word_is w below = let b = ltb-true w 1005 below in lt-ltb w (2 ^ 63) (omega (arith, b))

pairs_are : (xs ys : List ℕ) → list_all (λ w. nat_lt w 1005) xs ≡ true → list_all (λ w. nat_lt w 1005) ys ≡ true →
    list_all (λ words. length words == 2 && list_all is_word words) (in_pairs xs ys) ≡ true
pairs_are [] ys h k = refl
pairs_are (x ∷ xs) [] h k = refl
pairs_are (x ∷ xs) (y ∷ ys) h k =
    let one = both (nat_lt x 1005) (list_all (λ w. nat_lt w 1005) xs) h in
    let two = both (nat_lt y 1005) (list_all (λ w. nat_lt w 1005) ys) k in
    and_true (is_word (pos x) && (is_word (pos y) && true))
    (list_all (λ words. length words == 2 && list_all is_word words) (in_pairs xs ys))
    (and_true (is_word (pos x)) (is_word (pos y) && true) (word_is x one.0)
    (and_true (is_word (pos y)) true (word_is y two.0) refl))
    (pairs_are xs ys one.1 two.1)

seven : (x y : ℕ) → (length (in_pairs (sensor_words x) (sensor_words y)) == 7) ≡ true
unfolding sensor_words draws
seven x y = refl

sensors_are : (count x : ℕ) →
    list_all (λ row. length row == 7 && list_all (λ words. length words == 2 && list_all is_word words) row)
    (sensor_rows count x) ≡ true
unfolding sensor_rows
sensors_are zero x = refl
sensors_are (suc count) x =
    let row = in_pairs (sensor_words x) (sensor_words (number_after 8 x)) in
    and_true (length row == 7 && list_all (λ words. length words == 2 && list_all is_word words) row)
    (list_all (λ row. length row == 7 && list_all (λ words. length words == 2 && list_all is_word words) row)
    (sensor_rows count (number_after 16 x)))
    (and_true (length row == 7) (list_all (λ words. length words == 2 && list_all is_word words) row)
    (seven x (number_after 8 x))
    (pairs_are (sensor_words x) (sensor_words (number_after 8 x)) (words_below x) (words_below (number_after 8 x))))
    (sensors_are count (number_after 16 x))

-- ---- faults

receiver_is : (p : ℕ) → p < 7 → is_receiver 7 p (Some ((p + 1) % 7)) ≡ true
receiver_is zero below = refl
receiver_is (suc zero) below = refl
receiver_is (suc (suc zero)) below = refl
receiver_is (suc (suc (suc zero))) below = refl
receiver_is (suc (suc (suc (suc zero)))) below = refl
receiver_is (suc (suc (suc (suc (suc zero))))) below = refl
receiver_is (suc (suc (suc (suc (suc (suc zero)))))) below = refl
receiver_is (suc (suc (suc (suc (suc (suc (suc p))))))) below = absurd (omega (arith, below))

crash_is : (n q c : ℕ) (slot : Slot) → c < 400 → q < 7 → on_bus slot ≡ true →
    is_fault (demo_mission n) (crash q c slot) ≡ true
unfolding demo_mission
crash_is n q c slot early below h =
    and_true (nat_lt c 400 && nat_lt q 7) (on_bus slot)
    (and_true (nat_lt c 400) (nat_lt q 7) (lt-ltb c 400 early) (lt-ltb q 7 below)) h

restart_is : (n q c : ℕ) → c < 400 → q < 7 → is_fault (demo_mission n) (restart q c) ≡ true
unfolding demo_mission
restart_is n q c early below = and_true (nat_lt c 400) (nat_lt q 7) (lt-ltb c 400 early) (lt-ltb q 7 below)

loss_is : (n p c : ℕ) → c < 400 → p < 7 →
    is_fault (demo_mission n) (bus (record { cycle = c; slot = Vote; from = p; to = Some ((p + 1) % 7); act = lose }))
    ≡ true
unfolding demo_mission
loss_is n p c early below =
    and_true (nat_lt c 400 && nat_lt p 7) (is_receiver 7 p (Some ((p + 1) % 7)) && true)
    (and_true (nat_lt c 400) (nat_lt p 7) (lt-ltb c 400 early) (lt-ltb p 7 below))
    (and_true (is_receiver 7 p (Some ((p + 1) % 7))) true (receiver_is p below) refl)

below_seven : (x : ℕ) → drawn 7 x < 7
below_seven x = ltb-true (drawn 7 x) 7 (drawn_below 7 x (omega arith))

some_slot : (k : ℕ) → on_bus (unwrap_or (slice_get every_slot k) Request) ≡ true
some_slot k = place_passes on_bus every_slot k Request refl refl

faults_are : (n count k x : ℕ) → k + count ≤ 10 → list_all (is_fault (demo_mission n)) (demo_script count k x) ≡ true
unfolding demo_script
faults_are n zero k x few = refl
faults_are n (suc count) k x few =
    let early : 40 * k + 30 < 400 = omega (arith, few) in
    and_true _ _ (crash_is n _ (40 * k + 5) _ (omega (arith, early)) (below_seven (number_after 1 x))
    (some_slot (drawn 9 (number_after 2 x))))
    (and_true _ _ (restart_is n _ (40 * k + 10) (omega (arith, early)) (below_seven (number_after 1 x)))
    (and_true _ _ (loss_is n _ (40 * k + 30) early (below_seven (number_after 3 x)))
    (faults_are n count (k + 1) (number_after 3 x) (omega (arith, few)))))

-- ---- the mission

first_below : (n : ℕ) → nat_lt (first_block n) 128 ≡ true
unfolding first_block
first_below n = drawn_below 128 (next_number (number_after 128 n)) (omega arith)

first_is : (block : ℕ) → nat_lt block 128 ≡ true →
    ((nat_lt block 128 && nat_lt 0 8) && ((nat_lt block 128 && nat_lt 1 8) && true)) ≡ true
first_is block below = rw below refl

zeros_are : is_context 128 (zeroed 128) ≡ true
unfolding is_word
zeros_are = refl

four : (x : ℕ) → within 1 16 (length (map (λ task. task ∷ []) (demo_tasks 4 0 x))) ≡ true
unfolding demo_tasks
four x = refl

eight : (x : ℕ) → within 1 64 (length (sensor_rows 8 x)) ≡ true
unfolding sensor_rows
eight x = refl

thirty : (x : ℕ) → nat_le (length (demo_script 10 0 x)) 1024 ≡ true
unfolding demo_script
thirty x = refl

pub demo_is_mission : (n : ℕ) → IsMission (demo_mission n)
unfolding demo_mission
demo_is_mission n =
    record {
      rules = refl;
      cycles = refl;
      width = refl;
      return_after = refl;
      initial = zeros_are;
      table = and_true _ _ (four (number_after 128 n)) (rows_are 4 0 (number_after 128 n));
      outputs = first_is (first_block n) (first_below n);
      sensors = and_true _ _ (eight n) (sensors_are 8 n);
      script = and_true _ _ (thirty (number_after 144 n)) (faults_are n 10 0 (number_after 144 n) (omega arith));
      actuator = refl;
    }

-- ---- the rules for the bus

rules_lose : (count k x : ℕ) →
    AllByRecursion (λ (rule : RuleValue). rule.act ≡ lose) (filter_map bus_rule (demo_script count k x))
unfolding demo_script
rules_lose zero k x = tt
rules_lose (suc count) k x = (refl, rules_lose count (k + 1) (number_after 3 x))

pub demo_rules_lose : (n : ℕ) → AllByRecursion (λ (rule : RuleValue). rule.act ≡ lose) (bus_rules (demo_mission n))
unfolding demo_mission
demo_rules_lose n = rules_lose 10 0 (number_after 144 n)
