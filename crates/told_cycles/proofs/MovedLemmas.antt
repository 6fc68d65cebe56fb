-- The words of an actuator, place by place.
use Rattle.std.proofs.Common.{◌≡◌, ◌≢◌, ℕ, ◌+◌, ◌<◌, ◌≤◌, ℤ, pos, List, Some, length, get_or, map, set, take, sym, ap, ◌∙◌, arith, below_more, get_or-set_other, get_or-set_same}
use Rattle.std.specs.List.{range_with_len}
use Rattle.std.proofs.lemmas.List.{get_or-take, length-map, length-take}
use Rattle.std.proofs.lemmas.List.FromFn.{fill_by_all}
use Rattle.std.proofs.lemmas.Option.{unwrap_or-slice_get}
use Rattle.guards_model.specs.Actuators.{limited, words_towards}
use Rattle.guards_model.specs.Contexts.{ContextValue, context_word, word_of}
use Rattle.guards_model.specs.Missions.{ActuatorValue, MissionValue, output_words}
use Rattle.told_cycles.proofs.StandLemmas.{the_same}

word_in : (n : ℕ) (xs : List ℤ) (k : ℕ) → k < n → word_of xs k ≡ word_of (take n xs) k
word_in n xs k low = unwrap_or-slice_get xs k (pos 0)
    ∙ sym (unwrap_or-slice_get (take n xs) k (pos 0) ∙ get_or-take n xs k (pos 0) low)

-- one more word is moved
pub word_more : (f : ℕ → ℤ) (next : List ℤ) (k : ℕ) (word : ℤ) → k < length next →
    ((j : ℕ) → j < k → get_or next j (pos 0) ≡ f j) → word ≡ f k →
    (j : ℕ) → j < k + 1 → get_or (set next k word) j (pos 0) ≡ f j
word_more f next k word there before is =
    below_more (λ (j : ℕ). get_or (set next k word) j (pos 0) ≡ f j) k
    (λ j low. let other : j ≢ k = omega arith in get_or-set_other next k j word (pos 0) other ∙ before j low)
    (get_or-set_same next k word (pos 0) there ∙ is)

pub moved_are : (steps last wanted next : List ℤ) → length wanted ≤ 8 → length last ≡ 8 → length next ≡ 8 →
    ((k : ℕ) → k < length wanted →
    get_or next k (pos 0) ≡ limited (word_of last k) (word_of wanted k) (word_of steps k)) →
    take (length wanted) next ≡ words_towards (take (length wanted) steps) (take (length wanted) last) wanted
moved_are steps last wanted next few long size h =
    let n = length wanted in
    let f : ℕ → ℤ = λ k. limited (word_of (take n last) k) (word_of wanted k) (word_of (take n steps) k) in
    let whole : length (take n next) ≡ n = omega (arith, length-take n next) in
    let front : length (take n last) ≡ n = omega (arith, length-take n last) in
    fill_by_all f (take n next) n (pos 0) whole
    (λ k low. get_or-take n next k (pos 0) low ∙ h k low
    ∙ (let a = word_in n last k low in let c = word_in n steps k low in λ i. limited (a i) (word_of wanted k) (c i)))
    ∙ ap (λ m. map f (range_with_len 0 m)) (sym front)

-- the wanted words are as many as the outputs
pub wanted_long : (M : MissionValue) (ctx : ContextValue) (wanted : List ℤ) → wanted ≡ output_words M ctx →
    length wanted ≡ length M.outputs
wanted_long M ctx wanted is = ap length is ∙ length-map M.outputs (λ (o : ℕ × ℕ). context_word ctx o.0 o.1)

-- the words of the mission's actuator move
pub moved_by : (M : MissionValue) (ctx : ContextValue) (steps start last wanted next : List ℤ) →
    wanted ≡ output_words M ctx →
    Some (record { steps = take (length M.outputs) steps; start = take (length M.outputs) start }) ≡ M.actuator →
    take (length wanted) next ≡ words_towards (take (length wanted) steps) (take (length wanted) last) wanted →
    (actuator : ActuatorValue) → M.actuator ≡ Some actuator →
    take (length M.outputs) next ≡ words_towards actuator.steps (take (length M.outputs) last) (output_words M ctx)
moved_by M ctx steps start last wanted next is told h actuator there =
    let n = length M.outputs in
    let long = wanted_long M ctx wanted is in
    let mine : ActuatorValue = record { steps = take n steps; start = take n start } in
    ap (λ k. take k next) (sym long) ∙ h ∙ (λ i. words_towards (take (long i) steps) (take (long i) last) (is i))
    ∙ ap (λ (v : ActuatorValue). words_towards v.steps (take n last) (output_words M ctx))
    (the_same mine actuator (told ∙ there))
