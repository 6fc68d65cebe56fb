-- What the actuator takes in a cycle hangs on the output entries of this cycle alone.
use Rattle.std.proofs.Common.{◌≡◌, ℕ, zero, suc, ◌+◌, ◌==◌, Bool, true, false, cond, ◌&&◌, ◌||◌, List, [], ◌∷◌, ◌++◌, length, Option, Some, None, ℤ, refl, ap, ◌∙◌, arith}
use Rattle.std.specs.Prelude.{find, option_and_then}
use Rattle.std.specs.List.{AllByRecursion, list_any}
use Rattle.std.specs.Option.{option_or}
use Rattle.std.proofs.Math.Path.{fun_ext}
use Rattle.std.proofs.lemmas.List.Folds.{find-append, list_any-append}
use Rattle.guards_model.specs.declared.Slot.TheVariants.{Output}
use Rattle.guards_model.specs.Slots.{same_slot}
use Rattle.guards_model.specs.Channels.{Channel, by_channel}
use Rattle.guards_model.specs.Network.{EntryValue, Log, AreFrom, is_carry, actuator}
use Rattle.guards_runs.specs.Disturbed.{differs_from}
use Rattle.guards_runs.specs.Outputs.{ballots_taken, is_output_charge, outputs_after}
use Rattle.guards_model.specs.Actuators.{ballot_spelled, words_moved}

-- an entry that is of another cycle or of another slot
abbrev pub is_apart : ℕ → EntryValue → Type 0
is_apart c y = (y.cycle == c && same_slot y.slot Output) ≡ false

carry_apart : (c : ℕ) (q : Channel) (y : EntryValue) → is_apart c y → is_carry c Output q actuator y ≡ false
carry_apart c q y h = ap (λ b. (b && y.from == q) && y.to == actuator) h

charge_apart : (c : ℕ) (q : Channel) (y : EntryValue) → is_apart c y → is_output_charge c q y ≡ false
charge_apart c q y h = ap (λ b. (b && y.from == q) && differs_from y.sent y.delivered) h

none_found : (c : ℕ) (q : Channel) (ys : Log) → AllByRecursion (is_apart c) ys →
    find (is_carry c Output q actuator) ys ≡ None
none_found c q [] h = refl
none_found c q (y ∷ ys) h =
    ap (λ b. cond b (Some y) (find (is_carry c Output q actuator) ys)) (carry_apart c q y h.0) ∙ none_found c q ys h.1

none_charged : (c : ℕ) (q : Channel) (ys : Log) → AllByRecursion (is_apart c) ys →
    list_any (is_output_charge c q) ys ≡ false
none_charged c q [] h = refl
none_charged c q (y ∷ ys) h =
    ap (λ b. b || list_any (is_output_charge c q) ys) (charge_apart c q y h.0) ∙ none_charged c q ys h.1

-- entries of other cycles and slots before and after change nothing of a cycle
pub found_between : (c : ℕ) (q : Channel) (xs ys zs : Log) → AllByRecursion (is_apart c) xs →
    AllByRecursion (is_apart c) zs →
    find (is_carry c Output q actuator) ((xs ++ ys) ++ zs) ≡ find (is_carry c Output q actuator) ys
found_between c q xs ys zs h k =
    find-append (is_carry c Output q actuator) (xs ++ ys) zs
    ∙ ap (option_or (find (is_carry c Output q actuator) (xs ++ ys))) (none_found c q zs k)
    ∙ or_none (find (is_carry c Output q actuator) (xs ++ ys))
    ∙ find-append (is_carry c Output q actuator) xs ys
    ∙ ap (λ o. option_or o (find (is_carry c Output q actuator) ys)) (none_found c q xs h)
  where
    or_none : (o : Option EntryValue) → option_or o None ≡ o
    or_none None = refl
    or_none (Some y) = refl

pub charged_between : (c : ℕ) (q : Channel) (xs ys : Log) → AllByRecursion (is_apart c) xs →
    list_any (is_output_charge c q) (xs ++ ys) ≡ list_any (is_output_charge c q) ys
charged_between c q xs ys h =
    list_any-append (is_output_charge c q) xs ys
    ∙ ap (λ b. b || list_any (is_output_charge c q) ys) (none_charged c q xs h)

pub charged_before : (c : ℕ) (q : Channel) (xs ys : Log) → AllByRecursion (is_apart c) ys →
    list_any (is_output_charge c q) (xs ++ ys) ≡ list_any (is_output_charge c q) xs
charged_before c q xs ys h =
    list_any-append (is_output_charge c q) xs ys
    ∙ ap (λ b. list_any (is_output_charge c q) xs || b) (none_charged c q ys h)
    ∙ or_none (list_any (is_output_charge c q) xs)
  where
    or_none : (b : Bool) → (b || false) ≡ b
    or_none true = refl
    or_none false = refl

pub ballots_between : (version outputs c : ℕ) (xs ys zs : Log) → AllByRecursion (is_apart c) xs →
    AllByRecursion (is_apart c) zs →
    ballots_taken version outputs ((xs ++ ys) ++ zs) c ≡ ballots_taken version outputs ys c
ballots_between version outputs c xs ys zs h k =
    ap (λ (f : Channel → Option (List ℤ)). by_channel f)
    (fun_ext (λ q. ap (λ o. ballot_spelled version outputs c q (option_and_then (λ (e : EntryValue). e.delivered) o))
    (found_between c q xs ys zs h k)))

pub later_apart : (c : ℕ) (ys : Log) → AreFrom (suc c) ys → AllByRecursion (is_apart c) ys
later_apart c [] h = tt
later_apart c (y ∷ ys) h =
    let other : (y.cycle == c) ≡ false = grind (arith, h.0) in
    (ap (λ b. b && same_slot y.slot Output) other, later_apart c ys h.1)

weaker : (n : ℕ) (ys : Log) → AreFrom (suc n) ys → AreFrom n ys
weaker n [] h = tt
weaker n (y ∷ ys) h = (omega (arith, h.0), weaker n ys h.1)

-- entries of later cycles leave the words
pub words_stay : (version : ℕ) (steps start : List ℤ) (F X : Log) (n : ℕ) → AreFrom n X →
    outputs_after version steps start (F ++ X) n ≡ outputs_after version steps start F n
words_stay version steps start F X zero h = refl
words_stay version steps start F X (suc n) h =
    ap (λ last. words_moved steps last (ballots_taken version (length start) (F ++ X) n))
    (words_stay version steps start F X n (weaker n X h))
    ∙ ap (words_moved steps (outputs_after version steps start F n))
    (ballots_between version (length start) n [] F X tt (later_apart n X h))
