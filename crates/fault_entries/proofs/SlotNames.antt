-- The slots that entries name.
use Rattle.std.proofs.Common.{◌≡◌, Bool, true, false, List, [], ◌∷◌, refl, subst}
use Rattle.std.specs.Prelude.{Some, find, if◌then◌else◌}
use Rattle.std.specs.List.{list_all}
use Rattle.guards_model.specs.declared.Slot.TheVariants.{Request, Round1, Round2, Round3, Tasks, Vote, Sweep, Final, Switch, Output}
use Rattle.guards_model.specs.Faults.{FaultValue, crash, restart, damage, bus}
use Rattle.guards_model.proofs.BoolTests.{both}
use Rattle.guards_model.proofs.ListTests.{weaken}
use Rattle.fault_script.specs.Entries.{is_in_cycle}
use Rattle.fault_entries.specs.Entries.{is_entry}

found_by : {A : Type 0} (p q : A → Bool) (x : A) (xs : List A) (b : Bool) → q x ≡ true →
    ((y : A) → find p xs ≡ Some y → q y ≡ true) → (y : A) → (if b then Some x else find p xs) ≡ Some y → q y ≡ true
found_by p q x xs true h more y is = let e : x ≡ y = cc in subst (λ z. q z ≡ true) e h
found_by p q x xs false h more y is = more y is

-- what all elements of a list pass, the one that is found passes
pub find_passes : {A : Type 0} (p q : A → Bool) (xs : List A) → list_all q xs ≡ true → (y : A) → find p xs ≡ Some y →
    q y ≡ true
find_passes p q [] all y is = absurd cc
find_passes p q (x ∷ xs) all y is = let parts = both (q x) (list_all q xs) all in
    found_by p q x xs (p x) parts.0 (find_passes p q xs parts.1) y is

in_cycle : (fault : FaultValue) → is_entry fault ≡ true → is_in_cycle fault ≡ true
in_cycle (crash q c Request) h = refl
in_cycle (crash q c Round1) h = refl
in_cycle (crash q c Round2) h = refl
in_cycle (crash q c Round3) h = refl
in_cycle (crash q c Tasks) h = refl
in_cycle (crash q c Vote) h = refl
in_cycle (crash q c Sweep) h = refl
in_cycle (crash q c Final) h = refl
in_cycle (crash q c Switch) h = refl
in_cycle (crash q c Output) h = absurd cc
in_cycle (restart q c) h = refl
in_cycle (damage q c block at value) h = refl
in_cycle (bus rule) h = refl

-- entries that were read crash in slots of the cycle
pub all_in_cycle : (faults : List FaultValue) → list_all is_entry faults ≡ true → list_all is_in_cycle faults ≡ true
all_in_cycle faults all = weaken is_entry is_in_cycle faults in_cycle all
