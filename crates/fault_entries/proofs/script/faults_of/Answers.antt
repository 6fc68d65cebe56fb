use Rattle.std.proofs.Common.{◌≡◌, Bool, true, List, [], ◌∷◌, Ok, Err, refl}
use Rattle.std.specs.Prelude.{map, IfOk, Result}
use Rattle.std.specs.List.{list_all}
use Rattle.guards_base.specs.Seen.{Seen}
use Rattle.guards_model.proofs.BoolTests.{both, and_true}
use Rattle.fault_script.specs.declared.script.Fault.{Fault}
use Rattle.fault_script.specs.Entries.{fault_value}
use Rattle.document_checks.specs.declared.why.ReadFault.{ReadFault}
use Rattle.fault_entries.specs.Entries.{is_entry}
use Rattle.fault_entries.proofs.script.faults_of.Goals as goal

all_mapped : {A B : Type 0} (test : B → Bool) (f : A → B) (xs : List A) → list_all (λ x. test (f x)) xs ≡ true →
    list_all test (map f xs) ≡ true
all_mapped test f [] all = refl
all_mapped test f (x ∷ xs) all =
    let parts = both (test (f x)) (list_all (λ y. test (f y)) xs) all in
    and_true (test (f x)) (list_all test (map f xs)) parts.0 (all_mapped test f xs parts.1)

all_entries : (read : Result (Seen Fault) ReadFault) →
    IfOk read (λ list. list_all (λ fault. is_entry (fault_value fault)) list.items ≡ true) →
    IfOk read (λ list. list_all is_entry (map fault_value list.items) ≡ true)
all_entries (Ok list) all = all_mapped is_entry fault_value list.items all
all_entries (Err fault) all = tt

pub returns-clause-holds : goal.returns-clause-holds
returns-clause-holds c = all_entries c.each.result c.each.ensures.holds
