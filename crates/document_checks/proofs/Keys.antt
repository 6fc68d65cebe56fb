-- The keys of a table, as the map that holds it lists them.
use Rattle.std.proofs.Common.{◌≡◌, List, [], ◌∷◌, ℕ, map, String, BTreeMap, Global, Bor, string_bytes, refl, ap}
use Rattle.std.specs.Prelude.{◌||◌}
use Rattle.std.specs.BTreeMap.{keys}
use Rattle.std.specs.Map.{keys_of}
use Rattle.std.specs.List.{list_any, list_all}
use Rattle.std.specs.Str.{bytes_eq}
use Rattle.toml.specs.View.{table_view, members_view}
use Rattle.toml.specs.declared.value.Value.{Value}
use Rattle.document_checks.specs.Checks.{has_only}

known_names : (key : List ℕ) (known : List (Bor (List ℕ))) →
    list_any (λ name. bytes_eq key name.now) known ≡ list_any (bytes_eq key) (map (λ name. name.now) known)
known_names key [] = refl
known_names key (name ∷ known) = ap (λ b. bytes_eq key name.now || b) (known_names key known)

entries_only : (known : List (Bor (List ℕ))) (entries : List (String Global × Value))
    → list_all (λ key. list_any (λ name. bytes_eq (string_bytes key) name.now) known) (keys_of entries)
    ≡ has_only (map (λ name. name.now) known) (members_view entries)
entries_only known [] = refl
entries_only known (entry ∷ entries) = rw (known_names (string_bytes entry.0) known, entries_only known entries)

pub only_known : (known : List (Bor (List ℕ))) (fields : BTreeMap (String Global) Value)
    → list_all (λ key. list_any (λ name. bytes_eq (string_bytes key) name.now) known) (keys fields)
    ≡ has_only (map (λ name. name.now) known) (table_view fields)
only_known known fields = entries_only known fields.entries
