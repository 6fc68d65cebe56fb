-- What the value of a check passes, if it gives one, where the document holds words alone.
use Rattle.std.proofs.Common.{◌≡◌, ℕ, ◌+◌, ℤ, pos, negsuc, Bool, true, false, ◌&&◌, ◌==◌, List, [], ◌∷◌, ◌++◌, length, Option, Some, None, Ok, Err, refl, subst, ap, ◌∙◌, arith}
use Rattle.std.specs.Prelude.{if◌then◌else◌, nat_le}
use Rattle.std.specs.List.{list_all}
use Rattle.std.specs.Ordering.{nat_cmp, match_ordering}
use Rattle.std.specs.Cmp.Lexicographic.{slice_cmp}
use Rattle.std.proofs.lemmas.Bool.{eq-eqb, leb-true}
use Rattle.std.proofs.lemmas.List.{length-append}
use Rattle.std.proofs.Common.{Ordering, Less, Equal, Greater}
use Rattle.toml.specs.Data.{Data, string, integer, float, boolean, datetime, array, table, Items, no_items, item, Members, no_members, member, get_member}
use Rattle.guards_model.specs.Words.{is_word}
use Rattle.guards_model.specs.Missions.{within}
use Rattle.guards_model.proofs.BoolTests.{both, and_true}
use Rattle.guards_model.proofs.ListTests.{all-append}
use Rattle.document_checks.specs.declared.why.Cause.{Cause}
use Rattle.document_checks.specs.declared.why.Why.{Why}
use Rattle.document_checks.specs.Checks.{Checked, ◌>>=◌, fails, field, element, found, required, integer_in, integer_of, table_of, array_of, integer_or, number, number_or, demand, how_many, sized, each, alone, integers}
use Rattle.mission_laws.specs.Integers.{holds_words, items_hold_words, members_hold_words}

abbrev pub Passes : {A : Type 0} → (A → Bool) → Checked A → Type 0
Passes {A} test checked = (x : A) → checked ≡ Ok x → test x ≡ true

pub passes_ok : {A : Type 0} (test : A → Bool) (x : A) → test x ≡ true → Passes test (Ok x)
passes_ok test x h y is = let e : x ≡ y = cc in subst (λ z. test z ≡ true) e h

pub passes_err : {A : Type 0} (test : A → Bool) (why : Why) → Passes test (Err why)
passes_err test why y is = absurd cc

pub passes_then : {A B : Type 0} (test : B → Bool) (earlier : Checked A) (later : A → Checked B)
    → ((x : A) → earlier ≡ Ok x → Passes test (later x)) → Passes test (earlier >>= later)
passes_then test (Ok x) later h = h x refl
passes_then test (Err why) later h = passes_err test why

pub passes_if : {A : Type 0} (test : A → Bool) (b : Bool) (one other : Checked A) → (b ≡ true → Passes test one)
    → Passes test other → Passes test (if b then one else other)
passes_if test true one other h k = h refl
passes_if test false one other h k = k

-- a demand that is met holds
pub demanded : (b : Bool) (cause : Cause) (path : List ℕ) (x : Unit {0}) → demand b cause path ≡ Ok x → b ≡ true
demanded true cause path x is = refl
demanded false cause path x is = absurd cc

-- ---- numbers

integer_within : (low high : ℕ) (path : List ℕ) (value : Data)
    → Passes (within low high) (integer_in low high path value)
integer_within low high path (integer (pos n)) =
    passes_if (within low high) (nat_le low n && nat_le n high) (Ok n) (fails _ path)
    (λ h. passes_ok (within low high) n h) (passes_err (within low high) _)
integer_within low high path (integer (negsuc n)) = passes_err (within low high) _
integer_within low high path (string text) = passes_err (within low high) _
integer_within low high path (float x) = passes_err (within low high) _
integer_within low high path (boolean b) = passes_err (within low high) _
integer_within low high path (datetime dt) = passes_err (within low high) _
integer_within low high path (array items) = passes_err (within low high) _
integer_within low high path (table fields) = passes_err (within low high) _

pub number_within : (low high : ℕ) (path key : List ℕ) (fields : Members)
    → Passes (within low high) (number low high path key fields)
unfolding number
number_within low high path key fields =
    passes_then (within low high) (required path key fields) _
    (λ value _. integer_within low high (field path key) value)

default_within : (default low high : ℕ) (path : List ℕ) (given : Option Data) → within low high default ≡ true
    → Passes (within low high) (integer_or default low high path given)
default_within default low high path None h = passes_ok (within low high) default h
default_within default low high path (Some value) h = integer_within low high path value

pub number_or_within : (default low high : ℕ) (path key : List ℕ) (fields : Members) → within low high default ≡ true
    → Passes (within low high) (number_or default low high path key fields)
unfolding number_or
number_or_within default low high path key fields h =
    default_within default low high (field path key) (get_member key fields) h

-- ---- what stands in a document that holds words alone

chosen_by : (o : Ordering) (a b c : Option Data) (value : Data) → (a ≡ Some value → holds_words value ≡ true)
    → (b ≡ Some value → holds_words value ≡ true) → (c ≡ Some value → holds_words value ≡ true)
    → match_ordering o a b c ≡ Some value → holds_words value ≡ true
chosen_by Less a b c value h k l is = h is
chosen_by Equal a b c value h k l is = k is
chosen_by Greater a b c value h k l is = l is

pub member_holds : (key : List ℕ) (fields : Members) (value : Data) → members_hold_words fields ≡ true
    → get_member key fields ≡ Some value → holds_words value ≡ true
member_holds key no_members value all is = absurd cc
member_holds key (member name first rest) value all is =
    let parts = both (holds_words first) (members_hold_words rest) all in
    chosen_by (slice_cmp nat_cmp key name) (get_member key rest) (Some first) (get_member key rest) value
    (member_holds key rest value parts.1)
    (λ same. let e : first ≡ value = cc in subst (λ z. holds_words z ≡ true) e parts.0)
    (member_holds key rest value parts.1) is

found_holds : (path : List ℕ) (given : Option Data) → ((value : Data) → given ≡ Some value → holds_words value ≡ true)
    → Passes holds_words (found path given)
found_holds path None h = passes_err holds_words _
found_holds path (Some value) h = passes_ok holds_words value (h value refl)

pub required_holds : (path key : List ℕ) (fields : Members) → members_hold_words fields ≡ true
    → Passes holds_words (required path key fields)
required_holds path key fields all =
    found_holds (field path key) (get_member key fields) (λ value is. member_holds key fields value all is)

pub table_holds : (path : List ℕ) (value : Data) → holds_words value ≡ true
    → Passes members_hold_words (table_of path value)
table_holds path (table fields) h = passes_ok members_hold_words fields h
table_holds path (integer z) h = passes_err members_hold_words _
table_holds path (string text) h = passes_err members_hold_words _
table_holds path (float x) h = passes_err members_hold_words _
table_holds path (boolean b) h = passes_err members_hold_words _
table_holds path (datetime dt) h = passes_err members_hold_words _
table_holds path (array items) h = passes_err members_hold_words _

pub array_holds : (path : List ℕ) (value : Data) → holds_words value ≡ true
    → Passes items_hold_words (array_of path value)
array_holds path (array items) h = passes_ok items_hold_words items h
array_holds path (integer z) h = passes_err items_hold_words _
array_holds path (string text) h = passes_err items_hold_words _
array_holds path (float x) h = passes_err items_hold_words _
array_holds path (boolean b) h = passes_err items_hold_words _
array_holds path (datetime dt) h = passes_err items_hold_words _
array_holds path (table fields) h = passes_err items_hold_words _

pub integer_is_word : (path : List ℕ) (value : Data) → holds_words value ≡ true
    → Passes is_word (integer_of path value)
integer_is_word path (integer z) h = passes_ok is_word z h
integer_is_word path (array items) h = passes_err is_word _
integer_is_word path (string text) h = passes_err is_word _
integer_is_word path (float x) h = passes_err is_word _
integer_is_word path (boolean b) h = passes_err is_word _
integer_is_word path (datetime dt) h = passes_err is_word _
integer_is_word path (table fields) h = passes_err is_word _

-- so many elements, which hold words alone
abbrev pub are_items : ℕ → ℕ → Items → Bool
are_items low high items = within low high (how_many items) && items_hold_words items

pub sized_holds : (low high : ℕ) (path : List ℕ) (value : Data) → holds_words value ≡ true
    → Passes (are_items low high) (sized low high path value)
unfolding sized
sized_holds low high path value h =
    passes_then (are_items low high) (array_of path value) _ (λ items given.
    passes_then (are_items low high) (demand (nat_le low (how_many items) && nat_le (how_many items) high) _ path) _
    (λ met holds.
    passes_ok (are_items low high) items
    (and_true (within low high (how_many items)) (items_hold_words items)
    (demanded (nat_le low (how_many items) && nat_le (how_many items) high) _ path met holds)
    (array_holds path value h items given))))

-- ---- elements

module _ {A : Type 0} (check : List A → List ℕ → Data → Checked A) (test : A → Bool)
    (one_passes : (done : List A) (path : List ℕ) (value : Data) → holds_words value ≡ true →
    Passes test (check done path value)) where
  pub each_passes : (path : List ℕ) (done : List A) (items : Items) → items_hold_words items ≡ true
      → list_all test done ≡ true → Passes (list_all test) (each check path done items)
  unfolding each
  each_passes path done no_items all so_far = passes_ok (list_all test) done so_far
  each_passes path done (item value rest) all so_far =
      let parts = both (holds_words value) (items_hold_words rest) all in
      passes_then (list_all test) (check done (element path (length done)) value)
      (λ x. each check path (done ++ x ∷ []) rest)
      (λ x given. each_passes path (done ++ x ∷ []) rest parts.1
      (all-append test done (x ∷ []) so_far
      (and_true (test x) true (one_passes done (element path (length done)) value parts.0 x given) refl)))

each_counts_to : {A : Type 0} (check : List A → List ℕ → Data → Checked A) (path : List ℕ) (done : List A)
    (items : Items) (n : ℕ)
    → length done + how_many items ≡ n → Passes (λ all. length all == n) (each check path done items)
unfolding each
each_counts_to check path done no_items n count =
    passes_ok (λ all. length all == n) done (eq-eqb (length done) n (omega (arith, count)))
each_counts_to check path done (item value rest) n count =
    passes_then (λ all. length all == n) (check done (element path (length done)) value)
    (λ x. each check path (done ++ x ∷ []) rest)
    (λ x _. each_counts_to check path (done ++ x ∷ []) rest n
    (ap (λ k. k + how_many rest) (length-append done (x ∷ [])) ∙ omega (arith, count)))

-- as many elements as the array has
pub each_counts : {A : Type 0} (check : List A → List ℕ → Data → Checked A) (path : List ℕ) (items : Items)
    → Passes (λ all. length all == how_many items) (each check path [] items)
each_counts check path items = each_counts_to check path [] items (how_many items) (omega arith)

-- so many words
abbrev pub are_words : ℕ → List ℤ → Bool
are_words count words = length words == count && list_all is_word words

pub only_count : (count n : ℕ) → within count count n ≡ true → n ≡ count
only_count count n h = let parts = both (nat_le count n) (nat_le n count) h in
    omega (arith, leb-true count n parts.0, leb-true n count parts.1)

pub integers_are : (count : ℕ) (path : List ℕ) (value : Data) → holds_words value ≡ true
    → Passes (are_words count) (integers count path value)
unfolding integers
integers_are count path value h =
    passes_then (are_words count) (sized count count path value) _ (λ items given words is.
    let parts = both (within count count (how_many items)) (items_hold_words items)
    (sized_holds count count path value h items given) in
    and_true (length words == count) (list_all is_word words)
    (subst (λ n. (length words == n) ≡ true) (only_count count (how_many items) parts.0)
    (each_counts (alone integer_of) path items words is))
    (each_passes (alone integer_of) is_word (λ done path value h. integer_is_word path value h) path [] items parts.1
    refl words is))
