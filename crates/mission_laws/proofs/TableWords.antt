-- What tables hold while a document is read: words alone, where what is put into them holds words alone.
use Rattle.std.proofs.Common.{◌≡◌, ℕ, Bool, true, false, ◌&&◌, List, [], ◌∷◌, ◌++◌, Option, Some, None, option_map, refl, subst, Ordering, Less, Equal, Greater, nat_cmp}
use Rattle.std.specs.Prelude.{if◌then◌else◌, option_and_then}
use Rattle.std.specs.Ordering.{match_ordering}
use Rattle.std.specs.Cmp.Lexicographic.{slice_cmp}
use Rattle.toml_parser.specs.Strings.{Key}
use Rattle.toml.specs.Data.{Data, table, Items, no_items, item, same_key, push_item}
use Rattle.toml.specs.Tables.{implicit, dotted, header, Node, Nodes, value, open_table, open_array, no_nodes, node, get_node, insert, replace, close_node, close, Edit, header_node, dot_node, by_header, by_dot, along_header, along_dots, Definition, key_value, std_table, array_table, Expression, new_node, redefine, at_found, at_key, put, Document, define_as, define}
use Rattle.guards_model.proofs.BoolTests.{both, and_true}
use Rattle.mission_laws.specs.Integers.{holds_words, items_hold_words, members_hold_words}

abbrev mutual
  pub node_holds : Node → Bool
  node_holds (value d) = holds_words d
  node_holds (open_table origin ns) = nodes_hold ns
  node_holds (open_array done ns) = items_hold_words done && nodes_hold ns

  pub nodes_hold : Nodes → Bool
  nodes_hold no_nodes = true
  nodes_hold (node k x ns) = node_holds x && nodes_hold ns

-- ---- options

abbrev pub Mapped : {A B : Type 0} → (A → B) → Option A → B → Type 0
Mapped {A} f given y = (x : A) × (given ≡ Some x) × (f x ≡ y)

pub mapped : {A B : Type 0} (f : A → B) (given : Option A) (y : B) → option_map f given ≡ Some y → Mapped f given y
mapped f None y h = absurd cc
mapped f (Some x) y h = (x, refl, cc)

abbrev pub Followed : {A B : Type 0} → Option A → (A → Option B) → B → Type 0
Followed {A} given f y = (x : A) × (given ≡ Some x) × (f x ≡ Some y)

pub followed : {A B : Type 0} (given : Option A) (f : A → Option B) (y : B) → option_and_then f given ≡ Some y
    → Followed given f y
followed None f y h = absurd cc
followed (Some x) f y h = (x, refl, h)

-- ---- items and nodes

pub push_holds : (items : Items) (d : Data) → items_hold_words items ≡ true → holds_words d ≡ true
    → items_hold_words (push_item items d) ≡ true
push_holds no_items d h k = and_true (holds_words d) true k refl
push_holds (item first rest) d h k =
    let parts = both (holds_words first) (items_hold_words rest) h in
    and_true (holds_words first) (items_hold_words (push_item rest d)) parts.0 (push_holds rest d parts.1 k)

mutual
  pub close_node_holds : (x : Node) → node_holds x ≡ true → holds_words (close_node x) ≡ true
  close_node_holds (value d) h = h
  close_node_holds (open_table origin ns) h = close_holds ns h
  close_node_holds (open_array done ns) h =
      let parts = both (items_hold_words done) (nodes_hold ns) h in
      push_holds done (table (close ns)) parts.0 (close_holds ns parts.1)

  pub close_holds : (ns : Nodes) → nodes_hold ns ≡ true → members_hold_words (close ns) ≡ true
  close_holds no_nodes h = refl
  close_holds (node k x ns) h =
      let parts = both (node_holds x) (nodes_hold ns) h in
      and_true (holds_words (close_node x)) (members_hold_words (close ns)) (close_node_holds x parts.0)
      (close_holds ns parts.1)

placed_by : (o : Ordering) (a b c : Nodes) → nodes_hold a ≡ true → nodes_hold b ≡ true → nodes_hold c ≡ true
    → nodes_hold (match_ordering o a b c) ≡ true
placed_by Less a b c h k l = h
placed_by Equal a b c h k l = k
placed_by Greater a b c h k l = l

insert_holds : (k : List ℕ) (x : Node) (ns : Nodes) → node_holds x ≡ true → nodes_hold ns ≡ true
    → nodes_hold (insert k x ns) ≡ true
insert_holds k x no_nodes h all = and_true (node_holds x) true h refl
insert_holds k x (node l y ns) h all =
    let parts = both (node_holds y) (nodes_hold ns) all in
    placed_by (slice_cmp nat_cmp k l) (node k x (node l y ns)) (node l x ns) (node l y (insert k x ns))
    (and_true (node_holds x) (nodes_hold (node l y ns)) h all)
    (and_true (node_holds x) (nodes_hold ns) h parts.1)
    (and_true (node_holds y) (nodes_hold (insert k x ns)) parts.0 (insert_holds k x ns h parts.1))

chosen_nodes : (test : Bool) (a b : Nodes) → nodes_hold a ≡ true → nodes_hold b ≡ true
    → nodes_hold (if test then a else b) ≡ true
chosen_nodes true a b h k = h
chosen_nodes false a b h k = k

replace_holds : (k : List ℕ) (x : Node) (ns : Nodes) → node_holds x ≡ true → nodes_hold ns ≡ true
    → nodes_hold (replace k x ns) ≡ true
replace_holds k x no_nodes h all = refl
replace_holds k x (node l y ns) h all =
    let parts = both (node_holds y) (nodes_hold ns) all in
    chosen_nodes (same_key k l) (node l x ns) (node l y (replace k x ns))
    (and_true (node_holds x) (nodes_hold ns) h parts.1)
    (and_true (node_holds y) (nodes_hold (replace k x ns)) parts.0 (replace_holds k x ns h parts.1))

found_node : (test : Bool) (y : Node) (ns : Nodes) (k : List ℕ) (x : Node) → node_holds y ≡ true
    → (get_node k ns ≡ Some x → node_holds x ≡ true) → (if test then Some y else get_node k ns) ≡ Some x
    → node_holds x ≡ true
found_node true y ns k x h more is = let e : y ≡ x = cc in subst (λ z. node_holds z ≡ true) e h
found_node false y ns k x h more is = more is

get_holds : (k : List ℕ) (ns : Nodes) (x : Node) → nodes_hold ns ≡ true → get_node k ns ≡ Some x → node_holds x ≡ true
get_holds k no_nodes x all is = absurd cc
get_holds k (node l y ns) x all is =
    let parts = both (node_holds y) (nodes_hold ns) all in
    found_node (same_key k l) y ns k x parts.0 (get_holds k ns x parts.1) is

-- ---- edits

abbrev pub Keeps : Edit → Type 0
Keeps edit = (ns result : Nodes) → nodes_hold ns ≡ true → edit ns ≡ Some result → nodes_hold result ≡ true

header_node_holds : (edit : Edit) → Keeps edit → (x result : Node) → node_holds x ≡ true
    → header_node edit x ≡ Some result → node_holds result ≡ true
header_node_holds edit keeps (value d) result h is = absurd cc
header_node_holds edit keeps (open_table origin inner) result h is =
    let m = mapped (open_table origin) (edit inner) result is in
    subst (λ z. node_holds z ≡ true) m.2 (keeps inner m.0 h m.1)
header_node_holds edit keeps (open_array done last) result h is =
    let parts = both (items_hold_words done) (nodes_hold last) h in
    let m = mapped (open_array done) (edit last) result is in
    subst (λ z. node_holds z ≡ true) m.2
    (and_true (items_hold_words done) (nodes_hold m.0) parts.0 (keeps last m.0 parts.1 m.1))

dot_node_holds : (edit : Edit) → Keeps edit → (x result : Node) → node_holds x ≡ true → dot_node edit x ≡ Some result
    → node_holds result ≡ true
dot_node_holds edit keeps (value d) result h is = absurd cc
dot_node_holds edit keeps (open_table header inner) result h is = absurd cc
dot_node_holds edit keeps (open_table implicit inner) result h is =
    let m = mapped (open_table dotted) (edit inner) result is in
    subst (λ z. node_holds z ≡ true) m.2 (keeps inner m.0 h m.1)
dot_node_holds edit keeps (open_table dotted inner) result h is =
    let m = mapped (open_table dotted) (edit inner) result is in
    subst (λ z. node_holds z ≡ true) m.2 (keeps inner m.0 h m.1)
dot_node_holds edit keeps (open_array done last) result h is = absurd cc

by_header_holds : (k : List ℕ) (edit : Edit) → Keeps edit → (ns : Nodes) (found : Option Node) (result : Nodes)
    → nodes_hold ns ≡ true → ((x : Node) → found ≡ Some x → node_holds x ≡ true)
    → by_header k edit ns found ≡ Some result → nodes_hold result ≡ true
by_header_holds k edit keeps ns None result all there is =
    let m = mapped (λ new. insert k (open_table implicit new) ns) (edit no_nodes) result is in
    subst (λ z. nodes_hold z ≡ true) m.2 (insert_holds k (open_table implicit m.0) ns (keeps no_nodes m.0 refl m.1) all)
by_header_holds k edit keeps ns (Some x) result all there is =
    let m = mapped (λ new. replace k new ns) (header_node edit x) result is in
    subst (λ z. nodes_hold z ≡ true) m.2
    (replace_holds k m.0 ns (header_node_holds edit keeps x m.0 (there x refl) m.1) all)

by_dot_holds : (k : List ℕ) (edit : Edit) → Keeps edit → (ns : Nodes) (found : Option Node) (result : Nodes)
    → nodes_hold ns ≡ true → ((x : Node) → found ≡ Some x → node_holds x ≡ true)
    → by_dot k edit ns found ≡ Some result → nodes_hold result ≡ true
by_dot_holds k edit keeps ns None result all there is =
    let m = mapped (λ new. insert k (open_table dotted new) ns) (edit no_nodes) result is in
    subst (λ z. nodes_hold z ≡ true) m.2 (insert_holds k (open_table dotted m.0) ns (keeps no_nodes m.0 refl m.1) all)
by_dot_holds k edit keeps ns (Some x) result all there is =
    let m = mapped (λ new. replace k new ns) (dot_node edit x) result is in
    subst (λ z. nodes_hold z ≡ true) m.2
    (replace_holds k m.0 ns (dot_node_holds edit keeps x m.0 (there x refl) m.1) all)

along_header_keeps : (path : List (List ℕ)) (edit : Edit) → Keeps edit → Keeps (along_header path edit)
unfolding along_header
along_header_keeps [] edit keeps ns result all is = keeps ns result all is
along_header_keeps (k ∷ path) edit keeps ns result all is =
    by_header_holds k (along_header path edit) (along_header_keeps path edit keeps) ns (get_node k ns) result all
    (λ x there. get_holds k ns x all there) is

along_dots_keeps : (path : List (List ℕ)) (edit : Edit) → Keeps edit → Keeps (along_dots path edit)
unfolding along_dots
along_dots_keeps [] edit keeps ns result all is = keeps ns result all is
along_dots_keeps (k ∷ path) edit keeps ns result all is =
    by_dot_holds k (along_dots path edit) (along_dots_keeps path edit keeps) ns (get_node k ns) result all
    (λ x there. get_holds k ns x all there) is

-- ---- definitions

abbrev pub definition_holds : Definition → Bool
definition_holds (key_value d) = holds_words d
definition_holds std_table = true
definition_holds array_table = true

new_holds : (what : Definition) → definition_holds what ≡ true → node_holds (new_node what) ≡ true
new_holds (key_value d) h = h
new_holds std_table h = refl
new_holds array_table h = refl

redefine_holds : (what : Definition) (x result : Node) → node_holds x ≡ true → redefine what x ≡ Some result
    → node_holds result ≡ true
redefine_holds (key_value d) x result h is = absurd cc
redefine_holds std_table (value d) result h is = absurd cc
redefine_holds std_table (open_table implicit inner) result h is = let e : open_table header inner ≡ result = cc in
    subst (λ z. node_holds z ≡ true) e h
redefine_holds std_table (open_table dotted inner) result h is = absurd cc
redefine_holds std_table (open_table header inner) result h is = absurd cc
redefine_holds std_table (open_array done last) result h is = absurd cc
redefine_holds array_table (value d) result h is = absurd cc
redefine_holds array_table (open_table origin inner) result h is = absurd cc
redefine_holds array_table (open_array done last) result h is =
    let parts = both (items_hold_words done) (nodes_hold last) h in
    let e : open_array (push_item done (table (close last))) no_nodes ≡ result = cc in
    subst (λ z. node_holds z ≡ true) e
    (and_true (items_hold_words (push_item done (table (close last)))) true
    (push_holds done (table (close last)) parts.0 (close_holds last parts.1)) refl)

at_found_holds : (k : List ℕ) (what : Definition) → definition_holds what ≡ true
    → (ns : Nodes) (found : Option Node) (result : Nodes) → nodes_hold ns ≡ true
    → ((x : Node) → found ≡ Some x → node_holds x ≡ true)
    → at_found k what ns found ≡ Some result → nodes_hold result ≡ true
at_found_holds k what h ns None result all there is =
    let e : insert k (new_node what) ns ≡ result = cc in
    subst (λ z. nodes_hold z ≡ true) e (insert_holds k (new_node what) ns (new_holds what h) all)
at_found_holds k what h ns (Some x) result all there is =
    let m = mapped (λ y. replace k y ns) (redefine what x) result is in
    subst (λ z. nodes_hold z ≡ true) m.2 (replace_holds k m.0 ns (redefine_holds what x m.0 (there x refl) m.1) all)

at_key_keeps : (k : List ℕ) (what : Definition) → definition_holds what ≡ true → Keeps (at_key k what)
unfolding at_key
at_key_keeps k what h ns result all is =
    at_found_holds k what h ns (get_node k ns) result all (λ x there. get_holds k ns x all there) is

pub put_keeps : (key : Key) (d : Data) → holds_words d ≡ true → Keeps (put key d)
put_keeps key d h = along_dots_keeps key.0 (at_key key.1 (key_value d)) (at_key_keeps key.1 (key_value d) h)

define_as_holds : (doc : Document) (key : Key) (what : Definition) (result : Document) → nodes_hold doc.0 ≡ true
    → definition_holds what ≡ true → define_as doc key what ≡ Some result → nodes_hold result.0 ≡ true
define_as_holds doc key (key_value d) result all h is =
    let m = mapped (λ root. (root, doc.1)) (along_header doc.1 (put key d) doc.0) result is in
    subst (λ z. nodes_hold z.0 ≡ true) m.2 (along_header_keeps doc.1 (put key d) (put_keeps key d h) doc.0 m.0 all m.1)
define_as_holds doc key std_table result all h is =
    let m = mapped (λ root. (root, key.0 ++ key.1 ∷ [])) (along_header key.0 (at_key key.1 std_table) doc.0) result
    is in
    subst (λ z. nodes_hold z.0 ≡ true) m.2
    (along_header_keeps key.0 (at_key key.1 std_table) (at_key_keeps key.1 std_table refl) doc.0 m.0 all m.1)
define_as_holds doc key array_table result all h is =
    let m = mapped (λ root. (root, key.0 ++ key.1 ∷ [])) (along_header key.0 (at_key key.1 array_table) doc.0) result
    is in
    subst (λ z. nodes_hold z.0 ≡ true) m.2
    (along_header_keeps key.0 (at_key key.1 array_table) (at_key_keeps key.1 array_table refl) doc.0 m.0 all m.1)

pub define_holds : (doc : Document) (e : Expression) (result : Document) → nodes_hold doc.0 ≡ true
    → definition_holds e.1 ≡ true → define doc e ≡ Some result → nodes_hold result.0 ≡ true
unfolding define
define_holds doc e result all h is = define_as_holds doc e.0 e.1 result all h is
