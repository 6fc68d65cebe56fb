-- Contexts that are alike on the words on which the outputs depend stay so.
use Rattle.std.proofs.Common.{◌≡◌, ◌∙◌, ◌<◌, ◌≤◌, ◌+◌, ◌*◌, ◌^◌, ◌==◌, ℕ, zero, suc, ℤ, pos, Bool, true, false, cond, ◌&&◌, ◌||◌, List, [], ◌∷◌, length, Option, Some, None, refl, sym, ap, subst, arith}
use Rattle.std.specs.Prelude.{int_lt, map, nat_lt, slice_get, slice_set, is_some, ◌%◌}
use Rattle.std.specs.Int.{w64, int_wrapping_neg}
use Rattle.std.specs.List.{list_all, list_any}
use Rattle.std.proofs.lemmas.Bool.{ltb-true, eqb-true}
use Rattle.std.proofs.lemmas.List.{get_or-set_same, length-set}
use Rattle.std.proofs.lemmas.Option.{unwrap_or-slice_get}
use Rattle.guards_model.specs.Contexts.{BlockValue, ContextValue, block_at, context_word, word_of, zero_block}
use Rattle.guards_model.specs.Expressions.{Expression, number, cycle_number, input, block_word, negative, binary, call, pick, fits_or_none, fits_sizes, result_of, value_of}
use Rattle.guards_model.specs.Missions.{MissionValue, IsMission, is_context, is_write, cycle_writes, output_words, within}
use Rattle.guards_model.specs.Natives.{native}
use Rattle.guards_model.specs.Tasks.{WriteValue, apply, replaced, whole, written, written_if}
use Rattle.guards_model.specs.Words.{is_word}
use Rattle.guards_model.proofs.BoolTests.{and_true, both, or_left, or_true}
use Rattle.guards_model.proofs.RoundCopies.{block_at-set_other}
use Rattle.guards_model.proofs.ValueWords.{apply_whole, block_in, is_block}
use Rattle.guards_laws.proofs.IdealWords.{row_writes}
use Rattle.guards_laws.proofs.Planned.{ranges}
use Rattle.table_flow.specs.Flow.{Assignment, assignments, feeds, lists_from, names_word, word_assignments, word_number, write_assignments}
use Rattle.flow_laws.specs.Alike.{AreAlike, worked_context, depended}
use Rattle.flow_laws.proofs.Closed.{closed, first_there}
use Rattle.flow_laws.proofs.Parts.{IsPart, second_part, low_table, part_at, parts_of_table, write_at}

pub dependence_closed : (M : MissionValue) → IsMission M → (w : ℕ) → w < M.rules.blocks * 8 →
    feeds (assignments M.table) (depended M) w ≡ true → depended M w ≡ true
dependence_closed M mission w small fed =
    closed (assignments M.table) M.outputs (M.rules.blocks * 8) (low_table M.rules.blocks M.width M.table mission.table)
    w small fed

-- ---- values

module _ (blocks width : ℕ) (a b : ContextValue) (inputs : List ℤ) (c : ℕ) where
  -- the words that the expression names are the same in both
  abbrev SameNamed : Expression → Type 0
  SameNamed e = (i j : ℕ) → i < blocks → j < 8 → names_word e (word_number i j) ≡ true →
      context_word a i j ≡ context_word b i j

  self_named : (n : ℕ) → (n == n) ≡ true
  self_named n = grind arith

  pub value_alike : (e : Expression) → fits_sizes blocks width e ≡ true → SameNamed e →
      value_of e a inputs c ≡ value_of e b inputs c
  value_alike (number z) fits same = refl
  value_alike cycle_number fits same = refl
  value_alike (input k) fits same = refl
  value_alike (block_word i j) fits same =
      let parts = both (nat_lt i blocks) (nat_lt j 8) fits in
      same i j (ltb-true i blocks parts.0) (ltb-true j 8 parts.1) (self_named (word_number i j))
  value_alike (negative x) fits same = ap (int_wrapping_neg w64) (value_alike x fits same)
  value_alike (binary op x y) fits same =
      let parts = both (fits_sizes blocks width x) (fits_sizes blocks width y) fits in
      ap (λ v. result_of op v (value_of y a inputs c))
      (value_alike x parts.0 (λ i j low small h.
      same i j low small (or_left (names_word x (word_number i j)) (names_word y (word_number i j)) h)))
      ∙ ap (result_of op (value_of x b inputs c))
      (value_alike y parts.1 (λ i j low small h.
      same i j low small (or_true (names_word x (word_number i j)) (names_word y (word_number i j)) h)))
  value_alike (call code x y z) fits same =
      let outer = both (fits_sizes blocks width x && fits_sizes blocks width y) (fits_sizes blocks width z) fits in
      let inner = both (fits_sizes blocks width x) (fits_sizes blocks width y) outer.0 in
      ap (λ v. native code v (value_of y a inputs c) (value_of z a inputs c))
      (value_alike x inner.0 (λ i j low small h.
      same i j low small (or_left (names_word x (word_number i j) || names_word y (word_number i j))
      (names_word z (word_number i j))
      (or_left (names_word x (word_number i j)) (names_word y (word_number i j)) h))))
      ∙ ap (λ v. native code (value_of x b inputs c) v (value_of z a inputs c))
      (value_alike y inner.1 (λ i j low small h.
      same i j low small (or_left (names_word x (word_number i j) || names_word y (word_number i j))
      (names_word z (word_number i j))
      (or_true (names_word x (word_number i j)) (names_word y (word_number i j)) h))))
      ∙ ap (native code (value_of x b inputs c) (value_of y b inputs c))
      (value_alike z outer.1 (λ i j low small h.
      same i j low small (or_true (names_word x (word_number i j) || names_word y (word_number i j))
      (names_word z (word_number i j)) h)))
  value_alike (pick x y z) fits same =
      let outer = both (fits_sizes blocks width x && fits_sizes blocks width y) (fits_sizes blocks width z) fits in
      let inner = both (fits_sizes blocks width x) (fits_sizes blocks width y) outer.0 in
      ap (λ v. cond (int_lt (pos 0) v) (value_of y a inputs c) (value_of z a inputs c))
      (value_alike x inner.0 (λ i j low small h.
      same i j low small (or_left (names_word x (word_number i j) || names_word y (word_number i j))
      (names_word z (word_number i j))
      (or_left (names_word x (word_number i j)) (names_word y (word_number i j)) h))))
      ∙ ap (λ v. cond (int_lt (pos 0) (value_of x b inputs c)) v (value_of z a inputs c))
      (value_alike y inner.1 (λ i j low small h.
      same i j low small (or_left (names_word x (word_number i j) || names_word y (word_number i j))
      (names_word z (word_number i j))
      (or_true (names_word x (word_number i j)) (names_word y (word_number i j)) h))))
      ∙ ap (cond (int_lt (pos 0) (value_of x b inputs c)) (value_of y b inputs c))
      (value_alike z outer.1 (λ i j low small h.
      same i j low small (or_true (names_word x (word_number i j) || names_word y (word_number i j))
      (names_word z (word_number i j)) h)))

-- ---- blocks

module _ (S : ℕ → Bool) (block : ℕ) (a b : ContextValue) (inputs : List ℤ) (c : ℕ) where
  -- the expressions of words that pass have the same values on both
  abbrev pub Valued : List (Option Expression) → ℕ → Type 0
  Valued [] place = Unit {0}
  Valued (None ∷ set) place = Valued set (place + 1)
  Valued (Some e ∷ set) place = (S (word_number block place) ≡ true → value_of e a inputs c ≡ value_of e b inputs c)
      × Valued set (place + 1)

  abbrev pub AlikeFrom : ℕ → List ℤ → List ℤ → Type 0
  AlikeFrom place xs ys = (k : ℕ) → place + k < 8 → S (word_number block (place + k)) ≡ true →
      word_of xs k ≡ word_of ys k

  later : (x y : ℤ) (xs ys : List ℤ) (place : ℕ) → AlikeFrom place (x ∷ xs) (y ∷ ys) → AlikeFrom (place + 1) xs ys
  later x y xs ys place alike k small passes =
      alike (suc k) (omega (arith, small)) (ap (λ n. S (word_number block n)) moved ∙ passes)
    where
      moved : place + suc k ≡ place + 1 + k
      moved = omega arith

  here : (x y : ℤ) (xs ys : List ℤ) (place : ℕ) → (place < 8 → S (word_number block place) ≡ true → x ≡ y) →
      AlikeFrom (place + 1) xs ys → AlikeFrom place (x ∷ xs) (y ∷ ys)
  here x y xs ys place first rest zero small passes =
      first (omega (arith, small)) (ap (λ n. S (word_number block n)) same ∙ passes)
    where
      same : place ≡ place + 0
      same = omega arith
  here x y xs ys place first rest (suc k) small passes =
      rest k (omega (arith, small)) (ap (λ n. S (word_number block n)) moved ∙ passes)
    where
      moved : place + 1 + k ≡ place + suc k
      moved = omega arith

  first_of : (x y : ℤ) (xs ys : List ℤ) (place : ℕ) → AlikeFrom place (x ∷ xs) (y ∷ ys) → place < 8 →
      S (word_number block place) ≡ true → x ≡ y
  first_of x y xs ys place alike small passes =
      alike 0 (omega (arith, small)) (ap (λ n. S (word_number block n)) same ∙ passes)
    where
      same : place + 0 ≡ place
      same = omega arith

  pub replaced_alike : (set : List (Option Expression)) (xs ys : List ℤ) (place : ℕ) → Valued set place →
      length xs ≡ length ys → AlikeFrom place xs ys →
      AlikeFrom place (replaced set xs a inputs c) (replaced set ys b inputs c)
  replaced_alike [] xs ys place valued long alike = alike
  replaced_alike (e ∷ set) [] [] place valued long alike = λ k small passes. refl
  replaced_alike (e ∷ set) [] (y ∷ ys) place valued long alike = absurd (omega (arith, long))
  replaced_alike (e ∷ set) (x ∷ xs) [] place valued long alike = absurd (omega (arith, long))
  replaced_alike (None ∷ set) (x ∷ xs) (y ∷ ys) place valued long alike =
      here x y (replaced set xs a inputs c) (replaced set ys b inputs c) place (first_of x y xs ys place alike)
      (replaced_alike set xs ys (place + 1) valued (omega (arith, long)) (later x y xs ys place alike))
  replaced_alike (Some e ∷ set) (x ∷ xs) (y ∷ ys) place valued long alike =
      here (value_of e a inputs c) (value_of e b inputs c) (replaced set xs a inputs c) (replaced set ys b inputs c)
      place (λ small passes. valued.0 passes)
      (replaced_alike set xs ys (place + 1) valued.1 (omega (arith, long)) (later x y xs ys place alike))

-- ---- writes

module _ (M : MissionValue) (mission : IsMission M) (inputs : List ℤ) (given : list_all is_word inputs ≡ true) (c : ℕ)
    (small : c < 2 ^ 32) where
  abbrev S : ℕ → Bool
  S = depended M

  abbrev list : List Assignment
  list = assignments M.table

  abbrev blocks : ℕ
  blocks = M.rules.blocks

  abbrev Same : ContextValue → ContextValue → Type 0
  Same a b = (block word : ℕ) → word < 8 → S (word_number block word) ≡ true →
      context_word a block word ≡ context_word b block word

  valued_from : (a b : ContextValue) (block place : ℕ) (set : List (Option Expression)) → Same a b →
      list_all (fits_or_none blocks M.width) set ≡ true →
      IsPart (lists_from (word_assignments block) place set) list → Valued S block a b inputs c set place
  valued_from a b block place [] same fits part = tt
  valued_from a b block place (None ∷ set) same fits part = valued_from a b block (place + 1) set same fits part
  valued_from a b block place (Some e ∷ set) same fits part =
      let this : Assignment = record { word = word_number block place; value = e } in
      let rest = lists_from (word_assignments block) (place + 1) set in
      let parts = both (fits_sizes blocks M.width e) (list_all (fits_or_none blocks M.width) set) fits in (
        λ passes. value_alike blocks M.width a b inputs c e parts.0
            (λ i j low word named.
            same i j word
            (dependence_closed M mission (word_number i j) (omega (arith, low, word))
            (part (λ (x : Assignment). S x.word && names_word x.value (word_number i j))
            (or_left (S (word_number block place) && names_word e (word_number i j))
            (list_any (λ (x : Assignment). S x.word && names_word x.value (word_number i j)) rest)
            (and_true (S (word_number block place)) (names_word e (word_number i j)) passes named))))),
        valued_from a b block (place + 1) set same parts.1 (second_part (this ∷ []) rest list part),
      )

  block_eight : (ctx : ContextValue) (i : ℕ) → list_all is_block ctx ≡ true → length (block_at ctx i) ≡ 8
  block_eight ctx i good = eqb-true (length (block_at ctx i)) 8
      (both (length (block_at ctx i) == 8) (list_all is_word (block_at ctx i)) (block_in ctx i good)).0

  block_set : (ctx : ContextValue) (i : ℕ) (v : BlockValue) → i < length ctx → block_at (slice_set ctx i v) i ≡ v
  block_set ctx i v low = unwrap_or-slice_get (slice_set ctx i v) i zero_block ∙ get_or-set_same ctx i v zero_block low

  written_alike : (a b : ContextValue) (w : WriteValue) → length a ≡ blocks → length b ≡ blocks →
      list_all is_block a ≡ true → list_all is_block b ≡ true → Same a b →
      is_write blocks M.width w ≡ true → IsPart (write_assignments w) list →
      Same (written w a inputs c) (written w b inputs c)
  unfolding write_assignments
  written_alike a b w long_a long_b good_a good_b same fits part i j word passes = by (w.block == i) refl
    where
      new : ContextValue → BlockValue
      new ctx = replaced w.set (block_at ctx w.block) ctx inputs c

      outer : (nat_lt w.block blocks && length w.set == 8) ≡ true
      outer = (both (nat_lt w.block blocks && length w.set == 8)
          (list_all (fits_or_none blocks M.width) w.set && list_any is_some w.set) fits).0

      low : w.block < blocks
      low = ltb-true w.block blocks (both (nat_lt w.block blocks) (length w.set == 8) outer).0

      expressions : list_all (fits_or_none blocks M.width) w.set ≡ true
      expressions = (both (list_all (fits_or_none blocks M.width) w.set) (list_any is_some w.set)
          (both (nat_lt w.block blocks && length w.set == 8)
          (list_all (fits_or_none blocks M.width) w.set && list_any is_some w.set) fits).1).0

      nothing : (k : ℕ) → k ≡ 0 + k
      nothing k = omega arith

      words : AlikeFrom S w.block a b inputs c 0 (new a) (new b)
      words =
          replaced_alike S w.block a b inputs c w.set (block_at a w.block) (block_at b w.block) 0
          (valued_from a b w.block 0 w.set same expressions part)
          (block_eight a w.block good_a ∙ sym (block_eight b w.block good_b))
          (λ k less passed. same w.block k (omega (arith, less))
          (ap (λ n. S (word_number w.block n)) (nothing k) ∙ passed))

      by : (t : Bool) → (w.block == i) ≡ t →
          context_word (written w a inputs c) i j ≡ context_word (written w b inputs c) i j
      by false e =
          ap (λ (v : BlockValue). word_of v j) (block_at-set_other a w.block i (new a) e)
          ∙ same i j word passes
          ∙ sym (ap (λ (v : BlockValue). word_of v j) (block_at-set_other b w.block i (new b) e))
      by true e =
          let is : w.block ≡ i = eqb-true w.block i e in
          subst (λ n. context_word (written w a inputs c) n j ≡ context_word (written w b inputs c) n j) is
          (ap (λ (v : BlockValue). word_of v j) (block_set a w.block (new a) (omega (arith, low, long_a)))
          ∙ words j (omega (arith, word))
          (ap (λ n. S (word_number w.block n)) (sym (nothing j)) ∙ ap (λ n. S (word_number n j)) is ∙ passes)
          ∙ sym (ap (λ (v : BlockValue). word_of v j) (block_set b w.block (new b) (omega (arith, low, long_b)))))

  written_length : (o : Option WriteValue) (ctx : ContextValue) → length (written_if o ctx inputs c) ≡ length ctx
  written_length None ctx = refl
  written_length (Some w) ctx = length-set ctx w.block (replaced w.set (block_at ctx w.block) ctx inputs c)

  apply_length : (row : List WriteValue) (ctx : ContextValue) (k : ℕ) → length (apply row ctx c inputs k) ≡ length ctx
  apply_length row ctx zero = refl
  apply_length row ctx (suc k) = written_length (slice_get row k) (apply row ctx c inputs k) ∙ apply_length row ctx k

  abbrev row : List WriteValue
  row = cycle_writes M c

  apply_alike : (a b : ContextValue) → is_context blocks a ≡ true → is_context blocks b ≡ true → Same a b → (k : ℕ) →
      Same (apply row a c inputs k) (apply row b c inputs k)
  apply_alike a b left right same zero = same
  apply_alike a b left right same (suc k) = by (slice_get row k) refl (apply_alike a b left right same k)
    where
      left_parts : (length a ≡ blocks) × (list_all is_block a ≡ true)
      left_parts = let parts = both (length a == blocks) (list_all is_block a) left in
          (eqb-true (length a) blocks parts.0, parts.1)

      right_parts : (length b ≡ blocks) × (list_all is_block b ≡ true)
      right_parts = let parts = both (length b == blocks) (list_all is_block b) right in
          (eqb-true (length b) blocks parts.0, parts.1)

      writes : list_all (is_write blocks M.width) row ≡ true
      writes = row_writes M mission c

      by : (o : Option WriteValue) → slice_get row k ≡ o → Same (apply row a c inputs k) (apply row b c inputs k) →
          Same (written_if o (apply row a c inputs k) inputs c) (written_if o (apply row b c inputs k) inputs c)
      by None e before = before
      by (Some w) e before =
          written_alike (apply row a c inputs k) (apply row b c inputs k) w (apply_length row a k ∙ left_parts.0)
          (apply_length row b k ∙ right_parts.0)
          (apply_whole blocks M.width row a c inputs k writes left_parts.1 given small)
          (apply_whole blocks M.width row b c inputs k writes right_parts.1 given small)
          before (write_at blocks M.width row k w writes e)
          (part_at row list k w (parts_of_table M.table (c % length M.table)) e)

  whole_context : (ctx : ContextValue) → is_context blocks ctx ≡ true →
      is_context blocks (whole row ctx c inputs) ≡ true
  whole_context ctx good =
      let parts = both (length ctx == blocks) (list_all is_block ctx) good in
      and_true (length (whole row ctx c inputs) == blocks) (list_all is_block (whole row ctx c inputs))
      (ap (λ n. n == blocks) (apply_length row ctx (length row)) ∙ parts.0)
      (apply_whole blocks M.width row ctx c inputs (length row) (row_writes M mission c) parts.1 given small)

  pub cycle_alike : (a b : ContextValue) → AreAlike M a b → AreAlike M (whole row a c inputs) (whole row b c inputs)
  cycle_alike a b alike =
      record {
        left = whole_context a alike.left;
        right = whole_context b alike.right;
        words = apply_alike a b alike.left alike.right alike.words (length row);
      }

-- ---- cycles

module _ (M : MissionValue) (mission : IsMission M) (inputs : ℕ → List ℤ)
    (given : (d : ℕ) → list_all is_word (inputs d) ≡ true) (c : ℕ) (a b : ContextValue) (alike : AreAlike M a b) where
  pub stay_alike : (n : ℕ) → c + n ≤ M.cycles →
      AreAlike M (worked_context M inputs c a n) (worked_context M inputs c b n)
  stay_alike zero early = alike
  stay_alike (suc n) early =
      cycle_alike M mission (inputs (c + n)) (given (c + n)) (c + n) (omega (arith, early, (ranges M mission).cycles))
      (worked_context M inputs c a n) (worked_context M inputs c b n)
      (stay_alike n (omega (arith, early)))

-- outputs that are words of the context
outputs_alike : (S : ℕ → Bool) (blocks : ℕ) (a b : ContextValue) (outputs : List (ℕ × ℕ)) →
    ((block word : ℕ) → word < 8 → S (word_number block word) ≡ true →
    context_word a block word ≡ context_word b block word) →
    list_all (λ (o : ℕ × ℕ). nat_lt o.0 blocks && nat_lt o.1 8) outputs ≡ true →
    ((w : ℕ) → list_any (λ (o : ℕ × ℕ). word_number o.0 o.1 == w) outputs ≡ true → S w ≡ true) →
    map (λ (o : ℕ × ℕ). context_word a o.0 o.1) outputs ≡ map (λ (o : ℕ × ℕ). context_word b o.0 o.1) outputs
outputs_alike S blocks a b [] same fits among = refl
outputs_alike S blocks a b (o ∷ outputs) same fits among =
    let parts = both (nat_lt o.0 blocks && nat_lt o.1 8)
    (list_all (λ (p : ℕ × ℕ). nat_lt p.0 blocks && nat_lt p.1 8) outputs) fits in
    let word : o.1 < 8 = ltb-true o.1 8 (both (nat_lt o.0 blocks) (nat_lt o.1 8) parts.0).1 in
    let n = word_number o.0 o.1 in
    let itself : (m : ℕ) → (m == m) ≡ true = λ m. grind arith in
    ap (λ (v : ℤ). v ∷ map (λ (p : ℕ × ℕ). context_word a p.0 p.1) outputs)
    (same o.0 o.1 word (among n
    (or_left (n == n) (list_any (λ (p : ℕ × ℕ). word_number p.0 p.1 == n) outputs) (itself n))))
    ∙ ap (λ (vs : List ℤ). context_word b o.0 o.1 ∷ vs)
    (outputs_alike S blocks a b outputs same parts.1
    (λ w h. among w (or_true (word_number o.0 o.1 == w) (list_any (λ (p : ℕ × ℕ). word_number p.0 p.1 == w) outputs)
    h)))

pub same_votes : (M : MissionValue) → IsMission M → (a b : ContextValue) → AreAlike M a b →
    output_words M a ≡ output_words M b
same_votes M mission a b alike =
    outputs_alike (depended M) M.rules.blocks a b M.outputs alike.words
    (both (within 1 8 (length M.outputs))
    (list_all (λ (o : ℕ × ℕ). nat_lt o.0 M.rules.blocks && nat_lt o.1 8) M.outputs) mission.outputs).1
    (λ w h. first_there (assignments M.table) M.outputs (M.rules.blocks * 8)
    (low_table M.rules.blocks M.width M.table mission.table) (M.rules.blocks * 8) w h)
