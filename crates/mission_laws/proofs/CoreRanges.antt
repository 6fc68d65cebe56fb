-- The table `core` that was read is within its ranges.
use Rattle.std.proofs.Common.{◌≡◌, ℕ, Bool, true, ◌&&◌, List, Option, Some, None, codes, refl}
use Rattle.toml.specs.Data.{Data, Members, get_member}
use Rattle.guards_model.specs.declared.Law.TheVariants.{Multiply}
use Rattle.guards_model.specs.Missions.{within, is_law, is_rules}
use Rattle.guards_model.proofs.BoolTests.{both, and_true}
use Rattle.document_checks.specs.Checks.{field, text_of, table_of, only, demand, number, number_or}
use Rattle.mission_text.specs.declared.core_fields.CoreSizes.{CoreSizes}
use Rattle.mission_text.specs.declared.core_fields.Limits.{Limits}
use Rattle.mission_text.specs.declared.core_fields.Choices.{Choices}
use Rattle.mission_text.specs.declared.core_fields.CoreFields.{CoreFields}
use Rattle.mission_text.specs.Core.{core_keys, sizes_at, limits_at, law_named, decay_law_at, law_or, law_field, choices_at, core_at, rules_of}
use Rattle.mission_laws.proofs.CheckedWords.{Passes, passes_ok, passes_then, demanded, number_within, number_or_within}

abbrev pub are_sizes : CoreSizes → Bool
are_sizes s = (within 3 7 s.channels && within 1 2000 s.cycles) && (within 1 256 s.blocks && within 1 4 s.width)

sizes_in : (path : List ℕ) (fields : Members) → Passes are_sizes (sizes_at path fields)
unfolding sizes_at
sizes_in path fields =
    passes_then are_sizes (number 3 7 path (codes "channels") fields) _ (λ channels a.
    passes_then are_sizes (number 1 2000 path (codes "cycles") fields) _ (λ cycles b.
    passes_then are_sizes (number 1 256 path (codes "blocks") fields) _ (λ blocks c.
    passes_then are_sizes (number 1 4 path (codes "width") fields) _ (λ width d.
    passes_ok are_sizes (record { channels = channels; cycles = cycles; blocks = blocks; width = width })
    (and_true (within 3 7 channels && within 1 2000 cycles) (within 1 256 blocks && within 1 4 width)
    (and_true (within 3 7 channels) (within 1 2000 cycles) (number_within 3 7 path (codes "channels") fields channels a)
    (number_within 1 2000 path (codes "cycles") fields cycles b))
    (and_true (within 1 256 blocks) (within 1 4 width) (number_within 1 256 path (codes "blocks") fields blocks c)
    (number_within 1 4 path (codes "width") fields width d)))))))

abbrev pub are_limits : Limits → Bool
are_limits l = ((within 0 65536 l.keep && within 65536 6553600 l.threshold)
    && (within 1 64 l.sweep && within 0 64 l.last)) && within 0 1000 l.return_after

limits_in : (path : List ℕ) (fields : Members) → Passes are_limits (limits_at path fields)
unfolding limits_at
limits_in path fields =
    passes_then are_limits (number_or 32768 0 65536 path (codes "keep") fields) _ (λ keep a.
    passes_then are_limits (number_or 131072 65536 6553600 path (codes "threshold") fields) _ (λ threshold b.
    passes_then are_limits (number_or 2 0 1000 path (codes "return_after") fields) _ (λ return_after c.
    passes_then are_limits (number_or 16 1 64 path (codes "sweep") fields) _ (λ sweep d.
    passes_then are_limits (number_or 8 0 64 path (codes "final") fields) _ (λ last e.
    passes_ok are_limits (record {
      keep = keep;
      threshold = threshold;
      return_after = return_after;
      sweep = sweep;
      last = last;
    })
    (and_true ((within 0 65536 keep && within 65536 6553600 threshold) && (within 1 64 sweep && within 0 64 last))
    (within 0 1000 return_after)
    (and_true (within 0 65536 keep && within 65536 6553600 threshold) (within 1 64 sweep && within 0 64 last)
    (and_true (within 0 65536 keep) (within 65536 6553600 threshold)
    (number_or_within 32768 0 65536 path (codes "keep") fields refl keep a)
    (number_or_within 131072 65536 6553600 path (codes "threshold") fields refl threshold b))
    (and_true (within 1 64 sweep) (within 0 64 last) (number_or_within 16 1 64 path (codes "sweep") fields refl sweep d)
    (number_or_within 8 0 64 path (codes "final") fields refl last e)))
    (number_or_within 2 0 1000 path (codes "return_after") fields refl return_after c)))))))

law_in : (version : ℕ) (path : List ℕ) (value : Data) → Passes (is_law version) (decay_law_at version path value)
unfolding decay_law_at
law_in version path value =
    passes_then (is_law version) (text_of path value) _ (λ text _.
    passes_then (is_law version) (law_named path text) _ (λ law _.
    passes_then (is_law version) (demand (is_law version law) _ path) _ (λ met holds.
    passes_ok (is_law version) law (demanded (is_law version law) _ path met holds))))

law_or_in : (version : ℕ) (path : List ℕ) (given : Option Data) → Passes (is_law version) (law_or version path given)
law_or_in version path None = passes_ok (is_law version) Multiply refl
law_or_in version path (Some value) = law_in version path value

law_field_in : (version : ℕ) (path : List ℕ) (fields : Members)
    → Passes (is_law version) (law_field version path fields)
unfolding law_field
law_field_in version path fields = law_or_in version (field path (codes "decay")) (get_member (codes "decay") fields)

abbrev pub are_choices : Choices → Bool
are_choices c = (within 1 2 c.version && is_law c.version c.law)
    && (within 0 6553600 c.decrement && within 1 2 c.returning)

choices_in : (path : List ℕ) (fields : Members) → Passes are_choices (choices_at path fields)
unfolding choices_at
choices_in path fields =
    passes_then are_choices (number_or 1 1 2 path (codes "version") fields) _ (λ version a.
    passes_then are_choices (law_field version path fields) _ (λ law b.
    passes_then are_choices (number_or 32768 0 6553600 path (codes "decrement") fields) _ (λ decrement c.
    passes_then are_choices (number_or 1 1 2 path (codes "returning") fields) _ (λ returning d.
    passes_ok are_choices (record { version = version; law = law; decrement = decrement; returning = returning })
    (and_true (within 1 2 version && is_law version law) (within 0 6553600 decrement && within 1 2 returning)
    (and_true (within 1 2 version) (is_law version law)
    (number_or_within 1 1 2 path (codes "version") fields refl version a) (law_field_in version path fields law b))
    (and_true (within 0 6553600 decrement) (within 1 2 returning)
    (number_or_within 32768 0 6553600 path (codes "decrement") fields refl decrement c)
    (number_or_within 1 1 2 path (codes "returning") fields refl returning d)))))))

abbrev pub is_core : CoreFields → Bool
is_core core = are_sizes core.sizes && (are_limits core.limits && are_choices core.choices)

pub core_in : (path : List ℕ) (value : Data) → Passes is_core (core_at path value)
unfolding core_at
core_in path value =
    passes_then is_core (table_of path value) _ (λ fields _.
    passes_then is_core (only core_keys path fields) _ (λ _ _.
    passes_then is_core (sizes_at path fields) _ (λ sizes a.
    passes_then is_core (limits_at path fields) _ (λ limits b.
    passes_then is_core (choices_at path fields) _ (λ choices c.
    passes_ok is_core (record { sizes = sizes; limits = limits; choices = choices })
    (and_true (are_sizes sizes) (are_limits limits && are_choices choices) (sizes_in path fields sizes a)
    (and_true (are_limits limits) (are_choices choices) (limits_in path fields limits b)
    (choices_in path fields choices c))))))))

-- what is known of the numbers of a core
pub record CoreIn (core : CoreFields) : Type 0 where
  pub rules : is_rules (rules_of core) ≡ true
  pub cycles : within 1 2000 core.sizes.cycles ≡ true
  pub width : within 1 4 core.sizes.width ≡ true
  pub return_after : within 0 1000 core.limits.return_after ≡ true
  pub blocks : within 1 256 core.sizes.blocks ≡ true

pub core_parts : (core : CoreFields) → is_core core ≡ true → CoreIn core
core_parts core h =
    let all = both (are_sizes core.sizes) (are_limits core.limits && are_choices core.choices) h in
    let two = both (are_limits core.limits) (are_choices core.choices) all.1 in
    let sizes = both (within 3 7 core.sizes.channels && within 1 2000 core.sizes.cycles)
    (within 1 256 core.sizes.blocks && within 1 4 core.sizes.width) all.0 in
    let counts = both (within 3 7 core.sizes.channels) (within 1 2000 core.sizes.cycles) sizes.0 in
    let widths = both (within 1 256 core.sizes.blocks) (within 1 4 core.sizes.width) sizes.1 in
    let decay = within 0 65536 core.limits.keep && within 65536 6553600 core.limits.threshold in
    let copies = within 1 64 core.limits.sweep && within 0 64 core.limits.last in
    let limits = both (decay && copies) (within 0 1000 core.limits.return_after) two.0 in
    let counting = both decay copies limits.0 in
    record {
      rules =
          and_true ((within 3 7 core.sizes.channels && within 1 256 core.sizes.blocks) && decay)
          (copies && are_choices core.choices)
          (and_true (within 3 7 core.sizes.channels && within 1 256 core.sizes.blocks) decay
          (and_true (within 3 7 core.sizes.channels) (within 1 256 core.sizes.blocks) counts.0 widths.0) counting.0)
          (and_true copies (are_choices core.choices) counting.1 two.1);
      cycles = counts.1;
      width = widths.1;
      return_after = limits.1;
      blocks = widths.0;
    }
