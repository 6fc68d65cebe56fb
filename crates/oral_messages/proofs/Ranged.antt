-- What is told of the values of a level may stand in a frame.
use Rattle.std.proofs.Common.{◌≡◌, ℕ, zero, suc, ◌+◌, ◌-◌, ◌≤◌, ◌<◌, Bool, true, not, List, [], ◌∷◌, length, map, get_or, Option, Some, None, refl, sym, ap, subst, ◌∙◌, arith}
use Rattle.std.specs.Prelude.{filter, reverse}
use Rattle.std.specs.List.{list_all, range_with_len}
use Rattle.std.proofs.lemmas.Simd.{map-map}
use Rattle.guards_model.specs.Channels.{Channel, ChannelSet, has, numbers_below}
use Rattle.guards_model.specs.Frames.{SourceValue, ItemValue, is_set, absent_or, source_word_in_range, exchange_in_range}
use Rattle.guards_model.specs.OralMessages.{PathValue, paths}
use Rattle.guards_model.proofs.BoolTests.{both}
use Rattle.guards_model.proofs.ExchangeRange.{exchange_good}
use Rattle.oral_messages.specs.Ranks.{rank}
use Rattle.oral_messages.specs.Trees.{items_told}
use Rattle.oral_messages.proofs.RankTables.{ranks_count}

-- whether a value is missing or within the ranges
abbrev pub fits : Option SourceValue → Bool
fits v = absent_or source_word_in_range v

fits_at : (values : List (Option SourceValue)) (i : ℕ) → list_all fits values ≡ true →
    fits (get_or values i None) ≡ true
fits_at [] i h = refl
fits_at (v ∷ values) zero h = (both (fits v) (list_all fits values) h).0
fits_at (v ∷ values) (suc i) h = fits_at values i (both (fits v) (list_all fits values) h).1

-- a list is read off by its places
read_from : {A : Type 0} (front xs : List A) (a : ℕ) (d : A) → ((i : ℕ) → get_or front (a + i) d ≡ get_or xs i d) →
    map (λ i. get_or front i d) (range_with_len a (length xs)) ≡ xs
read_from front [] a d same = refl
read_from front (x ∷ xs) a d same =
    let here : get_or front a d ≡ x = subst (λ i. get_or front i d ≡ x) (omega arith) (same 0) in
    ap (λ y. y ∷ map (λ i. get_or front i d) (range_with_len (a + 1) (length xs))) here
    ∙ ap (λ ys. x ∷ ys) (read_from front xs (a + 1) d
    (λ i. subst (λ j. get_or front j d ≡ get_or xs i d) (omega arith) (same (suc i))))

-- the value of a path, by its rank
abbrev pub by_rank : ChannelSet → List (Option SourceValue) → PathValue → Option SourceValue
by_rank members values y = get_or values (rank members y) None

values_by_rank : (members : ChannelSet) (values : List (Option SourceValue)) (k : ℕ) → is_set members ≡ true → k ≤ 2 →
    length values ≡ length (paths members (suc k)) →
    values ≡ map (by_rank members values) (paths members (suc k))
values_by_rank members values k set small long =
    sym (sym (map-map (λ i. get_or values i None) (rank members) (paths members (suc k)))
    ∙ ap (map (λ i. get_or values i None)) (ranks_count members k set small ∙ ap numbers_below (sym long))
    ∙ read_from values values 0 None (λ i. ap (λ j. get_or values j None) (let e : 0 + i ≡ i = omega arith in e)))

module _ (members : ChannelSet) (me : Channel) (set : is_set members ≡ true) (mine : has members me ≡ true) where
  module _ (values : List (Option SourceValue)) (fit : list_all fits values ≡ true) (items : List ItemValue) where
    word_fits : (y : PathValue) → fits (by_rank members values y) ≡ true
    word_fits y = fits_at values (rank members y) fit

    pub sources_good : length values ≡ length (paths members 1) →
        ((value : PathValue → Option SourceValue) → values ≡ map value (paths members 1) →
        items ≡ items_told me value (paths members 1)) →
        exchange_in_range me (record { round = 2; items = items }) ≡ true
    unfolding items_told
    sources_good long told =
        ap (λ (l : List ItemValue). exchange_in_range me (record { round = 2; items = l }))
        (told (by_rank members values) (values_by_rank members values 0 set (omega arith) long))
        ∙ exchange_good (by_rank members values) members me 2 set refl refl mine word_fits

    pub relays_good : length values ≡ length (paths members 2) →
        ((value : PathValue → Option SourceValue) → values ≡ map value (paths members 2) →
        items ≡ items_told me value (paths members 2)) →
        exchange_in_range me (record { round = 3; items = items }) ≡ true
    unfolding items_told
    relays_good long told =
        ap (λ (l : List ItemValue). exchange_in_range me (record { round = 3; items = l }))
        (told (by_rank members values) (values_by_rank members values 1 set (omega arith) long))
        ∙ exchange_good (by_rank members values) members me 3 set refl refl mine word_fits

  pub own_good : (own : SourceValue) (items : List ItemValue) → fits (Some own) ≡ true →
      items ≡ (let one : ItemValue = record { path = []; word = Some own } in one ∷ []) →
      exchange_in_range me (record { round = 1; items = items }) ≡ true
  own_good own items fit told =
      ap (λ (l : List ItemValue). exchange_in_range me (record { round = 1; items = l })) told
      ∙ exchange_good (λ y. Some own) members me 1 set refl refl mine (λ y. fit)

-- what is in range for this round and these items
pub in_range_at : (me : Channel) (round k : ℕ) (items told : List ItemValue) → round ≡ k → items ≡ told →
    exchange_in_range me (record { round = k; items = told }) ≡ true →
    exchange_in_range me (record { round = round; items = items }) ≡ true
in_range_at me round k items told at is good =
    ap (λ r. exchange_in_range me (record { round = r; items = items })) at
    ∙ ap (λ (l : List ItemValue). exchange_in_range me (record { round = k; items = l })) is ∙ good
