-- Tables and sets that are made channel by channel.
use Rattle.std.proofs.Common.{◌≡◌, zero, suc, ◌<◌, Bool, true, false, cond, ◌&&◌, ◌≤◌, List, [], ◌∷◌, filter, length, slice_get, slice_index_or, Some, refl, sym, subst, ap, ◌∙◌, arith}
use Rattle.std.proofs.lemmas.List.Sums.{length-filter, count_by-le-length}
use Rattle.guards_model.specs.Channels.{Channel, ChannelSet, by_channel, channels_where, every_channel, has}
use Rattle.guards_base.specs.Tables.{IsTableOf}

-- seven values that are those of the channels make the table
pub seven_places : {A : Type 0} (p : Channel → A) (a b c d e f g : A) → a ≡ p 0 → b ≡ p 1 → c ≡ p 2 → d ≡ p 3 →
    e ≡ p 4 → f ≡ p 5 → g ≡ p 6 →
    (a ∷ b ∷ c ∷ d ∷ e ∷ f ∷ g ∷ []) ≡ by_channel p
unfolding by_channel
seven_places p a b c d e f g ea eb ec ed ee ef eg = λ i. ea i ∷ eb i ∷ ec i ∷ ed i ∷ ee i ∷ ef i ∷ eg i ∷ []

-- what holds at the number of a channel holds at the channel
pub at_channel : {A : Type 0} (P : Channel → A → Type 0) (k q : Channel) (x : A) → k ≡ q → P k x → P q x
at_channel P k q x e p = subst (λ j. P j x) e p

-- seven values, of each of which P holds, make a table
pub seven_each : {A : Type 0} (P : Channel → A → Type 0) (a b c d e f g : A) → P 0 a → P 1 b → P 2 c → P 3 d → P 4 e →
    P 5 f → P 6 g →
    IsTableOf P (a ∷ b ∷ c ∷ d ∷ e ∷ f ∷ g ∷ [])
seven_each {A} P a b c d e f g pa pb pc pd pe pf pg = (refl, at)
  where
    at : (q : Channel) → q < 7 → (x : A) × (slice_get (a ∷ b ∷ c ∷ d ∷ e ∷ f ∷ g ∷ []) q ≡ Some x) × P q x
    at zero h = (a, refl, pa)
    at (suc zero) h = (b, refl, pb)
    at (suc (suc zero)) h = (c, refl, pc)
    at (suc (suc (suc zero))) h = (d, refl, pd)
    at (suc (suc (suc (suc zero)))) h = (e, refl, pe)
    at (suc (suc (suc (suc (suc zero))))) h = (f, refl, pf)
    at (suc (suc (suc (suc (suc (suc zero)))))) h = (g, refl, pg)
    at (suc (suc (suc (suc (suc (suc (suc q))))))) h = absurd (omega arith)

-- a place of a table has the value of its channel
pub at_place : {A : Type 0} (f : Channel → A) (q : Channel) (d : A) → q < 7 → slice_index_or (by_channel f) q d ≡ f q
unfolding by_channel
at_place f zero d h = refl
at_place f (suc zero) d h = refl
at_place f (suc (suc zero)) d h = refl
at_place f (suc (suc (suc zero))) d h = refl
at_place f (suc (suc (suc (suc zero)))) d h = refl
at_place f (suc (suc (suc (suc (suc zero))))) d h = refl
at_place f (suc (suc (suc (suc (suc (suc zero)))))) d h = refl
at_place f (suc (suc (suc (suc (suc (suc (suc q))))))) d h = absurd (omega arith)

-- values that are the same at each channel make the same table
pub tables_alike : {A : Type 0} (f g : Channel → A) → ((q : Channel) → q < 7 → f q ≡ g q) → by_channel f ≡ by_channel g
unfolding by_channel
tables_alike f g h =
    seven_places g (f 0) (f 1) (f 2) (f 3) (f 4) (f 5) (f 6)
    (h 0 (omega arith)) (h 1 (omega arith)) (h 2 (omega arith)) (h 3 (omega arith)) (h 4 (omega arith))
    (h 5 (omega arith)) (h 6 (omega arith))

-- the channels whose place in the table of a test is set are those that pass it
pub set_of_table : (p : Channel → Bool) → channels_where (λ q. slice_index_or (by_channel p) q false) ≡ channels_where p
unfolding channels_where by_channel
set_of_table p = refl

-- tests that are the same at each channel make the same set
pub sets_alike : (f g : Channel → Bool) → ((q : Channel) → q < 7 → f q ≡ g q) → channels_where f ≡ channels_where g
sets_alike f g h =
    sym (set_of_table f) ∙ ap (λ (flags : List Bool). channels_where (λ q. slice_index_or flags q false))
    (tables_alike f g h) ∙ set_of_table g

filter_both : (r p : Channel → Bool) (xs : List Channel) → filter (λ q. r q && p q) xs ≡ filter p (filter r xs)
filter_both r p [] = refl
filter_both r p (x ∷ xs) = by_first (r x) (filter_both r p xs)
  where
    by_first : (b : Bool) → filter (λ q. r q && p q) xs ≡ filter p (filter r xs) →
        cond (b && p x) (x ∷ filter (λ q. r q && p q) xs) (filter (λ q. r q && p q) xs)
        ≡ filter p (cond b (x ∷ filter r xs) (filter r xs))
    by_first true h = ap (λ ys. cond (p x) (x ∷ ys) ys) h
    by_first false h = h

-- the channels of a set that pass a test are its members that pass it
pub members_where : (set : ChannelSet) (test : Channel → Bool) → set ≡ channels_where (has set) →
    channels_where (λ q. has set q && test q) ≡ filter test set
unfolding channels_where
members_where set test whole = filter_both (has set) test every_channel ∙ ap (filter test) (sym whole)

-- no set has more than seven members
pub few_members : (set : ChannelSet) → set ≡ channels_where (has set) → length set ≤ 7
unfolding channels_where
few_members set whole = omega
    (arith, ap length whole, length-filter (has set) every_channel, count_by-le-length (has set) every_channel)
