-- The members of a set, by the flags of channels.
use Rattle.std.proofs.Common.{◌≡◌, ℕ, ◌+◌, ◌<◌, Bool, true, false, cond, List, [], ◌∷◌, ◌++◌, map, get_or, refl, sym, ap, ◌∙◌, arith}
use Rattle.std.specs.Prelude.{filter}
use Rattle.std.specs.List.{range_with_len}
use Rattle.std.proofs.lemmas.List.{append-nil}
use Rattle.std.proofs.lemmas.List.FromFn.{filter_of_map_range_with_len_more}
use Rattle.guards_model.specs.Channels.{ChannelSet, has, channels_where, by_channel}
use Rattle.guards_base.proofs.EachChannel.{at_place}

pub all_members : (set : ChannelSet) (n : ℕ) → n ≡ 7 → set ≡ channels_where (has set) →
    filter (has set) (range_with_len 0 n) ≡ set
unfolding channels_where
all_members set n is members = rw is (sym members)

map_same : (xs : List ℕ) → map (λ (x : ℕ). x) xs ≡ xs
map_same [] = refl
map_same (x ∷ xs) = ap (λ l. x ∷ l) (map_same xs)

next_number : (set : ChannelSet) (q : ℕ) →
    filter (has set) (range_with_len 0 (q + 1)) ≡ filter (has set) (range_with_len 0 q) ++ cond (has set q) (q ∷ []) []
next_number set q =
    ap (filter (has set)) (sym (map_same (range_with_len 0 (q + 1))))
    ∙ filter_of_map_range_with_len_more (has set) (λ (x : ℕ). x) 0 q q (omega arith)
    ∙ ap (λ l. filter (has set) l ++ cond (has set q) (q ∷ []) []) (map_same (range_with_len 0 q))

pub one_member : (set : ChannelSet) (flags : List Bool) (q : ℕ) → flags ≡ by_channel (has set) → q < 7 →
    get_or flags q false ≡ true →
    filter (has set) (range_with_len 0 q) ++ q ∷ [] ≡ filter (has set) (range_with_len 0 (q + 1))
one_member set flags q are low is =
    let there : has set q ≡ true = sym (at_place (has set) q false low) ∙ ap (λ l. get_or l q false) (sym are) ∙ is in
    sym (next_number set q ∙ ap (λ b. filter (has set) (range_with_len 0 q) ++ cond b (q ∷ []) []) there)

pub no_member : (set : ChannelSet) (flags : List Bool) (q : ℕ) → flags ≡ by_channel (has set) → q < 7 →
    get_or flags q false ≡ false →
    filter (has set) (range_with_len 0 q) ≡ filter (has set) (range_with_len 0 (q + 1))
no_member set flags q are low is =
    let none : has set q ≡ false = sym (at_place (has set) q false low) ∙ ap (λ l. get_or l q false) (sym are) ∙ is in
    sym (next_number set q ∙ ap (λ b. filter (has set) (range_with_len 0 q) ++ cond b (q ∷ []) []) none
    ∙ append-nil (filter (has set) (range_with_len 0 q)))
