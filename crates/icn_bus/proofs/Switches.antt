-- The switches that stay on.
use Rattle.std.proofs.Common.{◌≡◌, ◌+◌, ◌*◌, nat_lt, List, [], ◌∷◌, length, map, refl, sym, ◌∙◌, ap, zero-add, Option, Some, None}
use Rattle.std.specs.Prelude.{count_by, filter}
use Rattle.std.proofs.lemmas.List.Sums.{length-filter}
use Rattle.guards_model.specs.Channels.{Channel, ChannelSet, has, place_or, channels_where}
use Rattle.guards_model.specs.Voting.{present}
use Rattle.guards_model.specs.Switchboard.{switched_on}
use Rattle.guards_model.proofs.Counting.{one_if, one_if_false, count-cons}
use Rattle.guards_base.proofs.EachChannel.{sets_alike}
use Rattle.icn_bus.specs.Senders.{has_in, sent_with, is_kept}

-- ---- the count over those that are on

pub count_sent : (sets : List (Option ChannelSet)) (channel : Channel) (on : ChannelSet)
    → count_by (sent_with sets channel) on
    ≡ count_by (λ set. has set channel) (present (map (λ j. place_or sets j None) on))
count_sent sets channel [] = refl
count_sent sets channel (j ∷ on) = by_set (place_or sets j None) refl (count_sent sets channel on)
  where
    frames_of : ChannelSet → List (Option ChannelSet)
    frames_of js = map (λ (j : Channel). place_or sets j None) js

    by_set : (sent : Option ChannelSet) → place_or sets j None ≡ sent →
        count_by (sent_with sets channel) on
        ≡ count_by (λ set. has set channel) (present (map (λ j. place_or sets j None) on))
        → count_by (sent_with sets channel) (j ∷ on)
        ≡ count_by (λ set. has set channel) (present (map (λ j. place_or sets j None) (j ∷ on)))
    by_set None e h =
        let left : count_by (sent_with sets channel) (j ∷ on)
        ≡ one_if (sent_with sets channel j) + count_by (sent_with sets channel) on =
        count-cons (sent_with sets channel) j on in
        let none : one_if (sent_with sets channel j) ≡ 0 =
        one_if_false (sent_with sets channel j) (ap (has_in channel) e) in
        let right : present (map (λ (j : Channel). place_or sets j None) (j ∷ on))
        ≡ present (map (λ (j : Channel). place_or sets j None) on) = rw e refl in
        let same : count_by (sent_with sets channel) (j ∷ on)
        ≡ count_by (λ (set : ChannelSet). has set channel)
        (present (map (λ (j : Channel). place_or sets j None) on)) =
        left ∙ ap (λ k. k + count_by (sent_with sets channel) on) none ∙ zero-add _ ∙ h in
        same ∙ ap (count_by (λ (set : ChannelSet). has set channel)) (sym right)
    by_set (Some set) e h =
        let left : count_by (sent_with sets channel) (j ∷ on)
        ≡ one_if (sent_with sets channel j) + count_by (sent_with sets channel) on =
        count-cons (sent_with sets channel) j on in
        let one : one_if (sent_with sets channel j) ≡ one_if (has set channel) =
        ap (λ s. one_if (has_in channel s)) e in
        let right : present (map (λ (j : Channel). place_or sets j None) (j ∷ on))
        ≡ set ∷ present (map (λ (j : Channel). place_or sets j None) on) = rw e refl in
        left ∙ ap (λ k. k + count_by (sent_with sets channel) on) one ∙ ap (λ k. one_if (has set channel) + k) h
        ∙ sym (count-cons (λ (set : ChannelSet). has set channel) set
        (present (map (λ (j : Channel). place_or sets j None) on)))
        ∙ ap (count_by (λ (set : ChannelSet). has set channel)) (sym right)

-- ---- the switches that stay on

pub kept_by : (on : ChannelSet) (sets : List (Option ChannelSet)) (channel : Channel) (senders : ChannelSet) →
    senders ≡ filter (sent_with sets channel) on →
    nat_lt (length on) (2 * length senders) ≡ is_kept on sets channel
unfolding is_kept
kept_by on sets channel senders are =
    ap (λ n. nat_lt (length on) (2 * n)) (ap length are ∙ length-filter (sent_with sets channel) on)

pub kept_all : (on : ChannelSet) (sets : List (Option ChannelSet)) →
    channels_where (is_kept on sets) ≡ switched_on on sets
unfolding is_kept
kept_all on sets =
    sets_alike (λ q. nat_lt (length on) (2 * count_by (sent_with sets q) on))
    (λ q. nat_lt (length on) (2 * count_by (λ (set : ChannelSet). has set q)
    (present (map (λ (j : Channel). place_or sets j None) on))))
    (λ q below. ap (λ n. nat_lt (length on) (2 * n)) (count_sent sets q on))
