-- The source words that the consolidation reads, and the channels whose words bound it.
use Rattle.std.specs.Prelude.{◌≡◌, ℕ, ◌*◌, ◌<◌, ℤ, true, false, List, length, map, count_by, Option, Some, None, IsSome}
use Rattle.guards_model.specs.Channels.{Channel, ChannelSet, has, place_or}
use Rattle.guards_model.specs.Frames.{SourceValue}
use Rattle.guards_model.specs.Contexts.{word_of}

-- the words of the active channels, where they are there
abbrev pub words_in : ChannelSet → List (Option SourceValue) → List (Option SourceValue)
words_in active words = map (λ j. place_or words j None) active

-- Fewer than a third of the active set is called disturbed, and the words of the others are all there.
pub record OthersAreThere (active disturbed : ChannelSet) (words : List (Option SourceValue)) : Type 0 where
  pub few : 3 * count_by (has disturbed) active < length active
  pub there : (q : Channel) → has active q ≡ true → has disturbed q ≡ false → IsSome (place_or words q None)

-- a word of a channel that is active and not called disturbed
pub record IsOthersWord (active disturbed : ChannelSet) (words : List (Option SourceValue)) (place : ℕ)
    (word : ℤ) : Type 0 where
  pub channel : Channel
  pub source : SourceValue
  pub member : has active channel ≡ true
  pub good : has disturbed channel ≡ false
  pub held : place_or words channel None ≡ Some source
  pub same : word_of source.words place ≡ word
