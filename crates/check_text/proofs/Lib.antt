pub mod PlaceTexts
