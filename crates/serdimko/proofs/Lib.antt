pub mod CapturedLemmas
pub mod CheckLemmas
pub mod EachLemmas
pub mod EndingLemmas
pub mod ImagesLemmas
pub mod NamesLemmas
pub mod RunErrorLemmas
