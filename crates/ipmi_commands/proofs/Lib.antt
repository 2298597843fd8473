pub mod AlongLemmas
pub mod AskLemmas
pub mod CallLemmas
pub mod CountLemmas
mod DeviceLemmas
mod EachOnce
mod ExistenceLemmas
pub mod GrownListing
pub mod ItemLemmas
mod KeptLemmas
mod LimitLemmas
mod LastLemmas
pub mod ListingLemmas
mod MarkLemmas
pub mod MeanwhileLemmas
pub mod NameLemmas
pub mod NamedLemmas
pub mod NewLemmas
mod NamedPages
pub mod OutputLemmas
mod PageLemmas
mod PagesLaw
mod PartLemmas
mod PerformLemmas
mod ReadLemmas
pub mod TailLemmas
mod PointLemmas
pub mod TraceLemmas
mod UniqueLemmas
mod WholeLemmas
