pub mod WordLemmas
mod FreeIpmiLemmas
mod IpmitoolLemmas
mod CommandLemmas
mod LawLemmas
mod PlaceLemmas
mod ThroughLemmas
mod ReplyLemmas
mod AskLemmas
mod StreamLemmas
mod PipedLemmas
mod HandedLemmas
mod LastWordsLemmas
