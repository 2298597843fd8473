mod PlainLemmas
mod RunLemmas
