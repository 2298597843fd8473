mod BlockLemmas
mod SensorLemmas
