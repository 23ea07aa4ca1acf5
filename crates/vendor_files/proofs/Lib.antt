mod PlaceLemmas
mod WriteLemmas
mod OpenLemmas
mod StandLemmas
