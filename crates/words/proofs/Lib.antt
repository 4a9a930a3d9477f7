mod PlaceLemmas
mod ReplyLemmas
mod WordLemmas
mod QueryLemmas
