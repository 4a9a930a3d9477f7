mod LineLemmas
mod ReadLemmas
mod ReplyLemmas
