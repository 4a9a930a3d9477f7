mod AddressLemmas
mod AvailableLemmas
mod ManyLemmas
