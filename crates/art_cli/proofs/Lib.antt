mod Failures
mod WordLemmas
mod FindLemmas
mod FindLines
