mod Common
mod SharedLemmas
