mod Common
mod JsonLemmas
mod AddedLemmas
mod TableLemmas
mod ItemLemmas
mod PlainLemmas
mod LineLemmas
