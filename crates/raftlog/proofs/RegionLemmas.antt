-- Tables that weren't printed to their end.
use Rattle.std.proofs.Common.{◌⊎◌, inl, inr, Result, Ok, Err, OnErr}

-- of tables that were read
pub tables_cut : {A Kept : Type 0} {Read Cut : A → Type 0} (tables : A) → Read tables → Kept ⊎ Cut tables → Kept ⊎ ((a : A) × Read a × Cut a)
tables_cut tables read (inl kept) = inl kept
tables_cut tables read (inr cut) = inr (tables, read, cut)

-- at any error
pub on_any_error : {T E P : Type 0} (r : Result T E) → P → OnErr r P
on_any_error (Ok v) p = tt
on_any_error (Err e) p = p
