-- Refusals that are want of memory.
use Rattle.raft_survey.proofs.Common.{◌≡◌, ◌≢◌, ℕ, List, inl, inr, refl, ErrorKind, Error, IsIoError, IsReadFault, IoError, IsIoOfKind}
use Rattle.raft_base.specs.declared.errors.Error.TheVariants as errors

-- one that is it if it is no other is it
pub memory_at_last : (e : Error) → (e ≢ errors.Memory → e ≡ errors.Memory) → e ≡ errors.Memory
memory_at_last (errors.InvalidArgument t) is = is (λ memory. absurd cc)
memory_at_last (errors.Corruption t) is = is (λ memory. absurd cc)
memory_at_last (errors.Io e) is = is (λ memory. absurd cc)
memory_at_last (errors.Codec e) is = is (λ memory. absurd cc)
memory_at_last (errors.Message e) is = is (λ memory. absurd cc)
memory_at_last (errors.TryAgain t) is = is (λ memory. absurd cc)
memory_at_last errors.EntryCompacted is = is (λ memory. absurd cc)
memory_at_last errors.EntryNotFound is = is (λ memory. absurd cc)
memory_at_last errors.Full is = is (λ memory. absurd cc)
memory_at_last (errors.Other t) is = is (λ memory. absurd cc)
memory_at_last errors.Memory is = refl
memory_at_last errors.Failed is = is (λ memory. absurd cc)

-- a read fails with `Io`, or for want of memory
kind_is_io : (kind : ErrorKind) (e : Error) → IsIoOfKind kind e → (IsIoError e → ⊥) → e ≡ errors.Memory
kind_is_io kind (errors.InvalidArgument t) is no_io = absurd is
kind_is_io kind (errors.Corruption t) is no_io = absurd is
kind_is_io kind (errors.Io e) is no_io = absurd (no_io tt)
kind_is_io kind (errors.Codec e) is no_io = absurd is
kind_is_io kind (errors.Message e) is no_io = absurd is
kind_is_io kind (errors.TryAgain t) is no_io = absurd is
kind_is_io kind errors.EntryCompacted is no_io = absurd is
kind_is_io kind errors.EntryNotFound is no_io = absurd is
kind_is_io kind errors.Full is no_io = absurd is
kind_is_io kind (errors.Other t) is no_io = absurd is
kind_is_io kind errors.Memory is no_io = refl
kind_is_io kind errors.Failed is no_io = absurd is

pub read_is_io : (Gives : List ℕ → Type 0) (Fails : IoError → Type 0) (len : ℕ) (e : Error) → IsReadFault Gives Fails len e → (IsIoError e → ⊥) → e ≡ errors.Memory
read_is_io Gives Fails len e (inl failed) no_io = kind_is_io _ e failed.refusal no_io
read_is_io Gives Fails len e (inr miscount) no_io = kind_is_io _ e miscount.refusal no_io

-- a dump fails as its files or its output do
pub io_or_memory : (e : Error) → ((IsIoError e → ⊥) → e ≢ errors.Memory → e ≢ errors.Memory → IsIoError e) → (IsIoError e → ⊥) → e ≡ errors.Memory
io_or_memory e fails no_io = memory_at_last e (λ other. absurd (no_io (fails no_io other other)))
