-- Why something isn't printed to its end.
use Rattle.raft_inspect.proofs.Common.{inl, inr, ℕ, List, Contains, Error, FileId, LogQueue, Append, Rewrite, IoError, FileSize, IsFileUnread, IsOneOfBothUnread, IsOneUnread, PrintError, Files, Output, Version, IsUnchecked, IsUnprinted, IsUnprintedFor}

-- for another reason
for_another : (P Q : Error → Type 0) → ((e : Error) → P e → Q e) → (f : PrintError) → IsUnprintedFor P f → IsUnprintedFor Q f
for_another P Q other (Files e) is = λ no_memory. other e (is no_memory)
for_another P Q other (Output e) is = tt

-- for none
pub for_none : (P : Error → Type 0) (f : PrintError) → IsUnprinted f → IsUnprintedFor P f
for_none P (Files e) is = λ no_memory. absurd (no_memory is)
for_none P (Output e) is = tt

module _ (Gives : FileId → ℕ → List ℕ → Type 0) (Fails : FileId → ℕ → IoError → Type 0) where
  -- a file is one of its queue's
  pub of_queue : (queue : LogQueue) (sizes : List FileSize) (size : FileSize) (f : PrintError) → Contains sizes size → IsUnprintedFor (IsFileUnread Gives Fails queue size) f → IsUnprintedFor (IsOneUnread Gives Fails queue sizes) f
  of_queue queue sizes size f among is = for_another (IsFileUnread Gives Fails queue size) (IsOneUnread Gives Fails queue sizes) (λ e unread. record { size = size; among = among; unread = unread }) f is

  -- and of both
  module _ (append rewrite : List FileSize) where
    pub of_first : (f : PrintError) → IsUnprintedFor (IsOneUnread Gives Fails Append append) f → IsUnprintedFor (IsOneOfBothUnread Gives Fails append rewrite) f
    of_first f is = for_another (IsOneUnread Gives Fails Append append) (IsOneOfBothUnread Gives Fails append rewrite) (λ e one. inl one) f is

    pub of_second : (f : PrintError) → IsUnprintedFor (IsOneUnread Gives Fails Rewrite rewrite) f → IsUnprintedFor (IsOneOfBothUnread Gives Fails append rewrite) f
    of_second f is = for_another (IsOneUnread Gives Fails Rewrite rewrite) (IsOneOfBothUnread Gives Fails append rewrite) (λ e one. inr one) f is

  pub of_scans : (version : Version) (workers : ℕ) (append rewrite : List FileSize) (f : PrintError) → IsUnprintedFor (IsOneOfBothUnread Gives Fails append rewrite) f → IsUnprintedFor (IsUnchecked Gives Fails version workers append rewrite) f
  of_scans version workers append rewrite f is = for_another (IsOneOfBothUnread Gives Fails append rewrite) (IsUnchecked Gives Fails version workers append rewrite) (λ e one. inl one) f is
