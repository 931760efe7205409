-- What an engine knows of the files of a queue.
use Rattle.raft_engine.proofs.Common.{◌≡◌, ℕ, ◌+◌, List, [], ◌∷◌, ◌++◌, length, refl, sym, ap, ◌∙◌, append_assoc, length-append, map-append, LogQueue, Append, Rewrite, Act, Ask, Begin, NumberedBytes, Put, acts_on, ask, begun, deletions, put_behind, last_of, IsLastFile}
use Rattle.raft_engine.proofs.Common.{AreFilesOf, QueueFiles}

-- the same files, after asks that change none of them
pub files_same : (queue : LogQueue) (asks new : List Ask) (files other : QueueFiles) → begun (acts_on queue new) ≡ begun (acts_on queue asks) → deletions (acts_on queue new) ≡ deletions (acts_on queue asks)
    → other.closed.items ≡ files.closed.items → other.seq ≡ files.seq → other.len ≡ files.len
    → AreFilesOf queue asks files → AreFilesOf queue new other
files_same queue asks new files other same count closed seq len f = record {
  gone = f.gone;
  closed = f.closed;
  bytes = f.bytes;
  are = same ∙ f.are ∙ ap (λ (n : ℕ). f.gone ++ (f.closed ++ (n, f.bytes) ∷ [])) (sym seq);
  deleted = count ∙ f.deleted;
  have = closed ∙ f.have;
  ends = len ∙ f.ends;
}

-- the last one of them
pub files_last : (queue : LogQueue) (asks : List Ask) (files : QueueFiles) (f : AreFilesOf queue asks files) → IsLastFile queue asks files.seq f.bytes
files_last queue asks files f = record { closed = f.gone ++ f.closed; files = f.are ∙ sym (append_assoc f.gone f.closed ((files.seq, f.bytes) ∷ [])) }

-- bytes behind the last one
put_last : (acts : List Act) (more : List ℕ) (gone closed : List NumberedBytes) (seq : ℕ) (bytes : List ℕ) → begun acts ≡ gone ++ (closed ++ (seq, bytes) ∷ [])
    → begun (Put more ∷ acts) ≡ gone ++ (closed ++ (seq, bytes ++ more) ∷ [])
put_last acts more gone closed seq bytes e =
    ap (put_behind more) (e ∙ sym (append_assoc gone closed ((seq, bytes) ∷ []))) ∙ last_of (λ old. old ++ more) (gone ++ closed) (seq, bytes)
    ∙ append_assoc gone closed ((seq, bytes ++ more) ∷ [])

module _ (asks : List Ask) (more : List ℕ) (files other : QueueFiles) (closed : other.closed.items ≡ files.closed.items) (seq : other.seq ≡ files.seq) (len : other.len ≡ files.len + length more) where
  pub files_put : AreFilesOf Append asks files → AreFilesOf Append (ask Append (Put more) ∷ asks) other
  files_put f = record {
    gone = f.gone;
    closed = f.closed;
    bytes = f.bytes ++ more;
    are = put_last (acts_on Append asks) more f.gone f.closed files.seq f.bytes f.are ∙ ap (λ (n : ℕ). f.gone ++ (f.closed ++ (n, f.bytes ++ more) ∷ [])) (sym seq);
    deleted = f.deleted;
    have = closed ∙ f.have;
    ends = len ∙ ap (λ (n : ℕ). n + length more) f.ends ∙ sym (length-append f.bytes more);
  }

  pub files_told : AreFilesOf Rewrite asks files → AreFilesOf Rewrite (ask Rewrite (Put more) ∷ asks) other
  files_told f = record {
    gone = f.gone;
    closed = f.closed;
    bytes = f.bytes ++ more;
    are = put_last (acts_on Rewrite asks) more f.gone f.closed files.seq f.bytes f.are ∙ ap (λ (n : ℕ). f.gone ++ (f.closed ++ (n, f.bytes ++ more) ∷ [])) (sym seq);
    deleted = f.deleted;
    have = closed ∙ f.have;
    ends = len ∙ ap (λ (n : ℕ). n + length more) f.ends ∙ sym (length-append f.bytes more);
  }

-- a new file behind it
one_begun : (queue : LogQueue) (asks : List Ask) (seq : ℕ)
    → (begun (acts_on queue (ask queue (Begin seq) ∷ asks)) ≡ begun (acts_on queue asks) ++ (seq, []) ∷ []) × (deletions (acts_on queue (ask queue (Begin seq) ∷ asks)) ≡ deletions (acts_on queue asks))
one_begun Append asks seq = (refl, refl)
one_begun Rewrite asks seq = (refl, refl)

pub files_begun : (queue : LogQueue) (asks : List Ask) (files other : QueueFiles) → other.closed.items ≡ files.closed.items ++ files.seq ∷ [] → other.len ≡ 0
    → AreFilesOf queue asks files → AreFilesOf queue (ask queue (Begin other.seq) ∷ asks) other
files_begun queue asks files other closed len f = record {
  gone = f.gone;
  closed = f.closed ++ (files.seq, f.bytes) ∷ [];
  bytes = [];
  are = (one_begun queue asks other.seq).0 ∙ ap (λ (l : List NumberedBytes). l ++ (other.seq, []) ∷ []) f.are ∙ append_assoc f.gone (f.closed ++ (files.seq, f.bytes) ∷ []) ((other.seq, []) ∷ []);
  deleted = (one_begun queue asks other.seq).1 ∙ f.deleted;
  have = closed ∙ ap (λ (l : List ℕ). l ++ files.seq ∷ []) f.have ∙ sym (map-append (λ (file : NumberedBytes). file.0) f.closed ((files.seq, f.bytes) ∷ []));
  ends = len;
}

-- the first ones of both queues
module _ (files : QueueFiles) (closed : files.closed.items ≡ []) (seq : files.seq ≡ 1) (len : files.len ≡ 0) where
  pub first_append : AreFilesOf Append (ask Rewrite (Begin 1) ∷ ask Append (Begin 1) ∷ []) files
  first_append = record { gone = []; closed = []; bytes = []; are = ap (λ (n : ℕ). (n, []) ∷ []) (sym seq); deleted = refl; have = closed; ends = len }

  pub first_rewrite : AreFilesOf Rewrite (ask Rewrite (Begin 1) ∷ ask Append (Begin 1) ∷ []) files
  first_rewrite = record { gone = []; closed = []; bytes = []; are = ap (λ (n : ℕ). (n, []) ∷ []) (sym seq); deleted = refl; have = closed; ends = len }
