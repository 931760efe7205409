-- A batch that was written with a sync lasts.
use Rattle.raft_engine.proofs.Common.{List, [], ◌∷◌, ◌++◌, length, sym, ap, ◌∙◌, subst, LogQueue, Append, Version, Event, Ask, NumberedBytes, acts_on, begun, FilesHold, FilesHoldTorn, event_at, KeptEngine, before_sync, SyncedBatchesLast, file_of}
use Rattle.raft_engine.proofs.RestartLemmas.{OneReading}

pub synced_last : ((queue : LogQueue) (version : Version) (files : List NumberedBytes) (h : List Event) → FilesHold queue version files h → FilesHoldTorn queue version files h)
    → OneReading → SyncedBatchesLast
synced_last whole one content batch old new more before after =
    let e : Event = event_at (file_of Append old more.seq).id (length more.bytes) batch in
    let same_version = ap (λ (o : KeptEngine). o.version) more.others in
    let same_files = ap (λ (l : List Ask). begun (before_sync (acts_on Append l))) more.asked ∙ sym (ap (λ (l : List Ask). begun (acts_on Append l)) more.asked) in
    let held : FilesHoldTorn Append old.version (begun (acts_on Append new.asks)) (more.before ++ e ∷ []) = whole Append old.version (begun (acts_on Append new.asks)) (more.before ++ e ∷ []) (more.held more.before more.whole) in
    let synced : FilesHoldTorn Append old.version (begun (acts_on Append new.asks)) after.now.synced =
    subst (λ (v : Version). FilesHoldTorn Append v (begun (acts_on Append new.asks)) after.now.synced) same_version
    (subst (λ (files : List NumberedBytes). FilesHoldTorn Append new.version files after.now.synced) same_files after.now.synced_held) in
    one Append old.version (begun (acts_on Append new.asks)) after.now.synced (more.before ++ e ∷ []) synced held
    ∙ ap (λ (h : List Event). h ++ e ∷ []) (one Append old.version (begun (acts_on Append old.asks)) more.before before.now.batches (whole Append old.version (begun (acts_on Append old.asks)) more.before more.whole) before.now.batches_held)
