use Rattle.raft_engine_prefixes.proofs.DeedLemmas.{nothing_done, written_done, synced_done, begun_done, deleted_done, found_done, found_whole, cut_done, read_done, read_whole, unsynced_done, unsynced_whole, last_next}
use Rattle.raft_engine_prefixes.proofs.done.asks_do_deeds.Goals as goal

pub returns-clause-none : goal.returns-clause-none
returns-clause-none c = nothing_done

pub returns-clause-written : goal.returns-clause-written
returns-clause-written c = written_done

pub returns-clause-synced : goal.returns-clause-synced
returns-clause-synced c = synced_done

pub returns-clause-begun : goal.returns-clause-begun
returns-clause-begun c = begun_done

pub returns-clause-deleted : goal.returns-clause-deleted
returns-clause-deleted c = deleted_done

pub returns-clause-found : goal.returns-clause-found
returns-clause-found c = found_done

pub returns-clause-found_whole : goal.returns-clause-found_whole
returns-clause-found_whole c = found_whole

pub returns-clause-cut : goal.returns-clause-cut
returns-clause-cut c = cut_done

pub returns-clause-read : goal.returns-clause-read
returns-clause-read c = read_done

pub returns-clause-read_whole : goal.returns-clause-read_whole
returns-clause-read_whole c = read_whole

pub returns-clause-unsynced : goal.returns-clause-unsynced
returns-clause-unsynced c = unsynced_done

pub returns-clause-unsynced_whole : goal.returns-clause-unsynced_whole
returns-clause-unsynced_whole c = unsynced_whole

pub returns-clause-next : goal.returns-clause-next
returns-clause-next c = last_next
