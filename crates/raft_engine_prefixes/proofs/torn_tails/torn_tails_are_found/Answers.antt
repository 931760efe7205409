use Rattle.raft_engine_prefixes.proofs.TornLemmas.{whole_torn, one_reading, cut_found, uncut, readable_front_stops}
use Rattle.raft_engine_prefixes.proofs.UndamagedLemmas.{whole_undamaged}
use Rattle.raft_engine_prefixes.proofs.torn_tails.torn_tails_are_found.Goals as goal

pub returns-clause-whole : goal.returns-clause-whole
returns-clause-whole c = whole_torn

pub returns-clause-one_reading : goal.returns-clause-one_reading
returns-clause-one_reading c = one_reading

pub returns-clause-cut : goal.returns-clause-cut
returns-clause-cut c = cut_found

pub returns-clause-undamaged : goal.returns-clause-undamaged
returns-clause-undamaged c = whole_undamaged

pub returns-clause-uncut : goal.returns-clause-uncut
returns-clause-uncut c = uncut

pub returns-clause-readable_front : goal.returns-clause-readable_front
returns-clause-readable_front c = readable_front_stops
