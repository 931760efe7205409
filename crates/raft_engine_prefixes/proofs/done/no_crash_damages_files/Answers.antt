use Rattle.raft_engine_prefixes.proofs.Common.{[], ◌∷◌, ◌++◌, refl}
use Rattle.raft_engine_prefixes.proofs.UndamagedLemmas.{left_undamaged}
use Rattle.raft_engine_prefixes.proofs.done.no_crash_damages_files.Goals as goal

pub returns : goal.returns
returns c = λ queue version asked deeds closed last at done found left stops. left_undamaged queue version asked (closed ++ last ∷ []) done.undamaged found left closed last at refl stops
