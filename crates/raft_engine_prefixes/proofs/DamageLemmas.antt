-- What stands where the reading of a part stops.
use Rattle.raft_engine_prefixes.proofs.Common.{◌≡◌, ℕ, length, inl, arith, length-drop, Part, IsBrokenOff, IsDamagedAt}

-- at the end nothing is left of a batch
pub end_broken : (part : Part) (at : ℕ) → at ≡ length part.bytes → IsBrokenOff part at
end_broken part at e = inl (let n = length-drop at part.bytes in omega (arith, n, e))

pub end_undamaged : (part : Part) (at : ℕ) → at ≡ length part.bytes → ¬ (IsDamagedAt part at)
end_undamaged part at e d = d.whole (end_broken part at e)
