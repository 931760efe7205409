-- What stands in a part behind its readable prefix, as a part of its own.
use Rattle.raft_opening.proofs.Common.{◌≡◌, ◌⊎◌, inl, inr, ℕ, ◌+◌, ◌-◌, Some, None, List, ◌++◌, length, map, drop, sym, ap, ◌∙◌, subst, arith, drop-drop, IsCorruption, Error, FileBlockHandle, FileId, IsBatchAt, Part, Item, placed_item, place_between, rest_of, IsDamagedAt}
use Rattle.raft_opening.proofs.Common.{IsBrokenOff, IsElsewhere, IsFirst, IsNextElsewhere, IsNextSound, IsNowhere, IsSignedFor, IsSoundAt, in_file, BeginsInOther, IsDamageText, IsOfEngine, IsOtherText, elsewhere_text, followed_text, uncut_text, IsRestOf, elsewhere_stands}
use Rattle.raft_opening.proofs.Common.{nothing_stands, sound_stands}

module _ (whole : Part) (at : ℕ) where
  place_from : (j len : ℕ) → place_between (rest_of whole at) j len ≡ place_between whole (at + j) len
  place_from j len =
      let same : whole.offset + at + j + 16 ≡ whole.offset + (at + j) + 16 = omega arith in
      ap (λ (n : ℕ). record { id = whole.id; offset = n; len = len }) same

  in_rest : (j k : ℕ) (items : List Item) → IsBatchAt whole (at + j) items (at + k) → IsBatchAt (rest_of whole at) j items k
  in_rest j k items b = record {
    bytes = b.bytes;
    read = b.read;
    between = b.between;
    laid_out = b.laid_out;
    stands = drop-drop j at whole.bytes ∙ b.stands ∙ ap (λ (t : List ℕ). b.bytes ++ t) (sym (drop-drop k at whole.bytes));
    ends = let e = b.ends in omega (arith, e);
    places = b.places ∙ ap (λ (p : FileBlockHandle). map (placed_item p b.laid_out.compression) b.read) (sym (place_from j (length b.between)));
  }

  of_rest : (j k : ℕ) (items : List Item) → IsBatchAt (rest_of whole at) j items k → IsBatchAt whole (at + j) items (at + k)
  of_rest j k items b = record {
    bytes = b.bytes;
    read = b.read;
    between = b.between;
    laid_out = b.laid_out;
    stands = sym (drop-drop j at whole.bytes) ∙ b.stands ∙ ap (λ (t : List ℕ). b.bytes ++ t) (drop-drop k at whole.bytes);
    ends = let e = b.ends in omega (arith, e);
    places = b.places ∙ ap (λ (p : FileBlockHandle). map (placed_item p b.laid_out.compression) b.read) (place_from j (length b.between));
  }

  sound_in : (j : ℕ) → IsSoundAt whole (at + j) → IsSoundAt (rest_of whole at) j
  sound_in j s =
      let k = j + length s.2.bytes in
      let next : s.1 ≡ at + k = let e = s.2.ends in omega (arith, e) in
      (s.0, k, in_rest j k s.0 (subst (IsBatchAt whole (at + j) s.0) next s.2))

  sound_of : (j : ℕ) → IsSoundAt (rest_of whole at) j → IsSoundAt whole (at + j)
  sound_of j s = (s.0, at + s.1, of_rest j s.1 s.0 s.2)

module _ (whole : Part) (at : ℕ) where
  signed_in : (j seq : ℕ) → IsSignedFor whole (at + j) seq → IsSignedFor (rest_of whole at) j seq
  signed_in j seq s = record {
    signs = s.signs;
    looked_for = s.looked_for;
    unreadable = λ sound. s.unreadable (sound_of whole at j sound);
    readable = sound_in (in_file seq whole) at j s.readable;
  }

  signed_of : (j seq : ℕ) → IsSignedFor (rest_of whole at) j seq → IsSignedFor whole (at + j) seq
  signed_of j seq s = record {
    signs = s.signs;
    looked_for = s.looked_for;
    unreadable = λ sound. s.unreadable (sound_in whole at j sound);
    readable = sound_of (in_file seq whole) at j s.readable;
  }

  elsewhere_in : (j : ℕ) → IsElsewhere whole (at + j) → IsElsewhere (rest_of whole at) j
  elsewhere_in j e = (e.0, signed_in j e.0 e.1)

  elsewhere_of : (j : ℕ) → IsElsewhere (rest_of whole at) j → IsElsewhere whole (at + j)
  elsewhere_of j e = (e.0, signed_of j e.0 e.1)

module _ (P Q : ℕ → Type 0) (at : ℕ) (in_p : (j : ℕ) → Q (at + j) → P j) where
  none_from : IsNowhere P 0 → IsNowhere Q at
  none_from none n behind q =
      let e : n ≡ at + (n - at) = omega (arith, behind) in
      none (n - at) (omega arith) (in_p (n - at) (subst Q e q))

  first_from : ((j : ℕ) → P j → Q (at + j)) → (i : ℕ) → IsFirst P 0 i → IsFirst Q at (at + i)
  first_from of_p i f = (
    omega arith,
    of_p i f.1,
    λ n behind before q.
        let e : n ≡ at + (n - at) = omega (arith, behind) in
        f.2 (n - at) (omega arith) (omega (arith, behind, before)) (in_p (n - at) (subst Q e q)),
  )

module _ (whole : Part) (at : ℕ) where
  pub next_sound_of : (i : ℕ) → IsNextSound (rest_of whole at) 0 (Some i) → IsNextSound whole at (Some (at + i))
  next_sound_of i f = first_from (IsSoundAt (rest_of whole at)) (IsSoundAt whole) at (sound_in whole at) (sound_of whole at) i f

  pub none_sound_of : IsNextSound (rest_of whole at) 0 None → IsNextSound whole at None
  none_sound_of none = none_from (IsSoundAt (rest_of whole at)) (IsSoundAt whole) at (sound_in whole at) none

  pub next_elsewhere_of : (i seq : ℕ) → IsNextElsewhere (rest_of whole at) 0 (Some (i, seq)) → IsNextElsewhere whole at (Some (at + i, seq))
  next_elsewhere_of i seq f = (first_from (IsElsewhere (rest_of whole at)) (IsElsewhere whole) at (elsewhere_in whole at) (elsewhere_of whole at) i f.0, signed_of whole at i seq f.1)

  pub none_elsewhere_of : IsNextElsewhere (rest_of whole at) 0 None → IsNextElsewhere whole at None
  none_elsewhere_of none = none_from (IsElsewhere (rest_of whole at)) (IsElsewhere whole) at (elsewhere_in whole at) none

-- ---- where it begins

pub rest_begins : (whole : Part) (at : ℕ) (rest : Part) (r : IsRestOf whole at rest) → rest.offset ≡ at
rest_begins whole at rest r = let o = r.begins in let e = ap (λ (p : Part). p.offset) r.is in omega (arith, o, e)

-- from the first byte on that is all
pub all_rest : (whole : Part) (at : ℕ) (rest : Part) → IsRestOf whole at rest → at ≡ 0 → rest ≡ whole
all_rest whole at rest r first =
    let o = r.begins in
    let offset : whole.offset + at ≡ whole.offset = omega (arith, first) in
    let bytes : drop at whole.bytes ≡ whole.bytes = ap (λ (n : ℕ). drop n whole.bytes) first in
    r.is ∙ (λ i. record { id = whole.id; version = whole.version; offset = offset i; bytes = bytes i })

-- ---- what is said of it is said of the whole

module _ (whole : Part) (at : ℕ) (rest : Part) (r : IsRestOf whole at rest) where
  same_id : rest.id ≡ whole.id
  same_id = ap (λ (p : Part). p.id) r.is

  pub broken_so : IsBrokenOff rest 0 → ¬ (IsDamagedAt whole at)
  broken_so broken d = d.whole (subst (λ (p : Part). IsBrokenOff p 0) r.is broken)

  unbroken : ¬ (IsBrokenOff rest 0) → ¬ (IsBrokenOff whole at)
  unbroken not broken = not (subst (λ (p : Part). IsBrokenOff p 0) (sym r.is) broken)

  pub nothing_so : IsNextSound rest 0 None → IsNextElsewhere rest 0 None → ¬ (IsDamagedAt whole at)
  nothing_so sound elsewhere =
      nothing_stands whole at (none_sound_of whole at (subst (λ (p : Part). IsNextSound p 0 None) r.is sound)) (none_elsewhere_of whole at (subst (λ (p : Part). IsNextElsewhere p 0 None) r.is elsewhere))

  module _ (n : ℕ) (begins : n ≡ rest.offset) where
    same : n ≡ at
    same = begins ∙ rest_begins whole at rest r

    pub followed_so : (i : ℕ) (e : Error) → ¬ (IsBrokenOff rest 0) → IsNextSound rest 0 (Some i) → IsCorruption (followed_text rest.id n (n + i)) e → IsDamagedAt whole at × IsDamageText whole at e
    followed_so i e not sound text =
        let first = next_sound_of whole at i (subst (λ (p : Part). IsNextSound p 0 (Some i)) r.is sound) in (
          sound_stands whole at (at + i) (unbroken not) first,
          inl (at + i, first, subst (λ (id : FileId). IsCorruption (followed_text id at (at + i)) e) same_id (subst (λ (k : ℕ). IsCorruption (followed_text rest.id k (k + i)) e) same text)),
        )

    pub elsewhere_so : (i seq : ℕ) (e : Error) → ¬ (IsBrokenOff rest 0) → IsNextSound rest 0 None → IsNextElsewhere rest 0 (Some (i, seq)) → IsCorruption (elsewhere_text rest.id n (n + i) seq) e
        → IsDamagedAt whole at × IsDamageText whole at e
    elsewhere_so i seq e not none elsewhere text =
        let first = next_elsewhere_of whole at i seq (subst (λ (p : Part). IsNextElsewhere p 0 (Some (i, seq))) r.is elsewhere) in (
          elsewhere_stands whole at (at + i, seq) (unbroken not) first,
          inr (
            none_sound_of whole at (subst (λ (p : Part). IsNextSound p 0 None) r.is none),
            (at + i, seq),
            first,
            subst (λ (id : FileId). IsCorruption (elsewhere_text id at (at + i) seq) e) same_id (subst (λ (k : ℕ). IsCorruption (elsewhere_text rest.id k (k + i) seq) e) same text),
          ),
        )

    pub uncut_so : (e : Error) → IsCorruption (uncut_text rest.id n) e → IsCorruption (uncut_text whole.id at) e
    uncut_so e text = subst (λ (id : FileId). IsCorruption (uncut_text id at) e) same_id (subst (λ (k : ℕ). IsCorruption (uncut_text rest.id k) e) same text)

    pub not_other_so : (n ≡ 0 → ¬ (BeginsInOther rest ⊎ IsOfEngine rest)) → at ≡ 0 → ¬ (BeginsInOther whole ⊎ IsOfEngine whole)
    not_other_so none first = subst (λ (p : Part). ¬ (BeginsInOther p ⊎ IsOfEngine p)) (all_rest whole at rest r first) (none (same ∙ first))

    pub other_so : (e : Error) → (n ≡ 0) × IsOtherText rest e → (at ≡ 0) × IsOtherText whole e
    other_so e o =
        let first : at ≡ 0 = sym same ∙ o.0 in
        (first, subst (λ (p : Part). IsOtherText p e) (all_rest whole at rest r first) o.1)
