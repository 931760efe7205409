-- What a scan has found so far, and how it goes on.
use Rattle.raft_recover.proofs.Common.{◌≡◌, ℕ, ◌+◌, ◌<◌, ◌≤◌, Bool, true, false, ◌&&◌, List, [], ◌∷◌, ◌++◌, length, drop, Option, Some, None, MatchOption, refl, sym, ap, ◌∙◌, subst, append_assoc, append-nil, arith, length-drop, Part}
use Rattle.raft_recover.proofs.Common.{IsBatchAt, HasHeader, Item, batch_inside, header_ends, block_place, IsBlockState, IsBatchFound, IsFound, EndsWithin, next_after, is_undamaged, are_undamaged, finding_line, end_line, IsScannedFrom}
use Rattle.raft_recover.proofs.Common.{IsScanned, IsHeaderLength, IfSome, IfNone, BlockState, Finding}
use Rattle.std.proofs.Math.Bool.{and_assoc, and-true}
use Rattle.raft_recover.specs.declared.scan.Finding.TheVariants.{Batch, Damage}

-- ---- what was found

-- the length that a header says, if there is one and so many bytes are there
pub header_length : (bytes : List ℕ) (found : Option ℕ) → IfSome found (λ len. (offset : ℕ) × HasHeader bytes offset len) → IfSome found (λ len. len ≤ length bytes)
    → IfNone found ((offset len : ℕ) → HasHeader bytes offset len → length bytes < len) → IsHeaderLength bytes found
header_length bytes None header whole none = none
header_length bytes (Some len) header whole none = (header.0, header.1, whole)

-- the header of a batch lies behind 16 bytes, and its items within the part
pub header_room : (part : Part) (at items_at len : ℕ) (items : List Item) (next : ℕ) → HasHeader (drop at part.bytes) items_at len → IsBatchAt part at items next
    → (16 ≤ items_at) × (at + items_at ≤ length part.bytes)
header_room part at items_at len items next header b =
    let least : 16 ≤ items_at = header.header.spells.behind_header in
    let inside : items_at ≤ len = header.header.spells.inside in
    let ends : next ≡ at + len = header_ends part at next items_at len items header b in
    let room : next ≤ length part.bytes = (batch_inside part at items next b).1 in
    (least, omega arith)

-- a batch with its header and its entry block is found
pub batch_is_found : (part : Part) (at items_at len count : ℕ) (block : BlockState) (items : List Item) (next : ℕ) → HasHeader (drop at part.bytes) items_at len
    → IsBatchAt part at items next → count ≡ length items → IsBlockState part (block_place part at items_at) block → IsBatchFound part at len count block
batch_is_found part at items_at len count block items next header b counted state = record {
  read = items;
  stands = subst (λ (n : ℕ). IsBatchAt part at items n) (header_ends part at next items_at len items header b) b;
  count = counted;
  items_at = items_at;
  header = header;
  block_state = state;
}

-- what is found ends where the part does, or before
pub found_ends : (part : Part) (at : ℕ) (f : Finding) → at ≤ length part.bytes → IsFound part at f → EndsWithin (length part.bytes) at f
found_ends part at (Batch len items block) inside found = (batch_inside part at found.read (at + len) found.stands).1
found_ends part at (Damage reason None) inside found = tt
found_ends part at (Damage reason (Some len)) inside found =
    let short = found.header.2 in
    omega (arith, short, length-drop at part.bytes)

-- and so within any number of bytes that is no smaller
pub ends_within_more : (size more at : ℕ) (f : Finding) → size ≤ more → EndsWithin size at f → EndsWithin more at f
ends_within_more size more at (Batch len items block) le ends = omega (arith, le, ends)
ends_within_more size more at (Damage reason None) le ends = tt
ends_within_more size more at (Damage reason (Some len)) le ends = omega (arith, le, ends)

-- ---- one behind the other

next_inside : (past : Bool) (size at next : ℕ) (f : Finding) → EndsWithin size at f → next_after past at f ≡ Some next → next ≤ size
next_inside past size at next (Batch len items block) ends is = let same : at + len ≡ next = cc in omega (arith, ends)
next_inside past size at next (Damage reason None) ends is = absurd cc
next_inside true size at next (Damage reason (Some len)) ends is = let same : at + len ≡ next = cc in omega (arith, ends)
next_inside false size at next (Damage reason (Some len)) ends is = absurd cc

module _ (past : Bool) (part : Part) (old : List ℕ) where
  -- what was found before a byte has its lines behind the old text; with what is found from there on it is a scan
  pub record IsScanning (new : List ℕ) (at : ℕ) (undamaged : Bool) : Type 0 where
    pub inside : at ≤ length part.bytes
    pub front : List ℕ
    pub text : new ≡ old ++ front
    pub joins : (fs : List Finding) (rest : List ℕ) → IsScannedFrom past part at fs rest
        → (gs : List Finding) × IsScannedFrom past part 0 gs (front ++ rest) × ((undamaged && are_undamaged fs) ≡ are_undamaged gs)

  -- a scan that ended, with its lines behind the old text
  abbrev pub HasScanned : List ℕ → Bool → Type 0
  HasScanned new undamaged = (lines : List ℕ) × (new ≡ old ++ lines) × IsScanned past part undamaged lines

  pub begun : IsScanning old 0 true
  begun = record { inside = omega arith; front = []; text = sym (append-nil old); joins = λ fs rest s. (fs, s, refl) }

  -- one finding more
  pub one_found : (mid new : List ℕ) (at next : ℕ) (undamaged : Bool) (f : Finding) → IsScanning mid at undamaged → at < length part.bytes → IsFound part at f
      → next_after past at f ≡ Some next → new ≡ mid ++ finding_line part at f → IsScanning new next (undamaged && is_undamaged f)
  one_found mid new at next undamaged f before left found goes_on text = record {
    inside = next_inside past (length part.bytes) at next f (found_ends part at f before.inside found) goes_on;
    front = before.front ++ finding_line part at f;
    text = text ∙ ap (λ (t : List ℕ). t ++ finding_line part at f) before.text ∙ append_assoc old before.front (finding_line part at f);
    joins = λ fs rest s.
        let here : IsScannedFrom past part at (f ∷ fs) (finding_line part at f ++ rest) =
        (left, found, (rest, refl, subst (λ (o : Option ℕ). MatchOption o ((fs ≡ []) × (rest ≡ [])) (λ n. IsScannedFrom past part n fs rest)) (sym goes_on) s)) in
        let all = before.joins (f ∷ fs) (finding_line part at f ++ rest) here in
        (all.0, subst (λ (t : List ℕ). IsScannedFrom past part 0 all.0 t) (sym (append_assoc before.front (finding_line part at f) rest)) all.1, and_assoc undamaged (is_undamaged f) (are_undamaged fs) ∙ all.2);
  }

  -- a finding behind which the scan doesn't go on
  pub stopped : (mid new : List ℕ) (at : ℕ) (undamaged : Bool) (f : Finding) → IsScanning mid at undamaged → at < length part.bytes → IsFound part at f
      → next_after past at f ≡ None → new ≡ mid ++ finding_line part at f → HasScanned new (undamaged && is_undamaged f)
  stopped mid new at undamaged f before left found stops text =
      let line = finding_line part at f in
      let nothing : List Finding = [] in
      let blank : List ℕ = [] in
      let here : IsScannedFrom past part at (f ∷ []) (line ++ []) =
      (left, found, (blank, refl, subst (λ (o : Option ℕ). MatchOption o ((nothing ≡ []) × (blank ≡ [])) (λ n. IsScannedFrom past part n nothing blank)) (sym stops) (refl, refl))) in
      let all = before.joins (f ∷ []) (line ++ []) here in
      let same : before.front ++ (line ++ []) ≡ before.front ++ line = ap (λ (t : List ℕ). before.front ++ t) (append-nil line) in (
        before.front ++ line,
        text ∙ ap (λ (t : List ℕ). t ++ line) before.text ∙ append_assoc old before.front line,
        record {
          findings = all.0;
          found = subst (λ (t : List ℕ). IsScannedFrom past part 0 all.0 t) same all.1;
          told = ap (λ (b : Bool). undamaged && b) (sym (and-true (is_undamaged f))) ∙ all.2;
        },
      )

  -- the end of the part
  pub ended : (mid new : List ℕ) (at : ℕ) (undamaged : Bool) → IsScanning mid at undamaged → at ≡ length part.bytes → new ≡ mid ++ end_line part → HasScanned new undamaged
  ended mid new at undamaged before end text =
      let all = before.joins [] (end_line part) (end, refl) in (
        before.front ++ end_line part,
        text ∙ ap (λ (t : List ℕ). t ++ end_line part) before.text ∙ append_assoc old before.front (end_line part),
        record { findings = all.0; found = all.1; told = sym (and-true undamaged) ∙ all.2 },
      )
