-- Files as segments of one part.
use Rattle.raft_recover.proofs.Common.{◌≡◌, ◌↔◌, ℕ, List, [], ◌∷◌, ◌++◌, Vec, length, map, refl, sym, ap, ◌∙◌, subst, arith, append_assoc, append-nil, Global, get_or-map, length-map, map-append, All-from_recursion, All-map}
use Rattle.raft_recover.proofs.Common.{LogQueue, Version, Part}
use Rattle.raft_recover.proofs.Common.{Event, EachHolds, SegmentsHold, SegmentsAreOf, SegmentReads, PartHolds, PartsHold, PartsAreOf, uncut, whole_file, segment_shown, AreWholeFiles, FilesHold, NumberedBytes, file_shown}
use Rattle.std.specs.List.{All}

-- what each of some holds, in order, is what each of those holds that they stand for
each_over : {A B : Type 0} (H : A → List Event → Type 0) (K : B → List Event → Type 0) (f : A → B) → ((x : A) (h : List Event) → H x h ↔ K (f x) h)
    → (xs : List A) (h : List Event) → EachHolds H xs h ↔ EachHolds K (map f xs) h
each_over H K f same [] h = ((λ r. r), λ r. r)
each_over H K f same (x ∷ xs) h = (
  λ r. record { first = r.first; rest = r.rest; first_held = (same x r.first).0 r.first_held; rest_held = (each_over H K f same xs r.rest).0 r.rest_held; split = r.split },
  λ r. record { first = r.first; rest = r.rest; first_held = (same x r.first).1 r.first_held; rest_held = (each_over H K f same xs r.rest).1 r.rest_held; split = r.split },
)

module _ (queue : LogQueue) (version : Version) where
  abbrev whole : NumberedBytes → List Part
  whole file = whole_file queue version file ∷ []

  -- the segments so far and those of the files that are left make up the whole
  abbrev pub AreBegun : List NumberedBytes → List NumberedBytes → List (Vec Part Global) → Type 0
  AreBegun files left segments = map segment_shown segments ++ map whole left ≡ map whole files

  -- one file more is a segment
  pub file_one_more : (files left : List NumberedBytes) (file : NumberedBytes) (segments new : List (Vec Part Global)) (segment : Vec Part Global) (part : Part) → AreBegun files (file ∷ left) segments
      → part ≡ whole_file queue version file → segment.items ≡ part ∷ [] → new ≡ segments ++ segment ∷ [] → AreBegun files left new
  file_one_more files left file segments new segment part before part_is segment_is new_is =
      ap (λ (l : List (Vec Part Global)). map segment_shown l ++ map whole left) new_is
      ∙ ap (λ (l : List (List Part)). l ++ map whole left) (map-append segment_shown segments (segment ∷ []))
      ∙ append_assoc (map segment_shown segments) (segment.items ∷ []) (map whole left)
      ∙ ap (λ (items : List Part). map segment_shown segments ++ (items ∷ map whole left)) (segment_is ∙ ap (λ (p : Part). p ∷ []) part_is)
      ∙ before

  -- all files are segments
  pub all_begun : (files : List NumberedBytes) (left : List (ℕ × Vec ℕ Global)) (ss : List (Vec Part Global)) → length left ≡ 0 → AreBegun files (map file_shown left) ss → AreWholeFiles queue version files ss
  all_begun files [] ss none done = sym (append-nil (map segment_shown ss)) ∙ done
  all_begun files (f ∷ left) ss none done = absurd (omega (arith, none))

  module _ (files : List NumberedBytes) (ss : List (Vec Part Global)) (all : AreWholeFiles queue version files ss) where
    pub as_many : length ss ≡ length files
    as_many = sym (length-map ss segment_shown) ∙ ap length all ∙ length-map files whole

    pub same_read : (h : List Event) → FilesHold queue version files h ↔ SegmentsHold ss h
    same_read h =
        let f = each_over (λ (file : NumberedBytes). PartHolds (whole_file queue version file)) PartsHold whole (λ file. uncut (whole_file queue version file)) files h in
        let s = each_over SegmentReads PartsHold segment_shown (λ _ _. ((λ r. r), λ r. r)) ss h in (
          λ r. s.1 (subst (λ (l : List (List Part)). EachHolds PartsHold l h) (sym all) (f.0 r)),
          λ r. f.1 (subst (λ (l : List (List Part)). EachHolds PartsHold l h) all (s.0 r)),
        )

    pub segments_are_of : SegmentsAreOf queue ss
    segments_are_of =
        let one : (file : NumberedBytes) → PartsAreOf queue (whole file) = λ file. All-from_recursion (λ part. part.id.queue ≡ queue) (whole file) (refl, tt) in
        let each = subst (All (PartsAreOf queue)) (sym all) (All-map (PartsAreOf queue) whole files (λ k d small. one _)) in
        λ k d small. subst (PartsAreOf queue) (get_or-map segment_shown ss k d (segment_shown d) small) (each k (segment_shown d) (let n = length-map ss segment_shown in omega arith))
