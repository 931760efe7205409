-- Bytes at places: they stay where files get more, and a written batch's entry block stands at its place.
use Rattle.raft_engine_prefixes.proofs.Common.{◌≡◌, ℕ, suc, ◌+◌, ◌<◌, ◌≤◌, Bool, true, false, cond, List, [], ◌∷◌, ◌++◌, length, take, drop, Option, Some, None, refl, sym, ap, ◌∙◌, subst, arith, append-nil, length-append, ◌==◌, nat_le, false≢true, nat_tests, take_at}
use Rattle.raft_engine_prefixes.proofs.Common.{take-append-le, drop-append-le, length-drop, map-append, cond_some, Item, checksum_bytes, item_batch_bytes, header_bytes, entry_block, item_offset, encoded_length, log_batch_bytes, header_len, Act, Put, Begin, Sync, Unsynced, Delete}
use Rattle.raft_engine_prefixes.proofs.Common.{Cut, Found, Read, NumberedBytes, put_behind, begun, stretch_of, bytes_at, last_of, block_stands, KeepsBytes, numbers, AreRisingFrom}
use Rattle.raft_base.specs.declared.compression_type.CompressionType.TheVariants as compressions
use Rattle.raft_engine_prefixes.proofs.NumberLemmas.{rising_last}

at_most : (n m : ℕ) → nat_le n m ≡ true → n ≤ m
at_most n m e = grind (arith, nat_tests)

is_at_most : (n m : ℕ) → n ≤ m → nat_le n m ≡ true
is_at_most n m l = grind (arith, nat_tests)

same_number : (n : ℕ) → (n == n) ≡ true
same_number n = grind (arith, nat_tests)

lower_number : (n m : ℕ) → n < m → (n == m) ≡ false
lower_number n m l = grind (arith, nat_tests)

-- ---- bytes stay

stretch_more : (bytes more : List ℕ) (offset len : ℕ) (block : List ℕ) → stretch_of bytes offset len ≡ Some block → stretch_of (bytes ++ more) offset len ≡ Some block
stretch_more bytes more offset len block e =
    let p = cond_some (nat_le (offset + len) (length bytes)) (take len (drop offset bytes)) block e in
    let le : offset + len ≤ length bytes = at_most (offset + len) (length bytes) p.0 in
    let n = length-append bytes more in
    let d = length-drop offset bytes in
    ap (λ (b : Bool). cond b (Some (take len (drop offset (bytes ++ more)))) None) (is_at_most (offset + len) (length (bytes ++ more)) (omega (arith, le, n)))
    ∙ ap (λ (l : List ℕ). Some l) (ap (take len) (drop-append-le offset bytes more (omega (arith, le))) ∙ take-append-le len (drop offset bytes) more (omega (arith, le, d)) ∙ p.1)

-- in this file or a later one
either_more : (b : Bool) (x y other more : Option (List ℕ)) (block : List ℕ) → (x ≡ Some block → y ≡ Some block) → (other ≡ Some block → more ≡ Some block) → cond b x other ≡ Some block → cond b y more ≡ Some block
either_more true x y other more block f g e = f e
either_more false x y other more block f g e = g e

module _ (seq offset len : ℕ) (block : List ℕ) where
  at_put : (more : List ℕ) (files : List NumberedBytes) → bytes_at files seq offset len ≡ Some block → bytes_at (put_behind more files) seq offset len ≡ Some block
  at_put more [] e = e
  at_put more (f ∷ []) e = either_more (f.0 == seq) (stretch_of f.1 offset len) (stretch_of (f.1 ++ more) offset len) None None block (stretch_more f.1 more offset len block) (λ x. x) e
  at_put more (f ∷ g ∷ files) e =
      either_more (f.0 == seq) (stretch_of f.1 offset len) (stretch_of f.1 offset len) (bytes_at (g ∷ files) seq offset len) (bytes_at (put_behind more (g ∷ files)) seq offset len) block (λ x. x) (λ x. at_put more (g ∷ files) x) e

  at_begun : (new : ℕ) (files : List NumberedBytes) → bytes_at files seq offset len ≡ Some block → bytes_at (files ++ (new, []) ∷ []) seq offset len ≡ Some block
  at_begun new [] e = absurd (false≢true (cond_some false block block e).0)
  at_begun new (f ∷ files) e =
      either_more (f.0 == seq) (stretch_of f.1 offset len) (stretch_of f.1 offset len) (bytes_at files seq offset len) (bytes_at (files ++ (new, []) ∷ []) seq offset len) block (λ x. x) (λ x. at_begun new files x) e

pub bytes_stay : (acts : List Act) (act : Act) (seq offset len : ℕ) (block : List ℕ) → KeepsBytes act → bytes_at (begun acts) seq offset len ≡ Some block → bytes_at (begun (act ∷ acts)) seq offset len ≡ Some block
bytes_stay acts (Put bytes) seq offset len block k e = at_put seq offset len block bytes (begun acts) e
bytes_stay acts (Begin new) seq offset len block k e = at_begun seq offset len block new (begun acts) e
bytes_stay acts Sync seq offset len block k e = e
bytes_stay acts Delete seq offset len block k e = e
bytes_stay acts (Cut n) seq offset len block k e = absurd k
bytes_stay acts (Found files) seq offset len block k e = absurd k
bytes_stay acts (Read place bytes) seq offset len block k e = e
bytes_stay acts Unsynced seq offset len block k e = e

-- ---- the entry block of a written batch

stretch_found : (bytes block more : List ℕ) (offset : ℕ) → offset ≤ length bytes → drop offset bytes ≡ block ++ more → stretch_of bytes offset (length block) ≡ Some block
stretch_found bytes block more offset le e =
    let d : length (block ++ more) + offset ≡ length bytes = let a = length-drop offset bytes in let b = ap length e in omega (arith, a, b, le) in
    let n = length-append block more in
    ap (λ (b : Bool). cond b (Some (take (length block) (drop offset bytes))) None) (is_at_most (offset + length block) (length bytes) (omega (arith, d, n)))
    ∙ ap (λ (l : List ℕ). Some l) (ap (take (length block)) e ∙ take_at block more (length block) refl)

-- the last file is found by its number
at_last_file : (n : ℕ) (closed : List NumberedBytes) (file : NumberedBytes) (offset len : ℕ) → AreRisingFrom n (numbers (closed ++ file ∷ [])) → bytes_at (closed ++ file ∷ []) file.0 offset len ≡ stretch_of file.1 offset len
at_last_file n [] file offset len r = ap (λ (b : Bool). cond b (stretch_of file.1 offset len) None) (same_number file.0)
at_last_file n (f ∷ closed) file offset len r =
    let up : suc f.0 ≤ file.0 = rising_last (suc f.0) (numbers closed) file.0 (subst (AreRisingFrom (suc f.0)) (map-append (λ (x : NumberedBytes). x.0) closed (file ∷ [])) r.1) in
    ap (λ (b : Bool). cond b (stretch_of f.1 offset len) (bytes_at (closed ++ file ∷ []) file.0 offset len)) (lower_number f.0 file.0 (omega (arith, up)))
    ∙ at_last_file (suc f.0) closed file offset len r.1

batch_block : (signature : Option ℕ) (item : Item) (items : List Item) (es old : List ℕ) → stretch_of (old ++ log_batch_bytes signature (item ∷ items) es) (length old + 16) (length (entry_block es)) ≡ Some (entry_block es)
batch_block signature item items es old =
    let bytes : List ℕ = log_batch_bytes signature (item ∷ items) es in
    let header : List ℕ = header_bytes (item_offset es) compressions.None (encoded_length (item ∷ items) es) in
    let body : List ℕ = entry_block es ++ item_batch_bytes (item ∷ items) in
    let seal : List ℕ = checksum_bytes signature (item_batch_bytes (item ∷ items)) in
    let b = block_stands signature item items es old [] in
    let h : length header ≡ 16 = header_len (item_offset es) compressions.None (encoded_length (item ∷ items) es) in
    let one : length ((header ++ body) ++ seal) ≡ length (header ++ body) + length seal = length-append (header ++ body) seal in
    let two = length-append header body in
    let all = length-append old bytes in
    stretch_found (old ++ bytes) (entry_block es) b.0 (length old + 16) (omega (arith, h, one, two, all))
    (ap (λ (l : List ℕ). drop (length old + 16) (old ++ l)) (sym (append-nil bytes)) ∙ b.1)

pub block_found : (n : ℕ) (closed : List NumberedBytes) (last : NumberedBytes) (files : List NumberedBytes) (signature : Option ℕ) (item : Item) (items : List Item) (es : List ℕ)
    → files ≡ closed ++ last ∷ [] → AreRisingFrom n (numbers files)
    → bytes_at (put_behind (log_batch_bytes signature (item ∷ items) es) files) last.0 (length last.1 + 16) (length (entry_block es)) ≡ Some (entry_block es)
block_found n closed last files signature item items es is rising =
    let bytes : List ℕ = log_batch_bytes signature (item ∷ items) es in
    let offset : ℕ = length last.1 + 16 in
    let len : ℕ = length (entry_block es) in
    let put : put_behind bytes files ≡ closed ++ (last.0, last.1 ++ bytes) ∷ [] = ap (put_behind bytes) is ∙ last_of (λ (b : List ℕ). b ++ bytes) closed last in
    let same : numbers (closed ++ last ∷ []) ≡ numbers (closed ++ (last.0, last.1 ++ bytes) ∷ []) =
    map-append (λ (x : NumberedBytes). x.0) closed (last ∷ []) ∙ sym (map-append (λ (x : NumberedBytes). x.0) closed ((last.0, last.1 ++ bytes) ∷ [])) in
    ap (λ (fs : List NumberedBytes). bytes_at fs last.0 offset len) put
    ∙ at_last_file n closed (last.0, last.1 ++ bytes) offset len (subst (AreRisingFrom n) (ap numbers is ∙ same) rising)
    ∙ batch_block signature item items es last.1
