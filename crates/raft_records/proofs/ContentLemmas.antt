-- On the bytes of items and their contents.
use Rattle.raft_records.proofs.Common.{◌≡◌, ℕ, List, ◌∷◌, ◌++◌, refl, sym, ap, ◌∙◌, subst, arith, Reads, HasNoFront, HasOneFront, IsTagged, IsFollowedBy, IsVarint, varint_one_front, reads_as, reads_tagged, reads_pair, no_first, no_second}
use Rattle.raft_records.proofs.Common.{pair_one_front, tagged_at, no_tagged, tagged_same, tagged_one_front, EntryIndex, Command, Pair, Content, entries, command, pair, Item, IsCommand, IsKeyValue, IsEntries, IsContent, IsItem, Clean}
use Rattle.raft_records.proofs.Common.{Compact, Truncate, item_with}
use Rattle.raft_records.proofs.ItemLemmas.{pair_one}
use Rattle.raft_records.proofs.EntryLemmas.{entries_one_front}

-- ---- contents

pub entries_content : (s : ℕ) (bytes behind rest : List ℕ) (es : List EntryIndex) → bytes ≡ 1 ∷ behind → Reads (IsEntries s) behind rest es → Reads (IsContent s) bytes rest (entries es)
entries_content s bytes behind rest es e r =
    subst (λ (b : List ℕ). Reads (IsContent s) b rest (entries es)) (sym e) (reads_as (IsTagged 1 (IsEntries s)) (IsContent s) es (entries es) (λ a p. p) (reads_tagged 1 (IsEntries s) es r))

pub command_content : (s : ℕ) (bytes behind rest : List ℕ) (c : Command) → bytes ≡ 2 ∷ behind → Reads IsCommand behind rest c → Reads (IsContent s) bytes rest (command c)
command_content s bytes behind rest c e r =
    subst (λ (b : List ℕ). Reads (IsContent s) b rest (command c)) (sym e) (reads_as (IsTagged 2 IsCommand) (IsContent s) c (command c) (λ a p. p) (reads_tagged 2 IsCommand c r))

pub pair_content : (s : ℕ) (bytes behind rest : List ℕ) (p : Pair) → bytes ≡ 3 ∷ behind → Reads IsKeyValue behind rest p → Reads (IsContent s) bytes rest (pair p)
pair_content s bytes behind rest p e r =
    subst (λ (b : List ℕ). Reads (IsContent s) b rest (pair p)) (sym e) (reads_as (IsTagged 3 IsKeyValue) (IsContent s) p (pair p) (λ a q. q) (reads_tagged 3 IsKeyValue p r))

pub no_entries : (s : ℕ) (bytes behind : List ℕ) → bytes ≡ 1 ∷ behind → HasNoFront (IsEntries s) behind → HasNoFront (IsContent s) bytes
no_entries s bytes behind split none front rest (entries es) p e = no_tagged 1 (IsEntries s) none front rest es p (sym split ∙ e)
no_entries s bytes behind split none front rest (command c) p e = absurd (omega (arith, (tagged_at 2 1 IsCommand behind front rest c p (sym split ∙ e)).0))
no_entries s bytes behind split none front rest (pair q) p e = absurd (omega (arith, (tagged_at 3 1 IsKeyValue behind front rest q p (sym split ∙ e)).0))

-- contents of two kinds begin with two types
apart : {X Y : Type 0} (tag tag' : ℕ) (P : List ℕ → X → Type 0) (Q : List ℕ → Y → Type 0) (a b more rest : List ℕ) (x : X) (y : Y) → IsTagged tag P a x → IsTagged tag' Q b y → a ++ more ≡ b ++ rest → tag ≡ tag'
apart tag tag' P Q a b more rest x y p q e = tagged_one_front tag tag' (λ c (u : Unit {0}). P c x) (λ c (u : Unit {0}). Q c y) a b more rest tt tt p q e

pub command_one_front : HasOneFront IsCommand
command_one_front a b more rest Clean Clean p q e = (p ∙ sym q, refl)
command_one_front a b more rest Clean (Compact j) p q e =
    absurd (omega (arith, (tagged_at 2 1 IsVarint more b rest j q (ap (λ (t : List ℕ). t ++ more) (sym p) ∙ e)).0))
command_one_front a b more rest Clean (Truncate j) p q e =
    absurd (omega (arith, (tagged_at 3 1 IsVarint more b rest j q (ap (λ (t : List ℕ). t ++ more) (sym p) ∙ e)).0))
command_one_front a b more rest (Compact i) Clean p q e =
    absurd (omega (arith, (tagged_at 2 1 IsVarint rest a more i p (ap (λ (t : List ℕ). t ++ rest) (sym q) ∙ sym e)).0))
command_one_front a b more rest (Truncate i) Clean p q e =
    absurd (omega (arith, (tagged_at 3 1 IsVarint rest a more i p (ap (λ (t : List ℕ). t ++ rest) (sym q) ∙ sym e)).0))
command_one_front a b more rest (Compact i) (Compact j) p q e =
    let same = tagged_same 2 IsVarint varint_one_front a b more rest i j p q e in
    (same.0, ap Compact same.1)
command_one_front a b more rest (Truncate i) (Truncate j) p q e =
    let same = tagged_same 3 IsVarint varint_one_front a b more rest i j p q e in
    (same.0, ap Truncate same.1)
command_one_front a b more rest (Compact i) (Truncate j) p q e = absurd (omega (arith, apart 2 3 IsVarint IsVarint a b more rest i j p q e))
command_one_front a b more rest (Truncate i) (Compact j) p q e = absurd (omega (arith, apart 3 2 IsVarint IsVarint a b more rest i j p q e))

pub content_one_front : (s : ℕ) → HasOneFront (IsContent s)
content_one_front s a b more rest (entries x) (entries y) p q e =
    let same = tagged_same 1 (IsEntries s) (entries_one_front s) a b more rest x y p q e in
    (same.0, ap entries same.1)
content_one_front s a b more rest (command x) (command y) p q e =
    let same = tagged_same 2 IsCommand command_one_front a b more rest x y p q e in
    (same.0, ap command same.1)
content_one_front s a b more rest (pair x) (pair y) p q e =
    let same = tagged_same 3 IsKeyValue pair_one a b more rest x y p q e in
    (same.0, ap pair same.1)
content_one_front s a b more rest (entries x) (command y) p q e = absurd (omega (arith, apart 1 2 (IsEntries s) IsCommand a b more rest x y p q e))
content_one_front s a b more rest (entries x) (pair y) p q e = absurd (omega (arith, apart 1 3 (IsEntries s) IsKeyValue a b more rest x y p q e))
content_one_front s a b more rest (command x) (entries y) p q e = absurd (omega (arith, apart 2 1 IsCommand (IsEntries s) a b more rest x y p q e))
content_one_front s a b more rest (command x) (pair y) p q e = absurd (omega (arith, apart 2 3 IsCommand IsKeyValue a b more rest x y p q e))
content_one_front s a b more rest (pair x) (entries y) p q e = absurd (omega (arith, apart 3 1 IsKeyValue (IsEntries s) a b more rest x y p q e))
content_one_front s a b more rest (pair x) (command y) p q e = absurd (omega (arith, apart 3 2 IsKeyValue IsCommand a b more rest x y p q e))

-- ---- items

pub item_read : (s region : ℕ) (bytes mid rest : List ℕ) (c : Content) → Reads IsVarint bytes mid region → Reads (IsContent s) mid rest c → Reads (IsItem s) bytes rest (record { raft_group_id = region; content = c })
item_read s region bytes mid rest c r t =
    let item : Item = record { raft_group_id = region; content = c } in
    reads_as (λ a (v : Content). IsFollowedBy IsVarint (λ _. IsContent s) a region v) (IsItem s) c item (λ a p. p) (reads_pair IsVarint (λ _. IsContent s) region c r t)

pub no_region : (s : ℕ) (bytes : List ℕ) → HasNoFront IsVarint bytes → HasNoFront (IsItem s) bytes
no_region s bytes none front rest x p e = no_first IsVarint (λ _. IsContent s) none front rest x.raft_group_id x.content p e

pub no_content : (s region : ℕ) (bytes mid : List ℕ) → Reads IsVarint bytes mid region → HasNoFront (IsContent s) mid → HasNoFront (IsItem s) bytes
no_content s region bytes mid r none front rest x p e = no_second IsVarint (λ _. IsContent s) varint_one_front r none front rest x.raft_group_id x.content p e

pub item_one_front : (s : ℕ) → HasOneFront (IsItem s)
item_one_front s a b more rest x y p q e =
    let same = pair_one_front IsVarint (λ _. IsContent s) varint_one_front (λ _. content_one_front s) a b more rest x.raft_group_id y.raft_group_id x.content y.content p q e in
    (same.0, ap (λ (k : ℕ). item_with k x.content) same.1 ∙ ap (λ (c : Content). item_with y.raft_group_id c) same.2)
