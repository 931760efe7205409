-- On the bytes of commands and key values.
use Rattle.raft_records.proofs.Common.{◌≡◌, ℕ, ◌+◌, ◌<◌, ◌≤◌, List, ◌∷◌, ◌++◌, length, take, drop, Option, Some, None, refl, sym, ap, ◌∙◌, subst, arith, inl, inr, take-append-drop, length-take-le, length-append, Reads, HasNoFront}
use Rattle.raft_records.proofs.Common.{HasOneFront, IsTagged, IsFollowedBy, IsVarint, varint_one_front, reads_as, reads_tagged, reads_pair, no_first, no_second, second_at, pair_one_front, tagged_at, no_tagged, tagged_same, tagged_one_front}
use Rattle.raft_records.proofs.Common.{Error, FileId, IsMemory, IsKeyValueFault, change_of, OpType, Pair, IsCommand, IsByteString, IsKeyValue, IsPairOf, Compact, Truncate, Put, Del, take-append_seam}

-- ---- commands

pub compact_read : (bytes behind rest : List ℕ) (index : ℕ) → bytes ≡ 2 ∷ behind → Reads IsVarint behind rest index → Reads IsCommand bytes rest (Compact index)
compact_read bytes behind rest index e r =
    subst (λ (b : List ℕ). Reads IsCommand b rest (Compact index)) (sym e) (reads_as (IsTagged 2 IsVarint) IsCommand index (Compact index) (λ a p. p) (reads_tagged 2 IsVarint index r))

pub truncate_read : (bytes behind rest : List ℕ) (index : ℕ) → bytes ≡ 3 ∷ behind → Reads IsVarint behind rest index → Reads IsCommand bytes rest (Truncate index)
truncate_read bytes behind rest index e r =
    subst (λ (b : List ℕ). Reads IsCommand b rest (Truncate index)) (sym e) (reads_as (IsTagged 3 IsVarint) IsCommand index (Truncate index) (λ a p. p) (reads_tagged 3 IsVarint index r))

-- ---- byte strings

-- these bytes, n of them
abbrev IsText : ℕ → List ℕ → List ℕ → Type 0
IsText n bytes text = (bytes ≡ text) × (length text ≡ n)

-- two fronts of one list that are as long are one
pub same_length : (a b more rest : List ℕ) → length a ≡ length b → a ++ more ≡ b ++ rest → a ≡ b
same_length a b more rest len e = sym (take-append_seam a more) ∙ ap (take (length a)) e ∙ ap (λ (k : ℕ). take k (b ++ rest)) len ∙ take-append_seam b rest

pub text_read : (bytes mid : List ℕ) (n : ℕ) → n ≤ length mid → Reads IsVarint bytes mid n → Reads IsByteString bytes (drop n mid) (take n mid)
text_read bytes mid n le r =
    let len : length (take n mid) ≡ n = length-take-le n mid le in
    let text : Reads (IsText n) mid (drop n mid) (take n mid) = record { front = take n mid; spells = (refl, len); split = sym (take-append-drop n mid) } in
    reads_as (λ a (t : List ℕ). IsFollowedBy IsVarint IsText a n t) IsByteString (take n mid) (take n mid)
    (λ a p. subst (λ (k : ℕ). IsFollowedBy IsVarint IsText a k (take n mid)) (sym len) p) (reads_pair IsVarint IsText n (take n mid) r text)

pub no_length : {bytes : List ℕ} → HasNoFront IsVarint bytes → HasNoFront IsByteString bytes
no_length none front rest text p e = no_first IsVarint IsText none front rest (length text) text p e

pub too_long_text : {bytes mid : List ℕ} {n : ℕ} → Reads IsVarint bytes mid n → length mid < n → HasNoFront IsByteString bytes
too_long_text {bytes} {mid} {n} r lt front rest text p e =
    let at = second_at IsVarint IsText varint_one_front r front rest (length text) text p e in
    let whole : length mid ≡ length p.second + length rest = ap length at.1 ∙ length-append p.second rest in
    let len : length p.second ≡ length text = ap length p.second_spells.0 in
    let n_is : n ≡ length text = at.0 in
    absurd (omega arith)

pub text_one_front : HasOneFront IsByteString
text_one_front a b more rest x y p q e =
    let same = pair_one_front IsVarint IsText varint_one_front texts a b more rest (length x) (length y) x y p q e in
    (same.0, same.2)
  where
    texts : (n : ℕ) → HasOneFront (IsText n)
    texts n c d more rest x y s t e =
        let c_is = s.0 in
        let d_is = t.0 in
        let len : length c ≡ length d = ap length s.0 ∙ s.1 ∙ sym t.1 ∙ sym (ap length t.0) in
        let same : c ≡ d = same_length c d more rest len e in
        (same, sym s.0 ∙ same ∙ t.0)

-- ---- key values

-- a key and its value
abbrev pub IsKeyAndValue : List ℕ → List ℕ × List ℕ → Type 0
IsKeyAndValue bytes both = IsFollowedBy IsByteString (λ _. IsByteString) bytes both.0 both.1

abbrev pair_with : OpType → List ℕ → Option (List ℕ) → Option FileId → Pair
pair_with o key v f = record { op_type = o; key = key; value = v; file_id = f }

both_one_front : HasOneFront IsKeyAndValue
both_one_front a b more rest x y p q e =
    let same = pair_one_front IsByteString (λ _. IsByteString) text_one_front (λ _. text_one_front) a b more rest x.0 y.0 x.1 y.1 p q e in
    (same.0, ap (λ (k : List ℕ). (k, x.1)) same.1 ∙ ap (λ (v : List ℕ). (y.0, v)) same.2)

pub no_key : {bytes : List ℕ} → HasNoFront IsByteString bytes → HasNoFront IsKeyAndValue bytes
no_key none front rest both p e = no_first IsByteString (λ _. IsByteString) none front rest both.0 both.1 p e

pub no_value : {bytes mid key : List ℕ} → Reads IsByteString bytes mid key → HasNoFront IsByteString mid → HasNoFront IsKeyAndValue bytes
no_value r none front rest both p e = no_second IsByteString (λ _. IsByteString) text_one_front r none front rest both.0 both.1 p e

both_read : (key value : List ℕ) {bytes mid rest : List ℕ} → Reads IsByteString bytes mid key → Reads IsByteString mid rest value → Reads IsKeyAndValue bytes rest (key, value)
both_read key value r s =
    reads_as (λ a (v : List ℕ). IsFollowedBy IsByteString (λ _. IsByteString) a key v) IsKeyAndValue value (key, value) (λ a p. p) (reads_pair IsByteString (λ _. IsByteString) key value r s)

pub put_read : (key value : List ℕ) {bytes behind mid rest : List ℕ} → bytes ≡ 1 ∷ behind → Reads IsByteString behind mid key → Reads IsByteString mid rest value → Reads IsKeyValue bytes rest (change_of key (Some value) None)
put_read key value {bytes} {behind} {mid} {rest} e r s =
    let put = change_of key (Some value) None in
    subst (λ (b : List ℕ). Reads IsKeyValue b rest put) (sym e) (reads_as (IsTagged 1 IsKeyAndValue) IsKeyValue (key, value) put (λ a q. q) (reads_tagged 1 IsKeyAndValue (key, value) (both_read key value r s)))

pub del_read : (key : List ℕ) {bytes behind rest : List ℕ} → bytes ≡ 2 ∷ behind → Reads IsByteString behind rest key → Reads IsKeyValue bytes rest (change_of key None None)
del_read key {bytes} {behind} {rest} e r =
    let del = change_of key None None in
    subst (λ (b : List ℕ). Reads IsKeyValue b rest del) (sym e) (reads_as (IsTagged 2 IsByteString) IsKeyValue key del (λ a q. q) (reads_tagged 2 IsByteString key r))

-- where a change of a key stands, there may be no memory for it
pub no_room_for_pair : (bytes rest key : List ℕ) (value : Option (List ℕ)) (e : Error) → Reads IsKeyValue bytes rest (change_of key value None) → IsMemory e → IsKeyValueFault bytes e
no_room_for_pair bytes rest key (Some value) e r memory =
    subst (λ (b : List ℕ). IsKeyValueFault b e) (sym (r.split ∙ ap (λ (t : List ℕ). t ++ rest) r.spells.1)) (inr (inl (refl, inl memory)))
no_room_for_pair bytes rest key None e r memory =
    subst (λ (b : List ℕ). IsKeyValueFault b e) (sym (r.split ∙ ap (λ (t : List ℕ). t ++ rest) r.spells.1)) (inr (inr (refl, inl memory)))

no_put_of : (behind front rest key : List ℕ) (o : OpType) (v : Option (List ℕ)) (f : Option FileId) → HasNoFront IsKeyAndValue behind → IsPairOf o v f key front → 1 ∷ behind ≡ front ++ rest → ⊥
no_put_of behind front rest key Put (Some v) None none p e = no_tagged 1 IsKeyAndValue none front rest (key, v) p e
no_put_of behind front rest key Del None None none p e = absurd (omega (arith, (tagged_at 2 1 IsByteString behind front rest key p e).0))
no_put_of behind front rest key Put None f none p e = p
no_put_of behind front rest key Put (Some v) (Some f) none p e = p
no_put_of behind front rest key Del (Some v) f none p e = p
no_put_of behind front rest key Del None (Some f) none p e = p

pub no_put : {bytes behind : List ℕ} → bytes ≡ 1 ∷ behind → HasNoFront IsKeyAndValue behind → HasNoFront IsKeyValue bytes
no_put {bytes} {behind} split none front rest x p e = no_put_of behind front rest x.key x.op_type x.value x.file_id none p (sym split ∙ e)

no_del_of : (behind front rest key : List ℕ) (o : OpType) (v : Option (List ℕ)) (f : Option FileId) → HasNoFront IsByteString behind → IsPairOf o v f key front → 2 ∷ behind ≡ front ++ rest → ⊥
no_del_of behind front rest key Put (Some v) None none p e = absurd (omega (arith, (tagged_at 1 2 IsKeyAndValue behind front rest (key, v) p e).0))
no_del_of behind front rest key Del None None none p e = no_tagged 2 IsByteString none front rest key p e
no_del_of behind front rest key Put None f none p e = p
no_del_of behind front rest key Put (Some v) (Some f) none p e = p
no_del_of behind front rest key Del (Some v) f none p e = p
no_del_of behind front rest key Del None (Some f) none p e = p

pub no_del : {bytes behind : List ℕ} → bytes ≡ 2 ∷ behind → HasNoFront IsByteString behind → HasNoFront IsKeyValue bytes
no_del {bytes} {behind} split none front rest x p e = no_del_of behind front rest x.key x.op_type x.value x.file_id none p (sym split ∙ e)

pair_one_of : (a b more rest key key' : List ℕ) (o o' : OpType) (v v' : Option (List ℕ)) (f f' : Option FileId) → IsPairOf o v f key a →
    IsPairOf o' v' f' key' b → a ++ more ≡ b ++ rest → (a ≡ b) × (pair_with o key v f ≡ pair_with o' key' v' f')
pair_one_of a b more rest key key' Put Put (Some v) (Some v') None None p q e =
    let same = tagged_same 1 IsKeyAndValue both_one_front a b more rest (key, v) (key', v') p q e in
    (same.0, ap (λ (t : List ℕ × List ℕ). pair_with Put t.0 (Some t.1) None) same.1)
pair_one_of a b more rest key key' Put Del (Some v) None None None p q e =
    absurd (omega (arith, tagged_one_front 1 2 (λ c (u : Unit {0}). IsKeyAndValue c (key, v)) (λ c (u : Unit {0}). IsByteString c key') a b more rest tt tt p q e))
pair_one_of a b more rest key key' Del Put None (Some v') None None p q e =
    absurd (omega (arith, tagged_one_front 2 1 (λ c (u : Unit {0}). IsByteString c key) (λ c (u : Unit {0}). IsKeyAndValue c (key', v')) a b more rest tt tt p q e))
pair_one_of a b more rest key key' Del Del None None None None p q e =
    let same = tagged_same 2 IsByteString text_one_front a b more rest key key' p q e in
    (same.0, ap (λ (t : List ℕ). pair_with Del t None None) same.1)
pair_one_of a b more rest key key' Put o' None v' f f' p q e = absurd p
pair_one_of a b more rest key key' Put o' (Some v) v' (Some f) f' p q e = absurd p
pair_one_of a b more rest key key' Del o' (Some v) v' f f' p q e = absurd p
pair_one_of a b more rest key key' Del o' None v' (Some f) f' p q e = absurd p
pair_one_of a b more rest key key' o Put v None f f' p q e = absurd q
pair_one_of a b more rest key key' o Put v (Some v') f (Some f') p q e = absurd q
pair_one_of a b more rest key key' o Del v (Some v') f f' p q e = absurd q
pair_one_of a b more rest key key' o Del v None f (Some f') p q e = absurd q

pub pair_one : HasOneFront IsKeyValue
pair_one a b more rest x y p q e = pair_one_of a b more rest x.key y.key x.op_type y.op_type x.value y.value x.file_id y.file_id p q e
