-- The handles of a type, whatever it is that they may hold.
use Rattle.std.specs.Prelude.{Option}
use Rattle.raft_ffi.proofs.Common.{Global, ghosts, dict, Bx, handle_owned}
use Rattle.std.specs.contracts.alloc.Global as Heap
use Rattle.std.proofs.alloc.Global.TheLaws as heap
use Rattle.raft_ffi.proofs.Walks.{◌≡◌, sym, List, [], ◌∷◌, Ty, impl, tnil, tcons, dnil, ty_ptr, ty_struct, Val, Fml, fsep, under, hidden, RattleType, Denots, Ptr, layout, Laws, Field}
use Rattle.raft_ffi.proofs.Walks.{RawPtr-field, rows, intos, Struct, exits_of, Owning, shape}
use denote.Struct.Owning as owning

-- a type whose values are one machine value each
abbrev pub one_word : RattleType → RattleType
one_word R = record { Denot = R.Denot; mir = layout R ∷ []; written = R.written; reaches = R.reaches; lives = R.lives; own_val = R.own_val; exit = R.exit; coded = R.coded; shr_at = R.shr_at }

-- a type of handles: what one may hold, and a handle as its pointer, its allocator and what it holds
pub record Handle : Type 2 where
  pub of : RattleType
  pub laws : Laws (one_word of)
  pub owner : Owning
  pub shown : owner.D → Ptr × (Global × Option of.Denot)
  pub make : Ptr → Global → Option of.Denot → owner.D
  pub made : (p : Ptr) (a : Global) (o : Option of.Denot) → shown (make p a o) ≡ (p, (a, o))

module _ (h : Handle) where
  abbrev pub held : RattleType
  held = one_word h.of

  abbrev pub D : Type 0
  D = h.owner.D

  abbrev pub value : D → Option h.of.Denot
  value d = (h.shown d).1.1

  pub made_value : (p : Ptr) (a : Global) (o : Option h.of.Denot) → value (h.make p a o) ≡ o
  made_value p a o = λ i. (h.made p a o i).1.1

  abbrev pub box : Bx
  box = record { row = held; laws = h.laws; al = record { row = Heap.the_row; laws = heap.the_row_laws; g = ghosts; d = dict; drops = impl [] tnil dnil } }

  abbrev pub parts : List Field
  parts = RawPtr-field ∷ Heap.the_field ∷ []

  abbrev pub fields_at : Ptr → Global → Denots (rows parts)
  fields_at p a = intos parts (p, (a, tt))

  abbrev pub type : Owning
  type = record {
    name = h.owner.name;
    args = [];
    types = [];
    parts = parts;
    D = D;
    as_values = λ d. ((h.shown d).0, ((h.shown d).1.0, tt));
    coded = h.owner.coded;
    heap = λ d. handle_owned held (h.shown d).1.0 (h.shown d).0 (value d);
    exit = λ k. hidden (under (λ d. fields_at (h.shown d).0 (h.shown d).1.0) (exits_of k (rows parts)));
    shr_at = h.owner.shr_at;
  }

  abbrev pub row : RattleType
  row = owning.row type

  abbrev pub ty : Ty
  ty = ty_struct h.owner.name (tcons ty_ptr (tcons (layout Heap.the_row) tnil))

  abbrev pub Own : Ptr → Global → Option h.of.Denot → List Val → Fml
  Own p a o vs = fsep ((Struct (shape type)).own_val (fields_at p a) vs) (handle_owned held a p o)

  pub own_made : (p : Ptr) (a : Global) (o : Option h.of.Denot) (vs : List Val) → Own p a o vs ≡ row.own_val (h.make p a o) vs
  own_made p a o vs = λ i. let t = sym (h.made p a o) i in Own t.0 t.1.0 t.1.1 vs
