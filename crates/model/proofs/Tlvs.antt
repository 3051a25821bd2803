-- Runs of TLVs: what is written is read, and what is read was written.
-- Assumes nothing.
use mathlib.Core.Path.{◌≡◌, refl, ◌∙◌}
use mathlib.Core.List.{List, [], ◌∷◌, ◌++◌, append_assoc, append-nil}
use mathlib.Core.Option.{some, map-eq-some_iff}
use Prim.Native.Nat.{ℕ, zero, suc, ◌+◌, ◌≤◌, ◌<◌, zero-le}
use native.Mathlib.Omega.{arith}
use lib.ListN.{length, take, drop, length-append, take-append-drop}
use lib.Seq.{take-append_seam, length-take-le}
use Rattle.model.specs.Tlv.{Bytes, num, le, Tlv, tlv, bytes, header, tlvs, tlvs_past}
use Rattle.model.proofs.Basics.{impossible}
use Rattle.model.proofs.Numbers.{num-le, le-num, num_bound, bytes_le}

-- tags and lengths are of 16 bits
abbrev pub Sized : List Tlv → Type 0
Sized [] = Unit {0}
Sized (t ∷ ts) = (t.tag < 65536) × (length t.value < 65536) × Sized ts

-- values are bytes
abbrev pub Held : List Tlv → Type 0
Held [] = Unit {0}
Held (t ∷ ts) = Bytes t.value × Held ts

pub bytes-append : (ts us : List Tlv) → bytes (ts ++ us) ≡ bytes ts ++ bytes us
unfolding bytes le
bytes-append [] us = refl
bytes-append (t ∷ ts) us = rw (bytes-append ts us) (simp append_assoc)

-- a TLV is its header and its value
pub bytes_one : (tag n : ℕ) (v : List ℕ) → length v ≡ n → bytes (tlv tag v ∷ []) ≡ header tag n ++ v
unfolding bytes
bytes_one tag n v e = rw (e, append-nil)

pub length-bytes : (t : Tlv) (ts : List Tlv) → length (bytes (t ∷ ts)) ≡ 4 + length t.value + length (bytes ts)
unfolding bytes le
length-bytes t ts = rw (length-append t.value (bytes ts)) (omega arith)

pub length-one : (t : ℕ) (v : List ℕ) → length (bytes (tlv t v ∷ [])) ≡ 4 + length v
unfolding bytes
length-one t v = length-bytes (tlv t v) [] ∙ omega arith

-- ---- what is written is read

past_value : (v s : List ℕ) → tlvs_past (length v) (v ++ s) ≡ tlvs s
unfolding tlvs_past
past_value [] s = refl
past_value (b ∷ v) s = past_value v s

-- reading a run of written TLVs gives them again
pub tlvs-bytes : (ts : List Tlv) → Sized ts → tlvs (bytes ts) ≡ some ts
unfolding bytes tlvs_past le
tlvs-bytes [] z = refl
tlvs-bytes (t ∷ ts) z =
    let p : num (le 2 t.tag) ≡ t.tag = num-le 2 t.tag z.0 in
    let q : num (le 2 (length t.value)) ≡ length t.value = num-le 2 (length t.value) z.1 in
    rw (p, q, take-append_seam t.value (bytes ts), past_value t.value (bytes ts), tlvs-bytes ts z.2)

-- ---- what is read was written

pub record Read (s : List ℕ) (ts : List Tlv) : Type 0 where
  pub written : bytes ts ≡ s
  pub sized : Sized ts
  pub held : Held ts

bytes_take : (n : ℕ) (s : List ℕ) → Bytes s → Bytes (take n s)
bytes_take zero s b = tt
bytes_take (suc n) [] b = tt
bytes_take (suc n) (x ∷ s) b = (b.0, bytes_take n s b.1)

record Past (k : ℕ) (s : List ℕ) (ts : List Tlv) : Type 0 where
  short : k ≤ length s
  rest : Read (drop k s) ts

-- a TLV with its four header bytes, and the run after it
front : {a b c d : ℕ} {s : List ℕ} {us ts : List Tlv} → Bytes (a ∷ b ∷ c ∷ d ∷ s) → Past (num (c ∷ d ∷ [])) s us
    → tlv (num (a ∷ b ∷ [])) (take (num (c ∷ d ∷ [])) s) ∷ us ≡ ts → Read (a ∷ b ∷ c ∷ d ∷ s) ts
unfolding bytes
front {a} {b} {c} {d} {s} {us} h p e =
    let n : ℕ = num (c ∷ d ∷ []) in
    let l : length (take n s) ≡ n = length-take-le n s p.short in
    let t : le 2 (num (a ∷ b ∷ [])) ≡ a ∷ b ∷ [] = le-num (a ∷ b ∷ []) (h.0, (h.1.0, tt)) in
    let z : le 2 n ≡ c ∷ d ∷ [] = le-num (c ∷ d ∷ []) (h.1.1.0, (h.1.1.1.0, tt)) in
    let w : take n s ++ bytes us ≡ s = rw p.rest.written (take-append-drop n s) in
    let below : length (take n s) < 65536 = rw l (num_bound (c ∷ d ∷ []) (h.1.1.0, (h.1.1.1.0, tt))) in
    rw (← e)
    (record {
      written = rw (l, t, z, w);
      sized = (num_bound (a ∷ b ∷ []) (h.0, (h.1.0, tt)), below, p.rest.sized);
      held = (bytes_take n s h.1.1.1.1, p.rest.held);
    })

past : (k : ℕ) (s : List ℕ) (ts : List Tlv) → Bytes s → tlvs_past k s ≡ some ts → Past k s ts
unfolding tlvs_past bytes
past zero [] ts h e =
    let q : ◌≡◌ {A = List Tlv} [] ts = cc in
    rw (← q) (record { short = zero-le; rest = record { written = refl; sized = tt; held = tt } })
past zero (a ∷ []) ts h e = impossible cc
past zero (a ∷ b ∷ []) ts h e = impossible cc
past zero (a ∷ b ∷ c ∷ []) ts h e = impossible cc
past zero (a ∷ b ∷ c ∷ d ∷ s) ts h e =
    let m = (map-eq-some_iff _ _).0 e in
    record { short = zero-le; rest = front h (past (num (c ∷ d ∷ [])) s m.0 h.1.1.1.1 m.1) m.2 }
past (suc k) [] ts h e = impossible cc
past (suc k) (x ∷ s) ts h e =
    let p = past k s ts h.1 e in
    record { short = omega (arith, p.short); rest = p.rest }

-- every accepted run is the writing of what it reads
pub bytes-tlvs : (s : List ℕ) (ts : List Tlv) → Bytes s → tlvs s ≡ some ts → Read s ts
bytes-tlvs s ts b e = (past 0 s ts b e).rest

-- ---- a run of bytes is bytes

pub bytes_join : (s t : List ℕ) → Bytes s → Bytes t → Bytes (s ++ t)
bytes_join [] t b c = c
bytes_join (x ∷ s) t b c = (b.0, bytes_join s t b.1 c)

pub bytes_run : (ts : List Tlv) → Held ts → Bytes (bytes ts)
unfolding bytes
bytes_run [] h = tt
bytes_run (t ∷ ts) h =
    bytes_join (header t.tag (length t.value)) (t.value ++ bytes ts)
    (bytes_join (le 2 t.tag) (le 2 (length t.value)) (bytes_le 2 t.tag) (bytes_le 2 (length t.value)))
    (bytes_join t.value (bytes ts) h.0 (bytes_run ts h.1))
